use Rattle.std.proofs.Common.{◌≡◌, ℕ, ◌+◌, Some, List, length, take, slice_get, refl, subst, arith}
use Rattle.std.proofs.lemmas.List.{take_all}
use Rattle.std.proofs.lemmas.Option.{slice_get_read}
use Rattle.model.specs.declared.entry.Entry.{Entry}
use Rattle.node.specs.Applying.{AreApplied}
use Rattle.node.proofs.Applying.{applied_more, applied_next, made_more, take_more}
use Rattle.node.proofs.Recalled.{range_got}
use Rattle.node.proofs.telling.execute.Goals as goal

pub loop-place-init : goal.loop-place-init
loop-place-init c = record {
  applied = λ schema log is start. start;
  made = λ schema made. made;
}

pub loop-place-preserved : goal.loop-place-preserved
loop-place-preserved c =
    let inv = c.loop-place.invariant in
    let i = c.loop-place.place in
    let es = c.args.entries.now in
    let e = c.index-entries-place.result in
    let before = c.args.before in
    let one = c.in_ok-one.ensures in
    let there : slice_get es i ≡ Some e = slice_get_read es (length es) i e refl (omega arith) c.index-entries-place.is in
    record {
      applied = λ schema log is start.
          let was = inv.applied schema log is start in
          let got : slice_get log (before + i) ≡ Some e = range_got log es before (before + length es) i (before + i) e is refl there in
          let are = applied_more schema log (before + i) e c.loop-place.tables c.apply_one.new.tables got one.kept was.current in
          let next = applied_next schema log before (before + i) (take i es) (take (i + 1) es) c.loop-place.told.items c.add.new.list.items e c.in_ok-one.one c.loop-place.tables c.apply_one.new.tables (omega arith) was got (one.told schema log got was.current) are (take_more es i e there) c.in_ok-add.ensures in
          let same : (before + i) + 1 ≡ before + (i + 1) = omega arith in
          subst (λ (n : ℕ). AreApplied schema log before n (take (i + 1) es) c.add.new.list.items c.apply_one.new.tables) same next;
      made = λ schema made. made_more schema e c.loop-place.tables c.apply_one.new.tables one.kept (inv.made schema made);
    }

pub returns-clause-applied : goal.returns-clause-applied
returns-clause-applied c = λ schema log is start.
    let es = c.args.entries.now in
    let before = c.args.before in
    let all : c.loop-place.place ≡ length es = omega (arith, c.requires.first) in
    let done = subst (λ (n : ℕ). AreApplied schema log before (before + n) (take n es) c.loop-place.told.items c.loop-place.tables) all (c.loop-place.invariant.applied schema log is start) in
    subst (λ (xs : List Entry). AreApplied schema log before (before + length es) xs c.loop-place.told.items c.loop-place.tables) (take_all (length es) es (omega arith)) done
