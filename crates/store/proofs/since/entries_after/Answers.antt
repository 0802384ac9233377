use Rattle.std.proofs.Common.{◌≡◌, ◌∙◌, ℕ, Some, List, [], ◌∷◌, ◌++◌, slice_range, sym, ap, subst, arith}
use Rattle.std.specs.Prelude.{slice_get}
use Rattle.model.specs.declared.entry.Entry.{Entry}
use Rattle.model.specs.Members.{Node}
use Rattle.node.specs.Member.{member_of}
use Rattle.store.proofs.Ranges.{range_next}
use Rattle.store.proofs.since.entries_after.Goals as goal

pub loop-place-preserved : goal.loop-place-preserved
loop-place-preserved g c =
    let inv = c.loop-place.invariant in
    let one = c.in_ok-entry.ensures in
    let log = (member_of c.args.node.now).log in
    let place = c.loop-place.place in
    let entry = c.in_ok-entry.entry in
    record {
      up = one.up;
      honest = λ h. inv.honest (one.honest h);
      same = λ h. one.member one.up h ∙ inv.same (one.honest h);
      read = λ h.
          let got : slice_get log place ≡ Some entry = subst (λ (m : Node). slice_get m.log place ≡ Some entry) (inv.same (one.honest h)) (one.entry h) in
          c.in_ok-push.ensures.items ∙ ap (λ (es : List Entry). es ++ entry ∷ []) (inv.read (one.honest h)) ∙ sym (range_next log c.args.after place entry (omega arith) got);
      me = one.me ∙ inv.me;
      group = (one.group.0 ∙ inv.group.0, one.group.1 ∙ inv.group.1, one.group.2 ∙ inv.group.2);
    }

pub returns-clause-entries : goal.returns-clause-entries
returns-clause-entries g c = λ h.
    let all : c.loop-place.place ≡ c.args.commit = omega arith in
    subst (λ (n : ℕ). c.loop-place.entries.items ≡ slice_range (member_of c.args.node.now).log c.args.after n) all (c.loop-place.invariant.read h)
