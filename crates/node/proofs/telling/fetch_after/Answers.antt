use Rattle.std.proofs.Common.{◌≡◌, ◌∙◌, ◌+◌, ◌++◌, ◌∷◌, [], Some, slice_get, length, length-append, arith, subst, ap, sym}
use Rattle.keep.specs.Durable.{Durable}
use Rattle.raft.specs.View.{IsInStep}
use Rattle.node.proofs.Applying.{range_next}
use Rattle.node.proofs.Fetching.{fetched, reached}
use Rattle.node.proofs.Told.{range_none}
use Rattle.node.proofs.Readers.{read_none, read_both}
use Rattle.node.proofs.telling.fetch_after.Goals as goal

pub loop-place-init : goal.loop-place-init
loop-place-init g c = record {
  entries = λ honest. c.new-entries.ensures.items ∙ sym (range_none (g.S.LogReader.stored c.args.reader.now).log c.args.before c.args.before (omega arith));
  count = let none : length c.new-entries.result.items ≡ 0 = ap length c.new-entries.ensures.items in omega (arith, none);
  room = let none : length c.new-entries.result.items ≡ 0 = ap length c.new-entries.ensures.items in omega (arith, none, c.ranges.before.fits);
  reader = read_none _ _ _ _ _ _ _;
  up = c.requires.up;
  asks = omega arith;
}

pub loop-place-preserved : goal.loop-place-preserved
loop-place-preserved g c =
    let inv = c.loop-place.invariant in
    let core = c.args.core.now in
    let i = c.loop-place.place in
    let e = c.in-Some.entry in
    let first = g.S.LogReader.stored c.args.reader.now in
    let here = g.S.LogReader.stored c.loop-place.reader in
    let longer : length c.push.new.self.items ≡ length c.loop-place.entries.items + 1 = ap length c.in_ok-push.ensures.items ∙ length-append c.loop-place.entries.items _ in
    record {
      entries = λ honest.
          let was = c.entry.ensures.reader.honest honest in
          let same = inv.reader.same was in
          let step = subst (λ (d : Durable). IsInStep core d) (sym same) (c.requires.stored (inv.reader.honest was)) in
          let got = fetched core here i e c.in_ok-entry.field-0 step (c.in_ok-entry.ensures.ok honest (reached core here step)) c.in-Some.is in
          let found = subst (λ (d : Durable). slice_get d.log i ≡ Some e) same got in
          c.in_ok-push.ensures.items ∙ ap (λ xs. xs ++ e ∷ []) (inv.entries was) ∙ sym (range_next first.log c.args.before i e (omega arith) found);
      count = omega (arith, longer, inv.count);
      room = omega (arith, longer, inv.count);
      reader = read_both _ _ _ _ _ _ _ _ _ _ _ _ _ _ _ _ _ _ _ _ _ inv.reader c.entry.ensures.reader;
      up = c.in_ok-entry.ensures.up;
      asks = omega (arith, c.entry.ensures.asks, inv.asks, longer);
    }

pub returns-clause-count : goal.returns-clause-count
returns-clause-count g c = λ low. omega (arith, c.loop-place.invariant.count, low)
