use Rattle.std.proofs.Common.{◌≡◌, ◌∙◌, ◌++◌, ◌∷◌, [], Some, sym, ap, subst, arith}
use Rattle.std.specs.Prelude.{slice_get}
use Rattle.keep.specs.Durable.{Durable}
use Rattle.raft.specs.View.{IsInStep}
use Rattle.node.proofs.Applying.{take_more}
use Rattle.node.proofs.Fetching.{fetched, reached}
use Rattle.node.proofs.Readers.{read_both}
use Rattle.node.proofs.reading.all_entries.Goals as goal

pub loop-before-preserved : goal.loop-before-preserved
loop-before-preserved g c =
    let inv = c.loop-before.invariant in
    let core = c.args.core.now in
    let i = c.loop-before.before in
    let e = c.in-Some.entry in
    let first = g.S.LogReader.stored c.args.reader.now in
    let here = g.S.LogReader.stored c.loop-before.reader in
    record {
      read = λ honest.
          let was = c.entry.ensures.reader.honest honest in
          let same = inv.reader.same was in
          let step = subst (λ (d : Durable). IsInStep core d) (sym same) (c.requires.stored (inv.reader.honest was)) in
          let got = fetched core here i e c.in_ok-entry.field-0 step (c.in_ok-entry.ensures.ok honest (reached core here step)) c.in-Some.is in
          let found = subst (λ (d : Durable). slice_get d.log i ≡ Some e) same got in
          c.in_ok-push.ensures.items ∙ ap (λ xs. xs ++ e ∷ []) (inv.read was) ∙ sym (take_more first.log i e found);
      reader = read_both _ _ _ _ _ _ _ _ _ _ _ _ _ _ _ _ _ _ _ _ _ inv.reader c.entry.ensures.reader;
      up = c.in_ok-entry.ensures.up;
      asks = omega (arith, c.entry.ensures.asks, inv.asks);
    }
