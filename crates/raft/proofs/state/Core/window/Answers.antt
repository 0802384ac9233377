use Rattle.std.proofs.Common.{◌≡◌, ◌∙◌, ◌+◌, ◌∷◌, ◌++◌, [], Some, List, sym, ap, subst, arith, rules}
use Rattle.model.specs.declared.entry.Entry.{Entry}
use Rattle.model.specs.Lists.{nth}
use Rattle.keep.specs.Durable.{Durable}
use Rattle.raft.specs.View.{log_of, Reaches}
use Rattle.raft.proofs.Readers.{read_both}
use Rattle.raft.proofs.Windows.{seen_more}
use Rattle.raft.proofs.state.Core.window.Goals as goal

pub loop-place-preserved : goal.loop-place-preserved
loop-place-preserved g c =
    let inv = c.loop-place.invariant in
    let one = c.in_ok-entry.ensures in
    let core = c.args.self.now in
    let items : c.push.new.self.items ≡ c.loop-place.window.items ++ c.in-Some.entry ∷ [] = search rules in
    record {
      seen = λ honest.
          let was = one.reader.honest honest in
          let same : (g.S.LogReader.stored c.loop-place.reader) ≡ g.S.LogReader.stored c.args.reader.now = inv.reader.same was in
          let there : Reaches core (g.S.LogReader.stored c.loop-place.reader).log = subst (λ (d : Durable). Reaches core d.log) (sym same) (c.requires.reaches (inv.reader.honest was)) in
          let found = one.ok honest there in
          let got : nth (log_of core (g.S.LogReader.stored c.args.reader.now).log) (c.loop-place.place + 1) ≡ Some c.in-Some.entry =
          subst (λ (d : Durable). nth (log_of core d.log) (c.loop-place.place + 1) ≡ Some c.in-Some.entry) same (sym found ∙ c.in-Some.is) in
          items ∙ ap (λ (es : List Entry). es ++ c.in-Some.entry ∷ []) (inv.seen was) ∙ sym (seen_more (log_of core (g.S.LogReader.stored c.args.reader.now).log) c.min-first.result c.loop-place.place c.in-Some.entry (omega arith) got);
      reader = read_both _ _ _ _ _ _ _ _ _ _ _ _ _ _ _ _ _ _ _ _ _ inv.reader one.reader;
      up = one.up;
      asks = omega (arith, inv.asks, one.asks);
    }
