use Rattle.std.proofs.Common.{◌≡◌, ◌∙◌, List, [], ◌∷◌, ◌++◌, ap}
use Rattle.history.specs.declared.front.Front.{Front}
use Rattle.history.specs.declared.item.Item.{Item}
use Rattle.view.proofs.Taking.{tables_more, tables_stay, sealed_stays, sealed_adds}
use Rattle.view.proofs.replay.Replay.apply.Goals as goal

abbrev log_of : Front → List Item
log_of front = front.seen.log

pub invariant_of-self-in-Applied-clause-current : goal.invariant_of-self-in-Applied-clause-current
invariant_of-self-in-Applied-clause-current c =
    let old = c.args.self.now in
    let longer : c.again.result.seen.log ≡ old.front.seen.log ++ c.args.shown.now.item ∷ [] = ap log_of c.again.ensures ∙ c.requires.next.1 in
    λ up. tables_more old.schema old.front.seen.log c.again.result.seen.log c.in-Applied.mark c.args.shown.now.item c.in-Applied.entry old.tables c.apply.new.self longer c.in-Applied.is (old.current c.requires.up) c.in_ok-apply-in-Applied.ensures.kept

pub invariant_of-self-in-Sealed-clause-current : goal.invariant_of-self-in-Sealed-clause-current
invariant_of-self-in-Sealed-clause-current c =
    let old = c.args.self.now in
    let longer : c.again-in-Sealed.result.seen.log ≡ old.front.seen.log ++ c.args.shown.now.item ∷ [] = ap log_of c.again-in-Sealed.ensures ∙ c.requires.next.1 in
    λ up. tables_stay old.schema old.front.seen.log c.again-in-Sealed.result.seen.log c.in-Sealed.mark c.in-Sealed.time c.args.shown.now.item old.tables longer c.in-Sealed.is (old.current c.requires.up)

pub invariant_of-self-in-Applied-clause-closing : goal.invariant_of-self-in-Applied-clause-closing
invariant_of-self-in-Applied-clause-closing c =
    let old = c.args.self.now in
    let longer : c.again.result.seen.log ≡ old.front.seen.log ++ c.args.shown.now.item ∷ [] = ap log_of c.again.ensures ∙ c.requires.next.1 in
    sealed_stays old.front.seen.log c.again.result.seen.log c.in-Applied.mark c.args.shown.now.item c.in-Applied.entry old.sealed longer c.in-Applied.is old.closing

pub invariant_of-self-in-Sealed-clause-closing : goal.invariant_of-self-in-Sealed-clause-closing
invariant_of-self-in-Sealed-clause-closing c =
    let old = c.args.self.now in
    let longer : c.again-in-Sealed.result.seen.log ≡ old.front.seen.log ++ c.args.shown.now.item ∷ [] = ap log_of c.again-in-Sealed.ensures ∙ c.requires.next.1 in
    sealed_adds old.front.seen.log c.again-in-Sealed.result.seen.log c.in-Sealed.mark c.in-Sealed.time c.args.shown.now.item old.sealed c.greater-self.result longer c.in-Sealed.is c.greater-self.ensures old.closing
