use Rattle.std.proofs.Common.{◌≡◌, ◌∙◌, [], map, ap, sym, subst}
use Rattle.model.specs.Periods.{period_of}
use Rattle.overlaps.specs.Index.{AreApart, without_period}
use Rattle.overlaps.specs.Items.{items_of, items_in}
use Rattle.overlaps.proofs.Ordered.{without_apart}
use Rattle.overlaps.proofs.Changed.{items-written, items-same, apart_changed}
use Rattle.overlaps.proofs.index.KeyIndex.remove.Goals as goal

pub returns-in_err-strand-clause-rest : goal.returns-in_err-strand-clause-rest
returns-in_err-strand-clause-rest g c =
    let m = c.args.self.now.strands in
    let key = c.args.key.now in
    let change = without_period g.T.HasPeriod.period (period_of c.args.period) in
    let none : items_of m key ≡ [] = sym (ap items_in c.in_err-strand.ensures.value) in
    ap items_of c.get_mut.follows.holds-at-none ∙ items-same m key change (none ∙ sym (ap change none))

pub remove_from-found-requires : goal.remove_from-found-requires
remove_from-found-requires g c = subst (λ o. AreApart (map g.T.HasPeriod.period (items_in o))) (sym c.in_ok-strand.ensures.value) (c.args.self.now.apart c.args.key.now)

pub invariant_of-self-2 : goal.invariant_of-self-2
invariant_of-self-2 g c =
    let period = g.T.HasPeriod.period in
    let m = c.args.self.now in
    let key = c.args.key.now in
    let w = c.remove_from-found.new.items in
    let n = c.get_mut.follows.lender w in
    let p = period_of c.args.period in
    let changed = items-written m.strands n key c.in_ok-strand.strand.now w (without_period period p) c.in_ok-strand.ensures.value (c.get_mut.follows.holds w) c.remove_from-found.ensures.rest in
    record { apart = apart_changed period m.strands n key (without_period period p) changed m.apart (without_apart period p (items_of m.strands key) (m.apart key)) }

pub returns-clause-rest : goal.returns-clause-rest
returns-clause-rest g c =
    let w = c.remove_from-found.new.items in
    c.forget_if_empty.ensures
    ∙ items-written c.args.self.now.strands (c.get_mut.follows.lender w) c.args.key.now c.in_ok-strand.strand.now w (without_period g.T.HasPeriod.period (period_of c.args.period)) c.in_ok-strand.ensures.value (c.get_mut.follows.holds w) c.remove_from-found.ensures.rest
