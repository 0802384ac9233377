use Rattle.std.proofs.Common.{◌≡◌, ◌∙◌, inr, subst, sym}
use Rattle.std.proofs.lemmas.Grind.{merely}
use Rattle.std.proofs.lemmas.Result.{err_from_is_err_and}
use Rattle.keep.specs.Durable.{Durable}
use Rattle.sqlread.specs.Meaning.{language_of}
use Rattle.node.proofs.node.Node.start.Goals as goal

pub invariant_of-result-clause-serves : goal.invariant_of-result-clause-serves
invariant_of-result-clause-serves g c =
    let group = c.start-core.ensures.group in
    rw (group.0, group.2) (merely (c.read_state.ensures.serves c.args.members (language_of c.args.schema) c.in_ok-keeper.ensures.serves))

pub returns-in-Err-clause-back : goal.returns-in-Err-clause-back
returns-in-Err-clause-back g c = λ d held.
    let may = c.read_state.ensures.left d (c.close.ensures.holds d held) in
    let is : d ≡ g.K.LogReader.stored c.in_ok-keeper.keeper = g.met.K.LogReader.only_stored _ d may in
    let P : Durable → Type 0 = g.K.Keeper.holds c.args.image in
    subst P (sym is) (c.in_ok-keeper.ensures.found (g.met.K.LogReader.only_honest _ d may))

pub returns-in-Err-clause-bad : goal.returns-in-Err-clause-bad
returns-in-Err-clause-bad g c = λ is. inr (λ d held.
    c.in-Err.ensures.bad is (language_of c.args.schema) c.in_ok-keeper.ensures.serves (g.met.K.LogReader.only_honest _ d (c.close.ensures.holds d held)))

pub returns-in-Err-clause-kept : goal.returns-in-Err-clause-kept
returns-in-Err-clause-kept g c = λ sound d held.
    let late = c.close.ensures.sound sound in
    let early = c.read_state.ensures.honest late in
    let is : d ≡ g.K.LogReader.stored c.in_ok-keeper.keeper = g.met.K.Keeper.holds_one c.args.image d _ held (c.in_ok-keeper.ensures.found early) in
    let may = g.met.K.LogReader.holds_stored c.read_state.new.keeper late in
    let P : Durable → Type 0 = g.K.LogReader.may_hold c.read_state.new.keeper in
    c.close.ensures.kept d (subst P (c.read_state.ensures.same late ∙ sym is) may)

pub returns-in_err-keeper-clause-back : goal.returns-in_err-keeper-clause-back
returns-in_err-keeper-clause-back g c = let p = err_from_is_err_and c.from_residual.result c.from_residual.ensures.1 in rw (p.1, p.2) c.in_err-keeper.ensures.back

pub returns-in_err-keeper-clause-kept : goal.returns-in_err-keeper-clause-kept
returns-in_err-keeper-clause-kept g c = let p = err_from_is_err_and c.from_residual.result c.from_residual.ensures.1 in rw (p.1, p.2) c.in_err-keeper.ensures.kept
