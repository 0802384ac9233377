use Rattle.std.proofs.Common.{rules, refl}
use Rattle.std.proofs.Output.{has_written_append, has_written_of_eq}
use Rattle.model.proofs.Commas.{key_text-none, key_text-some}
use Rattle.model.proofs.key.JoinedDisplay.fmt.Goals as goal

pub returns-in-None-clause-writes : goal.returns-in-None-clause-writes
returns-in-None-clause-writes g c = λ plain ok.
    has_written_of_eq _ _ _ _ _ (key_text-none c.args.self.now.0.now c.in-None.ensures.cases) (search rules)

pub returns-in_ok-write-in-Some-clause-writes : goal.returns-in_ok-write-in-Some-clause-writes
returns-in_ok-write-in-Some-clause-writes g c = λ plain ok.
    let first = c.in_ok-write-in-Some.ensures.writes plain refl in
    has_written_of_eq _ _ _ _ _ (key_text-some _ _ _ c.in-Some.ensures.cases.0)
    (has_written_append _ _ _ _ _ _ first (c.write_rest.ensures first.plain ok))
