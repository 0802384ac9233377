use Rattle.std.proofs.Common.{rules, refl, inr}
use Rattle.std.specs.Prelude.{decimal}
use Rattle.flight.proofs.Numbers.{decimal_lacks}
use Rattle.flight.proofs.parts.read_number.Goals as goal

pub returns-in_default-clause-err : goal.returns-in_default-clause-err
returns-in_default-clause-err c = inr (refl, λ w other is e. c.in_default.ensures.none (decimal w) other (decimal_lacks c.args.end w is c.requires) e)

pub returns-in-Some-number_of-clause-only : goal.returns-in-Some-number_of-clause-only
returns-in-Some-number_of-clause-only c = λ w other is e.
    let s = c.in-Some.ensures.only (decimal w) other (decimal_lacks c.args.end w is c.requires) e in
    let n = c.in-Some-number_of.ensures.every w is s.0 in
    search rules

pub returns-in-None-clause-err : goal.returns-in-None-clause-err
returns-in-None-clause-err c = inr (
  refl,
  λ w other is e.
      let s = c.in-Some.ensures.only (decimal w) other (decimal_lacks c.args.end w is c.requires) e in
      let n = c.in-None.ensures.every w is s.0 in
      absurd (cc n),
)
