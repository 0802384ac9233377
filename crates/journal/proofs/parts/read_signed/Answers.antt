use Rattle.std.proofs.Common.{rules, refl, inr, arith}
use Rattle.std.specs.Fmt.{signed_decimal}
use Rattle.flight.proofs.Numbers.{signed_lacks}
use Rattle.journal.proofs.parts.read_signed.Goals as goal

pub returns-in_default-clause-err : goal.returns-in_default-clause-err
returns-in_default-clause-err c = inr (refl, λ w other is e. c.in_default.ensures.none (signed_decimal w) other (signed_lacks 10 w (omega arith) is) e)

pub returns-in-Some-signed_of-clause-only : goal.returns-in-Some-signed_of-clause-only
returns-in-Some-signed_of-clause-only c = λ w other is e.
    let s = c.in-Some.ensures.only (signed_decimal w) other (signed_lacks 10 w (omega arith) is) e in
    let n = c.in-Some-signed_of.ensures.every w is s.0 in
    search rules

pub returns-in-None-clause-err : goal.returns-in-None-clause-err
returns-in-None-clause-err c = inr (
  refl,
  λ w other is e.
      let s = c.in-Some.ensures.only (signed_decimal w) other (signed_lacks 10 w (omega arith) is) e in
      let n = c.in-None.ensures.every w is s.0 in
      absurd (cc n),
)
