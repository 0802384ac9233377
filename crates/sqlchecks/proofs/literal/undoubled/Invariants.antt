use Rattle.std.proofs.Common.{◌≡◌, ◌++◌, drop, string_bytes}
use Rattle.sqlchecks.specs.Literals.{undoubled}
use Rattle.sqlchecks.proofs.Quotes.{left_over}
use Rattle.sqlchecks.proofs.literal.undoubled.Given as goal

-- what is written so far, and what is left to read, give the whole
abbrev pub invariant-loop-b : goal.invariant-loop-b
invariant-loop-b l = undoubled l.fn.text.source.now ≡ string_bytes l.plain ++ left_over l.after_quote (drop l.b-index l.fn.text.source.now)
