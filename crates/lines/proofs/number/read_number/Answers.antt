use Rattle.std.proofs.Common.{rules, ◌∙◌, sym}
use borrow.Author.Tests.{clash}
use Rattle.std.proofs.lemmas.Fmt.{parse-decimal}
use Rattle.lines.proofs.Numbers.{spelled, bare_decimal}
use Rattle.lines.proofs.number.read_number.Goals as goal

pub returns-then-is_bare-clause-some : goal.returns-then-is_bare-clause-some
returns-then-is_bare-clause-some c =
    let bare = c.is_bare.ensures.0 c.if-is_bare.true in
    let spells = spelled c.args.word.now c.parse.result c.parse.ensures.value.0 bare in
    search rules

pub returns-then-is_bare-clause-every : goal.returns-then-is_bare-clause-every
returns-then-is_bare-clause-every c = λ n small e.
    let parsed = parse-decimal 64 n c.args.word.now c.parse.result small small e c.parse.ensures.value.0 in
    search rules

pub returns-else-is_bare-clause-every : goal.returns-else-is_bare-clause-every
returns-else-is_bare-clause-every c = λ n small e.
    let bare = bare_decimal n small in
    absurd (clash (sym c.if-is_bare.false ∙ c.is_bare.ensures.1 (rw e bare)))
