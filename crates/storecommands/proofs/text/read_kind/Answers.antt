use Rattle.std.proofs.Common.{rules}
use Rattle.storecommands.specs.Text.{IsQuestion}
use Rattle.storecommands.proofs.Texts.{no_space, no_member, no_question}
use Rattle.storecommands.proofs.text.read_kind.Goals as goal

pub returns-in_err-member-clause-none : goal.returns-in_err-member-clause-none
returns-in_err-member-clause-none c =
    let bad = no_space c.args.text.now c.in-Some.rest.now c.in-Some.ensures.some c.in_err-member.ensures.none in
    search (rules, bad)

pub returns-in_err-member-2-clause-none : goal.returns-in_err-member-2-clause-none
returns-in_err-member-2-clause-none c =
    let bad = no_member c.args.text.now c.in-Some.rest.now c.in-Some.ensures.some c.in_ok-member.member.now c.in_ok-member.words.now c.in_ok-member.ensures.parts c.in_ok-member.ensures.first c.in_err-member-2.ensures.none in
    search (rules, bad)

pub returns-else-is_question-clause-none : goal.returns-else-is_question-clause-none
returns-else-is_question-clause-none c =
    let none : IsQuestion c.in_ok-member.words.now → ⊥ = search rules in
    no_question c.args.text.now c.in-Some.rest.now c.in-Some.ensures.some c.in_ok-member.member.now c.in_ok-member.words.now c.in_ok-member.ensures.parts c.in_ok-member.ensures.first none
