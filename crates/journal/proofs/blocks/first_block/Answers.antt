use Rattle.std.proofs.Common.{◌≡◌, ◌∙◌, ◌++◌, sym, ap, rules}
use Rattle.std.specs.Prelude.{codes, ℕ}
use Rattle.flight.specs.Ranges.{IsNumber}
use Rattle.journal.specs.Blocks.{sum_after, block_text}
use Rattle.journal.specs.Parts.{opens_text}
use Rattle.journal.proofs.Frames.{sum_small, if_some, unread_none}
use Rattle.journal.proofs.blocks.first_block.Goals as goal

pub returns-in_default-clause-every : goal.returns-in_default-clause-every
returns-in_default-clause-every c = λ before body rest is first e.
    c.in_default.ensures.every (sum_after before body) body rest (sum_small before body first.3.1) is.0 is.2 e

pub returns-in_default-after-clause-every : goal.returns-in_default-after-clause-every
returns-in_default-after-clause-every c = λ before body rest is first e.
    let s = c.in-Some.ensures.every (sum_after before body) body rest (sum_small before body first.3.1) is.0 is.2 e in
    c.in_default-after.ensures.none (opens_text (first.0, before, first.1) first.2) (s.1 ∙ first.4)

pub returns-in_default-read_opens-clause-every : goal.returns-in_default-read_opens-clause-every
returns-in_default-read_opens-clause-every c = λ before body rest is first e.
    let s = c.in-Some.ensures.every (sum_after before body) body rest (sum_small before body first.3.1) is.0 is.2 e in
    let opening = c.in-Some-after.ensures.some.1 (opens_text (first.0, before, first.1) first.2) (s.1 ∙ first.4) in
    unread_none c.in_default-read_opens.field-0 c.in-Some-after.opening.now (first.0, before, first.1) first.2 c.in_default-read_opens.ensures.err c.in_default-read_opens.ensures.fault first.3 (sym opening)

pub returns-clause-some : goal.returns-clause-some
returns-clause-some c = if_some c.block_after.result _ _ c.block_after.ensures.some (λ b s.
    let small : IsNumber c.in-Ok.sum = search rules in
    let same = c.in-Some.ensures.every (sum_after c.in-Ok.sum b.body.now) b.body.now b.rest.now (sum_small c.in-Ok.sum b.body.now small) s.0.0 s.0.2 s.1 in
    let line = c.in-Some-after.ensures.some.0 ∙ ap (λ l. codes "opens " ++ l) c.in-Ok.ensures.ok.1 in
    (s.0, (c.in-Ok.sum, (c.in-Ok.field-0-0-0, c.in-Ok.field-0-0-2, c.in-Ok.field-0-1.now, c.in-Ok.ensures.ok.0, sym same.1 ∙ line), s.1, s.2)))

pub returns-clause-every : goal.returns-clause-every
returns-clause-every c = λ before body rest is first e.
    let s = c.in-Some.ensures.every (sum_after before body) body rest (sum_small before body first.3.1) is.0 is.2 e in
    let opening = c.in-Some-after.ensures.some.1 (opens_text (first.0, before, first.1) first.2) (s.1 ∙ first.4) in
    let only = c.in-Ok.ensures.only (first.0, before, first.1) first.2 first.3 (sym opening) in
    let sum : before ≡ c.in-Ok.sum = ap (λ (o : ℕ × ℕ × ℕ). o.1) only.0 in
    c.block_after.ensures.every body rest is (e ∙ ap (λ n. block_text n body rest) sum)
