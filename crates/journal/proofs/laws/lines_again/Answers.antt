use Rattle.std.proofs.Common.{◌≡◌, ◌∙◌, ◌<◌, [], length, string_bytes, sym, refl, subst, rules}
use Rattle.flight.specs.Spelling.{each_text}
use Rattle.journal.specs.Spelling.{line_text}
use Rattle.journal.specs.Blocks.{IsBody, block_text}
use Rattle.journal.proofs.Listed.{added, lines_some, lines_memory}
use Rattle.journal.proofs.laws.lines_again.Goals as goal

pub returns-in_default-clause-err : goal.returns-in_default-clause-err
returns-in_default-clause-err c =
    let spelled : c.as_str.result.now ≡ each_text line_text c.args.lines.now [] = added (string_bytes c.new-body.result) c.as_str.result.now (each_text line_text c.args.lines.now) (search rules) (search rules) in
    let some : 0 < length c.as_str.result.now = subst (λ l. 0 < length l) (sym spelled) (lines_some c.args.lines.now c.requires.some) in
    let is : IsBody c.as_str.result.now = (c.as_str.utf8, some, search rules) in
    let whole : c.as_str-2.result.now ≡ block_text c.args.before c.as_str.result.now [] = added (string_bytes c.new-text.result) c.as_str-2.result.now (block_text c.args.before c.as_str.result.now) (search rules) (search rules) in
    absurd (c.in_default.ensures.every c.as_str.result.now [] is whole)

pub returns-in_err-again-clause-err : goal.returns-in_err-again-clause-err
returns-in_err-again-clause-err c =
    let spelled : c.as_str.result.now ≡ each_text line_text c.args.lines.now [] = added (string_bytes c.new-body.result) c.as_str.result.now (each_text line_text c.args.lines.now) (search rules) (search rules) in
    let some : 0 < length c.as_str.result.now = subst (λ l. 0 < length l) (sym spelled) (lines_some c.args.lines.now c.requires.some) in
    let is : IsBody c.as_str.result.now = (c.as_str.utf8, some, search rules) in
    let whole : c.as_str-2.result.now ≡ block_text c.args.before c.as_str.result.now [] = added (string_bytes c.new-text.result) c.as_str-2.result.now (block_text c.args.before c.as_str.result.now) (search rules) (search rules) in
    let same = c.in-Some.ensures.every c.as_str.result.now [] is whole in
    let memory = lines_memory c.in-Some.block.body.now c.in_err-again.field-0.0 c.args.lines.now c.in_err-again.ensures.err c.requires.range (same.0 ∙ spelled) in
    search (rules, memory)

pub returns-clause-ok : goal.returns-clause-ok
returns-clause-ok c =
    let spelled : c.as_str.result.now ≡ each_text line_text c.args.lines.now [] = added (string_bytes c.new-body.result) c.as_str.result.now (each_text line_text c.args.lines.now) (search rules) (search rules) in
    let some : 0 < length c.as_str.result.now = subst (λ l. 0 < length l) (sym spelled) (lines_some c.args.lines.now c.requires.some) in
    let is : IsBody c.as_str.result.now = (c.as_str.utf8, some, search rules) in
    let whole : c.as_str-2.result.now ≡ block_text c.args.before c.as_str.result.now [] = added (string_bytes c.new-text.result) c.as_str-2.result.now (block_text c.args.before c.as_str.result.now) (search rules) (search rules) in
    let same = c.in-Some.ensures.every c.as_str.result.now [] is whole in
    sym (c.in_ok-again.ensures.only c.args.lines.now [] c.requires.range refl (same.0 ∙ spelled)).0
