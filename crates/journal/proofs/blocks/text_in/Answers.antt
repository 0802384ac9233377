use Rattle.std.proofs.Common.{◌≡◌, ◌∙◌, ◌++◌, take, drop, sym, ap, rules}
use Rattle.std.specs.Str.{IsValidUpTo}
use Rattle.std.proofs.lemmas.List.{take-append-drop}
use Rattle.journal.proofs.Frames.{longest_text}
use Rattle.journal.proofs.blocks.text_in.Goals as goal

pub returns-in-Err-clause-front : goal.returns-in-Err-clause-front
returns-in-Err-clause-front c =
    let is : c.text_of.result.now ≡ take c.in-Err.error.valid_up_to c.args.bytes.now = search rules in
    (drop c.in-Err.error.valid_up_to c.args.bytes.now, sym (take-append-drop c.in-Err.error.valid_up_to c.args.bytes.now) ∙ ap (λ l. l ++ drop c.in-Err.error.valid_up_to c.args.bytes.now) (sym is))

pub returns-in-Err-clause-longest : goal.returns-in-Err-clause-longest
returns-in-Err-clause-longest c = λ front torn utf8 e.
    let is : c.text_of.result.now ≡ take c.in-Err.error.valid_up_to c.args.bytes.now = search rules in
    let up : IsValidUpTo c.args.bytes.now c.in-Err.error.valid_up_to = search rules in
    let l = longest_text c.args.bytes.now c.in-Err.error.valid_up_to up front torn utf8 e in
    (l.0, is ∙ l.1)
