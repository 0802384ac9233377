use Rattle.std.proofs.Common.{rules, ◌≡◌, ◌∙◌, ◌++◌, ap}
use Rattle.std.specs.Prelude.{codes}
use Rattle.flight.specs.Spelling.{number_text, version_text}
use Rattle.report.proofs.files.node_of.Goals as goal

pub returns : goal.returns
returns c =
    let version = c.in-Ok.field-0-0 in
    let node = c.in-Ok-read_number.node in
    let behind = c.in-Ok-read_number.field-0-1.now in
    let first : c.args.text.now ≡ version_text version c.in-Ok.rest.now = search rules in
    let word : c.in-Ok.rest.now ≡ codes "node " ++ c.in-Ok-past.rest.now = search rules in
    let number : c.in-Ok-past.rest.now ≡ number_text 32 node behind = search rules in
    (version, behind, first ∙ ap (version_text version) (word ∙ ap (λ l. codes "node " ++ l) number))
