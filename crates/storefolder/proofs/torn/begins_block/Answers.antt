use Rattle.std.proofs.Common.{length}
use Rattle.std.proofs.lemmas.Bool.{ltb-true, lt-ltb}
use Rattle.storefolder.proofs.CutShort.{word_begins, begins_word, line_begins, begins_line, body_begins, begins_body}
use Rattle.storefolder.proofs.torn.begins_block.Goals as goal

pub returns-in_default : goal.returns-in_default
returns-in_default c = (
  λ yes. begins_word c.args.bytes.now (c.begins_number.ensures.0 yes),
  λ begins. c.begins_number.ensures.1 (word_begins c.args.bytes.now c.in_default.ensures.none begins),
)

pub returns-in_default-number_before : goal.returns-in_default-number_before
returns-in_default-number_before c =
    let s = c.in-Some.ensures.some in (
      λ yes. begins_line c.in-Some.length c.args.bytes.now c.in-Some.rest.now s.0 s.1 (c.begins_number-in_default-number_before.ensures.0 yes),
      λ begins. c.begins_number-in_default-number_before.ensures.1 (line_begins c.in-Some.length c.args.bytes.now c.in-Some.rest.now s.0 s.1 c.in_default-number_before.ensures.none begins),
    )

pub returns : goal.returns
returns c =
    let s = c.in-Some.ensures.some in
    let t = c.in-Some-number_before.ensures.some in (
      λ yes. begins_body c.in-Some.length c.in-Some-number_before.field-0-0 c.args.bytes.now c.in-Some.rest.now c.in-Some-number_before.body.now s.0 t.0 s.1 t.1 (ltb-true (length c.in-Some-number_before.body.now) c.in-Some.length yes),
      λ begins. lt-ltb (length c.in-Some-number_before.body.now) c.in-Some.length (body_begins c.in-Some.length c.in-Some-number_before.field-0-0 c.args.bytes.now c.in-Some.rest.now c.in-Some-number_before.body.now s.0 t.0 s.1 t.1 begins),
    )
