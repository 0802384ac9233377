use Rattle.std.proofs.Common.{rules, string_bytes}
use Rattle.lines.proofs.Scripts.{block_fault, schema_fault, line_fault}
use Rattle.lines.proofs.script.read_script.Goals as goal

pub returns-in_err-block-clause-err : goal.returns-in_err-block-clause-err
returns-in_err-block-clause-err c =
    let fault = block_fault c.in_ok-members.members c.in_ok-members.rest.number c.args.text.now c.in_ok-members.rest.text.now c.in_err-block.field-0.0 c.in_ok-members.ensures.opening c.in_err-block.ensures.err in
    search (rules, fault)

pub returns-in_err-schema-clause-err : goal.returns-in_err-schema-clause-err
returns-in_err-schema-clause-err c =
    let says = rw c.as_str.ensures.value at c.in_err-schema.ensures.err in
    let fault = schema_fault c.in_ok-members.members c.in_ok-members.rest.number c.in_ok-block.rest.number c.args.text.now c.in_ok-members.rest.text.now c.in_ok-block.rest.text.now (string_bytes c.in_ok-block.block)
    c.in_ok-members.ensures.opening c.in_ok-block.ensures.block c.in_err-schema.field-0.0 says in
    search (rules, fault)

pub returns-in_err-lines-clause-err : goal.returns-in_err-lines-clause-err
returns-in_err-lines-clause-err c =
    let says = rw c.as_str.ensures.value at c.in_ok-schema.ensures.ok in
    let fault = line_fault c.in_ok-members.members c.in_ok-members.rest.number c.in_ok-block.rest.number c.args.text.now c.in_ok-members.rest.text.now c.in_ok-block.rest.text.now (string_bytes c.in_ok-block.block)
    c.in_ok-members.ensures.opening c.in_ok-block.ensures.block c.in_ok-schema.schema c.in_err-lines.field-0.0 says c.in_err-lines.ensures.err in
    search (rules, fault)
