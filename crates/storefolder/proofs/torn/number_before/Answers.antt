use Rattle.std.proofs.Common.{◌∙◌, sym, ap}
use Rattle.flight.specs.Spelling.{number_text}
use Rattle.storefolder.proofs.CutShort.{text_none, bytes_behind}
use Rattle.storefolder.proofs.torn.number_before.Goals as goal

pub returns-in_default-clause-none : goal.returns-in_default-clause-none
returns-in_default-clause-none c =
    text_none c.args.end c.args.bytes.now c.text_in-text.result.now c.in_default.field-0 c.requires c.text_in-text.ensures.longest c.in_default.ensures.fault c.in_default.ensures.err

pub returns-clause-some : goal.returns-clause-some
returns-clause-some c = (
  c.in-Ok.ensures.ok.0,
  bytes_behind c.args.end c.in-Ok.number c.args.bytes.now c.text_in-text.result.now c.text_in-text.ensures.front.0 c.in-Ok.rest.now c.in-Ok.ensures.ok.1 c.text_in-text.ensures.front.1
      ∙ ap (number_text c.args.end c.in-Ok.number) (sym c.split_at.ensures.back),
)
