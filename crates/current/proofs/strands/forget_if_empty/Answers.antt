use Rattle.std.proofs.Common.{◌∙◌, None, ap, sym}
use Rattle.current.specs.ByKey.{strand_in}
use Rattle.current.proofs.Changed.{strands_kept, none_from_is_empty}
use Rattle.current.proofs.strands.forget_if_empty.Goals as goal

pub returns-then-is_empty : goal.returns-then-is_empty
returns-then-is_empty c =
    strands_kept c.args.strands.now c.remove.new.self c.args.key.now None c.remove.ensures.updates (sym (none_from_is_empty c.in-Some.strand.now (sym c.if-is_empty.ensures)) ∙ ap strand_in c.in-Some.ensures.value)
