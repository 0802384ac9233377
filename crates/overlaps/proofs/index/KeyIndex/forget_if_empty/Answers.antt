use Rattle.std.proofs.Common.{◌∙◌, None, ap, sym}
use Rattle.overlaps.specs.Items.{items_in}
use Rattle.overlaps.proofs.Changed.{items-kept, none_from_is_empty}
use Rattle.overlaps.proofs.index.KeyIndex.forget_if_empty.Goals as goal

pub returns-then-is_empty : goal.returns-then-is_empty
returns-then-is_empty g c =
    items-kept c.args.self.now.strands c.remove.new.self c.args.key.now None c.remove.ensures.updates (sym (none_from_is_empty c.in-Some.strand.now (sym c.if-is_empty.ensures)) ∙ ap items_in c.in-Some.ensures.value)
