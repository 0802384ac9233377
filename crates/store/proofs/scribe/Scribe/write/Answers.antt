use Rattle.store.proofs.Written.{on_err, part_of_block}
use Rattle.store.proofs.scribe.Scribe.write.Goals as goal

pub returns-in_err-write-clause-err : goal.returns-in_err-write-clause-err
returns-in_err-write-clause-err g c =
    on_err _ (part_of_block _ _ _ _ _ _ _ _ c.as_str.ensures.value c.new-block.ensures.bytes c.as_bytes.ensures.value c.in-Ok.ensures.block c.in_err-write.ensures.err)
