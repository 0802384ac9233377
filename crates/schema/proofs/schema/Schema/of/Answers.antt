use Rattle.std.proofs.Common.{sym, subst}
use Rattle.schema.specs.Sound.{AreSound}
use Rattle.schema.proofs.SoundTables.{sound_schema}
use Rattle.schema.proofs.schema.Schema.of.Goals as goal

pub invariant_of-result : goal.invariant_of-result
invariant_of-result c = subst AreSound (sym c.in_ok-tables.ensures.ok) (sound_schema c.as_slice-written.result.now c.in_ok-check_schema.ensures)
