use Rattle.std.proofs.Common.{take, string_bytes, map}
use Rattle.flight.specs.Contents.{in_life}
use Rattle.flight.specs.Spelling.{each_text, life_text}
use Rattle.flight.specs.Additions.{Adds}
use Rattle.flight.proofs.writing.put_lives.Given as goal

abbrev pub invariant-loop-life : goal.invariant-loop-life
invariant-loop-life l = Adds (string_bytes l.initial.text) (string_bytes l.text) (each_text (life_text l.version) (map in_life (take l.life-index l.lives)))
