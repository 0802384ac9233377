use Rattle.std.proofs.Common.{length}
use Rattle.sqlread.specs.Meaning.{language_of}
use Rattle.lifelaws.proofs.Living.{lives_rise_so}
use Rattle.lifelaws.proofs.explained_lives_rise.Goals as goal

pub returns : goal.returns
returns c = λ r events. lives_rise_so r events (record { agree = c.agreement.ensures.new (language_of r.tables) (length r.lives); sealed = c.quiet_closing.ensures.new_sealed (language_of r.tables) (length r.lives) }) (c.runs_rise.ensures.new (language_of r.tables) (length r.lives))
