use Rattle.sqlread.specs.Meaning.{language_of}
use Rattle.apply.proofs.laws.each_answered.Goals as goal

pub returns-clause-last : goal.returns-clause-last
returns-clause-last c = λ tables q list stamped is_closed.
    c.closed_answer.ensures (language_of tables) q list stamped (c.fine_logs.ensures (language_of tables) list (c.texts_fine.ensures tables)) is_closed

pub returns-clause-sealed : goal.returns-clause-sealed
returns-clause-sealed c = λ tables q list time stamped is_closed.
    c.sealed_answer.ensures (language_of tables) q list time stamped (c.fine_logs.ensures (language_of tables) list (c.texts_fine.ensures tables)) is_closed
