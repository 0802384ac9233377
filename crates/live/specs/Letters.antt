-- What becomes of a message that is sent.
use Rattle.std.specs.Prelude.{ℕ, List, [], ◌∷◌}
use Rattle.model.specs.declared.message.Message.{Message}
use Rattle.network.specs.declared.weather.Fate.{Fate}
use Rattle.network.specs.declared.weather.Fate.TheVariants.{Lost, Once, Twice, Later}
use Rattle.live.specs.declared.mail.Letter.{Letter}

-- one copy of a message that lets so many rounds pass
abbrev pub letter : ℕ → ℕ → Message → Letter
letter wait mark message = record { wait = wait; mark = mark; message = message }

-- the copies of a message that its fate brings
abbrev pub letters_of : Fate → ℕ → Message → List Letter
letters_of Lost mark message = []
letters_of Once mark message = letter 0 mark message ∷ []
letters_of Twice mark message = letter 0 mark message ∷ letter 0 mark message ∷ []
letters_of (Later rounds) mark message = letter rounds mark message ∷ []
