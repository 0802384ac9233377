-- Values with commas between them.
use Rattle.std.specs.Prelude.{ℕ, List, ◌∷◌}
use Rattle.model.specs.declared.value.Value.{Value}
use Rattle.model.specs.Texts.{value_text}

-- a value with a comma, which is 44, before it
abbrev pub after_comma : Value → List ℕ
after_comma value = 44 ∷ value_text value
