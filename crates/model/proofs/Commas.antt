-- Values with commas between them.
use Rattle.std.proofs.Common.{◌≡◌, ℕ, List, [], ◌∷◌, ◌++◌, length, map, sym, ap, ◌∙◌}
use Rattle.std.proofs.lemmas.List.{append-nil, nil_from_length}
use Rattle.std.specs.List.{join_with_byte, flat_map}
use Rattle.model.specs.declared.value.Value.{Value}
use Rattle.model.specs.Texts.{value_text, key_text}
use Rattle.model.specs.Joined.{after_comma}

commas : (value : Value) (rest : List Value) → value_text value ++ flat_map after_comma rest ≡ join_with_byte 44 (map value_text (value ∷ rest))
commas value [] = append-nil (value_text value)
commas value (next ∷ rest) = ap (λ l. value_text value ++ (44 ∷ l)) (commas next rest)

pub key_text-none : (key : List Value) → length key ≡ 0 → [] ≡ key_text key
unfolding key_text
key_text-none key none = ap (λ k. join_with_byte 44 (map value_text k)) (sym (nil_from_length key none))

-- the first value, and each other after a comma
pub key_text-some : (key : List Value) (value : Value) (rest : List Value) → key ≡ value ∷ rest
    → value_text value ++ flat_map after_comma rest ≡ key_text key
unfolding key_text
key_text-some key value rest e = commas value rest ∙ ap (λ k. join_with_byte 44 (map value_text k)) (sym e)
