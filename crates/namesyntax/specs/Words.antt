-- What a name is made of.
use Rattle.std.specs.Prelude.{ℕ, Bool, false, ◌&&◌, nat_le, List, [], ◌∷◌, length}
use Rattle.std.specs.Char.{is_ascii_alphabetic}
use Rattle.std.specs.List.{list_all}
use Rattle.sqltokens.specs.Lexing.{is_word_byte}

abbrev pub begins_with_letter : List ℕ → Bool
begins_with_letter [] = false
begins_with_letter (b ∷ bs) = is_ascii_alphabetic b

-- a letter, and then letters, digits and `_`: at most 32 bytes
abbrev pub is_name_text : List ℕ → Bool
is_name_text text = begins_with_letter text && list_all is_word_byte text && nat_le (length text) 32
