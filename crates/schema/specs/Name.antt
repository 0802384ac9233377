-- Names: what they are made of, and when two are one.
use Rattle.std.specs.Prelude.{ℕ, Bool, false, ◌&&◌, ◌||◌, ◌==◌, nat_le, List, [], ◌∷◌, length}
use Rattle.std.specs.Char.{is_ascii_alphabetic, is_ascii_alphanumeric}
use Rattle.std.specs.List.{list_all}
use Rattle.std.specs.Str.{str_eq_ignore_ascii_case}

-- a letter, a digit or `_`
abbrev pub is_word_byte : ℕ → Bool
is_word_byte b = is_ascii_alphanumeric b || b == 95

abbrev pub begins_with_letter : List ℕ → Bool
begins_with_letter [] = false
begins_with_letter (b ∷ bs) = is_ascii_alphabetic b

-- a letter, and then letters, digits and `_`: at most 32 bytes
abbrev pub is_word : List ℕ → Bool
is_word text = begins_with_letter text && list_all is_word_byte text && nat_le (length text) 32

-- the same letters, whatever their case
abbrev pub same_name : List ℕ → List ℕ → Bool
same_name = str_eq_ignore_ascii_case
