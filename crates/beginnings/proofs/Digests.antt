-- Digests as text.
use Rattle.std.proofs.Common.{◌≡◌, ◌∙◌, ℕ, ◌<◌, ◌≤◌, nat_lt, Bool, true, ◌&&◌, refl, List, [], ◌∷◌, ◌++◌, length, get_or, take, drop, sym, ap, arith, length-append, Ok}
use Rattle.std.specs.Str.{IsAscii, IsCharBoundary, IsUtf8}
use borrow.Author.Tests.{ltb-true}
use Rattle.std.proofs.lemmas.Bool.{and_parts}
use Rattle.std.proofs.lemmas.Str.{IsCharBoundary-after_ascii}
use Rattle.std.proofs.lemmas.Str.Ascii.{IsAscii-cons, IsAscii-nil}
use Rattle.std.proofs.lemmas.List.{take-append-drop, take_at, drop_at, get_or_append_left}
use Rattle.hex.specs.Hex.{encode_lower, lower_digits, decode_sized}
use Rattle.hex.proofs.HexLemmas.{IsAscii-encode_with, length-encode_with, decode_sized-encode_lower}
use Rattle.beginnings.specs.Lines.{digest_text, IsDigest}

width : (w : List ℕ) → IsDigest w → length (encode_lower w) ≡ 64
width w is = let n = length-encode_with lower_digits w in let m = is.0 in omega (arith, n, m)

-- each byte is below 128, as a test that computes
abbrev are_low : List ℕ → Bool
are_low [] = true
are_low (b ∷ bs) = nat_lt b 128 && are_low bs

ascii_low : (bs : List ℕ) → are_low bs ≡ true → IsAscii bs
ascii_low [] is = IsAscii-nil
ascii_low (b ∷ bs) is = let parts = and_parts (nat_lt b 128) (are_low bs) is in IsAscii-cons b bs (ltb-true b 128 parts.0) (ascii_low bs parts.1)

ascii_digits : IsAscii lower_digits
ascii_digits = ascii_low lower_digits refl

-- a text that spells a digest
module _ (text w other : List ℕ) (is : IsDigest w) (e : text ≡ digest_text w other) where
  pub word_is : take 64 text ≡ encode_lower w
  word_is = ap (take 64) e ∙ take_at (encode_lower w) other 64 (width w is)

  pub rest_is : drop 64 text ≡ other
  rest_is = ap (drop 64) e ∙ drop_at (encode_lower w) other 64 (width w is)

  pub boundary : IsUtf8 text → IsCharBoundary text 64
  boundary utf8 =
      let n = ap length e in
      let m = length-append (encode_lower w) other in
      let k = width w is in
      let long : 63 < length text = omega (arith, n, m, k) in
      let within : 63 < length (encode_lower w) = omega (arith, k) in
      let last : get_or text 63 0 ≡ get_or (encode_lower w) 63 0 = ap (λ l. get_or l 63 0) e ∙ get_or_append_left (encode_lower w) other 0 63 within in
      let low = IsAscii-encode_with lower_digits w ascii_digits 63 in
      IsCharBoundary-after_ascii text 63 utf8 long (omega (arith, last, low))

  pub decodes : decode_sized (take 64 text) 32 ≡ Ok w
  decodes = ap (λ l. decode_sized l 32) word_is ∙ decode_sized-encode_lower w 32 is.0 is.1

-- a text of which 64 bytes spell a digest
pub spells : (text w other : List ℕ) → encode_lower w ≡ take 64 text → drop 64 text ≡ other → text ≡ digest_text w other
spells text w other word rest = sym (take-append-drop 64 text) ∙ ap (λ l. l ++ drop 64 text) (sym word) ∙ ap (λ l. encode_lower w ++ l) rest
