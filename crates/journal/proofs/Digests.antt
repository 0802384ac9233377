-- Digests as text.
use Rattle.std.proofs.Common.{◌≡◌, ◌∙◌, ℕ, ◌<◌, List, ◌∷◌, ◌++◌, length, get_or, take, drop, sym, ap, arith, length-append, Ok}
use Rattle.std.specs.Str.{IsCharBoundary}
use Rattle.std.proofs.lemmas.Str.{IsCharBoundary-before_ascii}
use Rattle.std.proofs.lemmas.List.{take-append-drop}
use Rattle.std.proofs.Math.Seq.{take-append_seam, drop-append_seam, get_or-append_seam}
use Rattle.hex.specs.Hex.{encode_lower, lower_digits, decode_sized}
use Rattle.hex.proofs.HexLemmas.{length-encode_with, decode_sized-encode_lower}
use Rattle.journal.specs.Spelling.{digest_text}
use Rattle.journal.specs.Ranges.{IsDigest}

width : (w : List ℕ) → IsDigest w → length (encode_lower w) ≡ 64
width w is = let n = length-encode_with lower_digits w in let m = is.0 in omega (arith, n, m)

-- a text that spells a digest
module _ (text w other : List ℕ) (is : IsDigest w) (e : text ≡ digest_text w other) where
  pub word_is : take 64 text ≡ encode_lower w
  word_is = ap (take 64) e ∙ ap (λ k. take k (encode_lower w ++ 10 ∷ other)) (sym (width w is)) ∙ take-append_seam (encode_lower w) (10 ∷ other)

  pub rest_is : drop 64 text ≡ 10 ∷ other
  rest_is = ap (drop 64) e ∙ ap (λ k. drop k (encode_lower w ++ 10 ∷ other)) (sym (width w is)) ∙ drop-append_seam (encode_lower w) (10 ∷ other)

  is_long : 64 < length text
  is_long =
      let n = ap length e in
      let m = length-append (encode_lower w) (10 ∷ other) in
      let k = width w is in
      omega (arith, n, m, k)

  pub boundary : IsCharBoundary text 64
  boundary =
      let z : get_or text 64 0 ≡ 10 = ap (λ l. get_or l 64 0) e ∙ ap (λ k. get_or (encode_lower w ++ 10 ∷ other) k 0) (sym (width w is)) ∙ get_or-append_seam (encode_lower w) 10 other 0 in
      IsCharBoundary-before_ascii text 64 is_long (omega (arith, z))

  pub decodes : decode_sized (take 64 text) 32 ≡ Ok w
  decodes = ap (λ l. decode_sized l 32) word_is ∙ decode_sized-encode_lower w 32 is.0 is.1

-- a text of 64 bytes that spell a digest, and then the end of the line
pub spells : (text w other : List ℕ) → encode_lower w ≡ take 64 text → drop 64 text ≡ 10 ∷ other → text ≡ digest_text w other
spells text w other word rest = sym (take-append-drop 64 text) ∙ ap (λ l. l ++ drop 64 text) (sym word) ∙ ap (λ l. encode_lower w ++ l) rest
