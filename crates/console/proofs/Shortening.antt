-- Texts that are kept in part.
use Rattle.std.proofs.Common.{◌≡◌, ◌∙◌, ℕ, ◌<◌, ◌≤◌, List, ◌++◌, length, take, inl, inr, sym, ap, subst, arith}
use Rattle.std.proofs.lemmas.List.{length-append, take-append-le}
use Rattle.console.specs.Lines.{IsShortened}

-- a text that goes on is as long at least, and begins alike
pub goes_on : (text more : List ℕ) → 65536 < length text → (65536 < length (text ++ more)) × (take 65536 (text ++ more) ≡ take 65536 text)
goes_on text more long = (subst (λ (n : ℕ). 65536 < n) (sym (length-append text more)) (omega (arith, long)), take-append-le 65536 text more (omega (arith, long)))

-- what is not kept of a long one
pub left_out : (whole text more : List ℕ) → 65536 < length text → IsShortened whole text → IsShortened (whole ++ more) text
left_out whole text more long (inl same) =
    let on = goes_on text more long in
    inr (subst (λ (w : List ℕ). 65536 < length (w ++ more)) same on.0, long, sym (subst (λ (w : List ℕ). take 65536 (w ++ more) ≡ take 65536 text) same on.1))
left_out whole text more long (inr both) =
    let on = goes_on whole more both.0 in
    inr (on.0, long, both.2 ∙ sym on.1)

-- what is put behind a long one
pub put_behind : (whole text more : List ℕ) → 65536 < length text → IsShortened whole text → IsShortened whole (text ++ more)
put_behind whole text more long (inl same) =
    let on = goes_on text more long in
    inr (subst (λ (w : List ℕ). 65536 < length w) same long, on.0, on.1 ∙ ap (take 65536) same)
put_behind whole text more long (inr both) =
    let on = goes_on text more long in
    inr (both.0, on.0, on.1 ∙ both.2)

-- what is kept of any other
pub kept : (whole text more : List ℕ) → length text ≤ 65536 → IsShortened whole text → IsShortened (whole ++ more) (text ++ more)
kept whole text more short (inl same) = inl (ap (λ (t : List ℕ). t ++ more) same)
kept whole text more short (inr both) = absurd (omega (arith, short, both.1))
