-- What the laws of `refused` rest on besides the clauses that they speak of.
use Rattle.std.proofs.Common.{◌≡◌, ◌≢◌, ℕ, ◌+◌, ◌/◌, ◌%◌, ◌^◌, ◌<◌, ◌≤◌, List, [], ◌∷◌, ◌++◌, length, drop, get_or, refl, sym, ap, ◌∙◌, subst, arith, length-append, Result, Ok, Err}
use Rattle.std.specs.Prelude.{IfOk, IsErr}
use Rattle.std.specs.Prelude.{codes, decimal}
use Rattle.std.proofs.lemmas.Fmt.{decimal_by_steps}
use Rattle.flight.specs.Contents.{OpeningContents}
use Rattle.flight.specs.Spelling.{opening_text, opening_floor_text, vote_text, entries_text, spaced}
use Rattle.flight.specs.Ranges.{IsOpening}
use Rattle.flight.specs.declared.flight.Version.{Version}

-- ---- what comes of a call

pub never_ok : {A E : Type 0} (r : Result A E) (F : A → Type 0) → IfOk r F → ((a : A) → F a → ⊥) → IsErr r
never_ok (Ok a) F f none = absurd (none a f)
never_ok (Err e) F f none = refl

-- digits that do not begin with 0
abbrev Leads : ℕ → List ℕ → Type 0
Leads n ds = (0 < length ds) × (0 < n → get_or ds 0 0 ≢ 48)

first_of : (x : ℕ) (ds more : List ℕ) → 0 < length ds → get_or (ds ++ more) 0 x ≡ get_or ds 0 x
first_of x [] more h = absurd (omega (arith, h))
first_of x (d ∷ ds) more h = refl

leads : (n : ℕ) → n < 2 ^ 64 → Leads n (decimal n)
leads n small = decimal_by_steps Leads
    (λ n low. (omega arith, (λ some e. let f : 48 + n ≡ 48 = e in omega (arith, f, some))))
    (λ n ds high h. (omega (arith, length-append ds ((48 + n % 10) ∷ []), h.0), (λ some e. h.1 (omega arith) (sym (first_of 0 ds ((48 + n % 10) ∷ []) h.0) ∙ e))))
    n small

pub no_zero_first : (version : Version) (o : OpeningContents) (text rest more : List ℕ) → IsOpening version o → text ≡ opening_text version o more → text ≡ codes "life 0" ++ rest → ⊥
no_zero_first version o text rest more is spells begins =
    let mark = is.0 in
    let led = leads o.mark (omega (arith, mark.1)) in
    let zero : 48 ≡ get_or (decimal o.mark ++ 32 ∷ spaced o.hard.term (vote_text o.hard.vote (opening_floor_text version o.hard.floor (entries_text o.entries more)))) 0 0 = ap (λ l. get_or l 5 0) (sym begins ∙ spells) in
    led.1 mark.0 (sym (first_of 0 (decimal o.mark) (32 ∷ spaced o.hard.term (vote_text o.hard.vote (opening_floor_text version o.hard.floor (entries_text o.entries more)))) led.0) ∙ sym zero)
