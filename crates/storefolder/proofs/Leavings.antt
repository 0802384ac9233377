-- What a write that was cut short leaves, and what none leaves.
use Rattle.std.proofs.Common.{◌≡◌, ◌≢◌, ◌∙◌, ℕ, suc, zero, ◌-◌, ◌<◌, ◌≤◌, List, [], ◌∷◌, ◌++◌, length, get_or, take, drop, refl, sym, ap, arith, length-append, length-drop, append_assoc, inl, inr}
use Rattle.std.specs.Prelude.{decimal}
use Rattle.std.proofs.lemmas.Bool.{cases_lt}
use Rattle.std.proofs.lemmas.List.{append-nil, take-append-drop, take-append-le, get_or_append_left, get_or-append_right, get_or-take, length-take-le, ext_get_or}
use Rattle.std.proofs.Math.Seq.{take-append_seam}
use Rattle.flight.specs.Spelling.{ended}
use Rattle.flight.specs.Ranges.{IsNumber}
use Rattle.flight.specs.Reading.{Lacks}
use Rattle.flight.proofs.Numbers.{decimal_lacks}
use Rattle.journal.specs.Blocks.{sum_after, framed_text, block_text}
use Rattle.journal.proofs.Frames.{framed_same, sum_small}
use Rattle.storefolder.proofs.CutShort.{some_length}
use Rattle.storefolder.specs.Torn.{AreZeros, IsCutBlock, IsLeftOf, IsLeftOfBlock, IsFullBlock, BeginsBlock, IsTorn}

-- what is read of a front, and what right behind it
read_front : (left front rest : List ℕ) → left ≡ front ++ rest → (i : ℕ) → i < length front → get_or left i 0 ≡ get_or front i 0
read_front left front rest is i within = ap (λ l. get_or l i 0) is ∙ get_or_append_left front rest 0 i within

read_rest : (left front rest : List ℕ) → left ≡ front ++ rest → (i : ℕ) → length front ≤ i → get_or left i 0 ≡ get_or rest (i - length front) 0
read_rest left front rest is i behind = ap (λ l. get_or l i 0) is ∙ get_or-append_right front rest (length front) i 0 refl behind

-- ---- what is left begins a block

pub left_begins : (left front rest : List ℕ) → left ≡ front ++ rest → Lacks 0 front → IsLeftOfBlock left → BeginsBlock front
left_begins left front rest is lacks (before, body, others, small, is_body, left_of) =
    let block = block_text before body [] in
    let n = length front in
    let some : (i : ℕ) → i < n → get_or left i 0 ≢ 0 = λ i within e. lacks i within (sym (read_front left front rest is i within) ∙ e) in
    let written : (i : ℕ) → i < n → get_or front i 0 ≡ get_or (block ++ others) i 0 = λ i within.
    elim (left_of.parts i) [ inl e ↦ sym (read_front left front rest is i within) ∙ e | inr e ↦ absurd (some i within e) ] in
    let lack_within : left_of.lack.0 < n → ⊥ = λ within. some left_of.lack.0 within left_of.lack.2 in
    let shorter : n < length block = omega (arith, lack_within, left_of.lack.1) in
    let taken : length (take n block) ≡ n = length-take-le n block (omega (arith, shorter)) in
    let same : (i : ℕ) → i < n → get_or front i 0 ≡ get_or (take n block) i 0 = λ i within.
    written i within ∙ get_or_append_left block others 0 i (omega (arith, within, shorter)) ∙ sym (get_or-take n block i 0 within) in
    let first : front ≡ take n block = ext_get_or 0 front (take n block) (sym taken) same in (
      sum_after before body,
      body,
      drop n block,
      sum_small before body small,
      is_body.2,
      ap (λ l. l ++ drop n block) first ∙ take-append-drop n block,
      λ e. omega (arith, ap length e, length-drop n block, shorter),
    )

-- a beginning with zeros behind it is left of the whole
cut_parts : (block front back zeros left : List ℕ) → front ++ back ≡ block → back ≢ [] → AreZeros zeros → left ≡ front ++ zeros → IsLeftOf block [] left
cut_parts block front back zeros left is some are e = record {
  parts = λ i.
      elim (cases_lt i (length front)) [
        | inl before ↦ inl (read_front left front zeros e i before ∙ sym (read_front block front back (sym is) i before) ∙ ap (λ l. get_or l i 0) (sym (append-nil block)))
        | inr behind ↦ inr (read_rest left front zeros e i behind ∙ are (i - length front))
      ];
  lack = (
    length front,
    omega (arith, some_length back some, ap length is, length-append front back),
    read_rest left front zeros e (length front) (omega arith) ∙ are (length front - length front),
  );
}

pub cut_left : (left : List ℕ) → IsCutBlock left → IsLeftOfBlock left
cut_left left (before, body, front, back, zeros, small, is_body, is, some, are, e) = (before, body, [], small, is_body, cut_parts (block_text before body []) front back zeros left is some are e)

-- ---- up to a zero

no_back : (a b : List ℕ) → a ++ b ≡ [] → b ≡ []
no_back [] b e = e
no_back (c ∷ cs) b e = absurd (omega (arith, ap length e))

-- bytes that are not zero go no further than a zero does
longer : (left whole rest front others : List ℕ) → left ≡ whole ++ rest → Lacks 0 whole → left ≡ front ++ others → get_or others 0 0 ≡ 0 → length whole ≤ length front
longer left whole rest front others is lacks e ends =
    let none : length front < length whole → ⊥ = λ shorter.
    lacks (length front) shorter (
    sym (read_front left whole rest is (length front) shorter)
    ∙ read_rest left front others e (length front) (omega arith)
    ∙ ap (λ n. get_or others n 0) (omega arith)
    ∙ ends
    ) in
    omega (arith, none)

goes_on : (left whole rest front others : List ℕ) → left ≡ whole ++ rest → Lacks 0 whole → left ≡ front ++ others → get_or others 0 0 ≡ 0 → front ≡ whole ++ drop (length whole) front
goes_on left whole rest front others is lacks e ends =
    let long = longer left whole rest front others is lacks e ends in
    let first : take (length whole) front ≡ whole = sym (take-append-le (length whole) front others long) ∙ ap (take (length whole)) (sym e ∙ is) ∙ take-append_seam whole rest in
    sym (take-append-drop (length whole) front) ∙ ap (λ l. l ++ drop (length whole) front) first

begins_before : (front more whole : List ℕ) → whole ≡ front ++ more → BeginsBlock whole → BeginsBlock front
begins_before front more whole is b =
    (b.0, b.1, more ++ b.2, b.3, b.4, sym (append_assoc front more b.2) ∙ ap (λ l. l ++ b.2) (sym is) ∙ b.5, λ e. b.6 (no_back more b.2 e))

pub torn_begins : (left front rest : List ℕ) → left ≡ front ++ rest → Lacks 0 front → IsTorn left → BeginsBlock front
torn_begins left front rest is lacks t = begins_before front (drop (length front) t.0) t.0 (goes_on left front rest t.0 t.1 is lacks t.4 t.3) t.2

-- ---- a full block

lacks_append : (xs ys : List ℕ) → Lacks 0 xs → Lacks 0 ys → Lacks 0 (xs ++ ys)
lacks_append xs ys first later = λ i within e.
    elim (cases_lt i (length xs)) [
      | inl before ↦ first i before (sym (get_or_append_left xs ys 0 i before) ∙ e)
      | inr behind ↦ later (i - length xs) (omega (arith, within, behind, length-append xs ys)) (sym (get_or-append_right xs ys (length xs) i 0 refl behind) ∙ e)
    ]

lacks_more : (x : ℕ) (xs : List ℕ) → x ≢ 0 → Lacks 0 xs → Lacks 0 (x ∷ xs)
lacks_more x xs some later zero within e = some e
lacks_more x xs some later (suc i) within e = later i (omega (arith, within)) e

number_lacks : (n end : ℕ) (rest : List ℕ) → IsNumber n → end ≢ 0 → Lacks 0 rest → Lacks 0 (decimal n ++ end ∷ rest)
number_lacks n end rest small some lacks = lacks_append (decimal n) (end ∷ rest) (decimal_lacks 0 n small (omega arith)) (lacks_more end rest some lacks)

full_lacks : (sum : ℕ) (body : List ℕ) → IsNumber sum → IsNumber (length body) → Lacks 0 body → Lacks 0 (framed_text sum body [])
full_lacks sum body small_sum small lacks =
    let lines : Lacks 0 (body ++ []) = lacks_append body [] lacks (λ i within. absurd (omega (arith, within))) in
    number_lacks (length body) 32 (ended sum (body ++ [])) small (λ e. omega (arith, e)) (number_lacks sum 10 (body ++ []) small_sum (λ e. omega (arith, e)) lines)

full_then : (sum : ℕ) (body rest back : List ℕ) → framed_text sum body rest ++ back ≡ framed_text sum body (rest ++ back)
full_then sum body rest back =
    append_assoc (decimal (length body)) _ back
    ∙ ap (λ l. decimal (length body) ++ 32 ∷ l) (append_assoc (decimal sum) _ back ∙ ap (λ l. decimal sum ++ 10 ∷ l) (append_assoc body rest back))

-- nothing of it is to follow
full_begins : (sum : ℕ) (body front tail : List ℕ) → IsNumber sum → IsNumber (length body) → front ≡ framed_text sum body [] ++ tail → BeginsBlock front → ⊥
full_begins sum body front tail small_sum small is b =
    let e : framed_text sum body (tail ++ b.2) ≡ framed_text b.0 b.1 [] = sym (ap (λ l. l ++ b.2) (is ∙ full_then sum body [] tail) ∙ full_then sum body tail b.2) ∙ b.5 in
    let s = framed_same sum b.0 body b.1 (tail ++ b.2) [] small_sum b.3 small b.4 e in
    b.6 (no_back tail b.2 s.2)

pub full_not_torn : (left : List ℕ) → IsFullBlock left → IsTorn left → ⊥
full_not_torn left (sum, body, rest, small_sum, small, lacks, is) t =
    let whole = framed_text sum body [] in
    let on = goes_on left whole rest t.0 t.1 (is ∙ sym (full_then sum body [] rest)) (full_lacks sum body small_sum small lacks) t.4 t.3 in
    full_begins sum body t.0 (drop (length whole) t.0) small_sum small on t.2
