-- A text names the day or the instant that the search finds.
use Rattle.std.proofs.Common.{◌≡◌, ℕ, zero, suc, ◌+◌, ◌<◌, ◌≤◌, Bool, true, false, List, Some, None, Ok, Err, refl, sym, ap, subst, ◌∙◌, arith, inl, inr}
use Rattle.std.specs.Prelude.{find, bytes_eq}
use Rattle.std.specs.List.{range_with_len}
use Rattle.std.proofs.lemmas.Bool.{cases_Bool, cases_eq}
use Rattle.std.proofs.lemmas.Slice.Eq.{bytes_eq-Decides}
use Rattle.period.specs.Day.{IsDayText, day_text}
use Rattle.period.specs.Instant.{IsInstant, IsInstantText, instant_text}
use Rattle.period.specs.Laws.{DayTexts, OneDay, InstantTexts, OneInstant}
use Rattle.fault.specs.declared.refusal.Refusal.TheVariants.{OutOfRange}
use Rattle.sqlchecks.proofs.Choices.{if_true, if_false}
use Rattle.sqlchecks.specs.Answering.{or_refuse}
use Rattle.sqlchecks.specs.Literals.{named, day_named, instant_named}

-- ---- the first number whose text this is

find_is : (p : ℕ → Bool) (n a k : ℕ) → a ≤ k → k < a + n → p k ≡ true → ((j : ℕ) → p j ≡ true → a ≤ j → j < a + n → j ≡ k) → find p (range_with_len a n) ≡ Some k
find_is p zero a k lo hi pass only = absurd (omega arith)
find_is p (suc n) a k lo hi pass only = elim (cases_Bool (p a)) [
  | inl h ↦ if_true (p a) (Some a) (find p (range_with_len (a + 1) n)) h ∙ ap (λ (i : ℕ). Some i) (only a h (omega arith) (omega arith))
  | inr h ↦ elim (cases_eq a k) [
    | inl same ↦ absurd (let e : p a ≡ true = ap p same ∙ pass in let f : true ≡ false = sym e ∙ h in cc)
    | inr apart ↦ if_false (p a) (Some a) (find p (range_with_len (a + 1) n)) h ∙ find_is p n (a + 1) k (omega arith) (omega arith) pass (λ j e low high. only j e (omega arith) (omega arith))
  ]
]

find_none : (p : ℕ → Bool) (n a : ℕ) → ((j : ℕ) → p j ≡ true → j < a + n → ⊥) → find p (range_with_len a n) ≡ None
find_none p zero a none = refl
find_none p (suc n) a none = elim (cases_Bool (p a)) [
  | inl h ↦ absurd (none a h (omega arith))
  | inr h ↦ if_false (p a) (Some a) (find p (range_with_len (a + 1) n)) h ∙ find_none p n (a + 1) (λ j e high. none j e (omega arith))
]

named_is : (f : ℕ → List ℕ) (n k : ℕ) (text : List ℕ) → k < n → text ≡ f k → ((j : ℕ) → j < n → f j ≡ text → j ≡ k) → named f n text ≡ Some k
unfolding named
named_is f n k text lt e only =
    find_is (λ j. bytes_eq (f j) text) n 0 k (omega arith) (omega arith) ((bytes_eq-Decides (f k) text).1 (sym e)) (λ j h lo hi. only j (omega arith) ((bytes_eq-Decides (f j) text).0 h))

named_none : (f : ℕ → List ℕ) (n : ℕ) (text : List ℕ) → ((j : ℕ) → j < n → f j ≡ text → ⊥) → named f n text ≡ None
unfolding named
named_none f n text none = find_none (λ j. bytes_eq (f j) text) n 0 (λ j h hi. none j (omega arith) ((bytes_eq-Decides (f j) text).0 h))

-- ---- days and instants

pub day_is : DayTexts → OneDay → (text : List ℕ) (n : ℕ) → n ≤ 3_652_058 → text ≡ day_text n → day_named text ≡ Ok n
unfolding day_named
day_is printed one text n le e =
    ap (or_refuse OutOfRange) (named_is day_text 3_652_059 n text (omega arith) e (λ j lt same. one j n (day_text n) (subst (IsDayText j) (same ∙ e) (printed j (omega arith))) (printed n le)))

pub no_day : DayTexts → (text : List ℕ) → ((n : ℕ) → IsDayText n text → ⊥) → day_named text ≡ Err OutOfRange
unfolding day_named
no_day printed text none =
    ap (or_refuse OutOfRange) (named_none day_text 3_652_059 text (λ j lt same. none j (subst (IsDayText j) same (printed j (omega arith)))))

pub instant_is : InstantTexts → OneInstant → (text : List ℕ) (n : ℕ) → IsInstant n → text ≡ instant_text n → instant_named text ≡ Ok n
unfolding instant_named
instant_is printed one text n le e =
    ap (or_refuse OutOfRange) (named_is instant_text 253_402_214_400_000_000 n text (omega arith) e (λ j lt same. one j n (instant_text n) (subst (IsInstantText j) (same ∙ e) (printed j (omega arith))) (printed n le)))

pub no_instant : InstantTexts → (text : List ℕ) → ((n : ℕ) → IsInstant n → IsInstantText n text → ⊥) → instant_named text ≡ Err OutOfRange
unfolding instant_named
no_instant printed text none =
    ap (or_refuse OutOfRange) (named_none instant_text 253_402_214_400_000_000 text (λ j lt same. none j (omega arith) (subst (IsInstantText j) same (printed j (omega arith)))))
