-- A text has one reading, and a day one date.
use Rattle.std.proofs.Common.{◌≡◌, ℕ, zero, suc, ◌+◌, inl, inr, Bool, true, List, Option, Some, None, Result, Ok, Err, refl, sym, ap, ◌∙◌, subst}
use Rattle.std.specs.Prelude.{◌↔◌, find, bytes_eq}
use Rattle.std.specs.List.{range_with_len}
use Rattle.std.proofs.lemmas.Bool.{cases_Bool, cond-true, cond-false}
use Rattle.std.proofs.lemmas.Slice.Eq.{bytes_eq-Decides}
use Rattle.fault.specs.declared.refusal.Refusal.{Refusal}
use Rattle.fault.specs.declared.refusal.Refusal.TheVariants.{OutOfRange}
use Rattle.period.specs.Day.{IsDayText, day_text}
use Rattle.period.specs.Instant.{IsInstantText, instant_text}
use Rattle.period.specs.Laws.{DayTexts, OneDay, InstantTexts, OneInstant}
use Rattle.period.proofs.DayLemmas.{IsDayText-day_text}
use Rattle.period.proofs.InstantLemmas.{IsInstantText-instant_text}
use Rattle.model.specs.Tables.{days}
use Rattle.sqltokens.specs.Syntax.{IsTold, spelled_in}
use Rattle.sqltokens.specs.Syntax as grammar
use Rattle.sqlsyntax.specs.Transactions.{StatementForm, statements}
use Rattle.sqlsyntax.specs.Queries.{query}
use Rattle.sqlsyntax.specs.Spelling.{Spells, IsWrongAt}
use Rattle.sqlchecks.specs.Answering.{or_refuse}
use Rattle.sqlchecks.specs.Columns.{Tables}
use Rattle.sqlchecks.specs.Literals.{named, day_named, instant_named}
use Rattle.sqlchecks.proofs.Days.{day_is, instant_is}
use Rattle.sqlread.specs.Reading.{IsLanguage}
use Rattle.sqlread.specs.Meaning.{language_of}
use Rattle.readerlaws.specs.Laws.{IsOneReading, OneReading, OneQuestion, OneMeaning, DaysAreNamed, InstantsAreNamed}

-- ---- one reading

module _ {A : Type 0} where
  ok_inj : (a b : A) (x : Result A ℕ) → x ≡ Ok a → x ≡ Ok b → a ≡ b
  ok_inj a b x e f = let g : Ok a ≡ Ok b = sym e ∙ f in cc

  err_inj : (a b : ℕ) (x : Result A ℕ) → x ≡ Err a → x ≡ Err b → a ≡ b
  err_inj a b x e f = let g : (let o : Result A ℕ = Err a in o ≡ Err b) = sym e ∙ f in cc

  not_both : (a : A) (b : ℕ) (x : Result A ℕ) → x ≡ Ok a → x ≡ Err b → ⊥
  not_both a b x e f = let g : Ok a ≡ Err b = sym e ∙ f in cc

  -- what is told by a result is one reading
  one_told : (Says : A → Type 0) (GoesWrongAt : ℕ → Type 0) (x y : Result A ℕ) → ((a : A) → Says a ↔ (x ≡ Ok a)) → ((at : ℕ) → GoesWrongAt at ↔ (x ≡ Err at)) → x ≡ y → IsOneReading Says GoesWrongAt
  one_told Says GoesWrongAt x (Ok a) says wrong e = inl (a, (says a).1 e, (λ b s. ok_inj b a x ((says b).0 s) e), (λ at w. not_both a at x e ((wrong at).0 w)))
  one_told Says GoesWrongAt x (Err at) says wrong e = inr (at, (wrong at).1 e, (λ place w. err_inj place at x ((wrong place).0 w) e), (λ a s. not_both a at x ((says a).0 s) e))

pub one_reading : IsTold statements → ((text : List ℕ) (forms : List StatementForm) → grammar.Spells statements text forms ↔ Spells text forms) → ((text : List ℕ) (at : ℕ) → grammar.IsWrongAt statements text at ↔ IsWrongAt text at) → OneReading
one_reading told spells wrong text = one_told (Spells text) (IsWrongAt text) (spelled_in statements text) (spelled_in statements text)
    (λ forms. ((λ s. ((told text).0 forms).0 ((spells text forms).1 s)), (λ e. (spells text forms).0 (((told text).0 forms).1 e))))
    (λ at. ((λ w. ((told text).1 at).0 ((wrong text at).1 w)), (λ e. (wrong text at).0 (((told text).1 at).1 e))))
    refl

pub one_question : IsTold query → OneQuestion
one_question told text = one_told (grammar.Spells query text) (grammar.IsWrongAt query text) (spelled_in query text) (spelled_in query text) (told text).0 (told text).1 refl

pub one_meaning : ((tables : Tables) → IsLanguage tables (language_of tables)) → OneMeaning
one_meaning is tables text =
    let reads = (is tables).reads text in
    let r = (language_of tables).reads text in
    (r, (reads r).1 refl, (λ s h. sym ((reads s).0 h)))

-- ---- days

find_passes : (p : ℕ → Bool) (n a k : ℕ) → find p (range_with_len a n) ≡ Some k → p k ≡ true
find_passes p zero a k e = let h : None ≡ Some k = e in absurd (cc)
find_passes p (suc n) a k e = elim (cases_Bool (p a)) [
  | inl y ↦ let h : Some a ≡ Some k = sym (cond-true _ _ _ y) ∙ e in let g : a ≡ k = cc in subst (λ i. p i ≡ true) g y
  | inr x ↦ find_passes p n (a + 1) k (sym (cond-false _ _ _ x) ∙ e)
]

named_found : (f : ℕ → List ℕ) (n k : ℕ) (text : List ℕ) → named f n text ≡ Some k → f k ≡ text
unfolding named
named_found f n k text e = (bytes_eq-Decides (f k) text).0 (find_passes (λ j. bytes_eq (f j) text) n 0 k e)

some_of : (r : Refusal) (o : Option ℕ) (k : ℕ) → or_refuse r o ≡ Ok k → o ≡ Some k
some_of r None k e = absurd (cc)
some_of r (Some j) k e = let h : j ≡ k = cc in ap (λ (i : ℕ). Some i) h

day_found : (text : List ℕ) (d : ℕ) → day_named text ≡ Ok d → day_text d ≡ text
unfolding day_named
day_found text d e = named_found day_text 3_652_059 d text (some_of OutOfRange (named day_text 3_652_059 text) d e)

pub days_are_named : DayTexts → OneDay → DaysAreNamed
unfolding days
days_are_named printed one d text le = ((λ e. subst (λ (s : List ℕ). IsDayText d s) (day_found text d e) (printed d le)), (λ h. day_is printed one text d le (IsDayText-day_text d text h)))

instant_found : (text : List ℕ) (t : ℕ) → instant_named text ≡ Ok t → instant_text t ≡ text
unfolding instant_named
instant_found text t e = named_found instant_text 253_402_214_400_000_000 t text (some_of OutOfRange (named instant_text 253_402_214_400_000_000 text) t e)

pub instants_are_named : InstantTexts → OneInstant → InstantsAreNamed
instants_are_named printed one t text le = (
  (λ e. subst (λ (s : List ℕ). IsInstantText t s) (instant_found text t e) (printed t le)),
  (λ h. instant_is printed one text t le (IsInstantText-instant_text t text h)),
)
