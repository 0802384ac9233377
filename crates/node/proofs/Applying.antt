-- What one more applied entry makes of the tables, and what is told of it.
use Rattle.std.specs.Option.{option_and_then}
use Rattle.std.proofs.Common.{◌≡◌, ◌∙◌, ℕ, zero, suc, ◌+◌, ◌-◌, ◌≤◌, Option, Some, None, option_map, List, [], ◌∷◌, ◌++◌, reverse, take, drop, slice_range, sym, ap, subst, arith}
use Rattle.std.specs.Prelude.{slice_get}
use Rattle.std.proofs.Math.Logic.{∥∥₁_elim}
use Rattle.std.proofs.Props.{props}
use Rattle.std.proofs.lemmas.Grind.{merely}
use Rattle.model.specs.Lists.{nth}
use Rattle.model.specs.declared.entry.Entry.{Entry}
use Rattle.model.specs.declared.entry.Request.{Request}
use Rattle.model.specs.declared.entry.Told.{Told}
use Rattle.model.specs.Transactions.{Language}
use Rattle.model.specs.Logs.{Outcome, outcome, before_index, told_at}
use Rattle.sqlchecks.specs.Columns as columns
use Rattle.apply.specs.declared.tables.Tables.{Tables}
use Rattle.apply.specs.View.{AreTables}
use Rattle.sqlread.specs.Meaning.{language_of}
use Rattle.std.specs.List.{cons_option}
use Rattle.node.specs.Applying.{AreApplied, AreMade}
use Rattle.node.specs.View.{told_between}
use Rattle.node.proofs.Told.{between}

take_next : {A : Type 0} (xs : List A) (n : ℕ) (x : A) → slice_get xs n ≡ Some x → take (suc n) xs ≡ take n xs ++ x ∷ []
take_next [] n x h = absurd cc
take_next (y ∷ xs) zero x h = let e : y ≡ x = cc in ap (λ z. z ∷ []) e
take_next (y ∷ xs) (suc n) x h = ap (λ zs. y ∷ zs) (take_next xs n x h)

pub take_more : (xs : List Entry) (n : ℕ) (x : Entry) → slice_get xs n ≡ Some x → take (n + 1) xs ≡ take n xs ++ x ∷ []
take_more xs n x h = let next : n + 1 ≡ suc n = omega arith in rw next (take_next xs n x h)

take_drop : (log : List Entry) (before n i : ℕ) (e : Entry) → before + n ≡ i → slice_get log i ≡ Some e → take (suc n) (drop before log) ≡ take n (drop before log) ++ e ∷ []
take_drop log zero n i e is got = let same : n ≡ i = omega (arith, is) in take_next log n e (subst (λ k. slice_get log k ≡ Some e) (sym same) got)
take_drop [] (suc before) n i e is got = absurd (cc got)
take_drop (x ∷ xs) (suc before) n zero e is got = absurd (omega (arith, is))
take_drop (x ∷ xs) (suc before) n (suc i) e is got = take_drop xs before n i e (omega (arith, is)) got

-- one entry more
pub range_next : (log : List Entry) (before i : ℕ) (e : Entry) → before ≤ i → slice_get log i ≡ Some e → slice_range log before (i + 1) ≡ slice_range log before i ++ e ∷ []
range_next log before i e low got =
    let more : (i + 1) - before ≡ suc (i - before) = omega (arith, low) in
    rw more (take_drop log before (i - before) i e (omega (arith, low)) got)

-- the tables of the entries before it, with it
pub applied_more : (schema : columns.Tables) (log : List Entry) (before : ℕ) (e : Entry) (old new : Tables) → slice_get log before ≡ Some e
    → ((s : columns.Tables) (list : List Entry) → AreTables s list old → AreTables s (list ++ e ∷ []) new) → AreTables schema (take before log) old → AreTables schema (take (before + 1) log) new
applied_more schema log before e old new got kept are =
    let next : suc before ≡ before + 1 = omega arith in
    subst (λ n. AreTables schema (take n log) new) next (subst (λ l. AreTables schema l new) (sym (take_next log before e got)) (kept schema (take before log) are))

-- tables of some list, with one entry more
pub made_more : (schema : columns.Tables) (e : Entry) (old new : Tables) → ((s : columns.Tables) (list : List Entry) → AreTables s list old → AreTables s (list ++ e ∷ []) new) → AreMade schema old → AreMade schema new
made_more schema e old new kept made = ∥∥₁_elim made (hlevel props) (λ some. merely (some.0 ++ e ∷ [], kept schema some.0 some.1))

-- what is told of an entry, by its request
abbrev told_of : Language → List Entry → ℕ → ℕ → Option Request → Option Told
told_of schema log i t o = option_map (λ (r : Request). record { index = i; client = r.client; number = r.number; outcome = outcome schema t r (before_index log i) }) o

abbrev told_entry : Language → List Entry → ℕ → Option Entry → Option Told
told_entry schema log i o = option_and_then (λ (e : Entry). told_of schema log i e.stamp e.request) o

-- nothing is told of a Close
pub close_is : (schema : Language) (log : List Entry) (before : ℕ) (e : Entry) → slice_get log before ≡ Some e → e.request ≡ None → None ≡ told_at schema log (before + 1)
close_is schema log before e got asks =
    let next : suc before ≡ before + 1 = omega arith in
    let there : nth log (before + 1) ≡ Some e = subst (λ n. nth log n ≡ Some e) next got in
    sym (ap (told_entry schema log (before + 1)) there ∙ ap (told_of schema log (before + 1) e.stamp) asks)

pub told_is : (schema : Language) (log : List Entry) (before : ℕ) (e : Entry) (r : Request) (o : Outcome) → slice_get log before ≡ Some e → e.request ≡ Some r
    → Some o ≡ option_map (λ q. outcome schema e.stamp q (reverse (take before log))) e.request
    → Some (record { index = before + 1; client = r.client; number = r.number; outcome = o }) ≡ told_at schema log (before + 1)
told_is schema log before e r o got asks given =
    let next : suc before ≡ before + 1 = omega arith in
    let same : (before + 1) - 1 ≡ before = omega arith in
    let there : nth log (before + 1) ≡ Some e = subst (λ n. nth log n ≡ Some e) next got in
    let earlier : before_index log (before + 1) ≡ reverse (take before log) = ap (λ n. reverse (take n log)) same in
    let now : Some o ≡ Some (outcome schema e.stamp r (reverse (take before log))) = given ∙ ap (option_map (λ q. outcome schema e.stamp q (reverse (take before log)))) asks in
    let is : o ≡ outcome schema e.stamp r (reverse (take before log)) = cc in
    let told : Outcome → Option Told = λ x. Some (record { index = before + 1; client = r.client; number = r.number; outcome = x }) in
    ap told (is ∙ ap (outcome schema e.stamp r) (sym earlier)) ∙ sym (ap (told_entry schema log (before + 1)) there ∙ ap (told_of schema log (before + 1) e.stamp) asks)

pub not_none : {A B : Type 0} (f : A → B) (o : Option A) (a : A) → o ≡ Some a → None ≡ option_map f o → ⊥
not_none f o a is h = let e : None ≡ Some (f a) = h ∙ ap (option_map f) is in cc

-- ---- entries in turn

pub applied_next : (schema : columns.Tables) (log : List Entry) (before i : ℕ) (es es' : List Entry) (ts ts' : List Told) (e : Entry) (t : Option Told) (old new : Tables)
    → before ≤ i → AreApplied schema log before i es ts old → slice_get log i ≡ Some e → t ≡ told_at (language_of schema) log (i + 1) → AreTables schema (take (i + 1) log) new
    → es' ≡ es ++ e ∷ [] → ts' ≡ ts ++ cons_option t [] → AreApplied schema log before (i + 1) es' ts' new
applied_next schema log before i es es' ts ts' e t old new low was there is are more told = record {
  entries = more ∙ ap (λ (xs : List Entry). xs ++ e ∷ []) was.entries ∙ sym (range_next log before i e low there);
  told = told ∙ ap (λ (xs : List Told). xs ++ cons_option t []) was.told ∙ ap (λ (o : Option Told). told_between (language_of schema) log before i ++ cons_option o []) is ∙ sym (between (language_of schema) log before i low);
  current = are;
}
