-- What is told of the first entries of a log, and what a member recalls of them.
use Rattle.std.proofs.Common.{◌≡◌, ◌∙◌, ℕ, zero, suc, ◌+◌, ◌-◌, ◌≤◌, ◌<◌, Option, Some, option_map, List, [], ◌∷◌, ◌++◌, reverse, length, take, drop, slice_get, slice_range, length-append, take-append-drop, refl, sym, ap, subst, append_assoc, append-nil, arith}
use Rattle.std.specs.Option.{option_and_then}
use Rattle.std.specs.List.{cons_option}
use Rattle.std.proofs.lemmas.Grind.{merely}
use Rattle.std.proofs.lemmas.List.{take-append-le, take_all}
use Rattle.std.proofs.Math.Seq.{take-append_seam, drop-append_seam}
use Rattle.model.specs.Lists.{nth}
use Rattle.model.specs.declared.entry.Entry.{Entry}
use Rattle.model.specs.declared.entry.Told.{Told}
use Rattle.model.specs.Transactions.{Language}
use Rattle.model.specs.Logs.{outcome, before_index, told_at}
use Rattle.sqlchecks.specs.Columns as columns
use Rattle.sqlread.specs.Meaning.{language_of}
use Rattle.apply.specs.declared.tables.Tables.{Tables}
use Rattle.apply.specs.View.{AreTables}
use Rattle.node.specs.Applying.{AreApplied, AreMade}
use Rattle.node.specs.Recall.{IsPast}
use Rattle.node.specs.View.{told_between}
use Rattle.node.proofs.Told.{between, range_none, told_none}

-- ---- places in lists

get_first : {A : Type 0} (xs ys : List A) (i : ℕ) → i < length xs → slice_get (xs ++ ys) i ≡ slice_get xs i
get_first [] ys i h = absurd (omega (arith, h))
get_first (x ∷ xs) ys zero h = refl
get_first (x ∷ xs) ys (suc i) h = get_first xs ys i (omega (arith, h))

take_get : {A : Type 0} (n : ℕ) (xs : List A) (i : ℕ) (e : A) → slice_get (take n xs) i ≡ Some e → slice_get xs i ≡ Some e
take_get zero xs i e is = absurd (cc is)
take_get (suc n) [] i e is = absurd (cc is)
take_get (suc n) (x ∷ xs) zero e is = is
take_get (suc n) (x ∷ xs) (suc i) e is = take_get n xs i e is

drop_get : {A : Type 0} (b : ℕ) (xs : List A) (i j : ℕ) (e : A) → b + i ≡ j → slice_get (drop b xs) i ≡ Some e → slice_get xs j ≡ Some e
drop_get zero xs i j e is got = let same : i ≡ j = omega (arith, is) in subst (λ k. slice_get xs k ≡ Some e) same got
drop_get (suc b) [] i j e is got = absurd (cc got)
drop_get (suc b) (x ∷ xs) i zero e is got = absurd (omega (arith, is))
drop_get (suc b) (x ∷ xs) i (suc j) e is got = drop_get b xs i j e (omega (arith, is)) got

-- an entry of a part of the log is there in the log
pub range_got : (log es : List Entry) (before n i j : ℕ) (e : Entry) → es ≡ slice_range log before n → before + i ≡ j → slice_get es i ≡ Some e → slice_get log j ≡ Some e
range_got log es before n i j e is at got = drop_get before log i j e at (take_get (n - before) (drop before log) i e (subst (λ (xs : List Entry). slice_get xs i ≡ Some e) is got))

take_of_take : {A : Type 0} (k n : ℕ) (xs : List A) → k ≤ n → take k (take n xs) ≡ take k xs
take_of_take zero n xs h = refl
take_of_take (suc k) zero xs h = absurd (omega (arith, h))
take_of_take (suc k) (suc n) [] h = refl
take_of_take (suc k) (suc n) (x ∷ xs) h = ap (λ zs. x ∷ zs) (take_of_take k n xs (omega (arith, h)))

range_first : (log : List Entry) (n : ℕ) → slice_range log 0 n ≡ take n log
range_first log n = let e : n - 0 ≡ n = omega arith in rw e refl

-- what follows a list is the range after it
range_after : (xs es : List Entry) (before : ℕ) → before ≡ length xs → es ≡ slice_range (xs ++ es) before (before + length es)
range_after xs es before is =
    let n : (length xs + length es) - length xs ≡ length es = omega arith in
    rw is (rw n (rw (drop-append_seam xs es) (sym (take_all (length es) es (omega arith)))))

pub all_none : {A : Type 0} (xs : List A) → length xs ≡ 0 → xs ≡ []
all_none [] none = refl
all_none (x ∷ xs) none = absurd (omega (arith, none))

-- ---- what is told of a beginning

abbrev told_by : Language → ℕ → List Entry → Option Entry → Option Told
told_by language i earlier o = option_and_then (λ (e : Entry). option_map (λ r. record { index = i; client = r.client; number = r.number; outcome = outcome language e.stamp r earlier }) e.request) o

told_first_at : (language : Language) (xs ys : List Entry) (i : ℕ) → i < length xs → told_at language (xs ++ ys) (i + 1) ≡ told_at language xs (i + 1)
told_first_at language xs ys i h =
    let next : suc i ≡ i + 1 = omega arith in
    let same : (i + 1) - 1 ≡ i = omega arith in
    let there : nth (xs ++ ys) (i + 1) ≡ nth xs (i + 1) = subst (λ n. nth (xs ++ ys) n ≡ nth xs n) next (get_first xs ys i h) in
    let earlier : before_index (xs ++ ys) (i + 1) ≡ before_index xs (i + 1) = subst (λ n. reverse (take n (xs ++ ys)) ≡ reverse (take n xs)) (sym same) (ap reverse (take-append-le i xs ys (omega (arith, h)))) in
    ap (told_by language (i + 1) (before_index (xs ++ ys) (i + 1))) there ∙ ap (λ p. told_by language (i + 1) p (nth xs (i + 1))) earlier

told_first_to : (language : Language) (xs ys : List Entry) (n : ℕ) → n ≤ length xs → told_between language (xs ++ ys) 0 n ≡ told_between language xs 0 n
told_first_to language xs ys zero h = told_none language (xs ++ ys) 0 0 (omega arith) ∙ sym (told_none language xs 0 0 (omega arith))
told_first_to language xs ys (suc n) h =
    let next : n + 1 ≡ suc n = omega arith in
    let step : told_between language (xs ++ ys) 0 (n + 1) ≡ told_between language xs 0 (n + 1) =
    between language (xs ++ ys) 0 n (omega arith) ∙ ap (λ ts. ts ++ cons_option (told_at language (xs ++ ys) (n + 1)) []) (told_first_to language xs ys n (omega (arith, h)))
    ∙ ap (λ o. told_between language xs 0 n ++ cons_option o []) (told_first_at language xs ys n (omega (arith, h))) ∙ sym (between language xs 0 n (omega arith)) in
    subst (λ k. told_between language (xs ++ ys) 0 k ≡ told_between language xs 0 k) next step

-- up to an index, and from there on
told_both : (language : Language) (log : List Entry) (a k : ℕ) → told_between language log 0 (a + k) ≡ told_between language log 0 a ++ told_between language log a (a + k)
told_both language log a zero =
    let same : a + 0 ≡ a = omega arith in
    rw same (sym (ap (λ ts. told_between language log 0 a ++ ts) (told_none language log a a (omega arith)) ∙ append-nil _))
told_both language log a (suc k) =
    let next : (a + k) + 1 ≡ a + suc k = omega arith in
    let step : told_between language log 0 ((a + k) + 1) ≡ told_between language log 0 a ++ told_between language log a ((a + k) + 1) =
    between language log 0 (a + k) (omega arith) ∙ ap (λ ts. ts ++ cons_option (told_at language log ((a + k) + 1)) []) (told_both language log a k)
    ∙ append_assoc (told_between language log 0 a) (told_between language log a (a + k)) _
    ∙ ap (λ ts. told_between language log 0 a ++ ts) (sym (between language log a (a + k) (omega arith))) in
    subst (λ n. told_between language log 0 n ≡ told_between language log 0 a ++ told_between language log a n) next step

-- ---- what is recalled, and what is noted

pub past_none : (schema : columns.Tables) (es : List Entry) (ts : List Told) (tables : Tables) → es ≡ [] → ts ≡ [] → AreTables schema [] tables → IsPast schema es ts tables
past_none schema es ts tables none silent are =
    let told : ts ≡ told_between (language_of schema) [] 0 0 = silent ∙ sym (told_none (language_of schema) [] 0 0 (omega arith)) in
    rw none (record { told = told; current = are })

-- where there is no entry nothing is applied
pub applied_none : (schema : columns.Tables) (log : List Entry) (before : ℕ) (es : List Entry) (ts : List Told) (tables : Tables) → es ≡ [] → ts ≡ [] → AreTables schema (take before log) tables → AreApplied schema log before before es ts tables
applied_none schema log before es ts tables none silent are = record {
  entries = none ∙ sym (range_none log before before (omega arith));
  told = silent ∙ sym (told_none (language_of schema) log before before (omega arith));
  current = are;
}

-- none of the entries is applied already
pub begun_none : (schema : columns.Tables) (log es : List Entry) (before : ℕ) (ts : List Told) (tables : Tables) → ts ≡ [] → AreTables schema (take before log) tables → AreApplied schema log before (before + 0) (take 0 es) ts tables
begun_none schema log es before ts tables silent are =
    let same : before ≡ before + 0 = omega arith in
    subst (λ n. AreApplied schema log before n (take 0 es) ts tables) same (applied_none schema log before [] ts tables refl silent are)

-- those that a member had applied before are the first of the log
pub recalled : (schema : columns.Tables) (log es first : List Entry) (before : ℕ) (ts : List Told) (tables : Tables) → before ≡ 0 → es ≡ slice_range log before (before + length es)
    → length first ≤ length es → take (length first) es ≡ first → IsPast schema first ts tables → AreApplied schema log before (before + length first) (take (length first) es) ts tables
recalled schema log es first before ts tables start_is is within same past =
    let k = length first in
    let all : es ≡ take (length es) log = subst (λ b. es ≡ slice_range log b (b + length es)) start_is is ∙ range_first log (0 + length es) ∙ (let n : 0 + length es ≡ length es = omega arith in ap (λ m. take m log) n) in
    let start : first ≡ take k log = sym same ∙ ap (take k) all ∙ take_of_take k (length es) log within in
    let whole : log ≡ first ++ drop k log = sym (take-append-drop k log) ∙ ap (λ xs. xs ++ drop k log) (sym start) in
    let told : told_between (language_of schema) log 0 k ≡ told_between (language_of schema) first 0 k = ap (λ (xs : List Entry). told_between (language_of schema) xs 0 k) whole ∙ told_first_to (language_of schema) first (drop k log) k (omega arith) in
    let from_none : AreApplied schema log 0 k (take k es) ts tables = record {
      entries = same ∙ start ∙ sym (range_first log k);
      told = past.told ∙ sym told;
      current = subst (λ (xs : List Entry). AreTables schema xs tables) start past.current;
    } in
    let on : k ≡ 0 + k = omega arith in
    subst (λ b. AreApplied schema log b (b + k) (take k es) ts tables) (sym start_is) (subst (λ n. AreApplied schema log 0 n (take k es) ts tables) on from_none)

pub made_past : (schema : columns.Tables) (es : List Entry) (ts : List Told) (tables : Tables) → IsPast schema es ts tables → AreMade schema tables
made_past schema es ts tables past = merely (es, past.current)

-- what is noted, with the entries that follow it
pub past_more : (schema : columns.Tables) (xs es : List Entry) (us ts : List Told) (before : ℕ) (old new : Tables) → before ≡ length xs → IsPast schema xs us old
    → ((log : List Entry) → es ≡ slice_range log before (before + length es) → AreTables schema (take before log) old → AreApplied schema log before (before + length es) es ts new)
    → IsPast schema (xs ++ es) (us ++ ts) new
past_more schema xs es us ts before old new is past applied =
    let language = language_of schema in
    let log = xs ++ es in
    let long : length log ≡ before + length es = length-append xs es ∙ ap (λ n. n + length es) (sym is) in
    let start : take before log ≡ xs = rw is (take-append_seam xs es) in
    let more = applied log (range_after xs es before is) (subst (λ (l : List Entry). AreTables schema l old) (sym start) past.current) in
    let first : us ≡ told_between language log 0 before = past.told ∙ sym (told_first_to language xs es (length xs) (omega arith)) ∙ ap (told_between language log 0) (sym is) in
    record {
      told = ap (λ ts'. us ++ ts') more.told ∙ ap (λ us'. us' ++ told_between language log before (before + length es)) first ∙ sym (told_both language log before (length es)) ∙ ap (told_between language log 0) (sym long);
      current = subst (λ (l : List Entry). AreTables schema l new) (take_all (before + length es) log (omega (arith, long))) more.current;
    }

pub past_noted : (schema : columns.Tables) (xs es xs' : List Entry) (us ts us' : List Told) (before : ℕ) (old new : Tables) → xs' ≡ xs ++ es → us' ≡ us ++ ts → before ≡ length xs → IsPast schema xs us old
    → ((log : List Entry) → es ≡ slice_range log before (before + length es) → AreTables schema (take before log) old → AreApplied schema log before (before + length es) es ts new)
    → IsPast schema xs' us' new
past_noted schema xs es xs' us ts us' before old new more told is past applied = rw (more, told) (past_more schema xs es us ts before old new is past applied)
