-- What forms a log, as entries come to it.
use Rattle.std.proofs.Common.{◌≡◌, ◌∙◌, ℕ, ℤ, pos, negsuc, zero, suc, ◌+◌, ◌-◌, ◌≤◌, ◌<◌, max, Bool, true, false, cond, nat_lt, nat_le, ◌&&◌, ◌||◌, Option, Some, None, option_map, List, [], ◌∷◌, ◌++◌, take, drop, length, slice_get, get_or, bytes_eq, refl, sym, ap, subst, arith, inl, inr}
use Rattle.std.proofs.Math.Seq.{take-length}
use Rattle.std.proofs.lemmas.List.{take-append-drop}
use Rattle.std.proofs.lemmas.List.Folds.{list_all-append}
use Rattle.std.proofs.lemmas.Bool.Decides.{eqb_tells}
use Rattle.std.proofs.lemmas.Bool.{leb-true, le-leb}
use Rattle.std.proofs.lemmas.Slice.Eq.{bytes_eq-Decides}
use Rattle.std.specs.List.{list_all}
use Rattle.model.specs.declared.entry.Entry.{Entry}
use Rattle.model.specs.Lists.{nth}
use Rattle.model.specs.Logs.{least_stamp}
use Rattle.model.specs.Stamps.{TIME_LAST, above, stamp}
use Rattle.model.specs.Transactions.{Language}
use Rattle.model.specs.Members.{agreed, term_of, term_at}
use Rattle.model.specs.Steps.{TERM_LAST, accepted, continues, go_on, spells}
use Rattle.keep.specs.Log.{is_entry, is_numbered, is_vote}
use Rattle.raft.proofs.Lists.{Between, agreed_between}

-- ---- tests

pub parts : (a b : Bool) → (a && b) ≡ true → (a ≡ true) × (b ≡ true)
parts true b e = (refl, e)
parts false b e = absurd (cc e)

pub neither : (a b : Bool) → (a || b) ≡ false → (a ≡ false) × (b ≡ false)
neither false b e = (refl, e)
neither true b e = absurd (cc e)

pub joint : (a b : Bool) → a ≡ true → b ≡ true → (a && b) ≡ true
joint a b e f = rw (e, f) refl

and_and : (a b c : Bool) → ((a && b) && c) ≡ (a && (b && c))
and_and true b c = refl
and_and false b c = refl

pub either : {A : Type 0} (P : A → Type 0) (b : Bool) (u v : A) → P u → P v → P (cond b u v)
either P true u v p q = p
either P false u v p q = q

-- ---- entries that go on

-- the last of these entries, or the one before them
abbrev pub last_of : Option Entry → List Entry → Option Entry
last_of prev [] = prev
last_of prev (e ∷ es) = last_of (Some e) es

-- an entry goes on after another
abbrev pub fits : Option Entry → ℕ → Entry → Bool
fits prev bound e = nat_lt 0 e.term && nat_le (term_of prev) e.term && nat_le e.term bound && nat_le (above (option_map (λ d. d.stamp) prev)) e.stamp

joined : (prev : Option Entry) (bound : ℕ) (xs ys : List Entry) → go_on prev bound (xs ++ ys) ≡ (go_on prev bound xs && go_on (last_of prev xs) bound ys)
joined prev bound [] ys = refl
joined prev bound (e ∷ xs) ys = ap (λ b. fits prev bound e && b) (joined (Some e) bound xs ys) ∙ sym (and_and (fits prev bound e) (go_on (Some e) bound xs) (go_on (last_of (Some e) xs) bound ys))

raised : (prev : Option Entry) (b c : ℕ) (e : Entry) → b ≤ c → fits prev b e ≡ true → fits prev c e ≡ true
raised prev b c e h f =
    let upper = parts (nat_lt 0 e.term && nat_le (term_of prev) e.term && nat_le e.term b) (nat_le (above (option_map (λ d. d.stamp) prev)) e.stamp) f in
    let lower = parts (nat_lt 0 e.term && nat_le (term_of prev) e.term) (nat_le e.term b) upper.0 in
    let below : e.term ≤ b = leb-true e.term b lower.1 in
    joint _ _ (joint _ _ lower.0 (le-leb e.term c (omega (arith, below, h)))) upper.1

-- a greater term bounds them too
pub higher : (prev : Option Entry) (b c : ℕ) (es : List Entry) → b ≤ c → go_on prev b es ≡ true → go_on prev c es ≡ true
higher prev b c [] h f = refl
higher prev b c (e ∷ es) h f =
    let both = parts (fits prev b e) (go_on (Some e) b es) f in
    joint (fits prev c e) (go_on (Some e) c es) (raised prev b c e h both.0) (higher (Some e) b c es h both.1)

term_below : (prev : Option Entry) (bound : ℕ) (e : Entry) → fits prev bound e ≡ true → e.term ≤ bound
term_below prev bound e f =
    let upper = parts (nat_lt 0 e.term && nat_le (term_of prev) e.term && nat_le e.term bound) (nat_le (above (option_map (λ d. d.stamp) prev)) e.stamp) f in
    let lower = parts (nat_lt 0 e.term && nat_le (term_of prev) e.term) (nat_le e.term bound) upper.0 in
    leb-true e.term bound lower.1

term_from : (prev : Option Entry) (bound : ℕ) (e : Entry) → fits prev bound e ≡ true → term_of prev ≤ e.term
term_from prev bound e f =
    let upper = parts (nat_lt 0 e.term && nat_le (term_of prev) e.term && nat_le e.term bound) (nat_le (above (option_map (λ d. d.stamp) prev)) e.stamp) f in
    let lower = parts (nat_lt 0 e.term && nat_le (term_of prev) e.term) (nat_le e.term bound) upper.0 in
    leb-true (term_of prev) e.term (parts (nat_lt 0 e.term) (nat_le (term_of prev) e.term) lower.0).1

last_below : (prev : Option Entry) (bound : ℕ) (es : List Entry) → term_of prev ≤ bound → go_on prev bound es ≡ true → term_of (last_of prev es) ≤ bound
last_below prev bound [] h f = h
last_below prev bound (e ∷ es) h f =
    let both = parts (fits prev bound e) (go_on (Some e) bound es) f in
    last_below (Some e) bound es (term_below prev bound e both.0) both.1

-- the last of the first entries of a list
last_of_first : (prev : Option Entry) (es : List Entry) (i : ℕ) → i < length es → last_of prev (take (suc i) es) ≡ slice_get es i
last_of_first prev [] i h = absurd (omega (arith, h))
last_of_first prev (e ∷ es) zero h = refl
last_of_first prev (e ∷ es) (suc i) h = last_of_first (Some e) es i (omega (arith, h))

last_at : (es : List Entry) (j : ℕ) → j ≤ length es → last_of None (take j es) ≡ nth es j
last_at es zero h = refl
last_at es (suc i) h = last_of_first None es i (omega (arith, h))

-- ---- a log that takes entries

pub accepted_rises : (term prev : ℕ) (log es : List Entry) → prev ≤ length log → go_on None term log ≡ true → continues log prev term es ≡ true → go_on None term (accepted log prev es) ≡ true
accepted_rises term prev log es within rises more =
    let j = agreed log prev es in
    let far : Between prev (prev + length es) (length log) j = agreed_between log es prev within in
    let new = parts (go_on (nth log prev) term es) (go_on (nth log j) term (drop (j - prev) es)) more in
    let split : go_on None term (take j log ++ drop j log) ≡ (go_on None term (take j log) && go_on (last_of None (take j log)) term (drop j log)) = joined None term (take j log) (drop j log) in
    let whole : go_on None term (take j log ++ drop j log) ≡ true = ap (go_on None term) (take-append-drop j log) ∙ rises in
    let old = parts (go_on None term (take j log)) (go_on (last_of None (take j log)) term (drop j log)) (sym split ∙ whole) in
    let last : last_of None (take j log) ≡ nth log j = last_at log j far.most in
    let P : Option Entry → Type 0 = λ d. go_on d term (drop (j - prev) es) ≡ true in
    let cut : go_on None term (take j log ++ drop (j - prev) es) ≡ true =
    joined None term (take j log) (drop (j - prev) es) ∙ joint _ _ old.0 (subst P (sym last) new.1) in
    elim (eqb_tells j (prev + length es)) [
      | inl same ↦ rw same.0 rises
      | inr other ↦ rw other.0 cut
    ]

pub all_first : (p : Entry → Bool) (j : ℕ) (es : List Entry) → list_all p es ≡ true → list_all p (take j es) ≡ true
all_first p zero es h = refl
all_first p (suc j) [] h = refl
all_first p (suc j) (e ∷ es) h = let both = parts (p e) (list_all p es) h in joint (p e) (list_all p (take j es)) both.0 (all_first p j es both.1)

pub all_rest : (p : Entry → Bool) (j : ℕ) (es : List Entry) → list_all p es ≡ true → list_all p (drop j es) ≡ true
all_rest p zero es h = h
all_rest p (suc j) [] h = refl
all_rest p (suc j) (e ∷ es) h = all_rest p j es (parts (p e) (list_all p es) h).1

pub accepted_entries : (p : Entry → Bool) (prev : ℕ) (log es : List Entry) → list_all p log ≡ true → list_all p es ≡ true → list_all p (accepted log prev es) ≡ true
accepted_entries p prev log es old new =
    let j = agreed log prev es in
    let cut : list_all p (take j log ++ drop (j - prev) es) ≡ true =
    list_all-append p (take j log) (drop (j - prev) es) ∙ joint _ _ (all_first p j log old) (all_rest p (j - prev) es new) in
    elim (eqb_tells j (prev + length es)) [
      | inl same ↦ rw same.0 old
      | inr other ↦ rw other.0 cut
    ]

-- an entry more, of the member's own term
pub pushed_rises : (log : List Entry) (e : Entry) → go_on None e.term log ≡ true → 1 ≤ e.term → least_stamp log ≤ e.stamp → go_on None e.term (log ++ e ∷ []) ≡ true
pushed_rises log e rises first later =
    let last : last_of None log ≡ nth log (length log) = ap (last_of None) (sym (take-length log)) ∙ last_at log (length log) (omega arith) in
    let below : term_of (nth log (length log)) ≤ e.term = subst (λ (d : Option Entry). term_of d ≤ e.term) last (last_below None e.term log (omega arith) rises) in
    let one : fits (nth log (length log)) e.term e ≡ true =
    joint _ _ (joint _ _ (joint _ _ (le-leb 1 e.term first) (le-leb (term_of (nth log (length log))) e.term below)) (le-leb e.term e.term (omega arith))) (le-leb (least_stamp log) e.stamp later) in
    let end : go_on (nth log (length log)) e.term (e ∷ []) ≡ true = joint _ _ one refl in
    let P : Option Entry → Type 0 = λ d. go_on d e.term (e ∷ []) ≡ true in
    joined None e.term log (e ∷ []) ∙ joint _ _ rises (subst P (sym last) end)

pub pushed_entries : (p : Entry → Bool) (log : List Entry) (e : Entry) → list_all p log ≡ true → p e ≡ true → list_all p (log ++ e ∷ []) ≡ true
pushed_entries p log e old new = list_all-append p log (e ∷ []) ∙ joint _ _ old (joint _ _ new refl)

pub stamp_least : (reading : ℤ) (least : ℕ) → least ≤ stamp reading least
stamp_least (pos reading) least = elim (nat_le reading TIME_LAST) as (λ b. least ≤ cond b (max reading least) least) [ true ↦ omega arith | false ↦ omega arith ]
stamp_least (negsuc n) least = omega arith

-- an entry of a list whose entries all pass
pub all_got : (p : Entry → Bool) (es : List Entry) (i : ℕ) (d : Entry) → i < length es → list_all p es ≡ true → p (get_or es i d) ≡ true
all_got p [] i d lt h = absurd (omega (arith, lt))
all_got p (e ∷ es) zero d lt h = (parts (p e) (list_all p es) h).0
all_got p (e ∷ es) (suc i) d lt h = all_got p es i d (omega (arith, lt)) (parts (p e) (list_all p es) h).1

pub reads_of : (language : Language) (e : Entry) → is_entry language e ≡ true → spells language e.request ≡ true
reads_of language e h =
    let rest = parts (nat_le e.stamp TIME_LAST) (is_numbered e.request && spells language e.request) h in
    (parts (is_numbered e.request) (spells language e.request) rest.1).1

pub same_text : (xs ys : List ℕ) (b : Bool) → b ≡ bytes_eq xs ys → b ≡ true → xs ≡ ys
same_text xs ys b is h = (bytes_eq-Decides xs ys).0 (sym is ∙ h)

-- ---- terms of a log

first_least : (prev : Option Entry) (bound : ℕ) (es : List Entry) (i : ℕ) → i < length es → go_on prev bound es ≡ true → term_of prev ≤ term_of (slice_get es i)
first_least prev bound [] i lt f = absurd (omega (arith, lt))
first_least prev bound (e ∷ es) zero lt f = term_from prev bound e (parts (fits prev bound e) (go_on (Some e) bound es) f).0
first_least prev bound (e ∷ es) (suc i) lt f =
    let both = parts (fits prev bound e) (go_on (Some e) bound es) f in
    omega (arith, term_from prev bound e both.0, first_least (Some e) bound es i (omega (arith, lt)) both.1)

terms_rise : (prev : Option Entry) (bound : ℕ) (es : List Entry) (j i : ℕ) → j ≤ i → i < length es → go_on prev bound es ≡ true → term_of (slice_get es j) ≤ term_of (slice_get es i)
terms_rise prev bound [] j i le lt f = absurd (omega (arith, lt))
terms_rise prev bound (e ∷ es) zero zero le lt f = omega arith
terms_rise prev bound (e ∷ es) zero (suc i) le lt f = first_least (Some e) bound es i (omega (arith, lt)) (parts (fits prev bound e) (go_on (Some e) bound es) f).1
terms_rise prev bound (e ∷ es) (suc j) zero le lt f = absurd (omega (arith, le))
terms_rise prev bound (e ∷ es) (suc j) (suc i) le lt f = terms_rise (Some e) bound es j i (omega (arith, le)) (omega (arith, lt)) (parts (fits prev bound e) (go_on (Some e) bound es) f).1

terms_below : (prev : Option Entry) (bound : ℕ) (es : List Entry) (i : ℕ) → i < length es → go_on prev bound es ≡ true → term_of (slice_get es i) ≤ bound
terms_below prev bound [] i lt f = absurd (omega (arith, lt))
terms_below prev bound (e ∷ es) zero lt f = term_below prev bound e (parts (fits prev bound e) (go_on (Some e) bound es) f).0
terms_below prev bound (e ∷ es) (suc i) lt f = terms_below (Some e) bound es i (omega (arith, lt)) (parts (fits prev bound e) (go_on (Some e) bound es) f).1

-- below an entry of another term than the log's greatest there is none of that term
pub no_term_below : (term : ℕ) (log : List Entry) (j i : ℕ) → 0 < j → j ≤ i → i ≤ length log → go_on None term log ≡ true → (term_at log i ≡ term → ⊥) → term_at log j ≡ term → ⊥
no_term_below term log zero i first le within f other same = omega (arith, first)
no_term_below term log (suc j) zero first le within f other same = omega (arith, le)
no_term_below term log (suc j) (suc i) first le within f other same =
    let up = terms_rise None term log j i (omega (arith, le)) (omega (arith, within)) f in
    let low = terms_below None term log i (omega (arith, within)) f in
    other (omega (arith, up, low, same))

-- ---- terms that fit

pub terms_pushed : (es : List Entry) (e : Entry) → list_all (λ d. nat_le d.term TERM_LAST) es ≡ true → e.term ≤ TERM_LAST → list_all (λ d. nat_le d.term TERM_LAST) (es ++ e ∷ []) ≡ true
terms_pushed es e old new = pushed_entries (λ d. nat_le d.term TERM_LAST) es e old (le-leb e.term TERM_LAST new)

pub terms_kept : (p : Entry → Bool) (k : ℕ) (old new : List Entry) → list_all p old ≡ true → list_all p new ≡ true → list_all p (take k old ++ new) ≡ true
terms_kept p k old new h e = list_all-append p (take k old) new ∙ joint _ _ (all_first p k old h) e

pub terms_turned : (p : Entry → Bool) (k n : ℕ) (es : List Entry) → list_all p es ≡ true → list_all p (take n (drop k es ++ take k es)) ≡ true
terms_turned p k n es h = all_first p n (drop k es ++ take k es) (list_all-append p (drop k es) (take k es) ∙ joint _ _ (all_rest p k es h) (all_first p k es h))

-- terms that go on up to one that fits
pub terms_fit : (prev : Option Entry) (bound : ℕ) (es : List Entry) → bound ≤ TERM_LAST → go_on prev bound es ≡ true → list_all (λ d. nat_le d.term TERM_LAST) es ≡ true
terms_fit prev bound [] h f = refl
terms_fit prev bound (e ∷ es) h f =
    let both = parts (fits prev bound e) (go_on (Some e) bound es) f in
    joint _ _ (le-leb e.term TERM_LAST (omega (arith, h, term_below prev bound e both.0))) (terms_fit (Some e) bound es h both.1)

-- ---- a vote

-- one of a group is one of a greater group
pub vote_higher : (n m : ℕ) (vote : Option ℕ) → n ≤ m → is_vote n vote ≡ true → is_vote m vote ≡ true
vote_higher n m None h f = refl
vote_higher n m (Some v) h f =
    let both = parts (nat_lt 0 v) (nat_le v n) f in
    let below : v ≤ n = leb-true v n both.1 in
    joint (nat_lt 0 v) (nat_le v m) both.0 (le-leb v m (omega (arith, below, h)))
