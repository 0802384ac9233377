-- Rows of a key in a strand: one after another, with no day in two of them.
use Rattle.std.proofs.Common.{◌≡◌, ℕ, ◌<◌, ◌≤◌, Bool, true, false, ◌||◌, List, [], ◌∷◌, ◌++◌, filter, flat_map, refl, sym, subst, inl, inr, arith, append_assoc, min, max}
use Rattle.std.specs.Prelude.{unwrap_or, Option}
use Rattle.std.specs.List.{list_any}
use Rattle.std.proofs.lemmas.Bool.{cases_Bool, cases_lt, and_parts, and_from, lt-ltb, le-ltb, le-leb, leb-true, ltb-true}
use Rattle.model.specs.declared.value.Value.{Value}
use Rattle.model.specs.Values.{same_key}
use Rattle.model.specs.Tables.{days, Period, Row}
use Rattle.model.specs.Statements.{meets}
use Rattle.model.specs.Transactions.{Action, Insert, Update, Delete}
use Rattle.rowlaws.specs.Rows.{Has}
use Rattle.rowlaws.specs.Cutting.{part, if_days, pieces, rest}
use Rattle.rowlaws.specs.Changes.{clashes}
use Rattle.rowlaws.proofs.Keys.{same_key-true, same_key-itself}
use Rattle.rowlaws.proofs.RowFacts.{both}
use Rattle.current.specs.Corrections.{is_met, made, kept}
use Rattle.current.specs.ByKey.{in_strand, with_row}

-- the first row of a strand, and the others
pub record Begins (k : List Value) (d : ℕ) (r : Row) (rs : List Row) : Type 0 where
  pub key : r.key ≡ k
  pub from : d ≤ r.period.start
  pub some : r.period.start < r.period.end
  pub short : r.period.end ≤ days
  pub later : in_strand k r.period.end rs ≡ true

pub begins_strand : (k : List Value) (d : ℕ) (r : Row) (rs : List Row) → in_strand k d (r ∷ rs) ≡ true → Begins k d r rs
begins_strand k d r rs h =
    let h4 = and_parts _ _ h in
    let h3 = and_parts _ _ h4.0 in
    let h2 = and_parts _ _ h3.0 in
    let h1 = and_parts _ _ h2.0 in
    record { key = same_key-true r.key k h1.0; from = leb-true d r.period.start h1.1; some = ltb-true r.period.start r.period.end h2.1; short = leb-true r.period.end days h3.1; later = h4.1 }

pub strand_begins : (k : List Value) (d : ℕ) (r : Row) (rs : List Row) → r.key ≡ k → d ≤ r.period.start → r.period.start < r.period.end → r.period.end ≤ days → in_strand k r.period.end rs ≡ true → in_strand k d (r ∷ rs) ≡ true
strand_begins k d r rs key from some short later =
    and_from _ _ (and_from _ _ (and_from _ _ (and_from _ _ (subst (λ l. same_key r.key l ≡ true) key (same_key-itself r.key)) (le-leb d r.period.start from)) (lt-ltb r.period.start r.period.end some)) (le-leb r.period.end days short)) later

pub strand_earlier : (k : List Value) (c d : ℕ) (rs : List Row) → c ≤ d → in_strand k d rs ≡ true → in_strand k c rs ≡ true
strand_earlier k c d [] le h = refl
strand_earlier k c d (r ∷ rs) le h = let b = begins_strand k d r rs h in let from = b.from in strand_begins k c r rs b.key (omega arith) b.some b.short b.later

-- each row is of the key, has a day, and lies after the day and before the last
pub record InStrand (k : List Value) (d : ℕ) (r : Row) : Type 0 where
  pub key : r.key ≡ k
  pub from : d ≤ r.period.start
  pub some : r.period.start < r.period.end
  pub short : r.period.end ≤ days

pub each_in_strand : (k : List Value) (d : ℕ) (rs : List Row) (r : Row) → in_strand k d rs ≡ true → Has rs r → InStrand k d r
each_in_strand k d [] r h has = absurd has
each_in_strand k d (q ∷ rs) r h (inl e) = let b = begins_strand k d q rs h in let it : InStrand k d q = record { key = b.key; from = b.from; some = b.some; short = b.short } in subst (λ x. InStrand k d x) (sym e) it
each_in_strand k d (q ∷ rs) r h (inr has) =
    let b = begins_strand k d q rs h in
    let i = each_in_strand k q.period.end rs r b.later has in
    let f = i.from in
    let g = b.from in
    let s = b.some in
    record { key = i.key; from = omega arith; some = i.some; short = i.short }

-- ---- one more, and fewer

or_left : (a b : Bool) → (a || b) ≡ false → a ≡ false
or_left true b h = absurd (both refl h)
or_left false b h = refl

or_both : (a b : Bool) → (a || b) ≡ false → b ≡ false
or_both true b h = absurd (both refl h)
or_both false b h = h

pub clash_here : (k : List Value) (p : Period) (r : Row) → r.key ≡ k → r.period.start < p.end → p.start < r.period.end → clashes k p r ≡ true
clash_here k p r key a b = and_from _ _ (and_from _ _ (subst (λ l. same_key r.key l ≡ true) key (same_key-itself r.key)) (lt-ltb r.period.start p.end a)) (lt-ltb p.start r.period.end b)

pub put_in_strand : (k : List Value) (d : ℕ) (row : Row) (rs : List Row) → row.key ≡ k → d ≤ row.period.start → row.period.start < row.period.end → row.period.end ≤ days → list_any (clashes k row.period) rs ≡ false → in_strand k d rs ≡ true → in_strand k d (with_row row rs) ≡ true
put_in_strand k d row [] key from some short clear h = strand_begins k d row [] key from some short refl
put_in_strand k d row (r ∷ rs) key from some short clear h =
    let b = begins_strand k d r rs h in
    let apart = or_left _ _ clear in
    let other = b.some in
    elim (cases_lt r.period.start row.period.start) [
      | inl l ↦ rw (lt-ltb r.period.start row.period.start l) (strand_begins k d r (with_row row rs) b.key b.from b.some b.short (elim (cases_lt row.period.start r.period.end) [
        | inl m ↦ absurd (both (clash_here k row.period r b.key (omega arith) m) apart)
        | inr g ↦ put_in_strand k r.period.end row rs key g some short (or_both _ _ clear) b.later
      ]))
      | inr g ↦ rw (le-ltb r.period.start row.period.start g) (strand_begins k d row (r ∷ rs) key from some short (elim (cases_lt r.period.start row.period.end) [
        | inl m ↦ absurd (both (clash_here k row.period r b.key m (omega arith)) apart)
        | inr n ↦ strand_begins k row.period.end r rs b.key n b.some b.short b.later
      ]))
    ]

pub filter_in_strand : (p : Row → Bool) (k : List Value) (d : ℕ) (rs : List Row) → in_strand k d rs ≡ true → in_strand k d (filter p rs) ≡ true
filter_in_strand p k d [] h = refl
filter_in_strand p k d (r ∷ rs) h =
    let b = begins_strand k d r rs h in
    let f = b.from in
    let s = b.some in
    elim (cases_Bool (p r)) [
      | inl y ↦ rw y (strand_begins k d r (filter p rs) b.key b.from b.some b.short (filter_in_strand p k r.period.end rs b.later))
      | inr n ↦ rw n (filter_in_strand p k d rs (strand_earlier k d r.period.end rs (omega arith) b.later))
    ]

-- ---- what UPDATE and DELETE leave

if_in_strand : (k : List Value) (d s e : ℕ) (row : Row) (rs : List Row) → (s < e → in_strand k d (row ∷ rs) ≡ true) → (e ≤ s → in_strand k d rs ≡ true) → in_strand k d (if_days s e row ++ rs) ≡ true
if_in_strand k d s e row rs f g' = elim (cases_lt s e) [
  | inl l ↦ rw (lt-ltb s e l) (f l)
  | inr g ↦ rw (le-ltb s e g) (g' g)
]

module _ (k : List Value) (d : ℕ) (r : Row) (rs : List Row) (p : Period) (t : ℕ) (key : r.key ≡ k) (from : d ≤ r.period.start) (some : r.period.start < r.period.end) (short : r.period.end ≤ days) (later : in_strand k r.period.end rs ≡ true) where
  end_in_strand : (c : ℕ) → c ≤ p.end → c ≤ r.period.end → in_strand k c (if_days p.end r.period.end (part r p.end r.period.end r.values t) ++ rs) ≡ true
  end_in_strand c a b = if_in_strand k c p.end r.period.end (part r p.end r.period.end r.values t) rs
      (λ l. strand_begins k c (part r p.end r.period.end r.values t) rs key a l short later)
      (λ g. strand_earlier k c r.period.end rs b later)

  rest_in_strand : r.period.start < p.end → p.start < r.period.end → p.start ≤ p.end → in_strand k d (rest p t r ++ rs) ≡ true
  rest_in_strand x y z = rw (append_assoc (if_days r.period.start p.start (part r r.period.start p.start r.values t)) (if_days p.end r.period.end (part r p.end r.period.end r.values t)) rs)
      (if_in_strand k d r.period.start p.start (part r r.period.start p.start r.values t) _
      (λ l. strand_begins k d (part r r.period.start p.start r.values t) _ key from l (omega arith) (end_in_strand p.start z (omega arith)))
      (λ g. end_in_strand d (omega arith) (omega arith)))

  pieces_in_strand : (set : List Value → Option (List Value)) → r.period.start < p.end → p.start < r.period.end → p.start < p.end → in_strand k d (pieces p set t r ++ rs) ≡ true
  pieces_in_strand set x y z =
      let mid : Row = part r (max r.period.start p.start) (min r.period.end p.end) (unwrap_or (set r.values) r.values) t in
      let after : List Row = if_days p.end r.period.end (part r p.end r.period.end r.values t) in
      let there : (c : ℕ) → c ≤ max r.period.start p.start → in_strand k c (mid ∷ (after ++ rs)) ≡ true =
      λ c a. strand_begins k c mid (after ++ rs) key a (omega arith) (omega arith) (end_in_strand (min r.period.end p.end) (omega arith) (omega arith)) in
      rw (append_assoc (if_days r.period.start p.start (part r r.period.start p.start r.values t)) (mid ∷ after) rs)
      (if_in_strand k d r.period.start p.start (part r r.period.start p.start r.values t) (mid ∷ (after ++ rs))
      (λ l. strand_begins k d (part r r.period.start p.start r.values t) (mid ∷ (after ++ rs)) key from l (omega arith) (there p.start (omega arith)))
      (λ g. there d (omega arith)))

-- the portion of an action has a day
abbrev pub HasPortion : Action → Type 0
HasPortion (Insert key values p) = Unit {0}
HasPortion (Update passes p set) = p.start < p.end
HasPortion (Delete passes p) = p.start < p.end

overlap : (passes : Row → Bool) (p : Period) (r : Row) → meets passes p r ≡ true → (r.period.start < p.end) × (p.start < r.period.end)
overlap passes p r h = let ps = and_parts _ _ h in let qs = and_parts _ _ ps.0 in (ltb-true _ _ qs.1, ltb-true _ _ ps.1)

made_in_strand : (c : Action) (t : ℕ) (k : List Value) (d : ℕ) (r : Row) (rs : List Row) → HasPortion c → is_met c r ≡ true → r.key ≡ k → d ≤ r.period.start → r.period.start < r.period.end → r.period.end ≤ days → in_strand k r.period.end rs ≡ true → in_strand k d (made c t r ++ rs) ≡ true
made_in_strand (Insert key' values p) t k d r rs fine met key from some short later = absurd (both met refl)
made_in_strand (Update passes p set) t k d r rs fine met key from some short later = let o = overlap passes p r met in pieces_in_strand k d r rs p t key from some short later set o.0 o.1 fine
made_in_strand (Delete passes p) t k d r rs fine met key from some short later = let o = overlap passes p r met in rest_in_strand k d r rs p t key from some short later o.0 o.1 (omega arith)

kept_in_strand : (c : Action) (t : ℕ) (k : List Value) (d : ℕ) (r : Row) (rs : List Row) → HasPortion c → r.key ≡ k → d ≤ r.period.start → r.period.start < r.period.end → r.period.end ≤ days → in_strand k r.period.end rs ≡ true → in_strand k d (kept c t r ++ rs) ≡ true
kept_in_strand c t k d r rs fine key from some short later = elim (cases_Bool (is_met c r)) [
  | inl y ↦ rw y (made_in_strand c t k d r rs fine y key from some short later)
  | inr n ↦ rw n (strand_begins k d r rs key from some short later)
]

pub correction_in_strand : (c : Action) (t : ℕ) (k : List Value) (d : ℕ) (rs : List Row) → HasPortion c → in_strand k d rs ≡ true → in_strand k d (flat_map (kept c t) rs) ≡ true
correction_in_strand c t k d [] fine h = refl
correction_in_strand c t k d (r ∷ rs) fine h =
    let b = begins_strand k d r rs h in
    kept_in_strand c t k d r (flat_map (kept c t) rs) fine b.key b.from b.some b.short (correction_in_strand c t k r.period.end rs fine b.later)
