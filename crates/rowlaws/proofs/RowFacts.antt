-- Rows: two with a common day are one, and the search finds them.
use Rattle.std.proofs.Common.{◌≡◌, ℕ, zero, suc, ◌+◌, ◌<◌, ◌≤◌, inl, inr, Bool, true, false, List, Some, refl, sym, ap, ◌∙◌, subst, arith}
use Rattle.std.proofs.lemmas.Bool.{cases_lt, cases_order, true≢false}
use Rattle.model.specs.declared.value.Value.{Value}
use Rattle.model.specs.Tables.{days, Fact, Table, Row, IsRow, joined, first_day, end_day, row_at}

-- the day of the key lies in the row
pub record InRow (row : Row) (k : List Value) (d : ℕ) : Type 0 where
  pub key : row.key ≡ k
  pub from : row.period.start ≤ d
  pub before : d < row.period.end

pub both : {b : Bool} → b ≡ true → b ≡ false → ⊥
both h g = true≢false (sym h ∙ g)

joined_in : {table : Table} {r : Row} → IsRow table r → (k : List Value) (d : ℕ) → r.key ≡ k → r.period.start < d → d < r.period.end → joined table k d ≡ true
joined_in {table} row k d e a b = subst (λ l. joined table l d ≡ true) e (row.whole d a b)

starts_at : {table : Table} {r : Row} → IsRow table r → (k : List Value) (d : ℕ) → r.key ≡ k → r.period.start ≡ d → joined table k d ≡ false
starts_at {table} {r} row k d e a = subst (λ l. joined table l d ≡ false) e (subst (λ x. joined table r.key x ≡ false) a row.first)

not_before : {table : Table} {r s : Row} → IsRow table r → IsRow table s → (k : List Value) (d : ℕ) → InRow r k d → InRow s k d → r.period.start < s.period.start → ⊥
not_before {table} {r} {s} a b k d x y l =
    both (joined_in a k s.period.start x.key l (let h = x.before in let g = y.from in omega arith)) (starts_at b k s.period.start y.key refl)

not_longer : {table : Table} {r s : Row} → IsRow table r → IsRow table s → (k : List Value) (d : ℕ) → InRow r k d → InRow s k d → r.period.end < s.period.end → ⊥
not_longer {table} {r} {s} a b k d x y l =
    both (joined_in b k r.period.end y.key (let h = x.before in let g = y.from in omega arith) l) (subst (λ m. joined table m r.period.end ≡ false) x.key a.last)

neither : (m n : ℕ) → (m < n → ⊥) → (n < m → ⊥) → m ≡ n
neither m n f g = elim (cases_order m n) [ inl e ↦ e | inr l ↦ elim l [ inl a ↦ absurd (f a) | inr b ↦ absurd (g b) ] ]

some_inj : {A : Type 0} (x y : A) → Some x ≡ Some y → x ≡ y
some_inj x y h = cc

pub one_row : {table : Table} {r s : Row} → IsRow table r → IsRow table s → (k : List Value) (d : ℕ) → InRow r k d → InRow s k d → r ≡ s
one_row {table} {r} {s} a b k d x y =
    let key : r.key ≡ s.key = x.key ∙ sym y.key in
    let start = neither r.period.start s.period.start (not_before a b k d x y) (not_before b a k d y x) in
    let end = neither r.period.end s.period.end (not_longer a b k d x y) (not_longer b a k d y x) in
    let c : Fact = record { values = r.values; system_start = r.system_start } in
    let c' : Fact = record { values = s.values; system_start = s.system_start } in
    let fact : c ≡ c' = some_inj c c' (sym (a.filled d x.from x.before) ∙ ap (λ l. table.fact l d) key ∙ b.filled d y.from y.before) in
    λ i. record { key = key i; period = record { start = start i; end = end i }; values = (fact i).values; system_start = (fact i).system_start }

-- rows of one table with one key and start are one
pub one_place : (table : Table) (r s : Row) → IsRow table r → IsRow table s → r.key ≡ s.key → r.period.start ≡ s.period.start → r ≡ s
one_place table r s a b k e =
    let x = a.some in
    let y = b.some in
    one_row a b s.key s.period.start (record { key = k; from = omega arith; before = omega arith }) (record { key = refl; from = omega arith; before = y })

-- ---- the search for a row's ends

first_day_is : (join : ℕ → Bool) (s d : ℕ) → join s ≡ false → s ≤ d → ((x : ℕ) → s < x → x ≤ d → join x ≡ true) → first_day join d ≡ s
first_day_is join s zero stop le goes = omega arith
first_day_is join s (suc d) stop le goes = elim (cases_lt s (suc d)) [
  | inl l ↦ rw (goes (suc d) l (omega arith)) (first_day_is join s d stop (omega arith) (λ x a b. goes x a (omega arith)))
  | inr g ↦ let e : s ≡ suc d = omega arith in let f : join (suc d) ≡ false = subst (λ x. join x ≡ false) e stop in rw f (sym e)
]

end_day_is : (join : ℕ → Bool) (e more d : ℕ) → join e ≡ false → d < e → e ≤ d + more + 1 → ((x : ℕ) → d < x → x < e → join x ≡ true) → end_day join more d ≡ e
end_day_is join e zero d stop lt room goes = omega arith
end_day_is join e (suc more) d stop lt room goes = elim (cases_lt (d + 1) e) [
  | inl l ↦ rw (goes (d + 1) (omega arith) l) (end_day_is join e more (d + 1) stop l (omega arith) (λ x a b. goes x (omega arith) b))
  | inr g ↦ let q : e ≡ d + 1 = omega arith in let f : join (d + 1) ≡ false = subst (λ x. join x ≡ false) q stop in rw f (sym q)
]

pub row_at_is : {table : Table} {r : Row} → IsRow table r → r.period.end ≤ days → (k : List Value) (d : ℕ) → InRow r k d → row_at table k d ≡ Some r
unfolding row_at
row_at_is {table} {r} row short k d x =
    let from = x.from in
    let before = x.before in
    let start = first_day_is (joined table k) r.period.start d (starts_at row k r.period.start x.key refl) x.from (λ y a b. joined_in row k y x.key a (omega arith)) in
    let end = end_day_is (joined table k) r.period.end days d (subst (λ m. joined table m r.period.end ≡ false) x.key row.last) x.before (omega arith) (λ y a b. joined_in row k y x.key (omega arith) b) in
    let fact : table.fact k d ≡ Some (record { values = r.values; system_start = r.system_start }) = subst (λ m. table.fact m d ≡ Some (record { values = r.values; system_start = r.system_start })) x.key (row.filled d x.from x.before) in
    rw fact (λ i. Some (record { key = sym x.key i; period = record { start = start i; end = end i }; values = r.values; system_start = r.system_start }))
