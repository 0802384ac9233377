-- Rows taken out of a table, and rows put back.
use Rattle.std.proofs.Common.{◌≡◌, ◌+◌, Bool, true, false, not, List, [], ◌∷◌, ◌++◌, filter, length, refl, sym, ap, ◌∙◌, subst, inl, inr, arith, ◌⊎◌, max}
use Rattle.std.proofs.lemmas.Bool.{cases_Bool, and_parts, ltb-true, not-true, not_from_false}
use Rattle.std.specs.BTreeMap.{IsOrdered}
use Rattle.std.specs.List.{list_any}
use Rattle.model.specs.Values.{same_key, key_cmp}
use Rattle.model.specs.Tables.{Row, IsRow}
use Rattle.rowlaws.specs.Rows.{Has, Apart}
use Rattle.rowlaws.specs.Changes.{clashes}
use Rattle.rowlaws.specs.Touching.{same_row, rows_without}
use Rattle.rowlaws.proofs.Keys.{same_key-true, same_key-itself}
use Rattle.rowlaws.proofs.Members.{has_filter, filter_has, has_left, has_right, has_cases}
use Rattle.rowlaws.proofs.RowFacts.{both, one_row}
use Rattle.rowlaws.proofs.Anys.{any_has, has_any}
use Rattle.current.specs.ByKey.{Strands, Map, strands_of, rows_in, with_strand}
use Rattle.current.specs.Table.{IsWithout, IsWith, CanPut, CanUndo, IsJoined, HaveSame}
use Rattle.current.proofs.InStrand.{filter_in_strand}
use Rattle.current.proofs.Moves.{InStrands, In, with_in_strands, with_here, with_other}
use Rattle.current.proofs.Sorted.{in_its_strand, in_all, map_sorted, apart_sorted, same_length}
use Rattle.rowlaws.proofs.SameRow.{same_row-true, same_row-itself, without_has, has_without}

abbrev keep : Row → Row → Bool
keep row r = not (same_row r row)

module _ (row : Row) (strands more : Strands) (e : more ≡ with_strand row.key (filter (keep row) (strands row.key)) strands) where
  here_is : (r : Row) → same_key row.key r.key ≡ true → more r.key ≡ filter (keep row) (strands r.key)
  here_is r same =
      let key = same_key-true row.key r.key same in
      ap (λ l. l r.key) e ∙ subst (λ k. with_strand row.key (filter (keep row) (strands row.key)) strands k ≡ filter (keep row) (strands k)) key (with_here row.key (filter (keep row) (strands row.key)) strands)

  other_is : (r : Row) → same_key row.key r.key ≡ false → more r.key ≡ strands r.key
  other_is r other = ap (λ l. l r.key) e ∙ with_other row.key (filter (keep row) (strands row.key)) strands r.key other

  pub was_in : (r : Row) → In more r → In strands r × (r ≡ row → ⊥)
  was_in r h = elim (cases_Bool (same_key row.key r.key)) [
    | inl same ↦
        let f = filter_has (keep row) (strands r.key) r (subst (λ rs. Has rs r) (here_is r same) h) in
        (f.0, λ i. both (subst (λ x. same_row r x ≡ true) i (same_row-itself r)) (not-true _ f.1))
    | inr other ↦
        (subst (λ rs. Has rs r) (other_is r other) h, λ i. both (subst (λ x. same_key row.key x.key ≡ true) (sym i) (same_key-itself row.key)) other)
  ]

  pub stays_in : (r : Row) → In strands r → (r ≡ row → ⊥) → In more r
  stays_in r h n = elim (cases_Bool (same_key row.key r.key)) [
    | inl same ↦
        let apart : same_row r row ≡ false = elim (cases_Bool (same_row r row)) [ inl y ↦ absurd (n (same_row-true r row y)) | inr f ↦ f ] in
        subst (λ rs. Has rs r) (sym (here_is r same)) (has_filter (keep row) (strands r.key) r h (not_from_false _ apart))
    | inr other ↦ subst (λ rs. Has rs r) (sym (other_is r other)) h
  ]

pub take_in_strands : (row : Row) (strands more : Strands) → more ≡ with_strand row.key (filter (λ r. not (same_row r row)) (strands row.key)) strands → InStrands strands → InStrands more
take_in_strands row strands more e h = with_in_strands row.key (filter (keep row) (strands row.key)) strands more e h (filter_in_strand (keep row) row.key 0 (strands row.key) (h row.key))

module _ (m n : Map) (om : IsOrdered key_cmp m) (on : IsOrdered key_cmp n) (im : InStrands (strands_of m)) (in' : InStrands (strands_of n)) (row : Row) (e : strands_of n ≡ with_strand row.key (filter (λ r. not (same_row r row)) (strands_of m row.key)) (strands_of m)) where
  pub row_taken : IsWithout (row ∷ []) (rows_in m.entries) (rows_in n.entries)
  row_taken r = (
    (λ h. let w = was_in row (strands_of m) (strands_of n) e r (in_its_strand n on in' r h) in (in_all m om im r.key r w.0, λ i. elim i [ inl j ↦ w.1 j | inr z ↦ z ])),
    (λ h. in_all n on in' r.key r (stays_in row (strands_of m) (strands_of n) e r (in_its_strand m om im r h.0) (λ i. h.1 (inl i)))),
  )

  pub length_taken : Has (rows_in m.entries) row → length (rows_in m.entries) ≡ length (rows_in n.entries) + 1
  length_taken there =
      let out : Has (rows_in n.entries) row → ⊥ = λ h. ((row_taken row).0 h).1 (inl refl) in
      let apart : Apart (row ∷ rows_in n.entries) = (out, apart_sorted _ (map_sorted n on in')) in
      let to : (r : Row) → Has (rows_in m.entries) r → Has (row ∷ rows_in n.entries) r = λ r h. elim (cases_Bool (same_row r row)) [
        | inl y ↦ inl (same_row-true r row y)
        | inr f ↦ inr ((row_taken r).1 (h, λ i. elim i [ inl j ↦ both (subst (λ x. same_row r x ≡ true) j (same_row-itself r)) f | inr z ↦ z ]))
      ] in
      let from : (r : Row) → Has (row ∷ rows_in n.entries) r → Has (rows_in m.entries) r = λ r h. elim h [ inl i ↦ subst (λ x. Has (rows_in m.entries) x) (sym i) there | inr g ↦ ((row_taken r).0 g).0 ] in
      let same : length (rows_in m.entries) ≡ length (row ∷ rows_in n.entries) = same_length (rows_in m.entries) (row ∷ rows_in n.entries) (apart_sorted _ (map_sorted m om im)) apart to from in
      omega arith

-- a row that is not there is taken out
pub not_there : (row : Row) (rows : List Row) → (Has rows row → ⊥) → IsWithout (row ∷ []) rows rows
not_there row rows h r = ((λ g. (g, λ i. elim i [ inl j ↦ h (subst (λ x. Has rows x) j g) | inr z ↦ z ])), (λ g. g.0))

pub in_strand_there : (m : Map) (om : IsOrdered key_cmp m) (im : InStrands (strands_of m)) (row : Row) (b : Bool) → list_any (same_row row) (strands_of m row.key) ≡ b → b ≡ true → Has (rows_in m.entries) row
in_strand_there m om im row b h y =
    let x = any_has (same_row row) (strands_of m row.key) (h ∙ y) in
    in_all m om im row.key row (subst (λ r. Has (strands_of m row.key) r) (sym (same_row-true row x.0 x.2)) x.1)

pub not_in_strand : (m : Map) (om : IsOrdered key_cmp m) (im : InStrands (strands_of m)) (row : Row) → list_any (same_row row) (strands_of m row.key) ≡ false → Has (rows_in m.entries) row → ⊥
not_in_strand m om im row h there = both (has_any (same_row row) (strands_of m row.key) row (in_its_strand m om im row there) (same_row-itself row)) h

-- ---- one after another

-- taken from the rows, those to come and the row after them are as those to come taken from what is left
pub take_more : (row : Row) (left rest rows now more : List Row) (all : List Row) → left ≡ rest ++ row ∷ [] → IsWithout (row ∷ []) now more → ((r : Row) → (Has now r × (Has left r → ⊥) → Has rows r × (Has all r → ⊥)) × (Has rows r × (Has all r → ⊥) → Has now r × (Has left r → ⊥)))
    → (r : Row) → (Has more r × (Has rest r → ⊥) → Has rows r × (Has all r → ⊥)) × (Has rows r × (Has all r → ⊥) → Has more r × (Has rest r → ⊥))
take_more row left rest rows now more all parts step h r = (
  (λ g. let w = (step r).0 g.0 in (h r).0 (w.0, λ i. elim (has_cases rest (row ∷ []) r (subst (λ rs. Has rs r) parts i)) [ inl k ↦ g.1 k | inr j ↦ w.1 j ])),
  (λ g. let w = (h r).1 g in ((step r).1 (w.0, λ j. w.1 (subst (λ rs. Has rs r) (sym parts) (has_right rest (row ∷ []) r j))), λ k. w.1 (subst (λ rs. Has rs r) (sym parts) (has_left rest (row ∷ []) r k)))),
)

pub put_clear : (row : Row) (rest rows : List Row) → CanPut rows (row ∷ rest) → list_any (clashes row.key row.period) rows ≡ false
put_clear row rest rows c = elim (cases_Bool (list_any (clashes row.key row.period) rows)) [
  | inl y ↦ absurd (meets y)
  | inr n ↦ n
]
  where
    meets : list_any (clashes row.key row.period) rows ≡ true → ⊥
    meets y =
        let x = any_has (clashes row.key row.period) rows y in
        let ps = and_parts _ _ x.2 in
        let qs = and_parts _ _ ps.0 in
        let a = ltb-true _ _ qs.1 in
        let b = ltb-true _ _ ps.1 in
        let key = same_key-true x.0.key row.key qs.0 in
        let p : IsRow c.0 x.0 = c.1 x.0 (inl x.1) in
        let q : IsRow c.0 row = c.1 row (inr (inl refl)) in
        let s = p.some in
        let t = q.some in
        let d = max x.0.period.start row.period.start in
        let same : x.0 ≡ row = one_row p q row.key d (record { key = key; from = omega arith; before = omega arith }) (record { key = refl; from = omega arith; before = omega arith }) in
        c.3 row (inl refl) (subst (λ z. Has rows z) same x.1)

pub put_more : (row : Row) (rest rows more : List Row) → CanPut rows (row ∷ rest) → IsWith row rows more → CanPut more rest
put_more row rest rows more c w = (
  c.0,
  (λ r h. c.1 r (elim h [ inl m ↦ elim ((w r).0 m) [ inl a ↦ inl a | inr i ↦ inr (inl i) ] | inr k ↦ inr (inr k) ])),
  c.2.1,
  (λ r k m. elim ((w r).0 m) [ inl a ↦ c.3 r (inr k) a | inr i ↦ c.2.0 (subst (λ x. Has rest x) i k) ]),
)

pub join_more : (row : Row) (rest now more old all : List Row) → IsWith row now more → ((r : Row) → (Has now r ⊎ Has (row ∷ rest) r → Has old r ⊎ Has all r) × (Has old r ⊎ Has all r → Has now r ⊎ Has (row ∷ rest) r)) → (r : Row) → (Has more r ⊎ Has rest r → Has old r ⊎ Has all r) × (Has old r ⊎ Has all r → Has more r ⊎ Has rest r)
join_more row rest now more old all w h r = (
  (λ g. (h r).0 (elim g [ inl m ↦ elim ((w r).0 m) [ inl a ↦ inl a | inr i ↦ inr (inl i) ] | inr k ↦ inr (inr k) ])),
  (λ g. elim ((h r).1 g) [ inl a ↦ inl ((w r).1 (inl a)) | inr k ↦ elim k [ inl i ↦ inl ((w r).1 (inr i)) | inr l ↦ inr l ] ]),
)

-- ---- undone

pub can_put : (rows removed added now : List Row) → CanUndo rows removed added → IsWithout added rows now → CanPut now removed
can_put rows removed added now (old, new, before, l, m, i) w = (
  old,
  (λ r h. elim h [
    | inl a ↦ let b = (w r).0 a in elim (i.comes r (m.each r b.0)) [ inl o ↦ o | inr c ↦ absurd (b.1 c) ]
    | inr g ↦ (i.went r g).0
  ]),
  i.removed_once,
  (λ r g a. (i.went r g).1 (m.each r ((w r).0 a).0)),
)

pub undone_rows : (rows removed added now more : List Row) → IsWithout added rows now → IsJoined removed now more → HaveSame (rows_without rows added ++ removed) more
undone_rows rows removed added now more w j r = (
  (λ h. elim ((j r).0 h) [
    | inl a ↦ let b = (w r).0 a in has_left (rows_without rows added) removed r (has_without rows added r b.0 b.1)
    | inr g ↦ has_right (rows_without rows added) removed r g
  ]),
  (λ h. (j r).1 (elim (has_cases (rows_without rows added) removed r h) [
    | inl a ↦ inl ((w r).1 (without_has rows added r a))
    | inr g ↦ inr g
  ])),
)
