-- Versions are kept by a transaction.
use Rattle.std.proofs.Common.{◌≡◌, ℕ, ◌+◌, ◌<◌, ◌≤◌, ◌⊎◌, inl, inr, ◌↔◌, true, ◌&&◌, List, map, Option, Some, None, refl, sym, ap, ◌∙◌, subst, arith}
use Rattle.std.specs.Prelude.{is_none}
use Rattle.std.specs.List.{list_any}
use Rattle.std.proofs.lemmas.Bool.{cases_lt, cases_Bool, and_parts, and_from, eq-eqb, eqb-true, cond-true, cond-false}
use Rattle.model.specs.Tables.{Table, Row, IsRow}
use Rattle.rowlaws.specs.Rows.{Has, Apart}
use Rattle.rowlaws.specs.Changes.{Follows}
use Rattle.rowlaws.specs.Touching.{IsTouched}
use Rattle.rowlaws.proofs.Keys.{same_key-true, same_key-itself}
use Rattle.rowlaws.proofs.Members.{has_left, has_right, has_cases, apart_append, apart_map, has_map, map_has}
use Rattle.rowlaws.proofs.RowFacts.{both, one_place}
use Rattle.rowlaws.proofs.Anys.{any_has, has_any}
use Rattle.versionlaws.specs.Versions.{Version, IsBefore, IsAlive, Keeps, Holds, HeldBefore, HeldOn, HeldKept}
use Rattle.versionlaws.specs.Committing.{is_at, ended, opened, committed, Commit}

-- ---- what is held

module _ (versions : List Version) (history : ℕ → Table) (bound : ℕ) (current : Table) (holds : Holds versions history bound current) where
  -- the versions that are alive at an instant from the bound on are those of the current rows
  alive_open : (u : ℕ) → bound ≤ u → (row : Row) → IsRow current row ↔ ((v : Version) × Has versions v × (v.row ≡ row) × IsAlive v u)
  alive_open u l row = (
    (λ h. let v = (holds.open_rows row).0 h in let b = holds.born v.0 v.1 in (v.0, v.1, v.2, (omega arith, subst (λ o. IsBefore u o) (sym v.3) tt))),
    (λ v. (holds.open_rows row).1 (v.0, v.1, v.2, still v.0 v.1 v.3.1)),
  )
    where
      by : (v : Version) → Has versions v → (o : Option ℕ) → v.end ≡ o → IsBefore u o → v.end ≡ None
      by v h None e b = e
      by v h (Some x) e b = let y = holds.over v x h e in absurd (omega arith)

      still : (v : Version) → Has versions v → IsBefore u v.end → v.end ≡ None
      still v h b = by v h v.end refl b

  kept_until : (now : ℕ) → ((u : ℕ) → bound ≤ u → u ≤ now → history u ≡ current) → Keeps versions history now
  kept_until now stays = record {
    rows = λ u le row. elim (cases_lt u bound) [
      | inl l ↦ holds.rows u l row
      | inr g ↦ subst (λ x. IsRow x row ↔ ((v : Version) × Has versions v × (v.row ≡ row) × IsAlive v u)) (sym (stays u g le)) (alive_open u g row)
    ];
    once = holds.once;
    lasts = holds.lasts;
  }

pub held_kept : HeldKept
held_kept versions history bound now current holds stays = kept_until versions history bound current holds now stays

pub held_before : HeldBefore
held_before versions history bound current row holds h = let v = (holds.open_rows row).0 h in subst (λ r. r.system_start < bound) v.2 (holds.born v.0 v.1)

pub held_on : HeldOn
held_on versions history later bound next current holds le before between = record {
  rows = λ u l row. elim (cases_lt u bound) [
    | inl b ↦ subst (λ x. IsRow x row ↔ ((v : Version) × Has versions v × (v.row ≡ row) × IsAlive v u)) (sym (before u b)) (holds.rows u b row)
    | inr g ↦ subst (λ x. IsRow x row ↔ ((v : Version) × Has versions v × (v.row ≡ row) × IsAlive v u)) (sym (between u g l)) (alive_open versions history bound current holds u g row)
  ];
  open_rows = holds.open_rows;
  apart = holds.apart;
  once = holds.once;
  lasts = holds.lasts;
  born = λ v h. let b = holds.born v h in omega arith;
  over = λ v e h q. let b = holds.over v e h q in omega arith;
}

-- ---- a commit

is_at-same : (table : Table) (a b : Row) → IsRow table a → IsRow table b → is_at a b ≡ true → a ≡ b
is_at-same table a b r s h = let p = and_parts _ _ h in one_place table a b r s (same_key-true a.key b.key p.0) (eqb-true _ _ p.1)

is_at-itself : (a b : Row) → a ≡ b → is_at a b ≡ true
is_at-itself a b e = subst (λ x. is_at a x ≡ true) e (and_from _ _ (same_key-itself a.key) (eq-eqb _ _ refl))

module _ (versions : List Version) (history later : ℕ → Table) (bound t : ℕ) (old new : Table) (removed added : List Row)
    (holds : Holds versions history bound old) (le : bound ≤ t)
    (before : (u : ℕ) → u < bound → later u ≡ history u) (between : (u : ℕ) → bound ≤ u → u < t → later u ≡ old) (now : later t ≡ new)
    (touch : IsTouched old new removed added) (follows : Follows t old new) where
  abbrev next : List Version
  next = committed t removed added versions

  new_system_start : (r : Row) → Has added r → r.system_start ≡ t
  new_system_start r h = let c = touch.came r h in elim (follows r c.0) [ inl o ↦ absurd (c.1 o) | inr e ↦ e ]

  -- a version of the new list was one of the old, or is a row that came
  split : (w : Version) → Has next w → ((v : Version) × Has versions v × (w ≡ ended t removed v)) ⊎ ((r : Row) × Has added r × (w ≡ opened r))
  unfolding committed
  split w h = elim (has_cases (map (ended t removed) versions) (map opened added) w h) [ inl a ↦ inl (map_has (ended t removed) versions w a) | inr b ↦ inr (map_has opened added w b) ]

  has_ended : (v : Version) → Has versions v → Has next (ended t removed v)
  unfolding committed
  has_ended v h = has_left (map (ended t removed) versions) (map opened added) (ended t removed v) (has_map (ended t removed) versions v h)

  has_opened : (r : Row) → Has added r → Has next (opened r)
  unfolding committed
  has_opened r h = has_right (map (ended t removed) versions) (map opened added) (opened r) (has_map opened added r h)

  -- what becomes of a version: it stays, or was open and its row is gone
  data Fate (v : Version) : Type 0 where
    stays : ended t removed v ≡ v → (v.end ≡ None → IsRow new v.row) → Fate v
    ends : ended t removed v ≡ record { row = v.row; end = Some t } → v.end ≡ None → (IsRow new v.row → ⊥) → Fate v

  open_row : (v : Version) → Has versions v → v.end ≡ None → IsRow old v.row
  open_row v h e = (holds.open_rows v.row).1 (v, h, refl, e)

  none_is : (o : Option ℕ) → is_none o ≡ true → o ≡ None
  none_is None h = refl
  none_is (Some e) h = absurd (both h refl)

  is_none_of : (o : Option ℕ) → o ≡ None → is_none o ≡ true
  is_none_of o e = ap is_none e

  fate : (v : Version) → Has versions v → Fate v
  fate v h = elim (cases_Bool (is_none v.end && list_any (is_at v.row) removed)) [
    | inl y ↦
        let p = and_parts _ _ y in
        let e = none_is v.end p.0 in
        let g = any_has (is_at v.row) removed p.1 in
        let removed_is = touch.went g.0 g.1 in
        let same = is_at-same old v.row g.0 (open_row v h e) removed_is.0 g.2 in
        ends (cond-true _ _ _ y) e (subst (λ x. IsRow new x → ⊥) (sym same) removed_is.1)
    | inr n ↦ stays (cond-false _ _ _ n) (λ e. elim (touch.stay v.row (open_row v h e)) [
      | inl r ↦ r
      | inr g ↦ absurd (both (and_from _ _ (is_none_of v.end e) (has_any (is_at v.row) removed v.row g (is_at-itself v.row v.row refl))) n)
    ])
  ]

  row_same : (v : Version) → Has versions v → (ended t removed v).row ≡ v.row
  row_same v h = elim (fate v h) [ stays e r ↦ ap (λ w. w.row) e | ends e o r ↦ ap (λ w. w.row) e ]

  -- ---- the current rows

  open_of : (row : Row) → IsRow new row → (w : Version) × Has next w × (w.row ≡ row) × (w.end ≡ None)
  open_of row h = elim (touch.comes row h) [
    | inr c ↦ (opened row, has_opened row c, refl, refl)
    | inl o ↦ let v = (holds.open_rows row).0 o in elim (fate v.0 v.1) [
      | stays e r ↦ (v.0, subst (λ w. Has next w) e (has_ended v.0 v.1), v.2, v.3)
      | ends e n r ↦ absurd (r (subst (λ x. IsRow new x) (sym v.2) h))
    ]
  ]

  row_of : (row : Row) → ((w : Version) × Has next w × (w.row ≡ row) × (w.end ≡ None)) → IsRow new row
  row_of row w = elim (split w.0 w.1) [
    | inr c ↦ subst (λ x. IsRow new x) (ap (λ x. x.row) (sym c.2) ∙ w.2) (touch.came c.0 c.1).0
    | inl a ↦ elim (fate a.0 a.1) [
      | stays e r ↦ subst (λ x. IsRow new x) (ap (λ x. x.row) (sym (a.2 ∙ e)) ∙ w.2) (r (ap (λ x. x.end) (sym (a.2 ∙ e)) ∙ w.3))
      | ends e n r ↦ let q : Some t ≡ None = ap (λ x. x.end) (sym (a.2 ∙ e)) ∙ w.3 in absurd (cc)
    ]
  ]

  -- ---- instants before

  -- at an instant before t an old version is alive as it was, and a new one is not yet
  alive_then : (u : ℕ) → u < t → (v : Version) → Has versions v → IsAlive v u → IsAlive (ended t removed v) u
  alive_then u l v h a = elim (fate v h) [
    | stays e r ↦ subst (λ w. IsAlive w u) (sym e) a
    | ends e n r ↦ let b = a.0 in subst (λ w. IsAlive w u) (sym e) (b, l)
  ]

  alive_back : (u : ℕ) → u < t → (v : Version) → Has versions v → IsAlive (ended t removed v) u → IsAlive v u
  alive_back u l v h a = elim (fate v h) [
    | stays e r ↦ subst (λ w. IsAlive w u) e a
    | ends e n r ↦ let b = (subst (λ w. IsAlive w u) e a).0 in (b, subst (λ o. IsBefore u o) (sym n) tt)
  ]

  rows_then : (u : ℕ) → u < t → (row : Row) → ((v : Version) × Has versions v × (v.row ≡ row) × IsAlive v u) ↔ ((w : Version) × Has next w × (w.row ≡ row) × IsAlive w u)
  rows_then u l row = (
    (λ v. (ended t removed v.0, has_ended v.0 v.1, row_same v.0 v.1 ∙ v.2, alive_then u l v.0 v.1 v.3)),
    (λ w. elim (split w.0 w.1) [
      | inl a ↦ (a.0, a.1, sym (row_same a.0 a.1) ∙ ap (λ x. x.row) (sym a.2) ∙ w.2, alive_back u l a.0 a.1 (subst (λ x. IsAlive x u) a.2 w.3))
      | inr c ↦ let b : c.0.system_start ≡ t = new_system_start c.0 c.1 in let f = (subst (λ x. IsAlive x u) c.2 w.3).0 in absurd (omega arith)
    ]),
  )

  -- ---- all together

  over_next : (w : Version) (e : ℕ) → Has next w → w.end ≡ Some e → e ≤ t
  over_next w e h q = elim (split w h) [
    | inr c ↦ let x : None ≡ Some e = ap (λ x. x.end) (sym c.2) ∙ q in absurd (cc)
    | inl a ↦ elim (fate a.0 a.1) [
      | stays s r ↦ let y = holds.over a.0 e a.1 (ap (λ x. x.end) (sym (a.2 ∙ s)) ∙ q) in omega arith
      | ends s n r ↦ let x : Some t ≡ Some e = ap (λ x. x.end) (sym (a.2 ∙ s)) ∙ q in let y : t ≡ e = cc in omega arith
    ]
  ]

  born_next : (w : Version) → Has next w → w.row.system_start ≤ t
  born_next w h = elim (split w h) [
    | inr c ↦ let b : c.0.system_start ≡ t = new_system_start c.0 c.1 in let r : w.row.system_start ≡ c.0.system_start = ap (λ x. x.row.system_start) c.2 in omega arith
    | inl a ↦ let b = holds.born a.0 a.1 in let r : w.row.system_start ≡ a.0.row.system_start = ap (λ x. x.row.system_start) a.2 ∙ ap (λ x. x.system_start) (row_same a.0 a.1) in omega arith
  ]

  at_t : (w : Version) → Has next w → IsAlive w t → w.end ≡ None
  at_t w h a = by w.end refl a.1
    where
      by : (o : Option ℕ) → w.end ≡ o → IsBefore t o → w.end ≡ None
      by None e b = e
      by (Some x) e b = let y = over_next w x h e in absurd (omega arith)

  rows_now : (row : Row) → IsRow new row ↔ ((w : Version) × Has next w × (w.row ≡ row) × IsAlive w t)
  rows_now row = (
    (λ h. let w = open_of row h in let b = born_next w.0 w.1 in (w.0, w.1, w.2, (b, subst (λ o. IsBefore t o) (sym w.3) tt))),
    (λ w. row_of row (w.0, w.1, w.2, at_t w.0 w.1 w.3)),
  )

  both_ways : {A B C : Type 0} → A ↔ B → B ↔ C → A ↔ C
  both_ways f g = ((λ a. g.0 (f.0 a)), (λ c. f.1 (g.1 c)))

  rows_next : (u : ℕ) → u < t + 1 → (row : Row) → IsRow (later u) row ↔ ((w : Version) × Has next w × (w.row ≡ row) × IsAlive w u)
  rows_next u l row = elim (cases_lt u bound) [
    | inl a ↦ subst (λ x. IsRow x row ↔ ((w : Version) × Has next w × (w.row ≡ row) × IsAlive w u)) (sym (before u a)) (both_ways (holds.rows u a row) (rows_then u (omega arith) row))
    | inr g ↦ elim (cases_lt u t) [
      | inl a ↦ subst (λ x. IsRow x row ↔ ((w : Version) × Has next w × (w.row ≡ row) × IsAlive w u)) (sym (between u g a)) (both_ways (alive_open versions history bound old holds u g row) (rows_then u a row))
      | inr b ↦ let e : t ≡ u = omega arith in subst (λ x. IsRow (later x) row ↔ ((w : Version) × Has next w × (w.row ≡ row) × IsAlive w x)) e (subst (λ x. IsRow x row ↔ ((w : Version) × Has next w × (w.row ≡ row) × IsAlive w t)) (sym now) (rows_now row))
    ]
  ]

  mixed : (a : Version) → Has versions a → (r : Row) → Has added r → a.row ≡ r → ⊥
  mixed a h r g e = let b = holds.born a h in let c : r.system_start ≡ t = new_system_start r g in let d : a.row.system_start ≡ r.system_start = ap (λ x. x.system_start) e in omega arith

  once_next : (v w : Version) → Has next v → Has next w → v.row ≡ w.row → v ≡ w
  once_next v w h g e = elim (split v h) [
    | inl a ↦ elim (split w g) [
      | inl b ↦ a.2 ∙ ap (ended t removed) (holds.once a.0 b.0 a.1 b.1 (sym (row_same a.0 a.1) ∙ ap (λ x. x.row) (sym a.2) ∙ e ∙ ap (λ x. x.row) b.2 ∙ row_same b.0 b.1)) ∙ sym b.2
      | inr d ↦ absurd (mixed a.0 a.1 d.0 d.1 (sym (row_same a.0 a.1) ∙ ap (λ x. x.row) (sym a.2) ∙ e ∙ ap (λ x. x.row) d.2))
    ]
    | inr c ↦ elim (split w g) [
      | inl b ↦ absurd (mixed b.0 b.1 c.0 c.1 (sym (row_same b.0 b.1) ∙ ap (λ x. x.row) (sym b.2) ∙ sym e ∙ ap (λ x. x.row) c.2))
      | inr d ↦ c.2 ∙ ap opened (ap (λ x. x.row) (sym c.2) ∙ e ∙ ap (λ x. x.row) d.2) ∙ sym d.2
    ]
  ]

  apart_next : Apart next
  unfolding committed
  apart_next = apart_append (map (ended t removed) versions) (map opened added)
      (apart_map (ended t removed) versions (λ v w h g e. holds.once v w h g (sym (row_same v h) ∙ ap (λ x. x.row) e ∙ row_same w g)) holds.apart)
      (apart_map opened added (λ r s h g e. ap (λ x. x.row) e) touch.added_once)
      (λ w h g. let a = map_has (ended t removed) versions w h in let c = map_has opened added w g in mixed a.0 a.1 c.0 c.1 (sym (row_same a.0 a.1) ∙ ap (λ x. x.row) (sym a.2) ∙ ap (λ x. x.row) c.2))

  pub holds_next : Holds next later (t + 1) new
  holds_next = record {
    rows = rows_next;
    open_rows = λ row. (open_of row, row_of row);
    apart = apart_next;
    once = once_next;
    lasts = λ w h. elim (split w h) [
      | inr c ↦ subst (λ x. IsBefore x.row.system_start x.end) (sym c.2) tt
      | inl a ↦ elim (fate a.0 a.1) [
        | stays e r ↦ subst (λ x. IsBefore x.row.system_start x.end) (sym (a.2 ∙ e)) (holds.lasts a.0 a.1)
        | ends e n r ↦ let b = holds.born a.0 a.1 in let f : a.0.row.system_start < t = omega arith in subst (λ x. IsBefore x.row.system_start x.end) (sym (a.2 ∙ e)) f
      ]
    ];
    born = λ w h. let b = born_next w h in omega arith;
    over = λ w e h q. let b = over_next w e h q in omega arith;
  }

pub commit_holds : Commit
commit_holds versions history later bound t old new removed added holds le before between now touch follows = holds_next versions history later bound t old new removed added holds le before between now touch follows
