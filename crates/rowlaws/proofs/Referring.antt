-- There is no first orphan exactly where the references hold.
use Rattle.std.proofs.Common.{◌≡◌, ℕ, ◌<◌, inl, inr, ◌↔◌, Bool, true, false, cond, not, ◌&&◌, ◌==◌, List, [], ◌∷◌, map, flat_map, Option, Some, None, is_some, refl, sym, ap, ◌∙◌, subst, arith}
use Rattle.std.specs.Prelude.{find}
use Rattle.std.specs.List.{range_with_len}
use Rattle.std.proofs.lemmas.Bool.{cases_Bool, and_parts, and_from, eq-eqb, eqb-true, not-true, not_from_false}
use Rattle.model.specs.declared.value.Value.{Value}
use Rattle.model.specs.Tables.{days, Fact}
use Rattle.rowlaws.specs.Rows.{Has}
use Rattle.model.specs.Transactions.{State, Language, Reference, Place, lacks, is_orphan, places, first_orphan}
use Rattle.rowlaws.specs.Statements.{Rows, AllListed}
use Rattle.rowlaws.specs.Covering.{ReferencesHold}
use Rattle.rowlaws.proofs.Members.{has_map, map_has, has_flat, flat_has, has_range, range_has}
use Rattle.rowlaws.proofs.RowFacts.{both}
use Rattle.rowlaws.proofs.Anys.{any_has, has_any}

find_none : {A : Type 0} (f : A → Bool) (xs : List A) → find f xs ≡ None → (x : A) → Has xs x → f x ≡ false
find_none f [] h x g = absurd g
find_none f (y ∷ xs) h x g = elim (cases_Bool (f y)) [
  | inl t ↦ let q : Some y ≡ None = subst (λ b. cond b (Some y) (find f xs) ≡ None) t h in absurd (cc)
  | inr n ↦ elim g [ inl e ↦ subst (λ z. f z ≡ false) (sym e) n | inr i ↦ find_none f xs (subst (λ b. cond b (Some y) (find f xs) ≡ None) n h) x i ]
]

none_find : {A : Type 0} (f : A → Bool) (xs : List A) → ((x : A) → Has xs x → f x ≡ false) → find f xs ≡ None
none_find f [] h = refl
none_find f (y ∷ xs) h = rw (h y (inl refl)) (none_find f xs (λ x g. h x (inr g)))

abbrev lacked : State → Reference → Place → Option Fact → Bool
lacked state f p o = elim o [ Some c ↦ f.child == p.table && not (is_some ((state f.parent).fact (f.refers p.key c.values) p.day)) | None ↦ false ]

lacks_at : (state : State) (f : Reference) (p : Place) (o : Option Fact) → (state p.table).fact p.key p.day ≡ o → lacks state p f ≡ lacked state f p o
lacks_at state f p o e = ap (lacked state f p) e

module _ (language : Language) (all : Rows) (state : State) (l : AllListed all state) where
  here : (n : ℕ) → n < language.tables → (k : List Value) (d : ℕ) (c : Fact) → (state n).fact k d ≡ Some c → Has (places language state) (record { table = n; key = k; day = d })
  here n lt k d c e =
      let r = (l n).every k d c e in
      let key : Has (state n).keys k = subst (λ m. Has (state n).keys m) r.2 ((l n).keyed r.0 r.1) in
      let short = (l n).within r.0 r.1 in
      let before = r.4 in
      let of_key : List Value → List Place = λ k. map (λ d. record { table = n; key = k; day = d }) (range_with_len 0 days) in
      has_flat (λ n. flat_map (λ k. map (λ d. record { table = n; key = k; day = d }) (range_with_len 0 days)) (state n).keys) (range_with_len 0 language.tables) n _ (has_range 0 language.tables n (omega arith) (omega arith))
      (has_flat of_key (state n).keys k _ key (has_map (λ d. record { table = n; key = k; day = d }) (range_with_len 0 days) d (has_range 0 days d (omega arith) (omega arith))))

  place_table : (p : Place) → Has (places language state) p → p.table < language.tables
  place_table p h =
      let n = flat_has (λ n. flat_map (λ k. map (λ d. record { table = n; key = k; day = d }) (range_with_len 0 days)) (state n).keys) (range_with_len 0 language.tables) p h in
      let e : p.table ≡ n.0 = of_table n.0 p n.2 in
      let r = (range_has 0 language.tables n.0 n.1).1 in
      omega arith
    where
      of_key : (n : ℕ) (k : List Value) (p : Place) → Has (map (λ d. record { table = n; key = k; day = d }) (range_with_len 0 days)) p → p.table ≡ n
      of_key n k p h = let d = map_has (λ d. record { table = n; key = k; day = d }) (range_with_len 0 days) p h in ap (λ (x : Place). x.table) {y = record { table = n; key = k; day = d.0 }} d.2

      of_table : (n : ℕ) (p : Place) → Has (flat_map (λ k. map (λ d. record { table = n; key = k; day = d }) (range_with_len 0 days)) (state n).keys) p → p.table ≡ n
      of_table n p h =
          let k = flat_has (λ k. map (λ d. record { table = n; key = k; day = d }) (range_with_len 0 days)) (state n).keys p h in
          of_key n k.0 p k.2

  hold_from : first_orphan language state ≡ None → ReferencesHold language state
  unfolding first_orphan
  hold_from h f g lt k d c e =
      let p : Place = record { table = f.child; key = k; day = d } in
      let miss : is_orphan language state p ≡ false = find_none (is_orphan language state) (places language state) h p (here f.child lt k d c e) in
      elim (cases_Bool (is_some ((state f.parent).fact (f.refers k c.values) d))) [
        | inl y ↦ y
        | inr n ↦ absurd (both (has_any (lacks state p) language.references f g (lacks_at state f p (Some c) e ∙ and_from _ _ (eq-eqb f.child f.child refl) (not_from_false _ n))) miss)
      ]

  from_hold : ReferencesHold language state → first_orphan language state ≡ None
  unfolding first_orphan
  from_hold h = none_find (is_orphan language state) (places language state) (λ p g. elim (cases_Bool (is_orphan language state p)) [
    | inr n ↦ n
    | inl y ↦ let f = any_has (lacks state p) language.references y in absurd (by p g f.0 f.1 ((state p.table).fact p.key p.day) refl (sym (lacks_at state f.0 p ((state p.table).fact p.key p.day) refl) ∙ f.2))
  ])
    where
      by : (p : Place) → Has (places language state) p → (f : Reference) → Has language.references f → (o : Option Fact) → (state p.table).fact p.key p.day ≡ o → lacked state f p o ≡ true → ⊥
      by p g f m None e t = both t refl
      by p g f m (Some c) e t =
          let q = and_parts _ _ t in
          let child : f.child ≡ p.table = eqb-true f.child p.table q.0 in
          let lt = place_table p g in
          both (h f m (omega arith) p.key p.day c (subst (λ n. (state n).fact p.key p.day ≡ Some c) (sym child) e)) (not-true _ q.1)

  pub hold_is : first_orphan language state ≡ None ↔ ReferencesHold language state
  hold_is = (hold_from, from_hold)
