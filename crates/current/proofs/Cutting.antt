-- What is planned for strands, and what the planned strands come to.
use Rattle.std.proofs.Common.{◌≡◌, ℕ, Bool, true, false, ◌||◌, List, [], ◌∷◌, map, flat_map, refl, sym, ap, ◌∙◌, subst, inl, inr, ◌⊎◌}
use Rattle.std.proofs.lemmas.Bool.{cases_Bool}
use Rattle.std.specs.List.{list_any}
use Rattle.std.specs.Prelude.{fold}
use Rattle.model.specs.declared.value.Value.{Value}
use Rattle.model.specs.Values.{same_key}
use Rattle.model.specs.Tables.{Row}
use Rattle.model.specs.Transactions.{Action}
use Rattle.rowlaws.specs.Rows.{Has}
use Rattle.rowlaws.proofs.Keys.{same_key-true, same_key-itself}
use Rattle.rowlaws.proofs.RowFacts.{both}
use Rattle.current.specs.declared.plan.Strand.{Strand}
use Rattle.current.specs.declared.row.Row.{Row as Declared}
use Rattle.current.specs.Rows.{row_of}
use Rattle.current.specs.Corrections.{is_met, is_stuck, kept, removed_at, added_at}
use Rattle.current.specs.ByKey.{Strands}
use Rattle.current.specs.Plans.{instead, with_planned, ArePlanned}
use Rattle.current.proofs.Walks.{unmet_in_range}

-- ---- a strand in which no row is met

pub record Unmet (c : Action) (t : ℕ) (rows : List Row) : Type 0 where
  pub kept_all : flat_map (kept c t) rows ≡ rows
  pub removed_none : flat_map (removed_at c t) rows ≡ []
  pub added_none : flat_map (added_at c t) rows ≡ []
  pub in_range : list_any (is_stuck c) rows ≡ false

pub parts_or : (a b : Bool) → (a || b) ≡ false → (a ≡ false) × (b ≡ false)
parts_or true b h = absurd (both refl h)
parts_or false b h = (refl, h)

pub unmet : (c : Action) (t : ℕ) (rows : List Declared) → list_any (λ r. is_met c (row_of r)) rows ≡ false → Unmet c t (map row_of rows)
unmet c t [] h = record { kept_all = refl; removed_none = refl; added_none = refl; in_range = refl }
unmet c t (r ∷ rows) h =
    let p = parts_or _ _ h in
    let u = unmet c t rows p.1 in
    record {
      kept_all = rw p.0 (ap (λ rs. row_of r ∷ rs) u.kept_all);
      removed_none = rw p.0 u.removed_none;
      added_none = rw p.0 u.added_none;
      in_range = rw (unmet_in_range c (row_of r) p.0) u.in_range;
    }

-- ---- the strands after those that are planned

module _ (c : Action) (t : ℕ) (old : Strands) where
  abbrev after : List Value → List Row
  after k = flat_map (kept c t) (old k)

  none_after : (k : List Value) (rows : List Row) → rows ≡ [] → flat_map (kept c t) rows ≡ []
  none_after k rows h = rw h refl

  instead_after : (k : List Value) (now more : List Row) → (now ≡ old k) ⊎ (now ≡ after k) → more ≡ after k → instead now more ≡ after k
  instead_after k [] more (inl e) h = sym (none_after k (old k) (sym e))
  instead_after k [] more (inr e) h = e
  instead_after k (r ∷ rs) more e h = h

  pub planned_strands : (plan : List Strand) (strands : Strands) → ((k : List Value) → (strands k ≡ old k) ⊎ (strands k ≡ after k)) → ((p : Strand) → Has plan p → map row_of p.rows.items ≡ after p.key) → (k : List Value) → ((p : Strand) × Has plan p × (p.key ≡ k)) ⊎ (strands k ≡ after k) → fold with_planned strands plan k ≡ after k
  planned_strands [] strands from each k (inl none) = absurd none.1
  planned_strands [] strands from each k (inr e) = e
  planned_strands (p ∷ plan) strands from each k which = planned_strands plan (with_planned strands p) next (λ q h. each q (inr h)) k (later which)
    where
      here : with_planned strands p p.key ≡ after p.key
      here = rw (same_key-itself p.key) (instead_after p.key (strands p.key) (map row_of p.rows.items) (from p.key) (each p (inl refl)))

      same_here : (l : List Value) → same_key p.key l ≡ true → with_planned strands p l ≡ after l
      same_here l same = subst (λ m. with_planned strands p m ≡ after m) (same_key-true p.key l same) here

      next : (l : List Value) → (with_planned strands p l ≡ old l) ⊎ (with_planned strands p l ≡ after l)
      next l = elim (cases_Bool (same_key p.key l)) [
        | inl same ↦ inr (same_here l same)
        | inr other ↦ rw other (from l)
      ]

      still : strands k ≡ after k → with_planned strands p k ≡ after k
      still e = elim (cases_Bool (same_key p.key k)) [
        | inl same ↦ same_here k same
        | inr other ↦ rw other e
      ]

      later : ((q : Strand) × Has (p ∷ plan) q × (q.key ≡ k)) ⊎ (strands k ≡ after k) → ((q : Strand) × Has plan q × (q.key ≡ k)) ⊎ (with_planned strands p k ≡ after k)
      later (inr e) = inr (still e)
      later (inl w) = elim w.1 [
        | inl e ↦ inr (subst (λ m. with_planned strands p m ≡ after m) (ap (λ q. q.key) (sym e) ∙ w.2) here)
        | inr h ↦ inl (w.0, h, w.2)
      ]

  pub all_planned : (plan : List Strand) → ArePlanned c t old plan → (k : List Value) → fold with_planned old plan k ≡ after k
  all_planned plan h k = planned_strands plan old (λ l. inl refl) h.0 k (elim (h.1 k) [ inl p ↦ inl p | inr e ↦ inr (sym e) ])
