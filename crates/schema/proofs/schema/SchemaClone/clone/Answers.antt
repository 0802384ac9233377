use Rattle.std.proofs.Common.{◌≡◌, ◌∙◌, sym, subst}
use Rattle.std.proofs.lemmas.Map.Entries.{entries_from_clone}
use Rattle.schema.specs.Sound.{AreSound}
use Rattle.schema.proofs.schema.SchemaClone.clone.Goals as goal

pub invariant_of-result : goal.invariant_of-result
invariant_of-result c =
    let same : c.in_ok-tables.tables.entries ≡ c.self.inside.tables.entries = entries_from_clone _ _ (λ x y h. h) (λ v w h. h) _ _ c.in_ok-tables.ensures.cases in
    subst AreSound (sym same) c.self.invariant

pub returns : goal.returns
returns c = record { cases = entries_from_clone _ _ (λ x y h. h) (λ v w h. h) _ _ c.in_ok-tables.ensures.cases ∙ c.self.view_is }
