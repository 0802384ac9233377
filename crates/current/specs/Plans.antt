-- What will become of the strands of a table.
use Rattle.std.specs.Prelude.{◌≡◌, ◌⊎◌, ◌++◌, ℕ, List, [], ◌∷◌, map, flat_map}
use Rattle.model.specs.declared.value.Value.{Value}
use Rattle.model.specs.Tables.{Row}
use Rattle.model.specs.Transactions.{Action}
use Rattle.rowlaws.specs.Rows.{Has}
use Rattle.current.specs.declared.plan.Strand.{Strand}
use Rattle.current.specs.Rows.{row_of}
use Rattle.current.specs.Corrections.{kept}
use Rattle.current.specs.ByKey.{Strands, with_strand}

-- these in place of the rows, if there are any
abbrev pub instead : List Row → List Row → List Row
instead [] more = []
instead (r ∷ rs) more = more

-- the strands with this one for its key, if it has rows
abbrev pub with_planned : Strands → Strand → Strands
with_planned strands p = with_strand p.key (instead (strands p.key) (map row_of p.rows.items)) strands

-- the key is planned for, or nothing becomes of its rows
abbrev pub IsPlanned : Action → ℕ → List Value → List Row → List Strand → List Strand → Type 0
IsPlanned c t key rows old new =
    ((new ≡ old) × (flat_map (kept c t) rows ≡ rows)) ⊎ ((p : Strand) × (new ≡ old ++ p ∷ []) × (p.key ≡ key) × (map row_of p.rows.items ≡ flat_map (kept c t) rows))

-- each planned strand is what becomes of its key's rows, and nothing becomes of the rows of a key that is not planned for
abbrev pub ArePlanned : Action → ℕ → Strands → List Strand → Type 0
ArePlanned c t strands plan =
    ((p : Strand) → Has plan p → map row_of p.rows.items ≡ flat_map (kept c t) (strands p.key))
    × ((key : List Value) → ((p : Strand) × Has plan p × (p.key ≡ key)) ⊎ (flat_map (kept c t) (strands key) ≡ strands key))
