-- A table for the floor beside the other two changes nothing of what they hold.
use Rattle.std.proofs.Common.{[], ◌∷◌, sym, ap, ◌∙◌}
use Rattle.sqlite.specs.Effect.{Database}
use Rattle.durable.specs.Contents.{Contents}
use Rattle.durable.specs.Rows.{floor_row, in_order, Holds, HoldsOld}
use Rattle.durable.specs.Steps.{HasFloor}

pub raised_holds : (old new : Database) (d : Contents) → HoldsOld old d → HasFloor old new → Holds new d
raised_holds old new d held it = record {
  tables = it.tables;
  meta = it.meta ∙ held.meta;
  log = ap in_order it.log ∙ held.log;
  floor = it.floor ∙ ap (λ t. floor_row t ∷ []) (sym held.floor);
}
