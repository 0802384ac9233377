use Rattle.std.proofs.Common.{◌≡◌, ◌+◌, ◌++◌, ◌∙◌, [], ap, sym, drop, length, arith}
use Rattle.std.proofs.lemmas.List.{at_drop_all}
use Rattle.std.specs.Prelude.{option_to_list}
use Rattle.csv.specs.Records.{fields_of}
use Rattle.transfer.specs.Faults.{◌>>=◌}
use Rattle.transfer.specs.Header.{target_in, targets_after}
use Rattle.transfer.proofs.Places.{drop_field}
use Rattle.transfer.proofs.header.targets.Goals as goal

pub loop-place-preserved : goal.loop-place-preserved
loop-place-preserved c =
    let table = c.args.table.now in
    let line = c.args.line.now in
    let fields = fields_of c.args.names.now in
    let before = c.loop-place.targets.items in
    let place = c.loop-place.place in
    let rest = drop (place + 1) fields in (
      c.loop-place.invariant.0,
      c.loop-place.invariant.1
          ∙ ap (λ fs. targets_after table line before place fs) (drop_field fields place c.name_at-name.result.now c.name_at-name.ensures)
          ∙ ap (λ ts. target_in table line ts place c.name_at-name.result.now >>= λ t. targets_after table line (before ++ option_to_list t) (place + 1) rest) (sym c.deref.ensures.value)
          ∙ ap (λ r. r >>= λ t. targets_after table line (before ++ option_to_list t) (place + 1) rest) c.in_ok-target.ensures
          ∙ ap (λ ts. targets_after table line ts (place + 1) rest) (sym c.in_ok-keep.ensures),
    )

pub returns : goal.returns
returns c =
    let fields = fields_of c.args.names.now in
    c.loop-place.invariant.1 ∙ at_drop_all (λ fs. targets_after c.args.table.now c.args.line.now c.loop-place.targets.items c.loop-place.place fs) fields c.loop-place.place (omega arith)
