use Rattle.std.proofs.Common.{rules, arith, ◌++◌, ◌∷◌, [], refl, append_assoc}
use Rattle.std.proofs.Output.{has_written_append, has_written_of_eq}
use Rattle.std.proofs.lemmas.Str.Pattern.{split_parts}
use Rattle.model.proofs.Doubled.{doubled_at, doubled_none}
use Rattle.model.proofs.literal.write_doubled.Goals as goal

pub loop-before-preserved : goal.loop-before-preserved
loop-before-preserved g c = (
  search rules,
  λ plain.
      let so_far = c.loop-before.invariant.1 plain in
      let parts = split_parts 39 c.loop-before.rest.now c.split_once.result c.split_once.ensures.cases (omega arith) in
      let cut = rw c.in-Some.is at parts in
      let first = c.in_ok-write_str.ensures.writes so_far.1.plain refl in
      let second = c.in_ok-write_str-2.ensures.writes first.plain refl in (
        so_far.0 ++ (c.in-Some.before.now ++ (39 ∷ 39 ∷ [])),
        has_written_append _ _ _ _ _ _ so_far.1 (has_written_append _ _ _ _ _ _ first second),
        rw (append_assoc so_far.0, append_assoc c.in-Some.before.now, ← doubled_at _ c.in-Some.after.now cut.1, ← cut.0) so_far.2,
      ),
)

pub returns : goal.returns
returns g c = λ plain ok.
    let so_far = c.loop-before.invariant.1 plain in
    let parts = split_parts 39 c.loop-before.rest.now c.split_once.result c.split_once.ensures.cases (omega arith) in
    let none = rw c.in_default.is at parts in
    has_written_of_eq _ _ _ _ _ (rw (doubled_none c.loop-before.rest.now none) at so_far.2)
    (has_written_append _ _ _ _ _ _ so_far.1 (c.write_str-2.ensures.writes so_far.1.plain ok))
