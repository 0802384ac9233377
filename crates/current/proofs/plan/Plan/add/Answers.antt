use Rattle.std.proofs.Common.{◌≡◌, map, ap, sym, ◌∙◌, inl, inr, refl, length, flat_map, arith}
use Rattle.std.proofs.lemmas.List.{append-nil, length-map}
use Rattle.current.specs.Rows.{row_of}
use Rattle.current.specs.Corrections.{action_of_correction, kept}
use Rattle.current.proofs.Cutting.{unmet}
use Rattle.current.proofs.plan.Plan.add.Goals as goal

pub returns-then-not-meets_some-clause-strands : goal.returns-then-not-meets_some-clause-strands
returns-then-not-meets_some-clause-strands c =
    let u = unmet (action_of_correction c.args.correction.now) c.args.correction.now.system_start c.args.rows.now (sym c.meets_some.ensures ∙ c.if-not-meets_some.true) in
    inl (refl, u.kept_all)

pub returns-then-not-meets_some-clause-in_range : goal.returns-then-not-meets_some-clause-in_range
returns-then-not-meets_some-clause-in_range c =
    let u = unmet (action_of_correction c.args.correction.now) c.args.correction.now.system_start c.args.rows.now (sym c.meets_some.ensures ∙ c.if-not-meets_some.true) in u.in_range

pub returns-then-not-meets_some-clause-removed : goal.returns-then-not-meets_some-clause-removed
returns-then-not-meets_some-clause-removed c =
    let u = unmet (action_of_correction c.args.correction.now) c.args.correction.now.system_start c.args.rows.now (sym c.meets_some.ensures ∙ c.if-not-meets_some.true) in
    rw u.removed_none (sym (append-nil _))

pub returns-then-not-meets_some-clause-added : goal.returns-then-not-meets_some-clause-added
returns-then-not-meets_some-clause-added c =
    let u = unmet (action_of_correction c.args.correction.now) c.args.correction.now.system_start c.args.rows.now (sym c.meets_some.ensures ∙ c.if-not-meets_some.true) in
    rw u.added_none (sym (append-nil _))

pub returns-then-not-meets_some-clause-count : goal.returns-then-not-meets_some-clause-count
returns-then-not-meets_some-clause-count c =
    let u = unmet (action_of_correction c.args.correction.now) c.args.correction.now.system_start c.args.rows.now (sym c.meets_some.ensures ∙ c.if-not-meets_some.true) in
    let long : length (flat_map (kept (action_of_correction c.args.correction.now) c.args.correction.now.system_start) (map row_of c.args.rows.now)) ≡ length c.args.rows.now = ap length u.kept_all ∙ length-map c.args.rows.now row_of in
    omega (arith, long)

pub returns-clause-strands : goal.returns-clause-strands
returns-clause-strands c = inr (record { key = c.in_ok-key.key; rows = c.in_ok-rows.rows }, c.in_ok-push.ensures.items, c.in_ok-key.ensures.cases, c.in_ok-rows.ensures.rows)
