use Rattle.std.proofs.Common.{◌∙◌, ◌≢◌, List, ℕ, ◌++◌, ap, rules}
use Rattle.std.specs.Prelude.{codes}
use Rattle.storefolder.proofs.form.past_version.Goals as goal

pub returns-then-version-ne-VERSION-clause-err : goal.returns-then-version-ne-VERSION-clause-err
returns-then-version-ne-VERSION-clause-err c =
    let other : c.in-Ok-read_number.version ≢ 1 = search rules in
    ((c.in-Ok-read_number.rest.now, c.in-Ok.ensures.ok.0 ∙ ap (λ (r : List ℕ). codes "bitable store " ++ r) c.in-Ok-read_number.ensures.ok.1), other)
