use Rattle.std.proofs.Common.{◌≡◌, ◌∙◌, ◌∷◌, [], map, ap}
use Rattle.current.specs.Rows.{row_of}
use Rattle.versionlaws.specs.Committing.{ended}
use Rattle.sysversion.specs.Lists.{lists_of, with_list}
use Rattle.sysversion.proofs.Ending.{all_at_start}
use Rattle.sysversion.proofs.Kept.{end_keyed, end_short, end_least}
use Rattle.sysversion.proofs.table.TableVersions.end.Goals as goal

pub returns-clause-ended : goal.returns-clause-ended
returns-clause-ended c =
    let row = row_of c.args.row.now in
    let old = lists_of c.args.self.now.lists in
    c.end_row.ensures.lists ∙ ap (λ versions. with_list row.key versions old) (all_at_start c.args.t row (old row.key) (c.args.self.now.of_keys row.key))

pub invariant_of-self : goal.invariant_of-self
invariant_of-self c =
    let s = c.args.self.now in
    let row = row_of c.args.row.now in
    let old = lists_of s.lists in
    let new = lists_of c.end_row.new.lists in
    let ends : new ≡ with_list row.key (map (ended c.args.t (row ∷ [])) (old row.key)) old = c.end_row.ensures.lists ∙ ap (λ versions. with_list row.key versions old) (all_at_start c.args.t row (old row.key) (s.of_keys row.key)) in
    record {
      ordered = c.end_row.ensures.ordered;
      of_keys = end_keyed c.args.t row old new ends s.of_keys;
      short = end_short c.args.t row old new ends s.columns s.short;
      least = end_least c.args.t row old new ends s.columns s.least;
    }
