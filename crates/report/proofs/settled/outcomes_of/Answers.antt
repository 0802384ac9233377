use Rattle.std.proofs.Common.{rules, ◌≡◌, ◌∙◌, ◌+◌, ◌<◌, List, [], ◌∷◌, ◌++◌, take, length, ap, sym, subst}
use Rattle.std.proofs.lemmas.List.{take_more}
use Rattle.apply.specs.View.{AreTables}
use Rattle.model.specs.declared.entry.Entry.{Entry}
use Rattle.sqlread.specs.Meaning.{language_of}
use Rattle.report.specs.Settled.{if_found, outcomes_from}
use Rattle.report.proofs.Turning.{told_more}
use Rattle.report.proofs.settled.outcomes_of.Goals as goal

pub loop-entry-preserved : goal.loop-entry-preserved
loop-entry-preserved c =
    let schema = c.args.schema.now in
    let all = c.args.list.now in
    let i = c.loop-entry.entry-index in
    let e = c.entry-item.result in
    let told = c.loop-entry.outcomes.items in
    let inv = c.loop-entry.invariant in
    let within : i < length all = search rules in
    let next : take (i + 1) all ≡ take i all ++ e ∷ [] = take_more all i e within ∙ ap (λ x. take i all ++ x ∷ []) (sym c.entry-item.is) in
    let T : List Entry → Type 0 = λ l. AreTables schema l c.apply.new.self in
    record {
      tables = subst T (sym next) (c.in_ok-found.ensures.kept schema (take i all) inv.tables);
      told = told_more (language_of schema) all i e told c.push_found.new.outcomes.items (outcomes_from (language_of schema) [] all) within c.entry-item.is
          (c.in_ok-push_found.ensures ∙ ap (λ o. told ++ if_found o) (c.in_ok-found.ensures.outcome schema (take i all) inv.tables)) inv.told;
    }
