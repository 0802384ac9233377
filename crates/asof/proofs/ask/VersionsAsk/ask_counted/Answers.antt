use Rattle.std.proofs.Common.{◌≡◌, ◌∙◌, map, filter, length, sym, ap, subst, arith}
use Rattle.std.proofs.lemmas.List.{length-map}
use Rattle.sqlread.specs.Shapes.{query_of, time_of}
use Rattle.sqlread.specs.Meaning.{select_of}
use Rattle.rowlaws.specs.Sorting.{in_order}
use Rattle.versionlaws.specs.Answering.{version_cmp}
use Rattle.answer.specs.Answers.{answer_of, shown_of}
use Rattle.sysversion.specs.Lists.{version_of}
use Rattle.sysversion.specs.Versions.{versions_of}
use Rattle.asof.specs.Asking.{read_with, is_found_by, show_by}
use Rattle.asof.specs.Named.{IsFew, IsFewOnDay}
use Rattle.asof.proofs.Sorting.{order_length}
use Rattle.asof.proofs.Answered.{shown, answered_is, kept_is, few_rows}
use Rattle.asof.proofs.ask.VersionsAsk.ask_counted.Goals as goal

pub returns-clause-ok : goal.returns-clause-ok
returns-clause-ok c =
    let query = c.args.query.now in
    let versions = versions_of c.args.self.now query.table in
    let time = time_of c.args.time in
    let found = c.in_ok-found.ensures.found ∙ (λ i. filter (is_found_by time (c.as_slice-terms.ensures.value i)) versions) in
    let sorted = ap (map (λ v. version_of v.now)) c.as_slice.ensures.value ∙ c.in_ok-sorted.ensures ∙ ap (in_order version_cmp) found in
    let rows : map shown_of c.in_ok-rows.rows.items ≡ shown time query.terms.items versions = c.in_ok-rows.ensures ∙ ap (map (show_by time.last)) sorted in
    answered_is query time versions (map shown_of c.in_ok-rows.rows.items) rows

pub returns-clause-kept : goal.returns-clause-kept
returns-clause-kept c =
    let query = c.args.query.now in
    let answer = answer_of (record { last = c.args.time.last; columns = c.in_ok-columns.columns; rows = c.in_ok-rows.rows }) in
    kept_is c.versions_give.ensures (read_with (time_of c.args.time) (select_of (query_of query))) (versions_of c.args.self.now query.table) answer c.args.time.ordered (returns-clause-ok c)

pub returns-clause-each : goal.returns-clause-each
returns-clause-each c =
    let shown = length-map c.in_ok-rows.rows.items shown_of in
    let rows = ap length c.in_ok-rows.ensures in
    let by = length-map (map (λ v. version_of v.now) c.as_slice.result.now) (show_by c.args.time.last) in
    let seen = length-map c.as_slice.result.now (λ v. version_of v.now) in
    let slice = ap length c.as_slice.ensures.value in
    let sorted = length-map c.in_ok-sorted.sorted.items (λ v. version_of v.now) in
    let order = ap length c.in_ok-sorted.ensures in
    let whole = order_length version_cmp (map (λ v. version_of v.now) c.in_ok-found.found.items) in
    let found = length-map c.in_ok-found.found.items (λ v. version_of v.now) in
    let each = c.in_ok-found.ensures.each in
    let reads = c.reads.ensures in
    omega (arith, shown, rows, by, seen, slice, sorted, order, whole, found, each, reads)

pub returns-clause-few_rows : goal.returns-clause-few_rows
returns-clause-few_rows c =
    let terms = c.args.query.now.terms.items in
    let versions = versions_of c.args.self.now c.args.query.now.table in
    let tests = c.reads.result in
    let counted = subst (λ n. IsFew c.as_slice-terms.result.now versions n) (sym c.reads.ensures) (c.in_ok-found.ensures.few c.new-count.ensures) in
    let few : IsFew terms versions tests = subst (λ ts. IsFew ts versions tests) c.as_slice-terms.ensures.value counted in
    few_rows c.few_versions.ensures terms versions tests few

pub returns-clause-few_on_day : goal.returns-clause-few_on_day
returns-clause-few_on_day c =
    let versions = versions_of c.args.self.now c.args.query.now.table in
    let counted = subst (λ n. IsFewOnDay c.as_slice-terms.result.now versions n) (sym c.reads.ensures) (c.in_ok-found.ensures.few_on_day c.new-count.ensures) in
    subst (λ ts. IsFewOnDay ts versions c.reads.result) c.as_slice-terms.ensures.value counted
