use Rattle.std.proofs.Common.{◌≡◌, ◌==◌, cond, reverse, Some, None, option_map, refl, sym, ap, ◌∙◌, subst, inr}
use Rattle.model.specs.declared.entry.Request.{Request}
use Rattle.model.specs.Transactions.{first_orphan}
use Rattle.model.specs.Logs.{IsStamped, least_stamp, state_after, state_at, outcome}
use Rattle.sqlread.specs.Meaning.{language_of}
use Rattle.current.specs.Current.{rows_of}
use Rattle.sysversion.specs.Versions.{versions_of}
use Rattle.retry.specs.Judging.{outcomes_of, with_outcome}
use Rattle.apply.specs.Executing.{IsExecuted}
use Rattle.apply.specs.Reads.{FewToExecute}
use Rattle.apply.proofs.Fine.{reads_fine}
use Rattle.apply.proofs.Entries.{is_next, a_close, asked_again, outcome_again, executed_first, outcome_first}
use Rattle.apply.proofs.tables.Tables.take.Goals as goal

pub returns-in_default-clause-kept : goal.returns-in_default-clause-kept
returns-in_default-clause-kept c = λ schema list are.
    let old = c.args.self.now in
    a_close schema list c.args.entry.now c.log_laws.ensures.stays old are _ refl refl refl refl refl c.in_default.is

pub returns-in-Some-2-clause-kept : goal.returns-in-Some-2-clause-kept
returns-in-Some-2-clause-kept c = λ schema list are.
    let old = c.args.self.now in
    let known = sym c.in_ok-outcome.ensures ∙ c.in-Some-2.is in
    asked_again schema list c.args.entry.now c.log_laws.ensures.stays old are c.in-Some.request c.in-Some.is c.in-Some-2.outcome known _ refl refl refl refl refl

pub returns-in-Some-2-clause-outcome : goal.returns-in-Some-2-clause-outcome
returns-in-Some-2-clause-outcome c = λ schema list are.
    let e = c.args.entry.now in
    let known = sym c.in_ok-outcome.ensures ∙ c.in-Some-2.is in
    ap (λ x. Some x) (outcome_again schema list e c.log_laws.ensures.stays c.args.self.now are c.in-Some.request c.in-Some.is c.in-Some-2.outcome known)
    ∙ sym (ap (λ o. option_map (λ (r : Request). outcome (language_of schema) e.stamp r (reverse list)) o) c.in-Some.is)

pub returns-clause-kept : goal.returns-clause-kept
returns-clause-kept c = λ schema list are.
    let e = c.args.entry.now in
    let old = c.args.self.now in
    let r = c.in-Some.request in
    let o = c.in_ok-outcome-2.outcome in
    let laws = c.log_laws.ensures in
    let unknown = sym c.in_ok-outcome.ensures ∙ c.in_default-2.is in
    let state = state_after (language_of schema) (reverse list) in
    let ran = c.in_ok-outcome-2.ensures.executed state are.rows (are.versions_schema ∙ sym are.current_schema) (subst (λ s. first_orphan (language_of s) state ≡ None) (sym are.current_schema) (c.log_laws.ensures.parents (language_of schema) (reverse list))) in
    let done = subst (λ text. IsExecuted (language_of schema) e.stamp text state (rows_of c.execute.new.current) (versions_of old.versions) (versions_of c.execute.new.versions) o) c.as_str.ensures
    (subst (λ s. IsExecuted (language_of s) e.stamp c.as_str.result.now state (rows_of c.execute.new.current) (versions_of old.versions) (versions_of c.execute.new.versions) o) are.current_schema ran) in
    let few = λ (stamped : IsStamped list). subst (λ text. FewToExecute schema e.stamp text state old.count c.execute.new.count) c.as_str.ensures
    (subst (λ s. FewToExecute s e.stamp c.as_str.result.now state old.count c.execute.new.count) are.current_schema
    (c.execute.ensures.few old.narrow state are.rows (are.versions_schema ∙ sym are.current_schema) (subst (λ s. first_orphan (language_of s) state ≡ None) (sym are.current_schema) (c.log_laws.ensures.parents (language_of schema) (reverse list)))
    (λ n u. state_at (language_of schema) list u n) (least_stamp list) (are.held stamped))) in
    executed_first schema list e laws.stays old are r c.in-Some.is unknown o done.is laws.commit laws.by_key laws.before laws.fine (reads_fine laws.calendar schema) _ done.rows done.committed
    c.in_ok-keep.ensures.numbers (λ k. c.in_ok-keep.ensures.outcomes k ∙ ap (λ x. cond (k == r.client) (with_outcome x (outcomes_of old.requests r.client)) (outcomes_of old.requests k)) c.in_ok-kept.ensures) refl c.execute.ensures.current_schema c.execute.ensures.versions_schema (λ s. inr (r, c.in-Some.is, is_next schema list e laws.stays old are r c.in-Some.is unknown, few s))

pub returns-clause-outcome : goal.returns-clause-outcome
returns-clause-outcome c = λ schema list are.
    let e = c.args.entry.now in
    let old = c.args.self.now in
    let r = c.in-Some.request in
    let o = c.in_ok-outcome-2.outcome in
    let unknown = sym c.in_ok-outcome.ensures ∙ c.in_default-2.is in
    let state = state_after (language_of schema) (reverse list) in
    let ran = c.in_ok-outcome-2.ensures.executed state are.rows (are.versions_schema ∙ sym are.current_schema) (subst (λ s. first_orphan (language_of s) state ≡ None) (sym are.current_schema) (c.log_laws.ensures.parents (language_of schema) (reverse list))) in
    let done = subst (λ text. IsExecuted (language_of schema) e.stamp text state (rows_of c.execute.new.current) (versions_of old.versions) (versions_of c.execute.new.versions) o) c.as_str.ensures
    (subst (λ s. IsExecuted (language_of s) e.stamp c.as_str.result.now state (rows_of c.execute.new.current) (versions_of old.versions) (versions_of c.execute.new.versions) o) are.current_schema ran) in
    ap (λ x. Some x) (outcome_first schema list e c.log_laws.ensures.stays old are r c.in-Some.is unknown o done.is)
    ∙ sym (ap (λ x. option_map (λ (q : Request). outcome (language_of schema) e.stamp q (reverse list)) x) c.in-Some.is)

pub returns-clause-few : goal.returns-clause-few
returns-clause-few c = λ schema list are stamped.
    let e = c.args.entry.now in
    let old = c.args.self.now in
    let r = c.in-Some.request in
    let state = state_after (language_of schema) (reverse list) in
    let few = λ (stamped : IsStamped list). subst (λ text. FewToExecute schema e.stamp text state old.count c.execute.new.count) c.as_str.ensures
    (subst (λ s. FewToExecute s e.stamp c.as_str.result.now state old.count c.execute.new.count) are.current_schema
    (c.execute.ensures.few old.narrow state are.rows (are.versions_schema ∙ sym are.current_schema) (subst (λ s. first_orphan (language_of s) state ≡ None) (sym are.current_schema) (c.log_laws.ensures.parents (language_of schema) (reverse list)))
    (λ n u. state_at (language_of schema) list u n) (least_stamp list) (are.held stamped))) in
    inr (r, c.in-Some.is, is_next schema list e c.log_laws.ensures.stays old are r c.in-Some.is (sym c.in_ok-outcome.ensures ∙ c.in_default-2.is), few stamped)

pub returns-in_err-outcome-2-clause-few : goal.returns-in_err-outcome-2-clause-few
returns-in_err-outcome-2-clause-few c = λ schema list are stamped.
    let e = c.args.entry.now in
    let old = c.args.self.now in
    let r = c.in-Some.request in
    let state = state_after (language_of schema) (reverse list) in
    let few = λ (stamped : IsStamped list). subst (λ text. FewToExecute schema e.stamp text state old.count c.execute.new.count) c.as_str.ensures
    (subst (λ s. FewToExecute s e.stamp c.as_str.result.now state old.count c.execute.new.count) are.current_schema
    (c.execute.ensures.few old.narrow state are.rows (are.versions_schema ∙ sym are.current_schema) (subst (λ s. first_orphan (language_of s) state ≡ None) (sym are.current_schema) (c.log_laws.ensures.parents (language_of schema) (reverse list)))
    (λ n u. state_at (language_of schema) list u n) (least_stamp list) (are.held stamped))) in
    inr (r, c.in-Some.is, is_next schema list e c.log_laws.ensures.stays old are r c.in-Some.is (sym c.in_ok-outcome.ensures ∙ c.in_default-2.is), few stamped)

pub returns-in_err-kept-clause-few : goal.returns-in_err-kept-clause-few
returns-in_err-kept-clause-few c = λ schema list are stamped.
    let e = c.args.entry.now in
    let old = c.args.self.now in
    let r = c.in-Some.request in
    let state = state_after (language_of schema) (reverse list) in
    let few = λ (stamped : IsStamped list). subst (λ text. FewToExecute schema e.stamp text state old.count c.execute.new.count) c.as_str.ensures
    (subst (λ s. FewToExecute s e.stamp c.as_str.result.now state old.count c.execute.new.count) are.current_schema
    (c.execute.ensures.few old.narrow state are.rows (are.versions_schema ∙ sym are.current_schema) (subst (λ s. first_orphan (language_of s) state ≡ None) (sym are.current_schema) (c.log_laws.ensures.parents (language_of schema) (reverse list)))
    (λ n u. state_at (language_of schema) list u n) (least_stamp list) (are.held stamped))) in
    inr (r, c.in-Some.is, is_next schema list e c.log_laws.ensures.stays old are r c.in-Some.is (sym c.in_ok-outcome.ensures ∙ c.in_default-2.is), few stamped)

pub returns-in_err-keep-clause-few : goal.returns-in_err-keep-clause-few
returns-in_err-keep-clause-few c = λ schema list are stamped.
    let e = c.args.entry.now in
    let old = c.args.self.now in
    let r = c.in-Some.request in
    let state = state_after (language_of schema) (reverse list) in
    let few = λ (stamped : IsStamped list). subst (λ text. FewToExecute schema e.stamp text state old.count c.execute.new.count) c.as_str.ensures
    (subst (λ s. FewToExecute s e.stamp c.as_str.result.now state old.count c.execute.new.count) are.current_schema
    (c.execute.ensures.few old.narrow state are.rows (are.versions_schema ∙ sym are.current_schema) (subst (λ s. first_orphan (language_of s) state ≡ None) (sym are.current_schema) (c.log_laws.ensures.parents (language_of schema) (reverse list)))
    (λ n u. state_at (language_of schema) list u n) (least_stamp list) (are.held stamped))) in
    inr (r, c.in-Some.is, is_next schema list e c.log_laws.ensures.stays old are r c.in-Some.is (sym c.in_ok-outcome.ensures ∙ c.in_default-2.is), few stamped)
