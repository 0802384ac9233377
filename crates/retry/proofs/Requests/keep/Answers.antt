use Rattle.std.proofs.Common.{◌≡◌, ◌∙◌, ◌∷◌, [], ◌++◌, ℕ, ◌==◌, cond, nat_eq, take, ap, refl, subst}
use Rattle.std.specs.HashMap.{get}
use Rattle.retry.specs.declared.Latest.{Latest}
use Rattle.retry.specs.Judging.{latest_number, latest_outcomes, with_outcome}
use Rattle.retry.proofs.Written.{changed, written, written_back, on_err_too}
use Rattle.retry.proofs.Requests.keep.Goals as goal

pub returns-in_err-insert-clause-err : goal.returns-in_err-insert-clause-err
returns-in_err-insert-clause-err c =
    let m = c.args.self.now.latest in
    let v = c.in-Some.latest.now in
    let w : Latest = record { number = v.number; outcomes = c.insert.new.self } in
    let n = c.get_mut.follows.lender w in
    let writes = c.get_mut.follows.holds w in
    let value = c.in-Some.ensures.value in
    on_err_too c.from_residual.result (λ k. (written_back latest_number m n c.args.client v w value writes refl k, written_back latest_outcomes m n c.args.client v w value writes c.in_err-insert.ensures.items k))

pub returns-in-Some-clause-numbers : goal.returns-in-Some-clause-numbers
returns-in-Some-clause-numbers c =
    let w : Latest = record { number = c.args.number; outcomes = c.truncate.new.self } in
    written latest_number c.args.self.now.latest (c.get_mut.follows.lender w) c.args.client c.in-Some.latest.now w c.in-Some.ensures.value (c.get_mut.follows.holds w) c.args.number refl

pub returns-in-Some-clause-outcomes : goal.returns-in-Some-clause-outcomes
returns-in-Some-clause-outcomes c =
    let m = c.args.self.now.latest in
    let w : Latest = record { number = c.args.number; outcomes = c.truncate.new.self } in
    let is = c.truncate.ensures.items ∙ ap (take 8) (c.in_ok-insert.ensures.items ∙ ap (λ xs. c.args.outcome ∷ xs) (ap latest_outcomes c.in-Some.ensures.value)) in
    written latest_outcomes m (c.get_mut.follows.lender w) c.args.client c.in-Some.latest.now w c.in-Some.ensures.value (c.get_mut.follows.holds w)
    (with_outcome c.args.outcome (latest_outcomes (get nat_eq m c.args.client))) is

pub returns-in-Ok-clause-numbers : goal.returns-in-Ok-clause-numbers
returns-in-Ok-clause-numbers c =
    let w : Latest = record { number = c.args.number; outcomes = c.push.new.self } in
    let n = c.insert-2.new.self in
    subst (λ m. (k : ℕ) → latest_number (get nat_eq n k) ≡ cond (k == c.args.client) c.args.number (latest_number (get nat_eq m k))) c.get_mut.follows.holds-at-none
    (changed latest_number c.get_mut.follows.lender-at-none n c.args.client w c.in-Ok.ensures.updates c.args.number refl)

pub returns-in-Ok-clause-outcomes : goal.returns-in-Ok-clause-outcomes
returns-in-Ok-clause-outcomes c =
    let w : Latest = record { number = c.args.number; outcomes = c.push.new.self } in
    let n = c.insert-2.new.self in
    let old = latest_outcomes (get nat_eq c.args.self.now.latest c.args.client) in
    let none = ap latest_outcomes c.in_default.ensures.value in
    let is : c.push.new.self.items ≡ with_outcome c.args.outcome old = c.in_ok-push.ensures.items ∙ ap (λ xs. xs ++ c.args.outcome ∷ []) c.in_ok-outcomes.ensures.items ∙ ap (λ xs. take 8 (c.args.outcome ∷ xs)) none in
    subst (λ m. (k : ℕ) → latest_outcomes (get nat_eq n k) ≡ cond (k == c.args.client) (with_outcome c.args.outcome old) (latest_outcomes (get nat_eq m k))) c.get_mut.follows.holds-at-none
    (changed latest_outcomes c.get_mut.follows.lender-at-none n c.args.client w c.in-Ok.ensures.updates (with_outcome c.args.outcome old) is)
