use Rattle.std.proofs.Common.{◌∙◌, ◌<◌, ℕ, length, get_or, inr, sym, ap, rules}
use Rattle.transfer.proofs.Imports.{done_stopped, far_counted, far_either}
use Rattle.transfer.proofs.import.store_all.Goals as goal

pub returns-in_err-store_next-clause-far : goal.returns-in_err-store_next-clause-far
returns-in_err-store_next-clause-far g c =
    let came = c.loop-request.came in
    let request = c.request-item.result in
    let within : came.requests < length c.args.requests.now = search rules in
    let item = c.request-item.is ∙ ap (λ (n : ℕ). get_or c.args.requests.now n request) (sym c.loop-request.invariant.1) in
    far_either g.T.Takes.takes c.args.store.now c.loop-request.store c.args.requests.now came request c.loop-request.invariant.0 within item c.store_next.new.came c.in_err-store_next.ensures.failed

pub returns-then-not-branch-clause-done : goal.returns-then-not-branch-clause-done
returns-then-not-branch-clause-done g c =
    let came = c.loop-request.came in
    let request = c.request-item.result in
    let within : came.requests < length c.args.requests.now = search rules in
    let item = c.request-item.is ∙ ap (λ (n : ℕ). get_or c.args.requests.now n request) (sym c.loop-request.invariant.1) in
    let stopped = c.in_ok-store_next.ensures.stopped (search rules) in
    done_stopped g.T.Takes.takes c.args.store.now c.loop-request.store c.store_next.new.store c.args.requests.now came request c.loop-request.invariant.0 within item c.store_next.new.came c.loop-request.invariant.2 stopped

pub loop-request-preserved : goal.loop-request-preserved
loop-request-preserved g c =
    let came = c.loop-request.came in
    let request = c.request-item.result in
    let within : came.requests < length c.args.requests.now = search rules in
    let item = c.request-item.is ∙ ap (λ (n : ℕ). get_or c.args.requests.now n request) (sym c.loop-request.invariant.1) in
    let counted = c.in_ok-store_next.ensures.accepted (search rules) in
    let on = far_counted g.T.Takes.takes c.args.store.now c.loop-request.store c.store_next.new.store c.args.requests.now came request c.loop-request.invariant.0 within item c.store_next.new.came c.loop-request.request-index c.loop-request.invariant.1 c.loop-request.invariant.2 counted in
    (on.0, on.1, on.2, λ some all. c.in_ok-store_next.ensures.settled (inr all))
