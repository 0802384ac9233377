use Rattle.std.proofs.Common.{refl}
use Rattle.node.specs.Member.{member_of}
use Rattle.flight.specs.declared.life.Opening.{Opening}
use Rattle.cells.specs.Lives.{marks_rise}
use Rattle.view.specs.Publishing.{published, pending}
use Rattle.cells.proofs.Items.{listed_none, whole_none}
use Rattle.cells.proofs.Replays.{seated, replayed_first}
use Rattle.cells.proofs.Telling.{told_first}
use Rattle.cells.proofs.cell.Cell.start.Goals as goal

pub invariant_of-result-clause-replayed : goal.invariant_of-result-clause-replayed
invariant_of-result-clause-replayed g c = λ up.
    let o : Opening = record { mark = c.in-Some.mark; hard = c.hard_state.result; entries = c.in-Ok-entries.entries } in
    (λ honest. replayed_first (seated c.entries.new.self) o c.new.result.items (member_of c.in-Ok.node) c.new.ensures.items (c.in-Ok-entries.ensures.member honest) (c.in-Ok.ensures.opened (c.entries.ensures.honest honest)) c.hard_state.ensures (c.in-Ok-entries.ensures.ok honest), refl)

pub invariant_of-result-clause-rising : goal.invariant_of-result-clause-rising
unfolding marks_rise
invariant_of-result-clause-rising g c = rw c.new.ensures.items refl

pub invariant_of-result-clause-listed : goal.invariant_of-result-clause-listed
invariant_of-result-clause-listed g c = λ honest.
    let o : Opening = record { mark = c.in-Some.mark; hard = c.hard_state.result; entries = c.in-Ok-entries.entries } in
    (listed_none (seated c.entries.new.self) o c.new.result.items c.new.ensures.items).entries

pub invariant_of-result-clause-sealed : goal.invariant_of-result-clause-sealed
invariant_of-result-clause-sealed g c = λ honest.
    let o : Opening = record { mark = c.in-Some.mark; hard = c.hard_state.result; entries = c.in-Ok-entries.entries } in
    (listed_none (seated c.entries.new.self) o c.new.result.items c.new.ensures.items).sealed

pub invariant_of-result-clause-whole : goal.invariant_of-result-clause-whole
invariant_of-result-clause-whole g c = λ up honest.
    let o : Opening = record { mark = c.in-Some.mark; hard = c.hard_state.result; entries = c.in-Ok-entries.entries } in
    let p = c.in-Ok-open_publisher.publisher in
    let none = c.in-Ok-open_publisher.ensures.none in
    whole_none (seated c.entries.new.self) o c.new.result.items (published p) (pending p) c.new.ensures.items none.0 none.1

pub invariant_of-result-clause-told : goal.invariant_of-result-clause-told
invariant_of-result-clause-told g c = λ honest.
    let o : Opening = record { mark = c.in-Some.mark; hard = c.hard_state.result; entries = c.in-Ok-entries.entries } in
    told_first (seated c.entries.new.self) o c.new.result.items c.new.ensures.items

pub invariant_of-result-clause-clocked : goal.invariant_of-result-clause-clocked
invariant_of-result-clause-clocked g c = rw c.new.ensures.items refl
