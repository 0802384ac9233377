use Rattle.std.proofs.Common.{◌≡◌, ◌∙◌, ap, arith}
use Rattle.std.specs.Option.{option_and_then}
use Rattle.store.specs.Applied.{found}
use Rattle.storeviews.specs.Showing.{window_in}
use Rattle.storeviews.proofs.Places.{found_beyond}
use Rattle.storeviews.proofs.Bringing.{brought_next, brought_all, failed_at, kept_then, later_next}
use Rattle.storeviews.proofs.windows.Windows.bring_all.Goals as goal

pub loop-at-preserved : goal.loop-at-preserved
loop-at-preserved g c =
    let inv = c.loop-at.invariant in
    let at = c.loop-at.at in
    let honest = g.K.LogReader.is_honest in
    let stayed : record c.loop-at.store { seats = c.bring.new.store.seats } ≡ record c.args.store.now { seats = c.bring.new.store.seats } = λ j. record (inv.stay j) { seats = c.bring.new.store.seats } in
    record {
      done = λ i low.
          brought_next honest at (λ j. found c.loop-at.store.seats.items j (λ seat. seat.node)) (λ j. found c.bring.new.store.seats.items j (λ seat. seat.node)) (λ j. window_in c.args.self.now j) (λ j. window_in c.loop-at.self j) (λ j. window_in c.bring.new.self j) inv.done inv.rest
          c.in_default.ensures.brought c.bring.ensures.others (λ j other. ap (λ o. option_and_then (λ seat. seat.node) o) (c.bring.ensures.seats j other)) i low;
      rest = λ i low. c.bring.ensures.others i (λ same. absurd (omega (arith, low, same))) ∙ inv.rest i (omega (arith, low));
      later = λ i. later_next at (λ j. window_in c.args.self.now j) (λ j. window_in c.loop-at.self j) (λ j. window_in c.bring.new.self j) inv.later inv.rest c.bring.ensures.later c.bring.ensures.others i;
      kept = λ i.
          kept_then honest (found c.args.store.now.seats.items i (λ seat. seat.node)) (found c.loop-at.store.seats.items i (λ seat. seat.node)) (found c.bring.new.store.seats.items i (λ seat. seat.node)) (inv.kept i) (c.in_default.ensures.kept i);
      stay = c.in_default.ensures.rest ∙ stayed;
      many = c.bring.ensures.same.0 ∙ inv.many;
    }

pub returns-in-Err-clause-failed : goal.returns-in-Err-clause-failed
returns-in-Err-clause-failed g c other i =
    let inv = c.loop-at.invariant in
    failed_at g.K.LogReader.is_honest c.loop-at.at (λ j. found c.loop-at.store.seats.items j (λ seat. seat.node)) (λ j. found c.bring.new.store.seats.items j (λ seat. seat.node)) (λ j. window_in c.args.self.now j) (λ j. window_in c.loop-at.self j) (λ j. window_in c.bring.new.self j) inv.done inv.rest
    (c.in-Err.ensures.failed other) c.bring.ensures.others (λ j at. ap (λ o. option_and_then (λ seat. seat.node) o) (c.bring.ensures.seats j at)) i

pub returns-in-Err-clause-later : goal.returns-in-Err-clause-later
returns-in-Err-clause-later g c i =
    let inv = c.loop-at.invariant in
    later_next c.loop-at.at (λ j. window_in c.args.self.now j) (λ j. window_in c.loop-at.self j) (λ j. window_in c.bring.new.self j) inv.later inv.rest c.bring.ensures.later c.bring.ensures.others i

pub returns-clause-brought : goal.returns-clause-brought
returns-clause-brought g c =
    let inv = c.loop-at.invariant in
    brought_all g.K.LogReader.is_honest c.loop-at.at (λ j. found c.loop-at.store.seats.items j (λ seat. seat.node)) (λ j. window_in c.args.self.now j) (λ j. window_in c.loop-at.self j) inv.done inv.rest (λ i far. found_beyond c.args.self.now.windows.items i (omega (arith, far, inv.many)))
