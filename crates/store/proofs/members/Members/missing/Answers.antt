use Rattle.std.proofs.Common.{◌≡◌, ◌∙◌, ◌∷◌, ◌++◌, [], Some, ap, arith, length, refl, slice_get, subst, sym}
use Rattle.std.proofs.lemmas.List.{take_all}
use Rattle.std.proofs.lemmas.Option.{slice_get_read}
use Rattle.store.specs.Seats.{missing_in}
use Rattle.store.proofs.Missing.{missing_more, missing_same}
use Rattle.store.proofs.members.Members.missing.Goals as goal
use Rattle.store.proofs.members.Members.missing.Goals.{then-is_missing+in_ok-push, else-is_missing}

pub loop-seat-init : goal.loop-seat-init
loop-seat-init g c = c.new-missing.ensures.items

pub loop-seat-preserved : goal.loop-seat-preserved
loop-seat-preserved g c =
    let seats = c.args.self.now.seats.items in
    let found = c.deref-seat-items.result.now in
    let at = c.loop-seat.seat-index in
    let seat = c.seat-item.result in
    let there = subst (λ xs. slice_get xs at ≡ Some seat) c.deref-seat-items.ensures.value (slice_get_read found (length found) at seat refl c.loop-seat-test.true c.seat-item.is) in
    elim c.if-is_missing.branch [
      | then-is_missing+in_ok-push w ↦ ap (λ v. v.items) w.missing-is ∙ w.in_ok-push.ensures.items ∙ ap (λ xs. xs ++ seat.member ∷ []) c.loop-seat.invariant ∙ sym (missing_more seats at seat there (c.is_missing.ensures.0 w.if-is_missing.true))
      | else-is_missing w ↦ ap (λ v. v.items) w.missing-is ∙ c.loop-seat.invariant ∙ sym (missing_same seats at seat there (λ m. absurd (let yes = c.is_missing.ensures.1 m in let no = w.if-is_missing.false in cc (yes, no))))
    ]

pub returns-clause-all : goal.returns-clause-all
returns-clause-all g c =
    let seats = c.args.self.now.seats.items in
    let all = ap length c.deref-seat-items.ensures.value in
    let test = c.loop-seat-test.false in
    subst (λ xs. c.loop-seat.missing.items ≡ missing_in xs) (take_all c.loop-seat.seat-index seats (omega (arith, all, test))) c.loop-seat.invariant
