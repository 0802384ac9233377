-- What the predicates of periods answer, by the ends of the periods.
use Rattle.std.proofs.Common.{◌≡◌, ◌↔◌, Bool, true, false, nat_eq, nat_lt, refl, arith}
use Rattle.std.specs.Prelude.{IsTrue, ◌&&◌}
use Rattle.std.proofs.lemmas.Bool.Decides.{nat_tests}
use Rattle.period.specs.declared.period.Period.{Period}
use Rattle.period.specs.Period.{ShareDay, SameDays, MeetsEnd}
use Rattle.period.specs.Laws.{ShareDayByEnds, SameDaysByEnds, MeetsEndByEnds}

same_test : (b t : Bool) → (IsTrue b → IsTrue t) → (IsTrue t → IsTrue b) → b ≡ t
same_test true true f g = refl
same_test true false f g = let e : false ≡ true = f refl in cc
same_test false true f g = g refl
same_test false false f g = refl

pub overlaps_is : ShareDayByEnds → (x y : Period) (b : Bool) → IsTrue b ↔ ShareDay x y → b ≡ (nat_lt x.start.number y.end.number && nat_lt y.start.number x.end.number)
overlaps_is by_ends x y b h = same_test b (nat_lt x.start.number y.end.number && nat_lt y.start.number x.end.number)
    (λ yes. let e = (by_ends x y).0 (h.0 yes) in grind (arith, nat_tests))
    (λ yes. h.1 ((by_ends x y).1 (grind (arith, nat_tests), grind (arith, nat_tests))))

pub equals_is : SameDaysByEnds → (x y : Period) (b : Bool) → IsTrue b ↔ SameDays x y → b ≡ (nat_eq x.start.number y.start.number && nat_eq x.end.number y.end.number)
equals_is by_ends x y b h = same_test b (nat_eq x.start.number y.start.number && nat_eq x.end.number y.end.number)
    (λ yes. let e = (by_ends x y).0 (h.0 yes) in grind (arith, nat_tests))
    (λ yes. h.1 ((by_ends x y).1 (grind (arith, nat_tests), grind (arith, nat_tests))))

pub meets_is : MeetsEndByEnds → (x y : Period) (b : Bool) → IsTrue b ↔ MeetsEnd x y → b ≡ nat_eq x.end.number y.start.number
meets_is by_ends x y b h = same_test b (nat_eq x.end.number y.start.number)
    (λ yes. let e = (by_ends x y).0 (h.0 yes) in grind (arith, nat_tests))
    (λ yes. h.1 ((by_ends x y).1 (grind (arith, nat_tests))))
