-- What the ends of two periods say of their days.
use Rattle.std.proofs.Common.{◌≡◌, ◌-◌, ◌<◌, ◌≤◌, ◌↔◌, max, arith}
use Rattle.period.specs.declared.period.Period.{Period}
use Rattle.period.specs.Period.{ShareDay, SameDays, HasDaysOf, MeetsEnd}

pub ShareDay-ends : (x y : Period) → ShareDay x y ↔ ((x.start.number < y.end.number) × (y.start.number < x.end.number))
ShareDay-ends x y =
    (λ h. (omega (arith, h.1), omega (arith, h.1)), λ h. (max x.start.number y.start.number, omega (arith, x.ordered, y.ordered)))

HasDaysOf-ends : (x y : Period) → HasDaysOf x y → (x.start.number ≤ y.start.number) × (y.end.number ≤ x.end.number)
HasDaysOf-ends x y h =
    let first = h y.start.number (omega (arith, y.ordered)) in
    let last = h (y.end.number - 1) (omega (arith, y.ordered)) in
    omega (arith, y.ordered)

pub SameDays-ends : (x y : Period) → SameDays x y ↔ ((x.start.number ≡ y.start.number) × (x.end.number ≡ y.end.number))
SameDays-ends x y = (
  λ h. let one = HasDaysOf-ends x y (λ day. (h day).1) in
      let other = HasDaysOf-ends y x (λ day. (h day).0) in
      omega arith,
  λ h day. omega arith,
)

pub MeetsEnd-ends : (x y : Period) → MeetsEnd x y ↔ (x.end.number ≡ y.start.number)
MeetsEnd-ends x y = (
  λ h. let order = h.0 (x.end.number - 1) y.start.number (omega (arith, x.ordered)) (omega (arith, y.ordered)) in
      let apart : ¬ (x.end.number < y.start.number) = λ gap. h.1 x.end.number (λ day d. d.1, λ day d. omega arith) in
      omega (arith, x.ordered),
  λ e. (
    λ day later d l. omega arith,
    λ between none.
        let after = none.0 (x.end.number - 1) (omega (arith, x.ordered)) in
        let before = none.1 y.start.number (omega (arith, y.ordered)) in
        omega (arith, x.ordered),
  ),
)
