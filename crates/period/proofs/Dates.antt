-- Each day has a date, so what is printed of a day or of an instant is its text.
use Rattle.std.proofs.Common.{◌≡◌, ℕ, zero, suc, ◌+◌, ◌/◌, ◌<◌, ◌≤◌, refl, ap, subst, ◌∙◌, arith, inl, inr, ℤ, pos, ◌+ℤ◌, ◌<ℤ◌, Bool, true, false}
use Rattle.std.proofs.Math.Dec.{ltb}
use Rattle.std.proofs.lemmas.Bool.{ltb-true, ltb-false, cases_Bool}
use Rattle.std.proofs.lemmas.Int.{by_lt_z}
use Rattle.jiff_core.specs.declared.civil.date.Date.{Date}
use Rattle.jiff_core.specs.Date.{epoch_day}
use Rattle.jiff_core.specs.Calendar.{days_from_civil, days_in_month}
use Rattle.jiff_core.proofs.SignedLemmas.{signed_arith}
use Rattle.jiff_core.proofs.MarchLemmas.{day_count-early}
use Rattle.jiff_core.proofs.CalendarLemmas.{days_from_civil-day_count, days_in_month_bounds}
use Rattle.jiff_core.proofs.DateLemmas.{days_from_civil-day, days_from_civil-next_month, days_from_civil-next_year, days_from_civil-max}
use Rattle.period.specs.Day.{IsDayText, day_text}
use Rattle.period.specs.Instant.{IsInstant, IsInstantText, instant_text}
use Rattle.period.proofs.DayLemmas.{parts_of_date, parts_of_date_is, day_text-date_text}
use Rattle.period.proofs.InstantLemmas.{instant_text-is_text}

-- ---- each day has a date

abbrev IsOn : ℕ → Date → Type 0
IsOn day date = epoch_day date +ℤ pos 719_162 ≡ pos day

first : Date
first = record { year = pos 1; month = 1; day = 1; year_in = omega (arith, signed_arith); month_in = omega arith; day_in = omega arith }

first_day : IsOn 0 first
unfolding first
first_day = omega (arith, signed_arith, days_from_civil-day_count (pos 1) 1 1, day_count-early (pos 1) 10000 1 1 refl (omega arith) (omega arith) (omega arith))

month_has_day : (y : ℤ) (m : ℕ) → 1 ≤ days_in_month y m
month_has_day y m = let b = days_in_month_bounds y m in omega arith

next_year : (n : ℕ) (d : Date) → n + 1 ≤ 3_652_058 → IsOn n d → days_from_civil d.year d.month d.day ≡ days_from_civil d.year 12 31 → d.year <ℤ pos 9999 → (e : Date) × IsOn (n + 1) e
next_year n d le is old lt =
    let start = days_from_civil-next_year d.year (d.year +ℤ pos 1) (omega (arith, signed_arith, d.year_in)) refl in (
      record { year = d.year +ℤ pos 1; month = 1; day = 1; year_in = omega (arith, signed_arith, d.year_in); month_in = omega arith; day_in = (omega arith, month_has_day (d.year +ℤ pos 1) 1) },
      omega (arith, signed_arith, is, old, start),
    )

next_day : (n : ℕ) (d : Date) → n + 1 ≤ 3_652_058 → IsOn n d → (e : Date) × IsOn (n + 1) e
next_day n d le is = elim (cases_Bool (ltb d.day (days_in_month d.year d.month))) [
  | inl h ↦
      let lt : d.day < days_in_month d.year d.month = ltb-true d.day (days_in_month d.year d.month) h in (
        record { year = d.year; month = d.month; day = d.day + 1; year_in = d.year_in; month_in = d.month_in; day_in = omega arith },
        omega (arith, signed_arith, is, days_from_civil-day d.year d.month d.day (d.day + 1) d.day_in.0 (omega arith)),
      )
  | inr h ↦
      let ge : days_in_month d.year d.month ≤ d.day = ltb-false d.day (days_in_month d.year d.month) h in
      let last : d.day ≡ days_in_month d.year d.month = omega (arith, d.day_in) in
      elim (cases_Bool (ltb d.month 12)) [
        | inl j ↦
            let lt : d.month < 12 = ltb-true d.month 12 j in (
              record { year = d.year; month = d.month + 1; day = 1; year_in = d.year_in; month_in = omega arith; day_in = (omega arith, month_has_day d.year (d.month + 1)) },
              omega (arith, signed_arith, is, days_from_civil-next_month d.year d.month d.day d.month_in.0 last),
            )
        | inr j ↦
            let ge12 : 12 ≤ d.month = ltb-false d.month 12 j in
            let twelve : d.month ≡ 12 = omega (arith, d.month_in) in
            let day : d.day ≡ 31 = last ∙ ap (days_in_month d.year) twelve in
            let old : days_from_civil d.year d.month d.day ≡ days_from_civil d.year 12 31 = rw (twelve, day) refl in
            by_lt_z d.year (pos 9999)
            (λ lt. next_year n d le is old lt)
            (λ ge.
            let y : d.year ≡ pos 9999 = omega (arith, signed_arith, d.year_in) in
            let end : days_from_civil d.year 12 31 ≡ pos 2_932_896 = ap (λ (z : ℤ). days_from_civil z 12 31) y ∙ days_from_civil-max in
            absurd (omega (arith, signed_arith)))
      ]
]

pub date_of : (n : ℕ) → n ≤ 3_652_058 → (d : Date) × IsOn n d
date_of zero le = (first, first_day)
date_of (suc n) le =
    let (d, is) = date_of n (omega arith) in
    let one : n + 1 ≡ suc n = omega arith in
    subst (λ (k : ℕ). (e : Date) × IsOn k e) one (next_day n d (omega arith) is)

pub is_day_text : (n : ℕ) → n ≤ 3_652_058 → IsDayText n (day_text n)
is_day_text n le =
    let (d, on) = date_of n le in
    let is = parts_of_date_is d n on in
    (parts_of_date d, (is, day_text-date_text (parts_of_date d) n is))

pub is_instant_text : (n : ℕ) → IsInstant n → IsInstantText n (instant_text n)
is_instant_text n is =
    let (d, on) = date_of (n / 86_400_000_000 + 719_162) (omega arith) in
    instant_text-is_text n (parts_of_date d) (parts_of_date_is d (n / 86_400_000_000 + 719_162) on)
