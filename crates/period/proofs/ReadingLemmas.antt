-- What is read is spelled so, and what is spelled so is read.
use Rattle.std.proofs.Common.{◌≡◌, ℕ, ◌+◌, ◌-◌, ◌*◌, ◌/◌, ◌%◌, ◌<◌, ◌≤◌, true, ◌&&◌, ◌==◌, List, [], ◌∷◌, ◌++◌, Some, None, option_and_then, eqb-true, refl, sym, ap, ◌∙◌, arith}
use Rattle.std.proofs.lemmas.Bool.{and_parts}
use Rattle.std.proofs.lemmas.Bool.Decides.{nat_tests}
use Rattle.std.proofs.lemmas.Option.{option_and_then_some, cond_some, some_pair_parts, same_Some, none-some}
use Rattle.std.specs.Char.{is_ascii_digit}
use Rattle.period.specs.declared.parts.DateParts.{DateParts}
use Rattle.period.specs.declared.parts.TimeParts.{TimeParts}
use Rattle.period.specs.declared.parts.InstantParts.{InstantParts}
use Rattle.period.specs.Places.{two_places, six_places, date_text, time_text, AreDateParts, AreTimeParts, HasDateShape, instant_text, HasInstantShape}
use Rattle.period.specs.Reading.{Read, whole, two_digits, six_digits, after_byte, date_at, time_at, instant_at}

is_ascii_digit-place : (d : ℕ) → d < 10 → is_ascii_digit (48 + d) ≡ true
is_ascii_digit-place d h = grind (arith, nat_tests)

-- ---- what is spelled is read

two_digits-two_places : (n : ℕ) (rest : List ℕ) → n < 100 → two_digits (two_places n ++ rest) ≡ Some (n, rest)
unfolding two_digits
two_digits-two_places n rest h =
    let value : 10 * (48 + n / 10 - 48) + (48 + n % 10 - 48) ≡ n = omega arith in
    rw (is_ascii_digit-place (n / 10) (omega arith), is_ascii_digit-place (n % 10) (omega arith), value)

six_digits-six_places : (n : ℕ) (rest : List ℕ) → n < 1_000_000 → six_digits (six_places n ++ rest) ≡ Some (n, rest)
unfolding six_digits
six_digits-six_places n rest h =
    let value : 10_000 * (n / 10_000) + 100 * (n / 100 % 100) + n % 100 ≡ n = omega arith in
    rw (
      two_digits-two_places (n / 10_000) _ (omega arith),
      two_digits-two_places (n / 100 % 100) _ (omega arith),
      two_digits-two_places (n % 100) _ (omega arith),
      value,
    )

pub date_at-date_text : (p : DateParts) (rest : List ℕ) → AreDateParts p → date_at (date_text p ++ rest) ≡ Some (p, rest)
unfolding date_at
date_at-date_text p rest h =
    let value : 100 * (p.year / 100) + p.year % 100 ≡ p.year = omega arith in
    rw (
      two_digits-two_places (p.year / 100) _ (omega arith),
      two_digits-two_places (p.year % 100) _ (omega arith),
      two_digits-two_places p.month _ h.1,
      two_digits-two_places p.day _ h.2,
      value,
    )

pub time_at-time_text : (p : TimeParts) (rest : List ℕ) → AreTimeParts p → time_at (time_text p ++ rest) ≡ Some (p, rest)
unfolding time_at
time_at-time_text p rest h =
    rw (
      two_digits-two_places p.hour _ h.0,
      two_digits-two_places p.minute _ h.1,
      two_digits-two_places p.second _ h.2,
      six_digits-six_places p.microsecond _ h.3,
    )

-- ---- what is read is spelled so

two_digits_takes : (text : List ℕ) (n : ℕ) (rest : List ℕ) → two_digits text ≡ Some (n, rest) → (text ≡ two_places n ++ rest) × (n < 100)
unfolding two_digits
two_digits_takes [] n rest e = cc
two_digits_takes (a ∷ []) n rest e = cc
two_digits_takes (a ∷ b ∷ more) n rest e =
    let read = cond_some (is_ascii_digit a && is_ascii_digit b) (10 * (a - 48) + (b - 48), more) (n, rest) e in
    let digits = and_parts (is_ascii_digit a) (is_ascii_digit b) read.0 in
    let first : (48 ≤ a) × (a ≤ 57) = grind (arith, nat_tests) in
    let second : (48 ≤ b) × (b ≤ 57) = grind (arith, nat_tests) in
    let value : 10 * (a - 48) + (b - 48) ≡ n = ap (λ (r : ℕ × List ℕ). r.0) read.1 in
    let after : more ≡ rest = ap (λ (r : ℕ × List ℕ). r.1) read.1 in
    let high : a ≡ 48 + n / 10 = omega arith in
    let low : b ≡ 48 + n % 10 = omega arith in
    (rw (high, low, after) refl, omega arith)

six_digits_takes : (text : List ℕ) (n : ℕ) (rest : List ℕ) → six_digits text ≡ Some (n, rest) → (text ≡ six_places n ++ rest) × (n < 1_000_000)
unfolding six_digits
six_digits_takes text n rest e =
    option_and_then_some _ (two_digits text) (n, rest) e (λ high was₁ e₁.
    option_and_then_some _ (two_digits high.1) (n, rest) e₁ (λ middle was₂ e₂.
    option_and_then_some _ (two_digits middle.1) (n, rest) e₂ (λ low was₃ e₃.
    let (a, a_small) = two_digits_takes text high.0 high.1 was₁ in
    let (b, b_small) = two_digits_takes high.1 middle.0 middle.1 was₂ in
    let (c, c_small) = two_digits_takes middle.1 low.0 low.1 was₃ in
    let (value, after) = some_pair_parts _ n low.1 rest e₃ in
    let h : high.0 ≡ n / 10_000 = omega arith in
    let m : middle.0 ≡ n / 100 % 100 = omega arith in
    let l : low.0 ≡ n % 100 = omega arith in
    (a ∙ ap (λ (t : List ℕ). two_places high.0 ++ t) (b ∙ ap (λ (t : List ℕ). two_places middle.0 ++ t) c) ∙ rw (h, m, l, after) refl, omega arith))))

after_byte_takes : (byte : ℕ) (text rest : List ℕ) → after_byte byte text ≡ Some rest → text ≡ byte ∷ rest
after_byte_takes byte [] rest e = cc
after_byte_takes byte (c ∷ more) rest e =
    let read = cond_some (c == byte) more rest e in
    let same : c ≡ byte = eqb-true c byte read.0 in
    rw (same, read.1) refl

-- two digits behind a sign
marked_takes : (byte : ℕ) (text : List ℕ) (n : ℕ) (rest : List ℕ) → option_and_then two_digits (after_byte byte text) ≡ Some (n, rest) → (text ≡ byte ∷ two_places n ++ rest) × (n < 100)
marked_takes byte text n rest e =
    option_and_then_some two_digits (after_byte byte text) (n, rest) e (λ more was read.
    let (digits, small) = two_digits_takes more n rest read in
    (after_byte_takes byte text more was ∙ ap (λ (t : List ℕ). byte ∷ t) digits, small))

pub date_at_takes : (text : List ℕ) (p : DateParts) (rest : List ℕ) → date_at text ≡ Some (p, rest) → (text ≡ date_text p ++ rest) × AreDateParts p
unfolding date_at
date_at_takes text p rest e =
    option_and_then_some _ (two_digits text) (p, rest) e (λ century was₁ e₁.
    option_and_then_some _ (two_digits century.1) (p, rest) e₁ (λ year was₂ e₂.
    option_and_then_some _ (option_and_then two_digits (after_byte 45 year.1)) (p, rest) e₂ (λ month was₃ e₃.
    option_and_then_some _ (option_and_then two_digits (after_byte 45 month.1)) (p, rest) e₃ (λ day was₄ e₄.
    let (a, a_small) = two_digits_takes text century.0 century.1 was₁ in
    let (b, b_small) = two_digits_takes century.1 year.0 year.1 was₂ in
    let (c, c_small) = marked_takes 45 year.1 month.0 month.1 was₃ in
    let (d, d_small) = marked_takes 45 month.1 day.0 day.1 was₄ in
    let (parts, after) = some_pair_parts _ p day.1 rest e₄ in
    let y : 100 * century.0 + year.0 ≡ p.year = ap (λ (q : DateParts). q.year) parts in
    let m : month.0 ≡ p.month = ap (λ (q : DateParts). q.month) parts in
    let k : day.0 ≡ p.day = ap (λ (q : DateParts). q.day) parts in
    let high : century.0 ≡ p.year / 100 = omega arith in
    let low : year.0 ≡ p.year % 100 = omega arith in
    let cells : text ≡ two_places century.0 ++ two_places year.0 ++ 45 ∷ two_places month.0 ++ 45 ∷ two_places day.0 ++ day.1 =
    a ∙ ap (λ (t : List ℕ). two_places century.0 ++ t) (b ∙ ap (λ (t : List ℕ). two_places year.0 ++ t) (c ∙ ap (λ (t : List ℕ). 45 ∷ two_places month.0 ++ t) d)) in
    (cells ∙ rw (high, low, m, k, after) refl, omega arith)))))

pub time_at_takes : (text : List ℕ) (p : TimeParts) (rest : List ℕ) → time_at text ≡ Some (p, rest) → (text ≡ time_text p ++ rest) × AreTimeParts p
unfolding time_at
time_at_takes text p rest e =
    option_and_then_some _ (two_digits text) (p, rest) e (λ hour was₁ e₁.
    option_and_then_some _ (option_and_then two_digits (after_byte 58 hour.1)) (p, rest) e₁ (λ minute was₂ e₂.
    option_and_then_some _ (option_and_then two_digits (after_byte 58 minute.1)) (p, rest) e₂ (λ second was₃ e₃.
    option_and_then_some _ (option_and_then six_digits (after_byte 46 second.1)) (p, rest) e₃ (λ micro was₄ e₄.
    option_and_then_some six_digits (after_byte 46 second.1) micro was₄ (λ more dot read.
    let (a, a_small) = two_digits_takes text hour.0 hour.1 was₁ in
    let (b, b_small) = marked_takes 58 hour.1 minute.0 minute.1 was₂ in
    let (c, c_small) = marked_takes 58 minute.1 second.0 second.1 was₃ in
    let (d, d_small) = six_digits_takes more micro.0 micro.1 read in
    let (parts, after) = some_pair_parts _ p micro.1 rest e₄ in
    let h : hour.0 ≡ p.hour = ap (λ (q : TimeParts). q.hour) parts in
    let m : minute.0 ≡ p.minute = ap (λ (q : TimeParts). q.minute) parts in
    let s : second.0 ≡ p.second = ap (λ (q : TimeParts). q.second) parts in
    let u : micro.0 ≡ p.microsecond = ap (λ (q : TimeParts). q.microsecond) parts in
    let cells : text ≡ two_places hour.0 ++ 58 ∷ two_places minute.0 ++ 58 ∷ two_places second.0 ++ 46 ∷ six_places micro.0 ++ micro.1 =
    a ∙ ap (λ (t : List ℕ). two_places hour.0 ++ t) (b ∙ ap (λ (t : List ℕ). 58 ∷ two_places minute.0 ++ t) (c ∙ ap (λ (t : List ℕ). 58 ∷ two_places second.0 ++ t) (after_byte_takes 46 second.1 more dot ∙ ap (λ (t : List ℕ). 46 ∷ t) d))) in
    (cells ∙ rw (h, m, s, u, after) refl, omega arith))))))

-- the parts of a text are one
pub date_text_apart : (p q : DateParts) (a b : List ℕ) → AreDateParts p → AreDateParts q → date_text p ++ a ≡ date_text q ++ b → (p ≡ q) × (a ≡ b)
date_text_apart p q a b hp hq e =
    some_pair_parts p q a b (sym (date_at-date_text p a hp) ∙ ap date_at e ∙ date_at-date_text q b hq)

pub time_text_apart : (p q : TimeParts) (a b : List ℕ) → AreTimeParts p → AreTimeParts q → time_text p ++ a ≡ time_text q ++ b → (p ≡ q) × (a ≡ b)
time_text_apart p q a b hp hq e =
    some_pair_parts p q a b (sym (time_at-time_text p a hp) ∙ ap time_at e ∙ time_at-time_text q b hq)

-- ---- whole texts

whole_some : {A : Type 0} (r : Read A) (x : A) → whole r ≡ Some x → r ≡ Some (x, [])
whole_some None x e = cc
whole_some (Some (y, [])) x e = rw (same_Some y x e) refl
whole_some (Some (y, b ∷ bs)) x e = cc

pub whole_date-some : (text : List ℕ) (p : DateParts) → whole (date_at text) ≡ Some p → (text ≡ date_text p) × AreDateParts p
whole_date-some text p e = date_at_takes text p [] (whole_some (date_at text) p e)

pub whole_date-none : (text : List ℕ) → whole (date_at text) ≡ None → ¬ (HasDateShape text)
whole_date-none text e (p, (fit, spelled)) =
    let read : whole (date_at (date_text p)) ≡ Some p = ap whole (date_at-date_text p [] fit) in
    none-some p (sym e ∙ ap (λ (t : List ℕ). whole (date_at t)) spelled ∙ read)

instant_at-instant_text : (p : InstantParts) → AreDateParts p.date → AreTimeParts p.time → instant_at (instant_text p) ≡ Some p
unfolding instant_at
instant_at-instant_text p d t =
    rw (date_at-date_text p.date (32 ∷ time_text p.time) d, time_at-time_text p.time [] t)

pub instant_at-some : (text : List ℕ) (p : InstantParts) → instant_at text ≡ Some p → (text ≡ instant_text p) × AreDateParts p.date × AreTimeParts p.time
unfolding instant_at
instant_at-some text p e =
    option_and_then_some _ (date_at text) p e (λ date was₁ e₁.
    option_and_then_some _ (whole (option_and_then time_at (after_byte 32 date.1))) p e₁ (λ time was₂ e₂.
    option_and_then_some time_at (after_byte 32 date.1) (time, []) (whole_some _ time was₂) (λ more space read.
    let (d, d_fit) = date_at_takes text date.0 date.1 was₁ in
    let (t, t_fit) = time_at_takes more time [] read in
    let parts = same_Some _ p e₂ in
    let cells : text ≡ date_text date.0 ++ 32 ∷ time_text time =
    d ∙ ap (λ (r : List ℕ). date_text date.0 ++ r) (after_byte_takes 32 date.1 more space ∙ ap (λ (r : List ℕ). 32 ∷ r) t) in
    let a : date.0 ≡ p.date = ap (λ (q : InstantParts). q.date) parts in
    let b : time ≡ p.time = ap (λ (q : InstantParts). q.time) parts in
    (cells ∙ rw (a, b) refl, rw a at d_fit, rw b at t_fit))))

pub instant_at-none : (text : List ℕ) → instant_at text ≡ None → ¬ (HasInstantShape text)
instant_at-none text e (p, (d, t, spelled)) =
    none-some p (sym e ∙ ap instant_at spelled ∙ instant_at-instant_text p d t)
