-- A text names one instant.
use Rattle.std.proofs.Common.{◌≡◌, ℕ, ◌+◌, ◌/◌, ◌%◌, append_assoc, List, [], ◌∷◌, ◌++◌, Option, Some, None, IfSome, IfNone, IsOkAnd, refl, sym, ap, ◌∙◌, arith}
use Rattle.std.specs.Option.{ok_or}
use Rattle.fault.specs.declared.refusal.Refusal.{Refusal}
use Rattle.period.specs.declared.parts.DateParts.{DateParts}
use Rattle.period.specs.declared.parts.TimeParts.{TimeParts}
use Rattle.period.specs.declared.parts.InstantParts.{InstantParts}
use Rattle.period.specs.Day.{IsDateOf, IsDayText, day_text}
use Rattle.period.specs.Instant.{IsInstant, IsTimeOfDay, IsDayAtTime, IsInstantText, microseconds_of, time_of, instant_text}
use Rattle.period.specs.Places as places
use Rattle.period.proofs.DayLemmas.{IsDateOf-fit, IsDayText-one_day, day_text-date_text}
use Rattle.period.proofs.ReadingLemmas.{date_text_apart, time_text_apart}

-- what a text of these parts says
pub record Names (n day : ℕ) (p : InstantParts) : Type 0 where
  pub on_day : IsDayText day (places.date_text p.date)
  pub is_time : IsTimeOfDay p.time
  pub is_instant : IsDayAtTime n day p.time

names_same : (n day : ℕ) (d e : DateParts) (t u : TimeParts) → d ≡ e → t ≡ u → IsDayText day (places.date_text e) → IsTimeOfDay u → IsDayAtTime n day u → Names n day (record { date = d; time = t })
names_same n day d e t u same_date same_time a b c =
    record {
      on_day = rw same_date a;
      is_time = rw same_time b;
      is_instant = rw same_time c;
    }

pub names : (n : ℕ) (p : InstantParts) → places.AreDateParts p.date → places.AreTimeParts p.time → (h : IsInstantText n (places.instant_text p)) → Names n h.day p
names n p d_fit t_fit h =
    let own = IsDateOf-fit h.date h.day h.is_date in
    let time_fit : places.AreTimeParts h.time = omega (arith, h.is_time) in
    let (date, rest) = date_text_apart p.date h.date (32 ∷ places.time_text p.time) (32 ∷ places.time_text h.time) d_fit own h.spelled in
    let times : places.time_text p.time ≡ places.time_text h.time = cc in
    let time = (time_text_apart p.time h.time [] [] t_fit time_fit times).0 in
    names_same n h.day p.date h.date p.time h.time date time (h.date, (h.is_date, refl)) h.is_time h.is_instant

-- every text of an instant has the shape
pub IsInstantText-shape : (n : ℕ) (text : List ℕ) → IsInstantText n text → places.HasInstantShape text
IsInstantText-shape n text h =
    let time_fit : places.AreTimeParts h.time = omega (arith, h.is_time) in
    (record { date = h.date; time = h.time }, (IsDateOf-fit h.date h.day h.is_date, time_fit, h.spelled))

-- an instant of a day at a time is one
at_one : (a b day : ℕ) (t : TimeParts) → IsDayAtTime a day t → IsDayAtTime b day t → a ≡ b
at_one a b day t x y = omega arith

pub IsInstantText-one : (a b : ℕ) (text : List ℕ) → IsInstantText a text → IsInstantText b text → a ≡ b
IsInstantText-one a b text x y =
    let (p, (d_fit, t_fit, e)) = IsInstantText-shape a text x in
    let first = names a p d_fit t_fit (rw e at x) in
    let second = names b p d_fit t_fit (rw e at y) in
    let day = IsDayText-one_day _ _ _ first.on_day second.on_day in
    at_one a b _ p.time first.is_instant (rw (sym day) at second.is_instant)

pub found_instant : {A : Type 0} (number : A → ℕ) (o : Option A) (r : Refusal) (text : List ℕ) → IfSome o (λ i. IsInstantText (number i) text) → IfNone o ((n : ℕ) → IsInstant n → ¬ (IsInstantText n text)) → (n : ℕ) → IsInstant n → IsInstantText n text → IsOkAnd (ok_or o r) (λ i. number i ≡ n)
found_instant number None r text some none n is h = absurd (none n is h)
found_instant number (Some x) r text some none n is h = IsInstantText-one (number x) n text some h

-- ---- what a reader answers, from the day and the time that it found

pub instant_named : (n day : ℕ) (p : InstantParts) → IsDayText day (places.date_text p.date) → IsTimeOfDay p.time → IsDayAtTime n day p.time → IsInstantText n (places.instant_text p)
instant_named n day p (date, (is, written)) time at =
    record {
      day = day;
      date = date;
      time = p.time;
      is_date = is;
      is_time = time;
      is_instant = at;
      spelled = ap (λ (t : List ℕ). t ++ 32 ∷ places.time_text p.time) written;
    }

not_named : (day : ℕ) (p : InstantParts) → places.AreDateParts p.date → places.AreTimeParts p.time → IsDayText day (places.date_text p.date) → ((i : ℕ) → IsInstant i → IsTimeOfDay p.time → ¬ (IsDayAtTime i day p.time)) → (i : ℕ) → IsInstant i → ¬ (IsInstantText i (places.instant_text p))
not_named day p d_fit t_fit on none i is h =
    let n = names i p d_fit t_fit h in
    let same = IsDayText-one_day _ _ _ n.on_day on in
    none i is n.is_time (rw same at n.is_instant)

pub none_named : {A : Type 0} (o : Option A) (day : ℕ) (p : InstantParts) → places.AreDateParts p.date → places.AreTimeParts p.time → IsDayText day (places.date_text p.date) → IfNone o ((i : ℕ) → IsInstant i → IsTimeOfDay p.time → ¬ (IsDayAtTime i day p.time)) → IfNone o ((i : ℕ) → IsInstant i → ¬ (IsInstantText i (places.instant_text p)))
none_named None day p d_fit t_fit on none = not_named day p d_fit t_fit on none
none_named (Some x) day p d_fit t_fit on none = tt

-- ---- an instant has one text

time_text-time_of : (n : ℕ) (t : TimeParts) → IsTimeOfDay t → n ≡ microseconds_of t → places.time_text t ≡ places.time_text (time_of n)
time_text-time_of n t clock e =
    let h : t.hour ≡ n / 3_600_000_000 = omega arith in
    let m : t.minute ≡ n / 60_000_000 % 60 = omega arith in
    let s : t.second ≡ n / 1_000_000 % 60 = omega arith in
    let u : t.microsecond ≡ n % 1_000_000 = omega arith in
    rw (h, m, s, u) refl

pub IsInstantText-instant_text : (n : ℕ) (text : List ℕ) → IsInstantText n text → text ≡ instant_text n
unfolding instant_text
IsInstantText-instant_text n text h =
    let at = h.is_instant in
    let clock = h.is_time in
    let day : n / 86_400_000_000 + 719_162 ≡ h.day = omega arith in
    let time : n % 86_400_000_000 ≡ microseconds_of h.time = omega arith in
    let date = day_text-date_text h.date h.day h.is_date in
    let clock_text = places.time_text (time_of (n % 86_400_000_000)) in
    h.spelled
    ∙ ap (λ (t : List ℕ). t ++ 32 ∷ places.time_text h.time) (sym date)
    ∙ ap (λ (t : List ℕ). day_text h.day ++ 32 ∷ t) (time_text-time_of (n % 86_400_000_000) h.time h.is_time time)
    ∙ sym (append_assoc (day_text h.day) (32 ∷ []) clock_text)
    ∙ ap (λ (d : ℕ). day_text d ++ 32 ∷ [] ++ clock_text) (sym day)

pub instant_text-is_text : (n : ℕ) (date : DateParts) → IsDateOf (n / 86_400_000_000 + 719_162) date → IsInstantText n (instant_text n)
unfolding instant_text
instant_text-is_text n date is =
    record {
      day = n / 86_400_000_000 + 719_162;
      date = date;
      time = time_of (n % 86_400_000_000);
      is_date = is;
      is_time = (omega arith, omega arith, omega arith, omega arith);
      is_instant = omega arith;
      spelled = append_assoc (day_text (n / 86_400_000_000 + 719_162)) (32 ∷ []) (places.time_text (time_of (n % 86_400_000_000))) ∙ ap (λ (t : List ℕ). t ++ 32 ∷ places.time_text (time_of (n % 86_400_000_000))) (day_text-date_text date (n / 86_400_000_000 + 719_162) is);
    }
