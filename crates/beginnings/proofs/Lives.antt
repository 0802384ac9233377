-- What stays of lives.
use Rattle.std.proofs.Common.{◌≡◌, ◌∙◌, ℕ, suc, ◌-◌, List, [], ◌∷◌, ◌++◌, length, refl, sym, ap, arith, append_assoc, append-nil, inl, inr}
use Rattle.std.specs.Prelude.{◌⊎◌, codes, if◌then◌else◌, slice_get}
use Rattle.model.specs.Lists.{IsBeginning}
use Rattle.flight.specs.Contents.{LifeContents}
use Rattle.flight.specs.Ranges.{is_up}
use Rattle.flight.specs.Spelling.{each_text, ending_text, life_text, opening_text, step_text}
use Rattle.flight.specs.declared.life.Ending.{Ending}
use Rattle.flight.specs.declared.life.Ending.TheVariants.{Up, Stopped, Torn}
use Rattle.flight.specs.declared.flight.Version.{Version}
use Rattle.beginnings.specs.Growing.{IsLonger}
use Rattle.beginnings.specs.Stems.{is_up_life, up_line}
use Rattle.beginnings.proofs.Leading.{Leads, chained, ending, life, opening, steps}

-- ---- whether the last life is up

-- a life more before the last one
up_before : (l m : LifeContents) (later : List LifeContents) → up_line (l ∷ m ∷ later) ≡ up_line (m ∷ later)
up_before l m later =
    let two : suc (suc (length later)) - 1 ≡ suc (length later) = omega arith in
    let one : suc (length later) - 1 ≡ length later = omega arith in
    let same : slice_get (l ∷ m ∷ later) (suc (suc (length later)) - 1) ≡ slice_get (m ∷ later) (suc (length later) - 1) =
    ap (slice_get (l ∷ m ∷ later)) two ∙ ap (slice_get (m ∷ later)) (sym one) in
    ap (λ o. if is_up_life o then codes "up\n" else []) same

-- ---- without the line `up`

abbrev pub kept_ending : Version → Ending → List ℕ
kept_ending v Up = []
kept_ending v Stopped = ending_text v Stopped []
kept_ending v (Torn s) = ending_text v (Torn s) []

abbrev pub kept_life : Version → LifeContents → List ℕ
kept_life v l = opening_text v l.opening (each_text (step_text v) l.steps (kept_ending v l.ending))

-- of the last life
abbrev pub kept_lives : Version → List LifeContents → List ℕ
kept_lives v [] = []
kept_lives v (l ∷ []) = kept_life v l
kept_lives v (l ∷ m ∷ later) = life_text v l [] ++ kept_lives v (m ∷ later)

ending_is : (v : Version) (e : Ending) (rest : List ℕ) → ending_text v e rest ≡ kept_ending v e ++ ((if is_up e then codes "up\n" else []) ++ rest)
ending_is v Up rest = refl
ending_is v Stopped rest = refl
ending_is v (Torn s) rest = (ending v (Torn s)).behind rest

led : (v : Version) (l : LifeContents) → Leads (λ rest. opening_text v l.opening (each_text (step_text v) l.steps rest))
led v l = chained (opening v l.opening) (steps v l.steps)

pub life_is : (v : Version) (l : LifeContents) (rest : List ℕ) → life_text v l rest ≡ kept_life v l ++ ((if is_up l.ending then codes "up\n" else []) ++ rest)
life_is v l rest =
    let up = (if is_up l.ending then codes "up\n" else []) ++ rest in
    let begun = opening_text v l.opening (each_text (step_text v) l.steps []) in
    ap (λ x. opening_text v l.opening (each_text (step_text v) l.steps x)) (ending_is v l.ending rest)
    ∙ ((led v l).behind (kept_ending v l.ending ++ up)
    ∙ (sym (append_assoc begun (kept_ending v l.ending) up) ∙ ap (λ x. x ++ up) (sym ((led v l).behind (kept_ending v l.ending)))))

pub lives_are : (v : Version) (lives : List LifeContents) (rest : List ℕ) → each_text (life_text v) lives rest ≡ kept_lives v lives ++ (up_line lives ++ rest)
lives_are v [] rest = refl
lives_are v (l ∷ []) rest = life_is v l rest
lives_are v (l ∷ m ∷ later) rest =
    let on = kept_lives v (m ∷ later) in
    (life v l).behind (each_text (life_text v) (m ∷ later) rest)
    ∙ (ap (λ x. life_text v l [] ++ x) (lives_are v (m ∷ later) rest)
    ∙ (sym (append_assoc (life_text v l []) on (up_line (m ∷ later) ++ rest)) ∙ ap (λ x. (life_text v l [] ++ on) ++ (x ++ rest)) (sym (up_before l m later))))

-- ---- lives that go on

begun_on : (a b c : List ℕ) → IsBeginning a b → IsBeginning b c → IsBeginning a c
begun_on a b c (x, p) (y, q) = (x ++ y, sym (append_assoc a x y) ∙ (ap (λ l. l ++ y) p ∙ q))

begun_behind : (w a b : List ℕ) → IsBeginning a b → IsBeginning (w ++ a) (w ++ b)
begun_behind w a b (x, p) = (x, append_assoc w a x ∙ ap (λ l. w ++ l) p)

same_begins : (a b : List ℕ) → a ≡ b → IsBeginning a b
same_begins a b e = ([], append-nil a ∙ e)

each_on : {A : Type 0} (spell : A → List ℕ → List ℕ) (xs ys : List A) (rest : List ℕ) → each_text spell (xs ++ ys) rest ≡ each_text spell xs (each_text spell ys rest)
each_on spell [] ys rest = refl
each_on spell (x ∷ xs) ys rest = ap (spell x) (each_on spell xs ys rest)

kept_up : (v : Version) (e : Ending) → e ≡ Up → kept_ending v e ≡ []
kept_up v e up = ap (kept_ending v) up

longer_begins : (v : Version) (l m : LifeContents) → IsLonger l m → IsBeginning (kept_life v l) (kept_life v m)
longer_begins v l m (inl same) = same_begins (kept_life v l) (kept_life v m) (ap (kept_life v) same)
longer_begins v l m (inr (up, opening_same, (more, steps_more))) =
    let on = each_text (step_text v) more (kept_ending v m.ending) in
    let short : kept_life v l ≡ opening_text v l.opening (each_text (step_text v) l.steps []) = ap (λ x. opening_text v l.opening (each_text (step_text v) l.steps x)) (kept_up v l.ending up) in
    let long : kept_life v m ≡ opening_text v l.opening (each_text (step_text v) l.steps on) =
    ap (λ o. opening_text v o (each_text (step_text v) m.steps (kept_ending v m.ending))) (sym opening_same)
    ∙ (ap (λ ss. opening_text v l.opening (each_text (step_text v) ss (kept_ending v m.ending))) (sym steps_more)
    ∙ ap (opening_text v l.opening) (each_on (step_text v) l.steps more (kept_ending v m.ending))) in
    (on, ap (λ x. x ++ on) short ∙ (sym ((led v l).behind on) ∙ sym long))

first_begins : (v : Version) (m : LifeContents) (later : List LifeContents) → IsBeginning (kept_life v m) (kept_lives v (m ∷ later))
first_begins v m [] = same_begins (kept_life v m) (kept_life v m) refl
first_begins v m (x ∷ later) =
    let up = (if is_up m.ending then codes "up\n" else []) ++ [] in
    let on = kept_lives v (x ∷ later) in
    (up ++ on, sym (append_assoc (kept_life v m) up on) ∙ ap (λ l. l ++ on) (sym (life_is v m [])))

kept_cons : (v : Version) (x : LifeContents) (front : List LifeContents) (l : LifeContents) (later : List LifeContents) → kept_lives v (x ∷ (front ++ l ∷ later)) ≡ life_text v x [] ++ kept_lives v (front ++ l ∷ later)
kept_cons v x [] l later = refl
kept_cons v x (y ∷ front) l later = refl

pub lives_begin : (v : Version) (front : List LifeContents) (l m : LifeContents) (later : List LifeContents) → IsLonger l m → IsBeginning (kept_lives v (front ++ l ∷ [])) (kept_lives v (front ++ m ∷ later))
lives_begin v [] l m later longer = begun_on (kept_life v l) (kept_life v m) (kept_lives v (m ∷ later)) (longer_begins v l m longer) (first_begins v m later)
lives_begin v (x ∷ front) l m later longer =
    let on = begun_behind (life_text v x []) (kept_lives v (front ++ l ∷ [])) (kept_lives v (front ++ m ∷ later)) (lives_begin v front l m later longer) in
    (on.0, ap (λ a. a ++ on.0) (kept_cons v x front l []) ∙ (on.1 ∙ sym (kept_cons v x front m later)))
