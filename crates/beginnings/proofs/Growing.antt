-- Flights that go on.
use Rattle.std.proofs.Common.{◌≡◌, ◌≢◌, ◌∙◌, ℕ, ◌+◌, ◌-◌, ◌≤◌, List, [], ◌∷◌, ◌++◌, length, take, drop, refl, sym, ap, arith, inl, inr, append_assoc, length-append, true, false}
use Rattle.std.specs.Prelude.{◌⊎◌, codes}
use Rattle.std.specs.Str.{bytes_eq}
use Rattle.std.proofs.lemmas.Bool.{cases_Bool, false≢true}
use Rattle.std.proofs.lemmas.List.{take_at, drop_at, length-take-le}
use Rattle.std.proofs.lemmas.Slice.Eq.{bytes_eq-Decides}
use Rattle.sha2.specs.Sha256.{sha256}
use Rattle.model.specs.Lists.{IsBeginning}
use Rattle.flight.specs.Contents.{FlightContents}
use Rattle.flight.specs.Spelling.{closing_text, flight_text}
use Rattle.beginnings.specs.Beginnings.{HasBeginning, beginning_of}
use Rattle.beginnings.specs.Growing.{Collide, GoesOn, IsGrown, IsSeenAgain}
use Rattle.beginnings.specs.Stems.{said, stem_of, tail_of, up_line}
use Rattle.beginnings.proofs.Leading.{heading, heading_text}
use Rattle.beginnings.proofs.Lives.{kept_lives, lives_are, lives_begin}

-- ---- the parts of a file

abbrev made : FlightContents → List ℕ
made f = heading_text f.version f.node f.members f.schema [] ++ kept_lives f.version f.lives

parts : (f : FlightContents) → flight_text f ≡ made f ++ tail_of f
unfolding tail_of
parts f =
    let front = heading_text f.version f.node f.members f.schema [] in
    let kept = kept_lives f.version f.lives in
    let tail = up_line f.lives ++ closing_text f.answers [] in
    ap (heading_text f.version f.node f.members f.schema) (lives_are f.version f.lives (closing_text f.answers []))
    ∙ ((heading f.version f.node f.members f.schema).behind (kept ++ tail) ∙ sym (append_assoc front kept tail))

stem_is : (f : FlightContents) → stem_of f ≡ made f
unfolding stem_of
stem_is f =
    let long : length (flight_text f) ≡ length (made f) + length (tail_of f) = ap length (parts f) ∙ length-append (made f) (tail_of f) in
    let less : length (made f) ≡ length (flight_text f) - length (tail_of f) = omega (arith, long) in
    ap (take (length (flight_text f) - length (tail_of f))) (parts f) ∙ take_at (made f) (tail_of f) (length (flight_text f) - length (tail_of f)) less

pub whole : (f : FlightContents) → stem_of f ++ tail_of f ≡ flight_text f
whole f = ap (λ l. l ++ tail_of f) (stem_is f) ∙ sym (parts f)

-- ---- growth

pub grown : (f g : FlightContents) → IsGrown f g → GoesOn f g
grown f g is =
    let kept = lives_begin f.version is.front is.last is.longer is.later is.goes_on in
    let front = heading_text f.version f.node f.members f.schema [] in
    let first : kept_lives f.version f.lives ≡ kept_lives f.version (is.front ++ is.last ∷ []) = ap (kept_lives f.version) is.lives in
    let second : kept_lives f.version (is.front ++ is.longer ∷ is.later) ≡ kept_lives g.version g.lives = (λ i. kept_lives (is.version i) (sym is.led i)) in
    let headed : front ≡ heading_text g.version g.node g.members g.schema [] = (λ i. heading_text (is.version i) (is.node i) (is.members i) (is.schema i) []) in
    let on : kept_lives f.version f.lives ++ kept.0 ≡ kept_lives g.version g.lives = ap (λ l. l ++ kept.0) first ∙ (kept.1 ∙ second) in
    let all : made f ++ kept.0 ≡ made g = append_assoc front (kept_lives f.version f.lives) kept.0 ∙ (ap (λ l. front ++ l) on ∙ ap (λ l. l ++ kept_lives g.version g.lives) headed) in
    ((kept.0, ap (λ l. l ++ kept.0) (stem_is f) ∙ (all ∙ sym (stem_is g))), is.answers)

-- ---- what has a beginning

pub later : (f g : FlightContents) → GoesOn f g → HasBeginning g (beginning_of f)
later f g ((more, stem), (others, answers)) =
    let long : length (stem_of g) ≡ length (stem_of f) + length more = ap length (sym stem) ∙ length-append (stem_of f) more in
    let many : length g.answers ≡ length f.answers + length others = ap length (sym answers) ∙ length-append f.answers others in
    let bytes : take (length (stem_of f)) (stem_of g) ≡ stem_of f = ap (take (length (stem_of f))) (sym stem) ∙ take_at (stem_of f) more (length (stem_of f)) refl in
    let given : take (length f.answers) g.answers ≡ f.answers = ap (take (length f.answers)) (sym answers) ∙ take_at f.answers others (length f.answers) refl in
    ((omega (arith, long), omega (arith, many)), (λ i. sha256 (bytes i ++ said (given i))))

-- two texts are equal, or they differ
equal_or : (xs ys : List ℕ) → (xs ≡ ys) ⊎ (xs ≢ ys)
equal_or xs ys =
    let decides = bytes_eq-Decides xs ys in
    elim (cases_Bool (bytes_eq xs ys)) [
      | inl same ↦ inl (decides.0 same)
      | inr other ↦ inr (λ e. false≢true (sym other ∙ decides.1 e))
    ]

pub no_others : (f g : FlightContents) → HasBeginning g (beginning_of f) → IsSeenAgain f g ⊎ Collide
no_others f g ((long, many), same) =
    let n = length (stem_of f) in
    let now = take n (stem_of g) in
    let told = said (take (length f.answers) g.answers) in
    let size : length now ≡ n = length-take-le n (stem_of g) long in
    elim (equal_or (now ++ told) (stem_of f ++ said f.answers)) [
      | inl one ↦ inl (
        sym (take_at now told n size) ∙ (ap (take n) one ∙ take_at (stem_of f) (said f.answers) n refl),
        sym (drop_at now told n size) ∙ (ap (drop n) one ∙ drop_at (stem_of f) (said f.answers) n refl),
      )
      | inr other ↦ inr (now ++ told, stem_of f ++ said f.answers, other, same)
    ]
