-- What a node did stands in the join of all lives in the order of its own.
use Rattle.std.proofs.Common.{◌≡◌, ◌∙◌, ℕ, zero, suc, ◌+◌, ◌<◌, ◌≤◌, ◌==◌, ◌&&◌, ◌||◌, Bool, true, false, nat_lt, nat_cmp, is_lt, List, [], ◌∷◌, ◌++◌, length, get_or, filter, Some, refl, sym, ap, subst, arith, inl, inr, append-nil, append_assoc, suc-le-suc, zero-le}
use Rattle.std.specs.Prelude.{if◌then◌else◌, slice_get}
use Rattle.std.specs.List.Sorted.{ties, IsNonDecreasingBy}
use Rattle.std.specs.declared.vec.Vec.{Vec}
use Rattle.std.specs.declared.alloc.Global.{Global}
use Rattle.std.proofs.lemmas.Bool.{cond-true, cond-false, cases_Bool, ltb-true, eq-eqb, ne_eqb}
use Rattle.std.proofs.lemmas.Bool.Decides.{nat_tests}
use Rattle.std.proofs.lemmas.List.Elements.{filter-append}
use Rattle.std.proofs.lemmas.Option.{same_Some}
use Rattle.model.specs.Lists.{nth}
use Rattle.flight.specs.Lives.{all_steps, last_of, last_mark, sent_at, torn_step}
use Rattle.flight.specs.declared.life.Life.{Life}
use Rattle.flight.specs.declared.life.Step.{Step}
use Rattle.flight.specs.declared.life.Ending.{Ending}
use Rattle.flight.specs.declared.life.Ending.TheVariants.{Up, Stopped, Torn}
use Rattle.moments.specs.declared.moment.Deed.{Deed}
use Rattle.moments.specs.declared.moment.Deed.TheVariants.{Opens, Takes, Tears, Answers, Stops}
use Rattle.moments.specs.declared.moment.Moment.{Moment}
use Rattle.moments.specs.declared.recorded.Recorded.{Recorded}
use Rattle.moments.specs.Rising.{marks_rise, lives_rise}
use Rattle.moments.specs.Moments.{step_moments, torn_moments, life_moments, deed_moments, answer_moment, answer_moments, end_moments, stop_moments, node_moments, listed, stray_moment, stray_moments, all_moments, IsTimeline}
use Rattle.auditor.proofs.Sorting.{sorted_once}

-- ---- what a node did, its answers aside

abbrev pub is_done : Deed → Bool
is_done (Opens life) = true
is_done (Takes life step) = true
is_done (Tears life) = true
is_done (Answers answer) = false
is_done (Stops life) = true

abbrev pub is_deed : ℕ → Moment → Bool
is_deed me m = (m.node == me) && is_done m.deed

pub and_true : (b : Bool) → (b && true) ≡ b
and_true true = refl
and_true false = refl

and_false : (b : Bool) → (b && false) ≡ false
and_false true = refl
and_false false = refl

both : (a b : Bool) → (a && b) ≡ true → (a ≡ true) × (b ≡ true)
both true b h = (refl, h)
both false b h = absurd (cc h)

-- each of these answers a test so
abbrev Are : (Moment → Bool) → Bool → List Moment → Type 0
Are p b [] = Unit {0}
Are p b (m ∷ ms) = (p m ≡ b) × Are p b ms

are_append : (p : Moment → Bool) (b : Bool) (xs ys : List Moment) → Are p b xs → Are p b ys → Are p b (xs ++ ys)
are_append p b [] ys h k = k
are_append p b (x ∷ xs) ys h k = (h.0, are_append p b xs ys h.1 k)

kept : (p : Moment → Bool) (m : Moment) (ms : List Moment) → p m ≡ true → filter p (m ∷ ms) ≡ m ∷ filter p ms
kept p m ms h = cond-true _ _ _ h

dropped : (p : Moment → Bool) (m : Moment) (ms : List Moment) → p m ≡ false → filter p (m ∷ ms) ≡ filter p ms
dropped p m ms h = cond-false _ _ _ h

all_kept : (p : Moment → Bool) (ms : List Moment) → Are p true ms → filter p ms ≡ ms
all_kept p [] h = refl
all_kept p (m ∷ ms) h = kept p m ms h.0 ∙ ap (λ (rest : List Moment). m ∷ rest) (all_kept p ms h.1)

none_kept : (p : Moment → Bool) (ms : List Moment) → Are p false ms → filter p ms ≡ []
none_kept p [] h = refl
none_kept p (m ∷ ms) h = dropped p m ms h.0 ∙ none_kept p ms h.1

module _ (me node : ℕ) (b : Bool) (same : (node == me) ≡ b) where
  done : ((node == me) && true) ≡ b
  done = and_true (node == me) ∙ same

  steps_are : (life k : ℕ) (steps : List Step) → Are (is_deed me) b (step_moments node life k steps)
  steps_are life k [] = tt
  steps_are life k (s ∷ steps) = (done, steps_are life (k + 1) steps)

  torn_are : (life : ℕ) (e : Ending) → Are (is_deed me) b (torn_moments node life e)
  torn_are life Up = tt
  torn_are life Stopped = tt
  torn_are life (Torn s) = (done, tt)

  ends_are : (life mark : ℕ) (e : Ending) → Are (is_deed me) b (end_moments node life mark e)
  ends_are life mark Up = tt
  ends_are life mark Stopped = (done, tt)
  ends_are life mark (Torn s) = tt

  deeds_are : (k : ℕ) (lives : List Life) → Are (is_deed me) b (deed_moments node k lives)
  deeds_are k [] = tt
  deeds_are k (l ∷ lives) = (
    done,
    are_append (is_deed me) b (step_moments node k 0 l.steps.items ++ torn_moments node k l.ending) (deed_moments node (k + 1) lives)
        (are_append (is_deed me) b (step_moments node k 0 l.steps.items) (torn_moments node k l.ending) (steps_are k 0 l.steps.items) (torn_are k l.ending))
        (deeds_are (k + 1) lives),
  )

  stops_are : (k : ℕ) (lives : List Life) → Are (is_deed me) b (stop_moments node k lives)
  stops_are k [] = tt
  stops_are k (l ∷ lives) = are_append (is_deed me) b (end_moments node k (last_mark l) l.ending) (stop_moments node (k + 1) lives) (ends_are k (last_mark l) l.ending) (stops_are (k + 1) lives)

answer_is : (me node k : ℕ) (a : Recorded) → Are (is_deed me) false (answer_moment node k a)
answer_is me node k a = elim (a.node == node) as (λ b. Are (is_deed me) false (if b then record { mark = a.mark; node = node; deed = Answers k } ∷ [] else [])) [ true ↦ (and_false (node == me), tt) | false ↦ tt ]

answers_are : (me node k : ℕ) (answers : List Recorded) → Are (is_deed me) false (answer_moments node k answers)
answers_are me node k [] = tt
answers_are me node k (a ∷ answers) = are_append (is_deed me) false (answer_moment node k a) (answer_moments node (k + 1) answers) (answer_is me node k a) (answers_are me node (k + 1) answers)

stray_is : (me n k : ℕ) (a : Recorded) → Are (is_deed me) false (stray_moment n k a)
stray_is me n k a = elim ((a.node == 0) || nat_lt n a.node) as (λ b. Are (is_deed me) false (if b then record { mark = a.mark; node = a.node; deed = Answers k } ∷ [] else [])) [ true ↦ (and_false (a.node == me), tt) | false ↦ tt ]

strays_are : (me n k : ℕ) (answers : List Recorded) → Are (is_deed me) false (stray_moments n k answers)
strays_are me n k [] = tt
strays_are me n k (a ∷ answers) = are_append (is_deed me) false (stray_moment n k a) (stray_moments n (k + 1) answers) (stray_is me n k a) (strays_are me n (k + 1) answers)

others : (me node : ℕ) (answers : List Recorded) (lives : List Life) → (node == me) ≡ false → filter (is_deed me) (node_moments answers node lives) ≡ []
others me node answers lives other =
    let p : Moment → Bool = is_deed me in
    none_kept p (node_moments answers node lives)
    (are_append p false (deed_moments node 0 lives ++ answer_moments node 0 answers) (stop_moments node 0 lives)
    (are_append p false (deed_moments node 0 lives) (answer_moments node 0 answers) (deeds_are me node false other 0 lives) (answers_are me node 0 answers))
    (stops_are me node false other 0 lives))

own_moments : (me : ℕ) (answers : List Recorded) (lives : List Life) → filter (is_deed me) (node_moments answers me lives) ≡ deed_moments me 0 lives ++ stop_moments me 0 lives
own_moments me answers lives =
    let p : Moment → Bool = is_deed me in
    let same : (me == me) ≡ true = eq-eqb me me refl in
    let deeds : filter p (deed_moments me 0 lives) ≡ deed_moments me 0 lives = all_kept p (deed_moments me 0 lives) (deeds_are me me true same 0 lives) in
    let stops : filter p (stop_moments me 0 lives) ≡ stop_moments me 0 lives = all_kept p (stop_moments me 0 lives) (stops_are me me true same 0 lives) in
    let none : filter p (answer_moments me 0 answers) ≡ [] = none_kept p (answer_moments me 0 answers) (answers_are me me 0 answers) in
    filter-append p (deed_moments me 0 lives ++ answer_moments me 0 answers) (stop_moments me 0 lives)
    ∙ ap (λ (xs : List Moment). xs ++ filter p (stop_moments me 0 lives)) (filter-append p (deed_moments me 0 lives) (answer_moments me 0 answers))
    ∙ ap (λ (xs : List Moment). (xs ++ filter p (answer_moments me 0 answers)) ++ filter p (stop_moments me 0 lives)) deeds
    ∙ ap (λ (xs : List Moment). (deed_moments me 0 lives ++ xs) ++ filter p (stop_moments me 0 lives)) none
    ∙ ap (λ (xs : List Moment). xs ++ filter p (stop_moments me 0 lives)) (append-nil (deed_moments me 0 lives))
    ∙ ap (λ (xs : List Moment). deed_moments me 0 lives ++ xs) stops

-- nodes after me
none_later : (me start : ℕ) (answers : List Recorded) (lives : List (Vec Life Global)) → me < start → filter (is_deed me) (listed answers start lives) ≡ []
none_later me start answers [] less = refl
none_later me start answers (x ∷ lives) less =
    let other : (start == me) ≡ false = ne_eqb start me (λ e. absurd (omega (arith, less, e))) in
    filter-append (is_deed me) (node_moments answers start x.items) (listed answers (start + 1) lives)
    ∙ ap (λ (xs : List Moment). xs ++ filter (is_deed me) (listed answers (start + 1) lives)) (others me start answers x.items other)
    ∙ none_later me (start + 1) answers lives (omega (arith, less))

own_listed : (me start j : ℕ) (answers : List Recorded) (lives : List (Vec Life Global)) (own : Vec Life Global) → start + j ≡ me → slice_get lives j ≡ Some own →
    filter (is_deed me) (listed answers start lives) ≡ deed_moments me 0 own.items ++ stop_moments me 0 own.items
own_listed me start j answers [] own e at = absurd (cc at)
own_listed me start zero answers (x ∷ lives) own e at =
    let here : start ≡ me = omega (arith, e) in
    let own_first : filter (is_deed me) (node_moments answers start x.items) ≡ deed_moments me 0 own.items ++ stop_moments me 0 own.items =
    ap (λ (node : ℕ). filter (is_deed me) (node_moments answers node x.items)) here ∙ own_moments me answers x.items
    ∙ ap (λ (y : Vec Life Global). deed_moments me 0 y.items ++ stop_moments me 0 y.items) (same_Some x own at) in
    filter-append (is_deed me) (node_moments answers start x.items) (listed answers (start + 1) lives)
    ∙ ap (λ (xs : List Moment). filter (is_deed me) (node_moments answers start x.items) ++ xs) (none_later me (start + 1) answers lives (omega (arith, here)))
    ∙ append-nil (filter (is_deed me) (node_moments answers start x.items))
    ∙ own_first
own_listed me start (suc j) answers (x ∷ lives) own e at =
    let other : (start == me) ≡ false = ne_eqb start me (λ same. absurd (omega (arith, e, same))) in
    filter-append (is_deed me) (node_moments answers start x.items) (listed answers (start + 1) lives)
    ∙ ap (λ (xs : List Moment). xs ++ filter (is_deed me) (listed answers (start + 1) lives)) (others me start answers x.items other)
    ∙ own_listed me (start + 1) j answers lives own (omega (arith, e)) at

own_of_all : (lives : List (Vec Life Global)) (answers : List Recorded) (me : ℕ) (own : Vec Life Global) → nth lives me ≡ Some own →
    filter (is_deed me) (all_moments lives answers) ≡ deed_moments me 0 own.items ++ stop_moments me 0 own.items
own_of_all lives answers zero own at = absurd (cc at)
own_of_all lives answers (suc j) own at =
    let me : ℕ = suc j in
    filter-append (is_deed me) (listed answers 1 lives) (stray_moments (length lives) 0 answers)
    ∙ ap (λ (xs : List Moment). filter (is_deed me) (listed answers 1 lives) ++ xs) (none_kept (is_deed me) (stray_moments (length lives) 0 answers) (strays_are me (length lives) 0 answers))
    ∙ append-nil (filter (is_deed me) (listed answers 1 lives))
    ∙ own_listed me 1 j answers lives own (omega arith) at

-- ---- in order

-- each life of node me, from this place on: its opening, its steps, the one that is cut short, its end
abbrev pub in_order : ℕ → ℕ → List Life → List Moment
in_order me k [] = []
in_order me k (l ∷ lives) = record { mark = l.opening.mark; node = me; deed = Opens k } ∷ (step_moments me k 0 l.steps.items ++ (torn_moments me k l.ending ++ (end_moments me k (last_mark l) l.ending ++ in_order me (k + 1) lives)))

-- marks do not fall, from this one on
abbrev Climbs : ℕ → List Moment → Type 0
Climbs n [] = Unit {0}
Climbs n (m ∷ ms) = (n ≤ m.mark) × Climbs m.mark ms

lower : (a b : ℕ) (ms : List Moment) → a ≤ b → Climbs b ms → Climbs a ms
lower a b [] le h = tt
lower a b (m ∷ ms) le h = (omega (arith, le, h.0), h.1)

last_join : (mark : ℕ) (xs ys : List Step) → last_of mark (xs ++ ys) ≡ last_of (last_of mark xs) ys
unfolding last_of
last_join mark [] ys = refl
last_join mark (x ∷ xs) ys = last_join x.mark xs ys

climbs_steps : (me life k mark : ℕ) (steps more : List Step) (tail : List Moment) → marks_rise mark (steps ++ more) ≡ true → (marks_rise (last_of mark steps) more ≡ true → Climbs (last_of mark steps) tail) → Climbs mark (step_moments me life k steps ++ tail)
unfolding marks_rise last_of
climbs_steps me life k mark [] more tail rise goes = goes rise
climbs_steps me life k mark (s ∷ steps) more tail rise goes =
    let parts = both (nat_lt mark s.mark && nat_lt (sent_at s.packet) s.mark) (marks_rise s.mark (steps ++ more)) rise in
    let over : mark < s.mark = ltb-true mark s.mark (both (nat_lt mark s.mark) (nat_lt (sent_at s.packet) s.mark) parts.0).0 in
    (omega (arith, over), climbs_steps me life (k + 1) s.mark steps more tail parts.1 goes)

last_torn : (mark : ℕ) (s : Step) → marks_rise mark (s ∷ []) ≡ true → mark < s.mark
unfolding marks_rise
last_torn mark s rise =
    let parts = both (nat_lt mark s.mark && nat_lt (sent_at s.packet) s.mark) true rise in
    ltb-true mark s.mark (both (nat_lt mark s.mark) (nat_lt (sent_at s.packet) s.mark) parts.0).0

climbs_life : (me k mark last : ℕ) (steps : List Step) (e : Ending) (next : List Moment) → marks_rise mark (steps ++ torn_step e) ≡ true → last ≡ last_of mark (steps ++ torn_step e) → Climbs last next →
    Climbs mark (step_moments me k 0 steps ++ (torn_moments me k e ++ (end_moments me k last e ++ next)))
unfolding last_of
climbs_life me k mark last steps Up next rise is goes = climbs_steps me k 0 mark steps [] next rise (λ h. subst (λ (n : ℕ). Climbs n next) (is ∙ last_join mark steps []) goes)
climbs_life me k mark last steps Stopped next rise is goes =
    let same : last ≡ last_of mark steps = is ∙ last_join mark steps [] in
    climbs_steps me k 0 mark steps [] (record { mark = last; node = me; deed = Stops k } ∷ next) rise (λ h. (omega (arith, same), goes))
climbs_life me k mark last steps (Torn s) next rise is goes =
    let same : last ≡ s.mark = is ∙ last_join mark steps (s ∷ []) in
    climbs_steps me k 0 mark steps (s ∷ []) (record { mark = s.mark; node = me; deed = Tears k } ∷ next) rise
    (λ h. (let over = last_torn (last_of mark steps) s h in omega (arith, over), subst (λ (n : ℕ). Climbs n next) same goes))

-- what is known of the first of lives whose marks rise
record FirstRises (last : ℕ) (l : Life) (lives : List Life) : Type 0 where
  over : last < l.opening.mark
  steps : marks_rise l.opening.mark (all_steps l) ≡ true
  later : lives_rise (last_mark l) lives ≡ true

first_rises : (last : ℕ) (l : Life) (lives : List Life) → lives_rise last (l ∷ lives) ≡ true → FirstRises last l lives
unfolding lives_rise
first_rises last l lives rise =
    let parts = both (nat_lt last l.opening.mark && marks_rise l.opening.mark (all_steps l)) (lives_rise (last_mark l) lives) rise in
    let first = both (nat_lt last l.opening.mark) (marks_rise l.opening.mark (all_steps l)) parts.0 in
    record { over = ltb-true last l.opening.mark first.0; steps = first.1; later = parts.1 }

climbs_lives : (me k last : ℕ) (lives : List Life) → lives_rise last lives ≡ true → Climbs last (in_order me k lives)
climbs_lives me k last [] rise = tt
climbs_lives me k last (l ∷ lives) rise =
    let h = first_rises last l lives rise in
    (omega (arith, h.over), climbs_life me k l.opening.mark (last_mark l) l.steps.items l.ending (in_order me (k + 1) lives) h.steps refl (climbs_lives me (k + 1) (last_mark l) lives h.later))

-- no later life has a mark that an earlier one has
climbs_torn : (me k mark last : ℕ) (steps : List Step) (e : Ending) (next : List Moment) → marks_rise mark (steps ++ torn_step e) ≡ true → last ≡ last_of mark (steps ++ torn_step e) → Climbs (suc last) next →
    Climbs mark ((step_moments me k 0 steps ++ torn_moments me k e) ++ next)
unfolding last_of
climbs_torn me k mark last steps e next rise is goes =
    subst (λ (ms : List Moment). Climbs mark ms) (sym (append_assoc (step_moments me k 0 steps) (torn_moments me k e) next)) (by_ending e rise is)
  where
    by_ending : (e : Ending) → marks_rise mark (steps ++ torn_step e) ≡ true → last ≡ last_of mark (steps ++ torn_step e) → Climbs mark (step_moments me k 0 steps ++ (torn_moments me k e ++ next))
    by_ending Up rise is = climbs_steps me k 0 mark steps [] next rise (λ h. let same : last ≡ last_of mark steps = is ∙ last_join mark steps [] in lower (last_of mark steps) (suc last) next (omega (arith, same)) goes)
    by_ending Stopped rise is = climbs_steps me k 0 mark steps [] next rise (λ h. let same : last ≡ last_of mark steps = is ∙ last_join mark steps [] in lower (last_of mark steps) (suc last) next (omega (arith, same)) goes)
    by_ending (Torn s) rise is =
        climbs_steps me k 0 mark steps (s ∷ []) (record { mark = s.mark; node = me; deed = Tears k } ∷ next) rise
        (λ h. let same : last ≡ s.mark = is ∙ last_join mark steps (s ∷ []) in let over = last_torn (last_of mark steps) s h in
        (omega (arith, over), lower s.mark (suc last) next (omega (arith, same)) goes))

climbs_deeds : (me k last : ℕ) (lives : List Life) → lives_rise last lives ≡ true → Climbs (suc last) (deed_moments me k lives)
climbs_deeds me k last [] rise = tt
climbs_deeds me k last (l ∷ lives) rise =
    let h = first_rises last l lives rise in
    (omega (arith, h.over), climbs_torn me k l.opening.mark (last_mark l) l.steps.items l.ending (deed_moments me (k + 1) lives) h.steps refl (climbs_deeds me (k + 1) (last_mark l) lives h.later))

-- ---- lists in order, and parts of them

climbs_to : (n : ℕ) (ms : List Moment) (j : ℕ) (d : Moment) → Climbs n ms → j < length ms → n ≤ (get_or ms j d).mark
climbs_to n [] j d h less = absurd (omega (arith, less))
climbs_to n (m ∷ ms) zero d h less = h.0
climbs_to n (m ∷ ms) (suc j) d h less =
    let less' : j < length ms = omega (arith, less) in
    let rest = climbs_to m.mark ms j d h.1 less' in omega (arith, rest, h.0)

climbing : (n : ℕ) (ms : List Moment) → Climbs n ms → (i j : ℕ) (d : Moment) → i ≤ j → j < length ms → (get_or ms i d).mark ≤ (get_or ms j d).mark
climbing n [] h i j d le less = absurd (omega (arith, less))
climbing n (m ∷ ms) h zero zero d le less = omega arith
climbing n (m ∷ ms) h zero (suc j) d le less = climbs_to m.mark ms j d h.1 (omega (arith, less))
climbing n (m ∷ ms) h (suc i) zero d le less = absurd (omega (arith, le))
climbing n (m ∷ ms) h (suc i) (suc j) d le less = climbing m.mark ms h.1 i j d (omega (arith, le)) (omega (arith, less))

climbs : (n : ℕ) (ms : List Moment) → ((j : ℕ) (d : Moment) → j < length ms → n ≤ (get_or ms j d).mark) → IsNonDecreasingBy (λ (m : Moment). m.mark) ms → Climbs n ms
climbs n [] h rises = tt
climbs n (m ∷ ms) h rises =
    (h zero m (suc-le-suc zero-le), climbs m.mark ms (λ j d less. rises zero (suc j) d zero-le (suc-le-suc less)) (λ i j d le less. rises (suc i) (suc j) d (suc-le-suc le) (suc-le-suc less)))

climbs_filter : (p : Moment → Bool) (n : ℕ) (ms : List Moment) → Climbs n ms → Climbs n (filter p ms)
climbs_filter p n [] h = tt
climbs_filter p n (m ∷ ms) h = elim (cases_Bool (p m)) [
  | inl held ↦ subst (λ (xs : List Moment). Climbs n xs) (sym (kept p m ms held)) (h.0, climbs_filter p m.mark ms h.1)
  | inr missed ↦ subst (λ (xs : List Moment). Climbs n xs) (sym (dropped p m ms missed)) (lower n m.mark (filter p ms) h.0 (climbs_filter p m.mark ms h.1))
]

filter_rises : (p : Moment → Bool) (ms : List Moment) → IsNonDecreasingBy (λ (m : Moment). m.mark) ms → IsNonDecreasingBy (λ (m : Moment). m.mark) (filter p ms)
filter_rises p ms rises = climbing 0 (filter p ms) (climbs_filter p 0 ms (climbs 0 ms (λ j d less. zero-le) rises))

-- two tests in either order
swapped : (p q : Moment → Bool) (ms : List Moment) → filter p (filter q ms) ≡ filter q (filter p ms)
swapped p q [] = refl
swapped p q (m ∷ ms) =
    let rest = swapped p q ms in
    elim (cases_Bool (p m)) [
      | inl held ↦ elim (cases_Bool (q m)) [
        | inl also ↦ ap (filter p) (kept q m ms also) ∙ kept p m (filter q ms) held ∙ ap (λ (xs : List Moment). m ∷ xs) rest ∙ sym (kept q m (filter p ms) also) ∙ sym (ap (filter q) (kept p m ms held))
        | inr but ↦ ap (filter p) (dropped q m ms but) ∙ rest ∙ sym (dropped q m (filter p ms) but) ∙ sym (ap (filter q) (kept p m ms held))
      ]
      | inr missed ↦ elim (cases_Bool (q m)) [
        | inl also ↦ ap (filter p) (kept q m ms also) ∙ dropped p m (filter q ms) missed ∙ rest ∙ sym (ap (filter q) (dropped p m ms missed))
        | inr but ↦ ap (filter p) (dropped q m ms but) ∙ rest ∙ sym (ap (filter q) (dropped p m ms missed))
      ]
    ]

-- ---- what stands at one mark

abbrev same_mark : Moment → Moment → Bool
same_mark = ties (λ (x y : Moment). is_lt (nat_cmp x.mark y.mark))

ties_at : (m n : ℕ) → ties (λ x y. is_lt (nat_cmp x y)) m n ≡ true → m ≡ n
ties_at m n h = grind (arith, nat_tests)

apart_at : (m n : ℕ) → m < n → ties (λ x y. is_lt (nat_cmp x y)) m n ≡ false
apart_at m n h = grind (arith, nat_tests)

none_at : (x : Moment) (n : ℕ) (ms : List Moment) → x.mark < n → Climbs n ms → filter (same_mark x) ms ≡ []
none_at x n [] less h = refl
none_at x n (m ∷ ms) less h =
    let over : x.mark < m.mark = omega (arith, less, h.0) in
    dropped (same_mark x) m ms (apart_at x.mark m.mark over) ∙ none_at x m.mark ms over h.1

-- the end of a life and what later lives do
end_apart : (x : Moment) (me k last : ℕ) (e : Ending) (ms : List Moment) → Climbs (suc last) ms →
    filter (same_mark x) (end_moments me k last e) ++ filter (same_mark x) ms ≡ filter (same_mark x) ms ++ filter (same_mark x) (end_moments me k last e)
end_apart x me k last Up ms h = sym (append-nil (filter (same_mark x) ms))
end_apart x me k last (Torn s) ms h = sym (append-nil (filter (same_mark x) ms))
end_apart x me k last Stopped ms h =
    let end : Moment = record { mark = last; node = me; deed = Stops k } in
    let f : List Moment → List Moment = filter (same_mark x) in
    elim (cases_Bool (same_mark x end)) [
      | inl at ↦
          let here : x.mark ≡ last = ties_at x.mark last at in
          let none : f ms ≡ [] = none_at x (suc last) ms (omega (arith, here)) h in
          ap (λ (xs : List Moment). f (end ∷ []) ++ xs) none ∙ append-nil (f (end ∷ [])) ∙ sym (ap (λ (xs : List Moment). xs ++ f (end ∷ [])) none)
      | inr other ↦
          let none : f (end ∷ []) ≡ [] = dropped (same_mark x) end [] other in
          ap (λ (xs : List Moment). xs ++ f ms) none ∙ sym (append-nil (f ms)) ∙ sym (ap (λ (xs : List Moment). f ms ++ xs) none)
    ]

-- one part among four
regroup : (a b c d : List Moment) → b ++ c ≡ c ++ b → a ++ (b ++ (c ++ d)) ≡ (a ++ c) ++ (b ++ d)
regroup a b c d e =
    ap (λ (xs : List Moment). a ++ xs) (sym (append_assoc b c d) ∙ ap (λ (xs : List Moment). xs ++ d) e ∙ append_assoc c b d)
    ∙ sym (append_assoc a c (b ++ d))

stays : (x : Moment) (me k last : ℕ) (lives : List Life) → lives_rise last lives ≡ true → filter (same_mark x) (in_order me k lives) ≡ filter (same_mark x) (deed_moments me k lives ++ stop_moments me k lives)
stays x me k last [] rise = refl
stays x me k last (l ∷ lives) rise =
    let f : List Moment → List Moment = filter (same_mark x) in
    let h = first_rises last l lives rise in
    let first : List Moment = life_moments me k l in
    let steps : List Moment = step_moments me k 0 l.steps.items in
    let torn : List Moment = torn_moments me k l.ending in
    let end : List Moment = end_moments me k (last_mark l) l.ending in
    let deeds : List Moment = deed_moments me (k + 1) lives in
    let stops : List Moment = stop_moments me (k + 1) lives in
    let rest : List Moment = in_order me (k + 1) lives in
    let opening : Moment = record { mark = l.opening.mark; node = me; deed = Opens k } in
    let whole : in_order me k (l ∷ lives) ≡ first ++ (end ++ rest) = ap (λ (xs : List Moment). opening ∷ xs) (sym (append_assoc steps torn (end ++ rest))) in
    ap f whole
    ∙ filter-append (same_mark x) first (end ++ rest)
    ∙ ap (λ (xs : List Moment). f first ++ xs) (filter-append (same_mark x) end rest)
    ∙ ap (λ (xs : List Moment). f first ++ (f end ++ xs)) (stays x me (k + 1) (last_mark l) lives h.later ∙ filter-append (same_mark x) deeds stops)
    ∙ regroup (f first) (f end) (f deeds) (f stops) (end_apart x me k (last_mark l) l.ending deeds (climbs_deeds me (k + 1) (last_mark l) lives h.later))
    ∙ ap (λ (xs : List Moment). xs ++ (f end ++ f stops)) (sym (filter-append (same_mark x) first deeds))
    ∙ ap (λ (xs : List Moment). f (first ++ deeds) ++ xs) (sym (filter-append (same_mark x) end stops))
    ∙ sym (filter-append (same_mark x) (first ++ deeds) (end ++ stops))

-- what node me did stands in the join in its order
pub stands_in_order : (lives : List (Vec Life Global)) (answers : List Recorded) (moments : List Moment) (me : ℕ) (own : Vec Life Global) → IsTimeline lives answers moments → nth lives me ≡ Some own → lives_rise 0 own.items ≡ true →
    filter (is_deed me) moments ≡ in_order me 0 own.items
stands_in_order lives answers moments me own timeline at rise =
    let deeds : List Moment → List Moment = filter (is_deed me) in
    sorted_once (λ (m : Moment). m.mark) (deeds (all_moments lives answers)) (deeds moments) (in_order me 0 own.items)
    (filter_rises (is_deed me) moments timeline.rises)
    (λ x. swapped (same_mark x) (is_deed me) moments ∙ ap deeds (timeline.stays x) ∙ sym (swapped (same_mark x) (is_deed me) (all_moments lives answers)))
    (climbing 0 (in_order me 0 own.items) (climbs_lives me 0 0 own.items rise))
    (λ x. stays x me 0 0 own.items rise ∙ ap (filter (same_mark x)) (sym (own_of_all lives answers me own at)))
