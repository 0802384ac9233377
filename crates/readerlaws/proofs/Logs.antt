-- Lists of entries: the past stays, one client's requests run in turn, and a repeat changes nothing.
use Rattle.std.proofs.Common.{◌≡◌, ℕ, zero, suc, ◌+◌, ◌-◌, ◌<◌, ◌≤◌, ◌⊎◌, inl, inr, true, false, cond, ◌==◌, List, [], ◌∷◌, ◌++◌, length, reverse, slice_get, filter, Option, Some, None, Err, refl, sym, ap, ◌∙◌, subst, arith, append-nil, append_assoc}
use Rattle.std.specs.Prelude.{nat_le, nat_lt, ◌&&◌, All, take, unwrap_or}
use Rattle.std.specs.Option.{option_map_or}
use Rattle.std.specs.Result.{result_unwrap_or}
use Rattle.std.proofs.lemmas.Bool.{cases_Bool, and_from, and_left, and_right, lt-leb, le-ltb, lt-ltb, eq-eqb, ne_eqb, eqb-true, cond-true, cond-false}
use Rattle.std.proofs.lemmas.List.{reverse-append}
use Rattle.std.proofs.lemmas.List.Elements.{filter-append}
use Rattle.fault.specs.declared.refusal.Refusal.TheVariants.{Old, Gap}
use Rattle.model.specs.declared.entry.Entry.{Entry}
use Rattle.model.specs.declared.entry.Request.{Request}
use Rattle.model.specs.Tables.{IsRow, empty_table}
use Rattle.model.specs.Transactions.{State, Language, executed_text}
use Rattle.model.specs.Logs.{Outcome, executed, is_first, outcome_at, state_after, first_outcome, first_outcomes, outcome, state_at}
use Rattle.safety.proofs.Accepted.{Later}
use Rattle.safety.proofs.Late.{late_answer}
use Rattle.readerlaws.specs.Laws.{PastStays, requests_from, run_in_turn, OneClient, AreAlike, RepeatIsHarmless, OnlyTheNextCounts, AnswersStay, AnswerHasTheRows}

-- ---- the past

none_left : (u : ℕ) (later : List Entry) → All (λ e. u < e.stamp) later → filter (λ e. nat_le e.stamp u) later ≡ []
none_left u [] all = refl
none_left u (e ∷ es) all = cond-false _ _ _ (lt-leb e.stamp u (all 0 e (omega arith))) ∙ none_left u es (λ k d p. all (suc k) d (omega arith))

pub past_stays : PastStays
unfolding state_at
past_stays language list later u all = ap (λ l. state_after language (reverse l))
    (filter-append (λ (e : Entry). nat_le e.stamp u) list later ∙ ap (λ l. filter (λ e. nat_le e.stamp u) list ++ l) (none_left u later all) ∙ append-nil (filter (λ e. nat_le e.stamp u) list))

-- ---- one more entry, if it is executed or not

module _ (language : Language) (e : Entry) (r : Request) (asks : e.request ≡ Some r) (before : List Entry) where
  if_asked : {A : Type 0} (f : Request → A) (other : A) → option_map_or f e.request other ≡ f r
  if_asked f other = ap (λ (o : Option Request). option_map_or f o other) asks

  state_first : is_first r before ≡ true → state_after language (e ∷ before) ≡ result_unwrap_or (executed_text language e.stamp r.text (state_after language before)) (state_after language before)
  unfolding state_after
  state_first f = if_asked (λ r. cond (is_first r before) (result_unwrap_or (executed_text language e.stamp r.text (state_after language before)) (state_after language before)) (state_after language before)) (state_after language before) ∙ cond-true _ _ _ f

  state_other : is_first r before ≡ false → state_after language (e ∷ before) ≡ state_after language before
  unfolding state_after
  state_other f = if_asked (λ r. cond (is_first r before) (result_unwrap_or (executed_text language e.stamp r.text (state_after language before)) (state_after language before)) (state_after language before)) (state_after language before) ∙ cond-false _ _ _ f

  counts : (c : ℕ) → executed c (e ∷ before) ≡ cond (r.client == c && r.number == executed c before + 1) (executed c before + 1) (executed c before)
  unfolding executed
  counts c = ap (λ b. cond b (executed c before + 1) (executed c before)) (if_asked (λ r. r.client == c && r.number == executed c before + 1) false)

  outcomes_are : (c : ℕ) → first_outcomes language c (e ∷ before) ≡ cond (r.client == c && is_first r before) (first_outcome language e.stamp r before ∷ first_outcomes language c before) (first_outcomes language c before)
  unfolding first_outcomes
  outcomes_are c = if_asked (λ r. cond (r.client == c && is_first r before) (first_outcome language e.stamp r before ∷ first_outcomes language c before) (first_outcomes language c before)) (first_outcomes language c before)

-- ---- one client's requests in turn

module _ (language : Language) (client : ℕ) where
  -- the entries of these requests, from the newest back, before those that were there
  abbrev onto : ℕ → List (ℕ × List ℕ) → List Entry → List Entry
  onto n items before = reverse (requests_from client n items) ++ before

  onto_more : (e : Entry) (es before : List Entry) → reverse (e ∷ es) ++ before ≡ reverse es ++ e ∷ before
  onto_more e es before = ap (λ l. l ++ before) (reverse-append (e ∷ []) es) ∙ append_assoc (reverse es) (e ∷ []) before

  record Ran (n : ℕ) (items : List (ℕ × List ℕ)) (before : List Entry) : Type 0 where
    state : state_after language (onto (n + 1) items before) ≡ run_in_turn language (state_after language before) items
    count : executed client (onto (n + 1) items before) ≡ n + length items

  ran : (n : ℕ) (items : List (ℕ × List ℕ)) (before : List Entry) → executed client before ≡ n → Ran n items before
  ran n [] before e = record { state = refl; count = e ∙ (omega arith) }
  ran n ((t, text) ∷ more) before e =
      let r : Request = record { client = client; number = n + 1; text = text } in
      let x : Entry = record { term = 1; stamp = t; request = Some r } in
      let first : is_first r before ≡ true = eq-eqb (n + 1) (executed client before + 1) (omega arith) in
      let mine : (client == client && n + 1 == executed client before + 1) ≡ true = and_from _ _ (eq-eqb client client refl) first in
      let one : executed client (x ∷ before) ≡ n + 1 = counts language x r refl before client ∙ cond-true _ _ _ mine ∙ ap (λ k. k + 1) e in
      let rest = ran (n + 1) more (x ∷ before) one in
      let same = onto_more x (requests_from client (n + 1 + 1) more) before in
      record {
        state = ap (state_after language) same ∙ rest.state ∙ ap (λ s. run_in_turn language s more) (state_first language x r refl before first);
        count = ap (executed client) same ∙ rest.count ∙ (omega arith);
      }

none_executed : (client : ℕ) → executed client [] ≡ 0
unfolding executed
none_executed client = refl

empty_after : (language : Language) → state_after language [] ≡ (λ n. empty_table)
unfolding state_after
empty_after language = refl

outcome_first : (language : Language) (t : ℕ) (r : Request) (before : List Entry) → is_first r before ≡ true → outcome language t r before ≡ first_outcome language t r before
unfolding outcome
outcome_first language t r before f = cond-true _ _ _ f

pub one_client : OneClient
one_client language client t text items =
    let before = reverse (requests_from client 1 items) in
    let all = ran language client 0 items [] (none_executed client) in
    let same : before ++ [] ≡ before = append-nil before in
    let state : state_after language before ≡ run_in_turn language (λ n. empty_table) items = ap (state_after language) (sym same) ∙ all.state ∙ ap (λ s. run_in_turn language s items) (empty_after language) in
    let count : executed client before ≡ length items = ap (executed client) (sym same) ∙ all.count ∙ (omega arith) in
    let r : Request = record { client = client; number = length items + 1; text = text } in
    (state, outcome_first language t r before (eq-eqb (length items + 1) (executed client before + 1) (omega arith)) ∙ ap (λ s. outcome_at t (executed_text language t text s)) state)

-- ---- a repeat

-- what a request comes to, by how many of its client were executed, their outcomes and the tables
abbrev outcome_by : Language → ℕ → Request → ℕ → List Outcome → State → Outcome
outcome_by language t r n outcomes state =
    cond (r.number == n + 1) (outcome_at t (executed_text language t r.text state)) (cond (nat_lt n r.number) (Err Gap) (unwrap_or (slice_get (take 8 outcomes) (n - r.number)) (Err Old)))

outcome_is : (language : Language) (t : ℕ) (r : Request) (before : List Entry) → outcome language t r before ≡ outcome_by language t r (executed r.client before) (first_outcomes language r.client before) (state_after language before)
unfolding outcome
outcome_is language t r before = refl

module _ (language : Language) (c : ℕ) where
  record Same (x : Entry) (before : List Entry) : Type 0 where
    count : executed c (x ∷ before) ≡ executed c before
    outcomes : first_outcomes language c (x ∷ before) ≡ first_outcomes language c before

  record Grows (x : Entry) (before : List Entry) : Type 0 where
    newest : Outcome
    count : executed c (x ∷ before) ≡ executed c before + 1
    outcomes : first_outcomes language c (x ∷ before) ≡ newest ∷ first_outcomes language c before

  no_request : (x : Entry) (before : List Entry) → x.request ≡ None → Same x before
  unfolding executed first_outcomes
  no_request x before e = record {
    count = ap (λ (o : Option Request). cond (option_map_or (λ r. r.client == c && r.number == executed c before + 1) o false) (executed c before + 1) (executed c before)) e;
    outcomes = ap (λ (o : Option Request). option_map_or (λ r. cond (r.client == c && is_first r before) (first_outcome language x.stamp r before ∷ first_outcomes language c before) (first_outcomes language c before)) o (first_outcomes language c before)) e;
  }

  -- the test of `executed` is that of the outcomes
  test_same : (r : Request) (before : List Entry) → (r.client == c && r.number == executed c before + 1) ≡ (r.client == c && is_first r before)
  test_same r before = elim (cases_Bool (r.client == c)) [
    | inl y ↦ ap (λ k. r.client == c && r.number == executed k before + 1) (sym (eqb-true r.client c y))
    | inr n ↦ and_left _ _ n ∙ sym (and_left _ _ n)
  ]

  not_counted : (x : Entry) (r : Request) (before : List Entry) → x.request ≡ Some r → (r.client == c && r.number == executed c before + 1) ≡ false → Same x before
  not_counted x r before e n = record {
    count = counts language x r e before c ∙ cond-false _ _ _ n;
    outcomes = outcomes_are language x r e before c ∙ cond-false _ _ _ (sym (test_same r before) ∙ n);
  }

  counted : (x : Entry) (r : Request) (before : List Entry) → x.request ≡ Some r → (r.client == c && r.number == executed c before + 1) ≡ true → Grows x before
  counted x r before e y = record {
    newest = first_outcome language x.stamp r before;
    count = counts language x r e before c ∙ cond-true _ _ _ y;
    outcomes = outcomes_are language x r e before c ∙ cond-true _ _ _ (sym (test_same r before) ∙ y);
  }

  step : (x : Entry) (before : List Entry) → Same x before ⊎ Grows x before
  step x before = by x.request refl
    where
      by : (o : Option Request) → x.request ≡ o → Same x before ⊎ Grows x before
      by None e = inl (no_request x before e)
      by (Some r) e = elim (cases_Bool (r.client == c && r.number == executed c before + 1)) [ inl y ↦ inr (counted x r before e y) | inr n ↦ inl (not_counted x r before e n) ]

  -- the outcome of the request with this number is kept at its place
  record Stands (number : ℕ) (o : Outcome) (before : List Entry) : Type 0 where
    within : number ≤ executed c before
    at : slice_get (first_outcomes language c before) (executed c before - number) ≡ Some o

  stands_on : (number : ℕ) (o : Outcome) (before : List Entry) (x : Entry) → Stands number o before → Stands number o (x ∷ before)
  stands_on number o before x s = elim (step x before) [
    | inl a ↦ let e = a.count in let w = s.within in record { within = omega arith; at = ap (λ l. slice_get l (executed c (x ∷ before) - number)) a.outcomes ∙ ap (λ k. slice_get (first_outcomes language c before) (k - number)) a.count ∙ s.at }
    | inr g ↦ let e = g.count in let w = s.within in
        let k : executed c (x ∷ before) - number ≡ suc (executed c before - number) = omega arith in
        record { within = omega arith; at = ap (λ l. slice_get l (executed c (x ∷ before) - number)) g.outcomes ∙ ap (λ i. slice_get (g.newest ∷ first_outcomes language c before) i) k ∙ s.at }
  ]

  stands_after : (number : ℕ) (o : Outcome) (between before : List Entry) → Stands number o before → Stands number o (between ++ before)
  stands_after number o [] before s = s
  stands_after number o (x ∷ between) before s = stands_on number o (between ++ before) x (stands_after number o between before s)

take_get : {A : Type 0} (n k : ℕ) (xs : List A) → k < n → slice_get (take n xs) k ≡ slice_get xs k
take_get zero k xs l = absurd (omega arith)
take_get (suc n) k [] l = refl
take_get (suc n) zero (x ∷ xs) l = refl
take_get (suc n) (suc k) (x ∷ xs) l = take_get n k xs (omega arith)

-- the first time stands
first_stands : (language : Language) (d : Entry) (r : Request) (older : List Entry) → d.request ≡ Some r → is_first r older ≡ true → Stands language r.client r.number (first_outcome language d.stamp r older) (d ∷ older)
first_stands language d r older e f =
    let mine : (r.client == r.client && r.number == executed r.client older + 1) ≡ true = and_from _ _ (eq-eqb r.client r.client refl) f in
    let count : executed r.client (d ∷ older) ≡ executed r.client older + 1 = counts language d r e older r.client ∙ cond-true _ _ _ mine in
    let number : r.number ≡ executed r.client older + 1 = eqb-true r.number (executed r.client older + 1) f in
    let outcomes : first_outcomes language r.client (d ∷ older) ≡ first_outcome language d.stamp r older ∷ first_outcomes language r.client older = outcomes_are language d r e older r.client ∙ cond-true _ _ _ mine in
    let k : executed r.client (d ∷ older) - r.number ≡ 0 = omega arith in
    record { within = omega arith; at = ap (λ l. slice_get l (executed r.client (d ∷ older) - r.number)) outcomes ∙ ap (λ i. slice_get (first_outcome language d.stamp r older ∷ first_outcomes language r.client older) i) k }

-- a request with a number that was executed is told what stands at its place
told_again : (language : Language) (t : ℕ) (again : Request) (o : Outcome) (before : List Entry) → Stands language again.client again.number o before → executed again.client before < again.number + 8 → outcome language t again before ≡ o
told_again language t again o before s l =
    let w = s.within in
    let n = executed again.client before in
    outcome_is language t again before
    ∙ cond-false _ _ _ (ne_eqb again.number (n + 1) (λ e. omega arith))
    ∙ cond-false _ _ _ (le-ltb n again.number (omega arith))
    ∙ ap (λ x. unwrap_or x (Err Old)) (take_get 8 (n - again.number) (first_outcomes language again.client before) (omega arith) ∙ s.at)

-- a request with another number than the next counts for no client
not_next : (language : Language) (c : ℕ) (e : Entry) (r : Request) (before : List Entry) → e.request ≡ Some r → is_first r before ≡ false → Same language c e before
not_next language c e r before asks other = not_counted language c e r before asks (elim (cases_Bool (r.client == c)) [
  | inl y ↦ and_right _ _ (subst (λ k. (r.number == executed k before + 1) ≡ false) (eqb-true r.client c y) other)
  | inr n ↦ and_left _ _ n
])

alike : (language : Language) (e : Entry) (r : Request) (before : List Entry) → e.request ≡ Some r → is_first r before ≡ false → AreAlike language (e ∷ before) before
alike language e r before asks other =
    let state : state_after language (e ∷ before) ≡ state_after language before = state_other language e r asks before other in (
      state,
      λ t s.
          (let same = not_next language s.client e r before asks other in
          outcome_is language t s (e ∷ before)
          ∙ ap (λ n. outcome_by language t s n (first_outcomes language s.client (e ∷ before)) (state_after language (e ∷ before))) same.count
          ∙ ap (λ os. outcome_by language t s (executed s.client before) os (state_after language (e ∷ before))) same.outcomes
          ∙ ap (λ x. outcome_by language t s (executed s.client before) (first_outcomes language s.client before) x) state
          ∙ sym (outcome_is language t s before)),
    )

pub repeat_is_harmless : RepeatIsHarmless
repeat_is_harmless language older between d e r again asks first asks_again client number =
    let before = between ++ d ∷ older in
    let o = first_outcome language d.stamp r older in
    let s = stands_after language r.client r.number o between (d ∷ older) (first_stands language d r older asks first) in
    let s' : Stands language again.client again.number o before = subst (λ k. Stands language again.client k o before) (sym number) (subst (λ k. Stands language k r.number o before) (sym client) s) in
    let w = s'.within in (
      alike language e again before asks_again (ne_eqb again.number (executed again.client before + 1) (λ q. omega arith)),
      λ l.
          (told_again language e.stamp again o before s' (let few : executed again.client before < r.number + 8 = subst (λ k. executed k before < r.number + 8) (sym client) l in omega arith)
          ∙ sym (outcome_first language d.stamp r older first)),
    )

-- ---- other numbers

take_none : {A : Type 0} (n k : ℕ) (xs : List A) → n ≤ k → slice_get (take n xs) k ≡ None
take_none zero k xs l = refl
take_none (suc n) zero xs l = absurd (omega arith)
take_none (suc n) (suc k) [] l = refl
take_none (suc n) (suc k) (x ∷ xs) l = take_none n k xs (omega arith)

told_gap : (language : Language) (t : ℕ) (r : Request) (before : List Entry) → executed r.client before + 1 < r.number → outcome language t r before ≡ Err Gap
told_gap language t r before l =
    let n = executed r.client before in
    outcome_is language t r before ∙ cond-false _ _ _ (ne_eqb r.number (n + 1) (λ e. omega arith)) ∙ cond-true _ _ _ (lt-ltb n r.number (omega arith))

told_old : (language : Language) (t : ℕ) (r : Request) (before : List Entry) → r.number + 8 ≤ executed r.client before → outcome language t r before ≡ Err Old
told_old language t r before l =
    let n = executed r.client before in
    outcome_is language t r before
    ∙ cond-false _ _ _ (ne_eqb r.number (n + 1) (λ e. omega arith))
    ∙ cond-false _ _ _ (le-ltb n r.number (omega arith))
    ∙ ap (λ x. unwrap_or x (Err Old)) (take_none 8 (n - r.number) (first_outcomes language r.client before) (omega arith))

pub only_the_next_counts : OnlyTheNextCounts
only_the_next_counts language before e r asks = (alike language e r before asks, told_gap language e.stamp r before, told_old language e.stamp r before)

-- ---- answers

later_all : (w u : ℕ) (es : List Entry) → w ≤ u → All (λ e. u < e.stamp) es → Later w es
later_all w u [] l all = tt
later_all w u (e ∷ es) l all = ((let h = all 0 e (omega arith) in omega arith), later_all w u es l (λ k d p. all (suc k) d (omega arith)))

pub answers_stay : AnswersStay
answers_stay language q list later a all = late_answer language q list later a (λ w l. later_all w q.time.last later l all)

pub answer_has_the_rows : AnswerHasTheRows
answer_has_the_rows language n u passes list a row is = (
  (λ h. let asked = (is.rows row).0 h in let at = asked.1 in let x = at.1.0 in let y = at.1.1 in let same : at.0 ≡ u = omega arith in (subst (λ w. IsRow (state_at language list w n) row) same at.2, asked.0)),
  (λ h. (is.rows row).1 (h.1, (u, (omega arith, omega arith), h.0))),
)
