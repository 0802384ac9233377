-- What entries leave, from the first on, is what today's words say from the newest back, if transactions come to the same.
use Rattle.std.proofs.Common.{◌≡◌, ℕ, zero, suc, ◌+◌, ◌&&◌, Bool, true, false, cond, not, Option, Some, None, List, [], ◌∷◌, ◌++◌, length, refl, sym, ap, ◌∙◌, arith, reverse, filter, take, ◌-◌}
use Rattle.std.proofs.lemmas.List.{reverse-append, reverse-reverse}
use Rattle.std.specs.Prelude.{nat_le, nat_lt, slice_get, unwrap_or, ◌==◌, Result, Ok, Err, option_map, option_and_then}
use Rattle.std.specs.Option.{option_map_or}
use Rattle.std.specs.Result.{result_unwrap_or, result_map_both}
use Rattle.std.proofs.lemmas.List.Sums.{fold_push}
use Rattle.std.proofs.lemmas.Bool.{eqb-true, eq-eqb, le-ltb}
use Rattle.fault.specs.declared.refusal.Refusal.{Refusal}
use Rattle.fault.specs.declared.refusal.Refusal.TheVariants.{Old, Gap}
use Rattle.model.specs.Transactions.{State, Language, executed_text}
use Rattle.model.specs.declared.entry.Request.{Request}
use Rattle.model.specs.declared.entry.Entry.{Entry}
use Rattle.model.specs.Logs as before
use Rattle.model.specs.declared.entry.Told.{Told}
use Rattle.std.proofs.lemmas.Option.{slice_get_within, get_or_from_slice_get}
use Rattle.std.proofs.Math.Seq.{take-suc}
use Rattle.believed.specs.Transactions.{transacted}
use Rattle.believed.specs.Logs as now
use Rattle.believed.proofs.TransactionsSame.{transaction_same}

abbrev pub Same : Language → Type 0
Same language = (t : ℕ) (text : List ℕ) (state : State) → transacted language t text state ≡ executed_text language t text state

-- one entry more
step : Language → now.Replay → Entry → now.Replay
step language x e = option_map_or (λ r. now.execute language e.stamp r x) e.request x

outcome_same : (t : ℕ) (r : Result State Refusal) → result_map_both (λ next. t) (λ refusal. refusal) r ≡ before.outcome_at t r
outcome_same t (Ok next) = refl
outcome_same t (Err refusal) = refl

state_step : (q : Bool) (x : now.Replay) (result : Result State Refusal) (f : ℕ → List (Result ℕ Refusal)) →
    (cond (not q) x (record { state = result_unwrap_or result x.state; outcomes = f })).state ≡ cond q (result_unwrap_or result x.state) x.state
state_step true x result f = refl
state_step false x result f = refl

first_true : (b : Bool) (n : ℕ) (o : before.Outcome) (xs : List before.Outcome) → length xs ≡ n → length (cond b (o ∷ xs) xs) ≡ cond b (n + 1) n
first_true true n o xs e = ap suc e ∙ omega arith
first_true false n o xs e = e

first_by : (b : Bool) (m k n : ℕ) (o : before.Outcome) (xs : List before.Outcome) → length xs ≡ n → (b ≡ true → k ≡ n) →
    length (cond (b && (m == k + 1)) (o ∷ xs) xs) ≡ cond (b && (m == n + 1)) (n + 1) n
first_by false m k n o xs e f = e
first_by true m k n o xs e f = ap (λ j. length (cond (m == j + 1) (o ∷ xs) xs)) (f refl) ∙ first_true (m == n + 1) n o xs e

counts_by : (language : Language) (c : ℕ) (t : ℕ) (b : List Entry) (q : Option Request) → length (before.first_outcomes language c b) ≡ before.executed c b →
    length (option_map_or (λ r. cond (r.client == c && before.is_first r b) (before.first_outcome language t r b ∷ before.first_outcomes language c b) (before.first_outcomes language c b)) q (before.first_outcomes language c b))
    ≡ cond (option_map_or (λ r. r.client == c && r.number == before.executed c b + 1) q false) (before.executed c b + 1) (before.executed c b)
counts_by language c t b None e = e
counts_by language c t b (Some r) e = first_by (r.client == c) r.number (before.executed r.client b) (before.executed c b) _ _ e (λ x. ap (λ k. before.executed k b) (eqb-true r.client c x))

-- there are as many outcomes as were executed
counts : (language : Language) (c : ℕ) (b : List Entry) → length (before.first_outcomes language c b) ≡ before.executed c b
unfolding before.first_outcomes before.executed
counts language c [] = refl
counts language c (e ∷ b) = counts_by language c e.stamp b e.request (counts language c b)

outcomes_step : (b q : Bool) (rc c : ℕ) (x : now.Replay) (state : State) (o : Result ℕ Refusal) → (b ≡ true → rc ≡ c) → b ≡ (rc == c) →
    (cond (not q) x (record { state = state; outcomes = λ client. cond (rc == client) (o ∷ x.outcomes rc) (x.outcomes client) })).outcomes c ≡ cond (b && q) (o ∷ x.outcomes c) (x.outcomes c)
outcomes_step true false rc c x state o f e = refl
outcomes_step false false rc c x state o f e = refl
outcomes_step true true rc c x state o f e = ap (λ b. cond b (o ∷ x.outcomes rc) (x.outcomes c)) (sym e) ∙ ap (λ k. o ∷ x.outcomes k) (f refl)
outcomes_step false true rc c x state o f e = ap (λ b. cond b (o ∷ x.outcomes rc) (x.outcomes c)) (sym e)

-- a replay that is what is said of these entries, from the newest back
record Says (language : Language) (b : List Entry) (x : now.Replay) : Type 0 where
  state : x.state ≡ before.state_after language b
  outcomes : (c : ℕ) → x.outcomes c ≡ before.first_outcomes language c b

is_first_same : (language : Language) (b : List Entry) (x : now.Replay) → Says language b x → (r : Request) (o : Result ℕ Refusal) →
    (r.number == length (o ∷ x.outcomes r.client)) ≡ before.is_first r b
is_first_same language b x says r o = ap (λ k. r.number == k) (ap suc (ap length (says.outcomes r.client) ∙ counts language r.client b) ∙ omega arith)

request_state : (language : Language) → Same language → (t : ℕ) (b : List Entry) (x : now.Replay) → Says language b x → (r : Request) →
    (now.execute language t r x).state
    ≡ cond (before.is_first r b) (result_unwrap_or (executed_text language t r.text (before.state_after language b)) (before.state_after language b)) (before.state_after language b)
unfolding now.execute
request_state language same t b x says r =
    state_step (r.number == length (result_map_both (λ next. t) (λ refusal. refusal) (transacted language t r.text x.state) ∷ x.outcomes r.client)) x (transacted language t r.text x.state)
    (λ client. cond (r.client == client) (result_map_both (λ next. t) (λ refusal. refusal) (transacted language t r.text x.state) ∷ x.outcomes r.client) (x.outcomes client))
    ∙ ap (λ q. cond q (result_unwrap_or (transacted language t r.text x.state) x.state) x.state) (is_first_same language b x says r (result_map_both (λ next. t) (λ refusal. refusal) (transacted language t r.text x.state)))
    ∙ ap (λ s. cond (before.is_first r b) (result_unwrap_or (transacted language t r.text s) s) s) says.state
    ∙ ap (λ res. cond (before.is_first r b) (result_unwrap_or res (before.state_after language b)) (before.state_after language b)) (same t r.text (before.state_after language b))

request_outcomes : (language : Language) → Same language → (t : ℕ) (b : List Entry) (x : now.Replay) → Says language b x → (r : Request) (c : ℕ) →
    (now.execute language t r x).outcomes c
    ≡ cond (r.client == c && before.is_first r b) (before.first_outcome language t r b ∷ before.first_outcomes language c b) (before.first_outcomes language c b)
unfolding now.execute
request_outcomes language same t b x says r c =
    outcomes_step (r.client == c) (r.number == length (result_map_both (λ next. t) (λ refusal. refusal) (transacted language t r.text x.state) ∷ x.outcomes r.client)) r.client c x (result_unwrap_or (transacted language t r.text x.state) x.state)
    (result_map_both (λ next. t) (λ refusal. refusal) (transacted language t r.text x.state)) (eqb-true r.client c) refl
    ∙ ap (λ q. cond (r.client == c && q) (result_map_both (λ next. t) (λ refusal. refusal) (transacted language t r.text x.state) ∷ x.outcomes c) (x.outcomes c)) (is_first_same language b x says r (result_map_both (λ next. t) (λ refusal. refusal) (transacted language t r.text x.state)))
    ∙ ap (λ xs. cond (r.client == c && before.is_first r b) (result_map_both (λ next. t) (λ refusal. refusal) (transacted language t r.text x.state) ∷ xs) xs) (says.outcomes c)
    ∙ ap (λ o. cond (r.client == c && before.is_first r b) (o ∷ before.first_outcomes language c b) (before.first_outcomes language c b))
    (ap (λ s. result_map_both (λ next. t) (λ refusal. refusal) (transacted language t r.text s)) says.state
    ∙ ap (λ res. result_map_both (λ next. t) (λ refusal. refusal) res) (same t r.text (before.state_after language b))
    ∙ outcome_same t (executed_text language t r.text (before.state_after language b)))

step_state : (language : Language) → Same language → (t : ℕ) (b : List Entry) (x : now.Replay) → Says language b x → (q : Option Request) →
    (option_map_or (λ r. now.execute language t r x) q x).state
    ≡ option_map_or (λ r. cond (before.is_first r b) (result_unwrap_or (executed_text language t r.text (before.state_after language b)) (before.state_after language b)) (before.state_after language b)) q (before.state_after language b)
step_state language same t b x says None = says.state
step_state language same t b x says (Some r) = request_state language same t b x says r

step_outcomes : (language : Language) → Same language → (t : ℕ) (b : List Entry) (x : now.Replay) → Says language b x → (q : Option Request) (c : ℕ) →
    (option_map_or (λ r. now.execute language t r x) q x).outcomes c
    ≡ option_map_or (λ r. cond (r.client == c && before.is_first r b) (before.first_outcome language t r b ∷ before.first_outcomes language c b) (before.first_outcomes language c b)) q (before.first_outcomes language c b)
step_outcomes language same t b x says None c = says.outcomes c
step_outcomes language same t b x says (Some r) c = request_outcomes language same t b x says r c

replay_push : (language : Language) (list : List Entry) (e : Entry) → now.replay language (list ++ e ∷ []) ≡ step language (now.replay language list) e
unfolding now.replay step
replay_push language list e = fold_push (λ x e. option_map_or (λ r. now.execute language e.stamp r x) e.request x) _ list e

replay_says : (language : Language) → Same language → (b : List Entry) → Says language b (now.replay language (reverse b))
unfolding now.replay before.state_after before.first_outcomes step
replay_says language same [] = record { state = refl; outcomes = λ c. refl }
replay_says language same (e ∷ b) =
    let says = replay_says language same b in
    record {
      state = ap (λ l. (now.replay language l).state) (reverse-append (e ∷ []) b) ∙ ap (λ x. x.state) (replay_push language (reverse b) e) ∙ step_state language same e.stamp b (now.replay language (reverse b)) says e.request;
      outcomes = λ c. ap (λ l. (now.replay language l).outcomes c) (reverse-append (e ∷ []) b) ∙ ap (λ x. x.outcomes c) (replay_push language (reverse b) e) ∙ step_outcomes language same e.stamp b (now.replay language (reverse b)) says e.request c;
    }

-- ---- the state at an instant

pub state_at_same : (language : Language) → Same language → (list : List Entry) (t : ℕ) → now.state_at language list t ≡ before.state_at language list t
unfolding now.state_at before.state_at
state_at_same language same list t =
    let kept = filter (λ e. nat_le e.stamp t) list in
    ap (λ l. (now.replay language l).state) (sym (reverse-reverse kept)) ∙ (replay_says language same (reverse kept)).state

-- ---- what is told

none_above : (n : ℕ) → suc n - suc n ≡ 0
none_above n = omega arith

told_head : (o : before.Outcome) (xs : List before.Outcome) → now.outcome (suc (length xs)) (o ∷ xs) ≡ o
told_head o xs =
    ap (λ b. cond b (Err Gap) (unwrap_or (slice_get (take 8 (o ∷ xs)) (suc (length xs) - suc (length xs))) (Err Old))) (le-ltb (suc (length xs)) (suc (length xs)) (omega arith))
    ∙ ap (λ k. unwrap_or (slice_get (take 8 (o ∷ xs)) k) (Err Old)) (none_above (length xs))

told_first : (m n : ℕ) (o : before.Outcome) (xs : List before.Outcome) → length xs ≡ n → m ≡ n + 1 → now.outcome m (o ∷ xs) ≡ o
told_first m n o xs e f = ap (λ k. now.outcome k (o ∷ xs)) (f ∙ ap (λ k. k + 1) (sym e) ∙ omega arith) ∙ told_head o xs

told_by : (q : Bool) (m n : ℕ) (o : before.Outcome) (xs : List before.Outcome) → length xs ≡ n → (m == n + 1) ≡ q →
    now.outcome m (cond q (o ∷ xs) xs) ≡ cond q o (cond (nat_lt n m) (Err Gap) (unwrap_or (slice_get (take 8 xs) (n - m)) (Err Old)))
told_by true m n o xs e f = told_first m n o xs e (eqb-true m (n + 1) f)
told_by false m n o xs e f = ap (λ k. cond (nat_lt k m) (Err Gap) (unwrap_or (slice_get (take 8 xs) (k - m)) (Err Old))) e

pub told_same : (language : Language) → Same language → (b : List Entry) (e : Entry) (r : Request) → e.request ≡ Some r →
    now.outcome r.number ((now.replay language (reverse b ++ e ∷ [])).outcomes r.client) ≡ before.outcome language e.stamp r b
unfolding before.outcome step
told_same language same b e r is =
    let x = now.replay language (reverse b) in
    let says = replay_says language same b in
    let n = before.executed r.client b in
    let fo = before.first_outcome language e.stamp r b in
    let xs = before.first_outcomes language r.client b in
    ap (λ y. now.outcome r.number (y.outcomes r.client)) (replay_push language (reverse b) e)
    ∙ ap (λ q. now.outcome r.number ((option_map_or (λ r. now.execute language e.stamp r x) q x).outcomes r.client)) is
    ∙ ap (λ os. now.outcome r.number os) (request_outcomes language same e.stamp b x says r r.client)
    ∙ ap (λ s. now.outcome r.number (cond (s && before.is_first r b) (fo ∷ xs) xs)) (eq-eqb r.client r.client refl)
    ∙ told_by (before.is_first r b) r.number n fo xs (counts language r.client b) refl

-- ---- what is told at an index

taken : (list : List Entry) (k : ℕ) (e : Entry) → slice_get list k ≡ Some e → take (suc k) list ≡ reverse (reverse (take (suc k - 1) list)) ++ e ∷ []
taken list k e is =
    take-suc list k e (slice_get_within list k e is) ∙ ap (λ x. take k list ++ x ∷ []) (get_or_from_slice_get list k e e is)
    ∙ ap (λ j. take j list ++ e ∷ []) (let j : k ≡ suc k - 1 = omega arith in j) ∙ ap (λ l. l ++ e ∷ []) (sym (reverse-reverse (take (suc k - 1) list)))

told_request : (language : Language) → Same language → (list : List Entry) (k : ℕ) (e : Entry) → slice_get list k ≡ Some e → (q : Option Request) → e.request ≡ q →
    option_map {U = Told} (λ (r : Request). record { index = suc k; client = r.client; number = r.number; outcome = now.outcome r.number ((now.replay language (take (suc k) list)).outcomes r.client) }) q
    ≡ option_map {U = Told} (λ (r : Request). record { index = suc k; client = r.client; number = r.number; outcome = before.outcome language e.stamp r (before.before_index list (suc k)) }) q
told_request language same list k e is None asks = refl
told_request language same list k e is (Some r) asks =
    let o : now.outcome r.number ((now.replay language (take (suc k) list)).outcomes r.client) ≡ before.outcome language e.stamp r (before.before_index list (suc k)) =
    ap (λ l. now.outcome r.number ((now.replay language l).outcomes r.client)) (taken list k e is) ∙ told_same language same (before.before_index list (suc k)) e r asks in
    λ i. Some (record { index = suc k; client = r.client; number = r.number; outcome = o i })

told_entry : (language : Language) → Same language → (list : List Entry) (k : ℕ) (found : Option Entry) → slice_get list k ≡ found →
    option_and_then {U = Told} (λ (e : Entry). option_map {U = Told} (λ (r : Request). record { index = suc k; client = r.client; number = r.number; outcome = now.outcome r.number ((now.replay language (take (suc k) list)).outcomes r.client) }) e.request) found
    ≡ option_and_then {U = Told} (λ (e : Entry). option_map {U = Told} (λ (r : Request). record { index = suc k; client = r.client; number = r.number; outcome = before.outcome language e.stamp r (before.before_index list (suc k)) }) e.request) found
told_entry language same list k None is = refl
told_entry language same list k (Some e) is = told_request language same list k e is e.request refl

pub told_at_by : (language : Language) → Same language → (list : List Entry) (i : ℕ) → now.told_at language list i ≡ before.told_at language list i
told_at_by language same list zero = refl
told_at_by language same list (suc k) = told_entry language same list k (slice_get list k) refl

-- ---- with today's words for transactions

same_now : (language : Language) → Same language
same_now language = transaction_same language

pub told_at_same : (language : Language) (list : List Entry) (i : ℕ) → now.told_at language list i ≡ before.told_at language list i
told_at_same language = told_at_by language (same_now language)

pub states_same : (language : Language) (list : List Entry) (t : ℕ) → now.state_at language list t ≡ before.state_at language list t
states_same language = state_at_same language (same_now language)
