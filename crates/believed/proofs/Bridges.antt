-- New definitions are the old ones, said again.
use Rattle.std.specs.List.{range_with_len, count_by}
use Rattle.std.proofs.lemmas.List.Sums.{sum_by_push}
use Rattle.std.proofs.lemmas.List.Elements.{filter-append}
use Rattle.std.proofs.Math.Nat.{add_comm}
use Rattle.std.proofs.lemmas.Bool.{eqb-true}
use Rattle.std.proofs.Common.{◌≡◌, ℕ, zero, suc, ◌+◌, ◌*◌, arith, append-nil, Bool, true, false, cond, Some, List, [], ◌∷◌, ◌++◌, not, filter, refl, ap, ◌∙◌}
use Rattle.std.specs.Prelude.{ℤ, ◌||◌, fold, ◌==◌, nat_lt, option_map, option_and_then}
use Rattle.model.specs.declared.entry.Request.{Request}
use Rattle.model.specs.declared.message.Body.TheVariants.{RequestVote, Vote, Seek}
use Rattle.model.specs.Transactions.{Language}
use Rattle.model.specs.declared.entry.Entry.{Entry}
use Rattle.model.specs.declared.entry.Told.{Told}
use Rattle.model.specs.Lists.{nth}
use Rattle.model.specs.Members.{Node}
use Rattle.model.specs.Members as then
use Rattle.model.specs.Steps as before
use Rattle.model.specs.Worlds as world
use Rattle.model.specs.Agreement as agreement
use Rattle.model.specs.Logs as logs
use Rattle.believed.specs.Members as members
use Rattle.believed.specs.Steps as now

abbrev pub as_new : before.Effect → now.Effect
as_new (before.Moves a) = now.Moves a.node a.sent
as_new (before.Refuses r) = now.Refuses r
as_new before.Nothing = now.Nothing

-- ---- runs

run_same : (language : Language) (n : ℕ) (w : world.World) (es : List world.Event) → fold (world.happens language n) w es ≡ world.run language n w es
run_same language n w [] = refl
run_same language n w (e ∷ es) = run_same language n (world.happens language n w e) es

-- ---- logs of members

never : (b : Bool) (i : ℕ) → (suc i == 0) ≡ b → b ≡ false
never true i e = absurd (let z : suc i ≡ 0 = eqb-true (suc i) 0 e in omega (arith, z))
never false i e = refl

pub stands_same : (log : List Entry) (i t : ℕ) → ((i == 0) || members.has_term log i t) ≡ then.stands log i t
stands_same log zero t = refl
stands_same log (suc i) t = ap (λ b. b || members.has_term log (suc i) t) (never (suc i == 0) i refl)

pub agreed_same : (log : List Entry) (i : ℕ) (es : List Entry) → members.agreed log i es ≡ then.agreed log i es
agreed_same log i [] = refl
agreed_same log i (e ∷ es) = ap (λ j. cond (then.has_term (nth log (suc i)) e.term) j i) (agreed_same log (i + 1) es)

-- ---- steps

pub hears_same : (t : ℕ) (x : Node) → now.hears t x ≡ before.hears t x
unfolding now.hears before.hears
hears_same t x = refl

pub if_new : (b : Bool) (p q : before.Effect) → cond b (as_new p) (as_new q) ≡ as_new (cond b p q)
if_new true p q = refl
if_new false p q = refl

pub seek_same : (n me : ℕ) (reading : ℤ) (sender term index floor : ℕ) (x : Node) → now.on_body n me reading sender term (Seek index floor) x ≡ as_new (before.on_seek me sender term index floor x)
unfolding now.on_body before.on_seek
seek_same n me reading sender term index floor x =
    ap (λ e. cond (nat_lt term x.term) (now.Moves x []) e) (if_new (then.is_leader x.role) _ _) ∙ if_new (nat_lt term x.term) _ _

given_same : (b : Bool) (n me sender : ℕ) (x : Node) →
    now.Moves (cond b (record x { vote = Some sender }) x) (now.message n me x (Vote b x.floor) sender ∷ [])
    ≡ as_new (before.Moves (cond b (record { node = record x { vote = Some sender }; sent = before.respond x me sender (Vote true x.floor) }) (record { node = x; sent = before.respond x me sender (Vote false x.floor) })))
given_same true n me sender x = refl
given_same false n me sender x = refl

pub vote_same : (n me : ℕ) (reading : ℤ) (sender term i t : ℕ) (x : Node) → now.on_body n me reading sender term (RequestVote i t) x ≡ as_new (before.Moves (before.on_request_vote me sender term i t x))
unfolding now.on_body before.on_request_vote
vote_same n me reading sender term i t x = given_same (before.grants sender term i t x) n me sender x

-- ---- what is told

pub told_same : (language : Language) (list : List Entry) (told : Told) → agreement.IsTold language list told → logs.told_at language list told.index ≡ Some told
told_same language list told t = ap (λ e. option_and_then (λ (e : Entry). option_map (λ (r : Request). record { index = told.index; client = r.client; number = r.number; outcome = logs.outcome language e.stamp r (logs.before_index list told.index) }) e.request) e) t.at
    ∙ ap (λ r. option_map (λ (r : Request). record { index = told.index; client = r.client; number = r.number; outcome = logs.outcome language t.entry.stamp r (logs.before_index list told.index) }) r) t.asks
    ∙ λ i. Some (record { index = told.index; client = t.client i; number = t.number i; outcome = t.outcome i })

-- ---- sets of members

range_push : (a n : ℕ) → range_with_len a (suc n) ≡ range_with_len a n ++ (a + n) ∷ []
range_push a zero = ap (λ k. k ∷ []) (omega arith)
range_push a (suc n) = ap (λ xs. a ∷ xs) (range_push (a + 1) n ∙ ap (λ k. range_with_len (a + 1) n ++ k ∷ []) (omega arith))

count_same : (n : ℕ) (set : ℕ → Bool) → count_by set (range_with_len 1 n) ≡ then.count_members n set
count_same zero set = refl
count_same (suc n) set = ap (λ xs. count_by set xs) (range_push 1 n) ∙ sum_by_push (λ x. cond (set x) 1 0) (range_with_len 1 n) (1 + n)
    ∙ ap (λ c. c + cond (set (1 + n)) 1 0) (count_same n set) ∙ add_comm (then.count_members n set) (cond (set (1 + n)) 1 0)
    ∙ ap (λ k. cond (set k) 1 0 + then.count_members n set) (omega arith)

pub majority_same : (n : ℕ) (set : ℕ → Bool) → members.is_majority n set ≡ then.is_majority n set
majority_same n set = ap (λ c. nat_lt n (2 * c)) (count_same n set)

others_push : (b : Bool) (n : ℕ) (xs : List ℕ) → xs ++ cond (not b) (n ∷ []) [] ≡ cond b xs (xs ++ n ∷ [])
others_push true n xs = append-nil xs
others_push false n xs = refl

abbrev pub others_now : ℕ → ℕ → List ℕ
others_now n me = filter (λ m. not (m == me)) (range_with_len 1 n)

pub others_same : (n me : ℕ) → others_now n me ≡ then.others n me
others_same zero me = refl
others_same (suc n) me = ap (λ xs. filter (λ m. not (m == me)) xs) (range_push 1 n ∙ ap (λ k. range_with_len 1 n ++ k ∷ []) (omega arith))
    ∙ filter-append (λ m. not (m == me)) (range_with_len 1 n) (suc n ∷ [])
    ∙ others_push (suc n == me) (suc n) (others_now n me) ∙ ap (λ xs. cond (suc n == me) xs (xs ++ suc n ∷ [])) (others_same n me)
