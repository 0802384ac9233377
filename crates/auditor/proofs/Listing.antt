-- Each step and each answer has its moment.
use Rattle.std.proofs.Common.{◌≡◌, ℕ, zero, suc, ◌+◌, ◌==◌, ◌||◌, Bool, true, nat_lt, eq-eqb, List, [], ◌∷◌, ◌++◌, Option, Some, None, length, refl, sym, ap, subst, inl, inr, arith}
use Rattle.std.specs.Prelude.{if◌then◌else◌, slice_get, Contains}
use Rattle.std.proofs.lemmas.List.Elements.{Contains-append_left, Contains-append_right, Contains-push}
use Rattle.std.proofs.lemmas.Option.{same_Some, slice_get_cases}
use Rattle.std.specs.declared.vec.Vec.{Vec}
use Rattle.std.specs.declared.alloc.Global.{Global}
use Rattle.model.specs.Lists.{nth}
use Rattle.flight.specs.declared.life.Life.{Life}
use Rattle.flight.specs.declared.life.Step.{Step}
use Rattle.moments.specs.declared.moment.Deed.TheVariants.{Takes, Answers}
use Rattle.moments.specs.declared.moment.Moment.{Moment}
use Rattle.moments.specs.declared.recorded.Recorded.{Recorded}
use Rattle.moments.specs.Moments.{step_moments, torn_moments, life_moments, deed_moments, answer_moment, answer_moments, stop_moments, node_moments, listed, stray_moment, stray_moments, all_moments}

first_in : {X : Type 0} (x : X) (xs : List X) → Contains (x ∷ xs) x
first_in x xs = Contains-append_left (x ∷ []) xs x (Contains-push [] x)

later_in : {X : Type 0} (x y : X) (xs : List X) → Contains xs y → Contains (x ∷ xs) y
later_in x y xs h = Contains-append_right (x ∷ []) xs y h

abbrev taking : ℕ → ℕ → ℕ → Step → Moment
taking node life k s = record { mark = s.mark; node = node; deed = Takes life k }

abbrev answering : ℕ → ℕ → Recorded → Moment
answering node k a = record { mark = a.mark; node = node; deed = Answers k }

-- ---- steps

step_in : (node life k j : ℕ) (steps : List Step) (s : Step) → slice_get steps j ≡ Some s → Contains (step_moments node life k steps) (taking node life (k + j) s)
step_in node life k j [] s at = absurd (cc at)
step_in node life k zero (x ∷ steps) s at =
    let same : taking node life k x ≡ taking node life (k + 0) s = λ i. taking node life ((let e : k ≡ k + 0 = omega arith in e) i) (same_Some x s at i) in
    subst (λ (m : Moment). Contains (step_moments node life k (x ∷ steps)) m) same (first_in (taking node life k x) (step_moments node life (k + 1) steps))
step_in node life k (suc j) (x ∷ steps) s at =
    let same : taking node life (k + 1 + j) s ≡ taking node life (k + suc j) s = ap (λ (i : ℕ). taking node life i s) (let e : k + 1 + j ≡ k + suc j = omega arith in e) in
    later_in (taking node life k x) (taking node life (k + suc j) s) (step_moments node life (k + 1) steps)
    (subst (λ (m : Moment). Contains (step_moments node life (k + 1) steps) m) same (step_in node life (k + 1) j steps s at))

life_in : (node k j i : ℕ) (lives : List Life) (l : Life) (s : Step) → slice_get lives j ≡ Some l → slice_get l.steps.items i ≡ Some s → Contains (deed_moments node k lives) (taking node (k + j) i s)
life_in node k j i [] l s at found = absurd (cc at)
life_in node k zero i (x ∷ lives) l s at found =
    let same : x ≡ l = same_Some x l at in
    let here = step_in node (k + 0) 0 i l.steps.items s found in
    let moved : taking node (k + 0) (0 + i) s ≡ taking node (k + 0) i s = ap (λ (n : ℕ). taking node (k + 0) n s) (let e : 0 + i ≡ i = omega arith in e) in
    let there : Contains (step_moments node (k + 0) 0 l.steps.items) (taking node (k + 0) i s) = subst (λ (m : Moment). Contains (step_moments node (k + 0) 0 l.steps.items) m) moved here in
    let with : Contains (life_moments node (k + 0) l) (taking node (k + 0) i s) =
    later_in _ _ _ (Contains-append_left (step_moments node (k + 0) 0 l.steps.items) (torn_moments node (k + 0) l.ending) _ there) in
    let at_k : Contains (life_moments node k x) (taking node (k + 0) i s) =
    subst (λ (n : ℕ). Contains (life_moments node n x) (taking node (k + 0) i s)) (let e : k + 0 ≡ k = omega arith in e) (subst (λ (y : Life). Contains (life_moments node (k + 0) y) (taking node (k + 0) i s)) (sym same) with) in
    Contains-append_left (life_moments node k x) (deed_moments node (k + 1) lives) _ at_k
life_in node k (suc j) i (x ∷ lives) l s at found =
    let same : taking node (k + 1 + j) i s ≡ taking node (k + suc j) i s = ap (λ (n : ℕ). taking node n i s) (let e : k + 1 + j ≡ k + suc j = omega arith in e) in
    Contains-append_right (life_moments node k x) (deed_moments node (k + 1) lives) _
    (subst (λ (m : Moment). Contains (deed_moments node (k + 1) lives) m) same (life_in node (k + 1) j i lives l s at found))

-- ---- answers

answer_here : (node k : ℕ) (a : Recorded) → a.node ≡ node → answer_moment node k a ≡ answering node k a ∷ []
answer_here node k a is = ap (λ (b : Bool). if b then answering node k a ∷ [] else []) (eq-eqb a.node node is)

answer_in : (node k j : ℕ) (answers : List Recorded) (a : Recorded) → slice_get answers j ≡ Some a → a.node ≡ node → Contains (answer_moments node k answers) (answering node (k + j) a)
answer_in node k j [] a at is = absurd (cc at)
answer_in node k zero (x ∷ answers) a at is =
    let same : x ≡ a = same_Some x a at in
    let with : Contains (answer_moment node k a) (answering node k a) = subst (λ (ms : List Moment). Contains ms (answering node k a)) (sym (answer_here node k a is)) (first_in (answering node k a) []) in
    let moved : Contains (answer_moment node k x) (answering node (k + 0) a) =
    subst (λ (n : ℕ). Contains (answer_moment node k x) (answering node n a)) (let e : k ≡ k + 0 = omega arith in e) (subst (λ (y : Recorded). Contains (answer_moment node k y) (answering node k a)) (sym same) with) in
    Contains-append_left (answer_moment node k x) (answer_moments node (k + 1) answers) _ moved
answer_in node k (suc j) (x ∷ answers) a at is =
    let same : answering node (k + 1 + j) a ≡ answering node (k + suc j) a = ap (λ (n : ℕ). answering node n a) (let e : k + 1 + j ≡ k + suc j = omega arith in e) in
    Contains-append_right (answer_moment node k x) (answer_moments node (k + 1) answers) _
    (subst (λ (m : Moment). Contains (answer_moments node (k + 1) answers) m) same (answer_in node (k + 1) j answers a at is))

stray_here : (n k : ℕ) (a : Recorded) → ((a.node == 0) || nat_lt n a.node) ≡ true → stray_moment n k a ≡ answering a.node k a ∷ []
stray_here n k a is = ap (λ (b : Bool). if b then answering a.node k a ∷ [] else []) is

stray_in : (n k j : ℕ) (answers : List Recorded) (a : Recorded) → slice_get answers j ≡ Some a → ((a.node == 0) || nat_lt n a.node) ≡ true → Contains (stray_moments n k answers) (answering a.node (k + j) a)
stray_in n k j [] a at is = absurd (cc at)
stray_in n k zero (x ∷ answers) a at is =
    let same : x ≡ a = same_Some x a at in
    let with : Contains (stray_moment n k a) (answering a.node k a) = subst (λ (ms : List Moment). Contains ms (answering a.node k a)) (sym (stray_here n k a is)) (first_in (answering a.node k a) []) in
    let moved : Contains (stray_moment n k x) (answering a.node (k + 0) a) =
    subst (λ (i : ℕ). Contains (stray_moment n k x) (answering a.node i a)) (let e : k ≡ k + 0 = omega arith in e) (subst (λ (y : Recorded). Contains (stray_moment n k y) (answering a.node k a)) (sym same) with) in
    Contains-append_left (stray_moment n k x) (stray_moments n (k + 1) answers) _ moved
stray_in n k (suc j) (x ∷ answers) a at is =
    let same : answering a.node (k + 1 + j) a ≡ answering a.node (k + suc j) a = ap (λ (i : ℕ). answering a.node i a) (let e : k + 1 + j ≡ k + suc j = omega arith in e) in
    Contains-append_right (stray_moment n k x) (stray_moments n (k + 1) answers) _
    (subst (λ (m : Moment). Contains (stray_moments n (k + 1) answers) m) same (stray_in n (k + 1) j answers a at is))

-- ---- of a node

node_in : (answers : List Recorded) (start j : ℕ) (lives : List (Vec Life Global)) (own : Vec Life Global) (m : Moment) → slice_get lives j ≡ Some own → Contains (node_moments answers (start + j) own.items) m → Contains (listed answers start lives) m
node_in answers start j [] own m at h = absurd (cc at)
node_in answers start zero (x ∷ lives) own m at h =
    let there : Contains (node_moments answers (start + 0) x.items) m = subst (λ (y : Vec Life Global). Contains (node_moments answers (start + 0) y.items) m) (sym (same_Some x own at)) h in
    Contains-append_left (node_moments answers start x.items) (listed answers (start + 1) lives) m
    (subst (λ (n : ℕ). Contains (node_moments answers n x.items) m) (let e : start + 0 ≡ start = omega arith in e) there)
node_in answers start (suc j) (x ∷ lives) own m at h =
    let there : Contains (node_moments answers (start + 1 + j) own.items) m = subst (λ (n : ℕ). Contains (node_moments answers n own.items) m) (let e : start + suc j ≡ start + 1 + j = omega arith in e) h in
    Contains-append_right (node_moments answers start x.items) (listed answers (start + 1) lives) m (node_in answers (start + 1) j lives own m at there)

of_node : (lives : List (Vec Life Global)) (answers : List Recorded) (node : ℕ) (own : Vec Life Global) (m : Moment) → nth lives node ≡ Some own → Contains (node_moments answers node own.items) m → Contains (all_moments lives answers) m
of_node lives answers zero own m at h = absurd (cc at)
of_node lives answers (suc j) own m at h =
    Contains-append_left (listed answers 1 lives) (stray_moments (length lives) 0 answers) m
    (node_in answers 1 j lives own m at (subst (λ (n : ℕ). Contains (node_moments answers n own.items) m) (let e : suc j ≡ 1 + j = omega arith in e) h))

-- a step has its moment
pub step_listed : (lives : List (Vec Life Global)) (answers : List Recorded) (node k i : ℕ) (own : Vec Life Global) (l : Life) (s : Step) → nth lives node ≡ Some own → slice_get own.items k ≡ Some l → slice_get l.steps.items i ≡ Some s →
    Contains (all_moments lives answers) (taking node k i s)
step_listed lives answers node k i own l s at life found =
    let here = life_in node 0 k i own.items l s life found in
    let moved : Contains (deed_moments node 0 own.items) (taking node k i s) = subst (λ (n : ℕ). Contains (deed_moments node 0 own.items) (taking node n i s)) (let e : 0 + k ≡ k = omega arith in e) here in
    of_node lives answers node own _ at
    (Contains-append_left (deed_moments node 0 own.items ++ answer_moments node 0 answers) (stop_moments node 0 own.items) _
    (Contains-append_left (deed_moments node 0 own.items) (answer_moments node 0 answers) _ moved))

-- no node is there
is_stray : (lives : List (Vec Life Global)) (node : ℕ) → nth lives node ≡ None → ((node == 0) || nat_lt (length lives) node) ≡ true
is_stray lives zero none = refl
is_stray lives (suc j) none = elim (slice_get_cases lives j).1 [
  | inl h ↦ absurd (cc (h.2, none))
  | inr h ↦ search (arith, h.0)
]

-- an answer has its moment
pub answer_listed : (lives : List (Vec Life Global)) (answers : List Recorded) (k : ℕ) (a : Recorded) → slice_get answers k ≡ Some a → Contains (all_moments lives answers) (answering a.node k a)
answer_listed lives answers k a at =
    let P : Option (Vec Life Global) → Type 0 = λ o. nth lives a.node ≡ o → Contains (all_moments lives answers) (answering a.node k a) in
    let here : Contains (answer_moments a.node 0 answers) (answering a.node k a) =
    subst (λ (n : ℕ). Contains (answer_moments a.node 0 answers) (answering a.node n a)) (let e : 0 + k ≡ k = omega arith in e) (answer_in a.node 0 k answers a at refl) in
    (elim (nth lives a.node) as P [
      | Some own ↦ λ is. of_node lives answers a.node own _ is
          (Contains-append_left (deed_moments a.node 0 own.items ++ answer_moments a.node 0 answers) (stop_moments a.node 0 own.items) _
          (Contains-append_right (deed_moments a.node 0 own.items) (answer_moments a.node 0 answers) _ here))
      | None ↦ λ is. Contains-append_right (listed answers 1 lives) (stray_moments (length lives) 0 answers) _
          (subst (λ (n : ℕ). Contains (stray_moments (length lives) 0 answers) (answering a.node n a)) (let e : 0 + k ≡ k = omega arith in e) (stray_in (length lives) 0 k answers a at (is_stray lives a.node is)))
    ]) refl
