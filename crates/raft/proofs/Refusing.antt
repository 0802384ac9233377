-- What the laws of `refused` rest on besides the clauses that they speak of.
use Rattle.std.proofs.Common.{◌≡◌, ◌⊎◌, ◌∙◌, ℕ, zero, suc, ◌+◌, ◌≤◌, ◌<◌, ℤ, pos, negsuc, max, Bool, true, false, ◌==◌, not, nat_lt, nat_le, ◌&&◌, ◌||◌, if◌then◌else◌, Option, Some, None, Result, Ok, Err, List, [], length, refl, sym, ap, subst, arith, inl, inr}
use Rattle.std.specs.Prelude.{IfOk, IfSome, MatchOption}
use Rattle.std.proofs.lemmas.Bool.{le-ltb, lt-leb}
use Rattle.std.proofs.lemmas.Bool.Decides.{eqb_tells, leb_tells}
use Rattle.keep.specs.declared.change.Change.{Change}
use Rattle.keep.specs.declared.hard_state.HardState.{HardState}
use Rattle.model.specs.declared.entry.Entry.{Entry}
use Rattle.model.specs.Logs.{closed, least_over}
use Rattle.model.specs.Lists.{with_nth}
use Rattle.model.specs.Members.{Node, agreed, is_in, is_leader, is_majority, term_at}
use Rattle.model.specs.Stamps.{TIME_LAST, above, greater, stamp}
use Rattle.model.specs.Steps.{After, accepted, asks_for, greatest, is_matched, learned, on_stored, tell_all, with_stored}
use Rattle.model.specs.declared.message.Body.TheVariants.{Seal}
use Rattle.raft.specs.declared.state.Core.{Core}
use Rattle.raft.specs.View.{log_of, IsNews}
use Rattle.raft.proofs.Windows.{least_over_of}

-- ---- what comes of a call

pub if_ok : {A E : Type 0} (r : Result A E) (F G : A → Type 0) → IfOk r F → ((a : A) → F a → G a) → IfOk r G
if_ok (Ok a) F G f map = map a f
if_ok (Err e) F G f map = tt

pub if_some : {A : Type 0} (r : Option A) (F G : A → Type 0) → IfSome r F → ((a : A) → F a → G a) → IfSome r G
if_some (Some a) F G f map = map a f
if_some None F G f map = tt

tells : (b : Bool) → (b ≡ true) ⊎ (b ≡ false)
tells true = inl refl
tells false = inr refl

clash : (b : Bool) → b ≡ false → b ≡ true → ⊥
clash b e f = let g : false ≡ true = sym e ∙ f in cc

-- ---- what is committed

hit_or_none : (p : ℕ → Bool) (n : ℕ) → (greatest p n ≡ 0) ⊎ (p (greatest p n) ≡ true)
hit_or_none p zero = inl refl
hit_or_none p (suc n) = elim (tells (p (suc n))) [
  | inl hits ↦ rw hits (inr hits)
  | inr fails ↦ rw fails (hit_or_none p n)
]

own_of : (a b : Bool) → (a && b) ≡ true → a ≡ true
own_of true b e = refl
own_of false b e = e

own_term : (a b : ℕ) → (a == b) ≡ true → a ≡ b
own_term a b e = elim (eqb_tells a b) [ inl h ↦ h.1 | inr h ↦ absurd (clash (a == b) h.0 e) ]

-- an index above the commit index that is committed has an entry of the own term
pub commits_own : (n me i j : ℕ) (x : Node) → i ≡ max x.commit (greatest (is_matched n me x) j) → x.commit < i → term_at x.log i ≡ x.term
commits_own n me i j x is past =
    let e : i ≡ greatest (is_matched n me x) j = omega (arith, is, past) in
    elim (hit_or_none (is_matched n me x) j) [
      | inl none ↦ absurd (omega (arith, none, e, past))
      | inr hit ↦ subst (λ k. term_at x.log k ≡ x.term) (sym e) (own_term (term_at x.log (greatest (is_matched n me x) j)) x.term (own_of _ _ hit))
    ]

at_least : (p : ℕ → Bool) (n i : ℕ) → i ≤ n → p i ≡ true → i ≤ greatest p n
at_least p zero i le hit = omega (arith, le)
at_least p (suc n) i le hit = elim (tells (p (suc n))) [
  | inl hits ↦ rw hits le
  | inr fails ↦ rw fails (elim (leb_tells i n) [
    | inl low ↦ at_least p n i low.1 hit
    | inr high ↦ let e : i ≡ suc n = omega (arith, le, high.1) in absurd (clash (p (suc n)) fails (subst (λ k. p k ≡ true) e hit))
  ])
]

-- each index that can be committed is
pub commits_all : (n me i j : ℕ) (x : Node) → i ≤ j → is_matched n me x i ≡ true → i ≤ max x.commit (greatest (is_matched n me x) j)
commits_all n me i j x le hit = omega (arith, at_least (is_matched n me x) j i le hit)

-- ---- stamps

stamp_least : (reading : ℤ) (least : ℕ) → least ≤ stamp reading least
stamp_least (pos reading) least = elim (nat_le reading TIME_LAST) as (λ b. least ≤ (if b then max reading least else least)) [ true ↦ omega arith | false ↦ omega arith ]
stamp_least (negsuc n) least = omega arith

over_floor : (last : Option ℕ) (floor : ℕ) → floor < above (greater last (Some floor))
over_floor None floor = omega arith
over_floor (Some last) floor = omega arith

over_last : (last : ℕ) (floor : Option ℕ) → last < above (greater (Some last) floor)
over_last last None = omega arith
over_last last (Some floor) = omega arith

pub above_floor : (c : Core) (stored : List Entry) (reading : ℤ) (t floor : ℕ) → t ≡ stamp reading (least_over c.floor (log_of c stored)) → c.floor ≡ Some floor → floor < t
above_floor c stored reading t floor is own =
    let e : t ≡ stamp reading (above (greater (closed c.log.tail.items) c.floor)) = is ∙ ap (stamp reading) (least_over_of c stored c.floor) in
    let over : floor < above (greater (closed c.log.tail.items) c.floor) = rw own (over_floor (closed c.log.tail.items) floor) in
    omega (arith, e, over, stamp_least reading (above (greater (closed c.log.tail.items) c.floor)))

pub above_last : (c : Core) (stored : List Entry) (reading : ℤ) (t last : ℕ) → t ≡ stamp reading (least_over c.floor (log_of c stored)) → closed c.log.tail.items ≡ Some last → last < t
above_last c stored reading t last is ends =
    let e : t ≡ stamp reading (above (greater (closed c.log.tail.items) c.floor)) = is ∙ ap (stamp reading) (least_over_of c stored c.floor) in
    let over : last < above (greater (closed c.log.tail.items) c.floor) = rw ends (over_last last c.floor) in
    omega (arith, e, over, stamp_least reading (above (greater (closed c.log.tail.items) c.floor)))

-- ---- an Append that agrees

pub agreed_stays : (log : List Entry) (prev : ℕ) (es : List Entry) (i : ℕ) → i ≡ agreed log prev es → i ≡ prev + length es → accepted log prev es ≡ log
agreed_stays log prev es i agrees whole = elim (eqb_tells (agreed log prev es) (prev + length es)) [
  | inl h ↦ rw h.0 refl
  | inr h ↦ absurd (h.1 (sym agrees ∙ whole))
]

-- ---- seals

choose : (T : After → Type 0) (a b c : Bool) (p q r : After) → b ≡ false → T q → T r → T (if a then (if c && b then p else q) else r)
choose T false b c p q r e s t = t
choose T true b false p q r e s t = s
choose T true b true p q r e s t = rw e s

pub unsealed : (n me sender term index floor : ℕ) (x : Node) → is_majority n (is_in (with_nth x.stored sender true)) ≡ false → ((on_stored n me sender term index floor x).sent ≡ []) × ((on_stored n me sender term index floor x).node.sealed ≡ x.sealed)
unfolding on_stored
unsealed n me sender term index floor x e =
    let y = with_stored sender x in
    choose (λ z. (z.sent ≡ []) × (z.node.sealed ≡ x.sealed)) (is_leader x.role && (term == x.term) && asks_for x.asked index floor) (is_majority n (is_in y.stored)) (not (is_majority n (is_in x.stored)))
    (record { node = learned (record { term = term; index = index; floor = floor }) y; sent = tell_all n y me (Seal index floor) }) (record { node = y; sent = [] }) (record { node = x; sent = [] }) e (refl, refl) (refl, refl)

-- ---- logs that are up to date

off : (b : Bool) → (false || (b && false)) ≡ false
off true = refl
off false = refl

pub shorter_not : (t u len n : ℕ) → t ≡ u → n < len → (nat_lt t u || ((t == u) && nat_le len n)) ≡ false
shorter_not t u len n e h = rw (le-ltb t u (omega (arith, e)), lt-leb len n h) (off (t == u))

-- ---- what is to be stored

pub vote_stored : (c : Core) (stored : List Entry) (before : HardState) (change : Option Change) → IsNews c stored before change → (c.vote ≡ before.vote → ⊥) → MatchOption change ⊥ (λ x. x.hard.vote ≡ c.vote)
vote_stored c stored before None news differs = absurd (differs (ap (λ (h : HardState). h.vote) news.1))
vote_stored c stored before (Some x) news differs = ap (λ (h : HardState). h.vote) news.0
