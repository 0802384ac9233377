-- What is decided, as a world goes on.
use Rattle.std.proofs.Common.{◌≡◌, ◌∙◌, ℕ, zero, suc, ◌+◌, ◌<◌, List, [], ◌∷◌, ◌++◌, length, take, refl, ap, sym, subst, true, false, add-one, append-nil, arith, inl, inr}
use Rattle.std.specs.Prelude.{Option, Some, None, Result, Ok, Err, OnOk, slice_get, if◌then◌else◌, Bool}
use Rattle.std.proofs.lemmas.Option.{slice_get_cases}
use Rattle.model.specs.Lists.{nth, IsBeginning}
use Rattle.model.specs.Agreement.{longer, longest, decided, Agree}
use Rattle.model.specs.Members.{Node, applied}
use Rattle.model.specs.Worlds.{Event, new_world}
use Rattle.model.specs.declared.entry.Entry.{Entry}
use Rattle.moments.proofs.Sending.{now_next}
use Rattle.sqlread.specs.Meaning.{language_of}
use Rattle.world.specs.declared.history.World.{World}
use Rattle.world.specs.Run.{events_of, members_in, now_of, outset_of, language_in}
use Rattle.world.specs.View.{if_up}
use Rattle.report.specs.Deciding.{decided_by, longer_at, AreAlong, AreBlankDown, GoesAlong, IsSameWorld}
use Rattle.report.proofs.Deciding.{decided_more, longest_next, longest_begins, longer_stays}

-- ---- member by member

along_up : (best whole : List Entry) (x : Node) (b : Bool) → IsBeginning best whole → IsBeginning (applied x) whole → GoesAlong best (if b then Some x else None)
along_up best whole x true begins own = (whole, begins, own)
along_up best whole x false begins own = tt

along_of : (best whole : List Entry) (o : Option Node) → IsBeginning best whole → ((x : Node) → o ≡ Some x → IsBeginning (applied x) whole) → GoesAlong best (if_up o)
along_of best whole None begins own = tt
along_of best whole (Some x) begins own = along_up best whole x x.up begins (own x refl)

-- what stands in a front stands in the whole
pub from_front : (xs : List Node) (k j : ℕ) (x : Node) → slice_get (take k xs) j ≡ Some x → slice_get xs j ≡ Some x
from_front [] zero j x e = e
from_front [] (suc k) j x e = e
from_front (y ∷ ys) zero j x e = absurd (cc e)
from_front (y ∷ ys) (suc k) zero x e = e
from_front (y ∷ ys) (suc k) (suc j) x e = from_front ys k j x e

-- a list that is the longest of some goes along with each other member
pub goes_along : (best : List Entry) (nodes : List Node) (k m : ℕ) → AreAlong best nodes → ((j : ℕ) (x : Node) → slice_get (take k nodes) j ≡ Some x → slice_get nodes j ≡ Some x)
    → GoesAlong (longest best (take k nodes)) (if_up (nth nodes m))
goes_along best nodes k m a within =
    along_of (longest best (take k nodes)) a.whole (nth nodes m) (longest_begins a.whole best (take k nodes) a.begins (λ j x e. a.each (suc j) x (within j x e))) (λ x e. a.each m x e)

next_up : (best : List Entry) (x : Node) (b : Bool) → x.up ≡ b → (x.up ≡ false → x.commit ≡ 0) → longer_at best (if b then Some x else None) ≡ longer best (applied x)
next_up best x true up down = refl
next_up best x false up down =
    let none : applied x ≡ [] = ap (λ n. take n x.log) (down up) in
    sym (ap (longer best) none ∙ longer_stays best [] (omega arith))

-- one member more
pub longest_at : (best : List Entry) (nodes : List Node) (k : ℕ) → AreBlankDown nodes → k < length nodes
    → longer_at (longest best (take k nodes)) (if_up (nth nodes (k + 1))) ≡ longest best (take (k + 1) nodes)
longest_at best nodes k blank less =
    elim (slice_get_cases nodes k).1 [
      | inl (x, within, at, got) ↦
          ap (λ o. longer_at (longest best (take k nodes)) (if_up o)) (ap (nth nodes) (add-one k) ∙ at)
          ∙ (next_up (longest best (take k nodes)) x x.up refl (λ up. blank (suc k) x at up)
          ∙ sym (longest_next best nodes k x less (sym got)))
      | inr (past, none) ↦ absurd (omega (arith, past, less))
    ]

-- ---- event by event

-- what is decided once one more event has happened
pub decided_next : (old new : World) (e : Event) → language_in new ≡ language_in old → members_in new ≡ members_in old → events_of new ≡ events_of old ++ e ∷ []
    → decided_by new ≡ longest (decided_by old) (now_of new).nodes
decided_next old new e schema members events =
    (λ i. decided (schema i) (members i) (new_world (members i)) (events i))
    ∙ (decided_more (language_in old) (members_in old) [] (outset_of old) (events_of old) e
    ∙ ap (λ w. longest (decided_by old) w.nodes) (sym (now_next old new e schema members events)))

-- all that members have then applied goes along with what was decided before
pub along_next : (old new : World) (e : Event) → language_in new ≡ language_in old → members_in new ≡ members_in old → events_of new ≡ events_of old ++ e ∷ []
    → Agree (language_in new) (members_in new) (outset_of new) (events_of new) → AreAlong (decided_by old) (now_of new).nodes
along_next old new e schema members events agree =
    let same : decided_by old ≡ decided (language_in new) (members_in new) (outset_of new) (events_of old) = (λ i. decided (sym schema i) (sym members i) (new_world (sym members i)) (events_of old)) in
    record {
      whole = decided_by new;
      begins = subst (λ list. IsBeginning list (decided_by new)) (sym same) (agree.decided_grows (events_of old) (e ∷ []) (sym events));
      each = λ m x at. (agree.applied_is_decided (events_of new) [] m x (append-nil (events_of new)) at).0;
    }

-- what is decided where the same happened
pub decided_same : (old new : World) → IsSameWorld old new → decided_by new ≡ decided_by old
decided_same old new is = λ i. decided (language_of (is.tables i)) (is.members i) (new_world (is.members i)) (is.events i)

-- what one event more decides, once all that members have applied is in the list
pub went_on : {E : Type 0} (r : Result (Unit {0}) E) (old mid new : World) (e : Event) (before after : List Entry) → language_in mid ≡ language_in old → members_in mid ≡ members_in old
    → events_of mid ≡ events_of old ++ e ∷ [] → before ≡ decided_by old → OnOk r (after ≡ longest before (now_of mid).nodes) → OnOk r (IsSameWorld mid new) → OnOk r (after ≡ decided_by new)
went_on (Ok x) old mid new e before after schema members events was is same =
    is ∙ (ap (λ list. longest list (now_of mid).nodes) was ∙ (sym (decided_next old mid e schema members events) ∙ sym (decided_same mid new same)))
went_on (Err x) old mid new e before after schema members events was is same = is
