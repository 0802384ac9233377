-- A member of a run only grows while it is up.
use Rattle.std.proofs.Common.{◌≡◌, ◌∙◌, ℕ, ◌≤◌, max, true, Option, Some, None, List, [], ◌∷◌, ◌++◌, take, length, refl, sym, ap, subst, arith, append-nil, length-take}
use Rattle.std.proofs.Math.Seq.{take-append_seam}
use Rattle.std.proofs.lemmas.List.{take-append-le, take-take}
use Rattle.model.specs.Lists.{nth, IsBeginning}
use Rattle.model.specs.declared.entry.Entry.{Entry}
use Rattle.model.specs.declared.entry.Request.{Request}
use Rattle.model.specs.declared.message.Message.{Message}
use Rattle.model.specs.Stamps.{greater}
use Rattle.model.specs.Transactions.{Language}
use Rattle.model.specs.Members.{Node, applied}
use Rattle.model.specs.Worlds.{World, Event, new_world, happens, run}
use Rattle.model.specs.Agreement.{Agree, decided}
use Rattle.safety.specs.Floors.{SealedRises, StaysUp, WasAt}
use Rattle.safety.proofs.Lists.{same_some}
use Rattle.safety.proofs.Runs.{run_append, reached}
use Rattle.safety.proofs.World.{new_outset}
use Rattle.onelist.proofs.Requests.{AllHeld, none, one}
use Rattle.onelist.proofs.Brought.{onward}
use Rattle.node.specs.View.{Grows}

-- in one event of a run member me becomes y where it was x, and is up all the while
pub record IsMove (language : Language) (n me : ℕ) (x y : Node) : Type 0 where
  pub early : List Event
  pub event : Event
  pub at : nth (run language n (new_world n) early).nodes me ≡ Some x
  pub next : nth (run language n (new_world n) (early ++ event ∷ [])).nodes me ≡ Some y
  pub up : x.up ≡ true
  pub still : y.up ≡ true

-- what has to be known of runs
pub record Runs (language : Language) (n : ℕ) : Type 0 where
  pub agree : (events : List Event) → Agree language n (new_world n) events
  pub sealed : SealedRises language n (new_world n)

abbrev Any : ℕ → Entry → Request → Type 0
Any i e r = Unit {0}

any_held : (ps : List Message) → AllHeld Any ps
any_held [] = none
any_held (p ∷ ps) = one (record { carried = λ k e r l q. tt }) (any_held ps)

one_more : (language : Language) (n : ℕ) (early : List Event) (e : Event) → run language n (new_world n) (early ++ e ∷ []) ≡ happens language n (run language n (new_world n) early) e
one_more language n early e = run_append language n early (e ∷ []) (new_world n)

commit_rises : (language : Language) (n me : ℕ) (x y : Node) → IsMove language n me x y → x.commit ≤ y.commit
commit_rises language n me x y m =
    let w : World = run language n (new_world n) m.early in
    let found = (onward Any Any language n w (λ k z l i d r p q. tt) (any_held w.sent) m.event).rises me x m.at in
    let next : nth (happens language n w m.event).nodes me ≡ Some y = subst (λ (v : World). nth v.nodes me ≡ Some y) (one_more language n m.early m.event) m.next in
    let same : found.0 ≡ y = same_some (nth (happens language n w m.event).nodes me) found.0 y found.1 next in
    found_rises found.0 same found.2
  where
    found_rises : (z : Node) → z ≡ y → (x.up ≡ true → z.up ≡ true → x.commit ≤ z.commit) → x.commit ≤ y.commit
    found_rises z same rises = subst (λ (v : Node). v.up ≡ true → x.commit ≤ v.commit) same (rises m.up) m.still

fits : (language : Language) (n me : ℕ) (events : List Event) (x : Node) → nth (run language n (new_world n) events).nodes me ≡ Some x → x.commit ≤ length x.log
fits language n me events x at = ((reached language n (new_world n) (new_outset n) events).good.node me x at).fits

-- two beginnings of one list: the shorter one begins the longer one
shorter : (a b all : List Entry) → IsBeginning a all → IsBeginning b all → length a ≤ length b → take (length a) b ≡ a
shorter a b all (more, is) (rest, joined) le =
    sym (take-append-le (length a) b rest le) ∙ ap (take (length a)) (joined ∙ sym is) ∙ take-append_seam a more

log_stays : (language : Language) (n me : ℕ) (x y : Node) → Runs language n → IsMove language n me x y → take x.commit y.log ≡ take x.commit x.log
log_stays language n me x y runs m =
    let events : List Event = m.early ++ m.event ∷ [] in
    let agree = runs.agree events in
    let before = (agree.applied_is_decided m.early (m.event ∷ []) me x refl m.at).0 in
    let after = (agree.applied_is_decided events [] me y (append-nil events) m.next).0 in
    let rises : x.commit ≤ y.commit = commit_rises language n me x y m in
    let low : x.commit ≤ length x.log = fits language n me m.early x m.at in
    let high : y.commit ≤ length y.log = fits language n me events y m.next in
    let long : length (applied x) ≡ x.commit = omega (arith, length-take x.commit x.log, low) in
    let within : length (applied x) ≤ length (applied y) = omega (arith, long, length-take y.commit y.log, high, rises) in
    sym (take-take x.commit y.commit y.log rises) ∙ ap (λ (k : ℕ). take k (applied y)) (sym long) ∙ shorter (applied x) (applied y) (decided language n (new_world n) events) before after within

stays_up : (language : Language) (n me : ℕ) (x y : Node) (m : IsMove language n me x y) → StaysUp language n (new_world n) m.early (m.event ∷ []) me
stays_up language n me x y m [] rest z e at =
    let same : x ≡ z = same_some (nth (run language n (new_world n) m.early).nodes me) x z m.at (subst (λ (es : List Event). nth (run language n (new_world n) es).nodes me ≡ Some z) (append-nil m.early) at) in
    subst (λ (v : Node). v.up ≡ true) same m.up
stays_up language n me x y m (d ∷ []) rest z e at =
    let first : d ≡ m.event = cc e in
    let same : y ≡ z = same_some (nth (run language n (new_world n) (m.early ++ m.event ∷ [])).nodes me) y z m.next (subst (λ (f : Event). nth (run language n (new_world n) (m.early ++ f ∷ [])).nodes me ≡ Some z) first at) in
    subst (λ (v : Node). v.up ≡ true) same m.still
stays_up language n me x y m (d ∷ c ∷ more) rest z e at = absurd (cc e)

sealed_rises : (language : Language) (n me : ℕ) (x y : Node) → Runs language n → IsMove language n me x y → (o : Option ℕ) → x.sealed ≡ o → greater o y.sealed ≡ y.sealed
sealed_rises language n me x y runs m None is = refl
sealed_rises language n me x y runs m (Some t) is =
    let h = runs.sealed m.early (m.event ∷ []) me t x y m.at m.next (stays_up language n me x y m) is in
    let most : max t h.0 ≡ h.0 = omega (arith, h.2) in
    ap (greater (Some t)) h.1 ∙ ap Some most ∙ sym h.1

pub grows : (language : Language) (n me : ℕ) (x y : Node) → Runs language n → IsMove language n me x y → Grows x y
grows language n me x y runs m = record {
  commit = commit_rises language n me x y m;
  log = log_stays language n me x y runs m;
  sealed = sealed_rises language n me x y runs m x.sealed refl;
}

-- it was both at moments of one run
pub was_before : (language : Language) (n me : ℕ) (x y : Node) (m : IsMove language n me x y) → WasAt language n (new_world n) (m.early ++ m.event ∷ []) me x
was_before language n me x y m = record { early = m.early; late = m.event ∷ []; moment = refl; at = m.at }

pub was_after : (language : Language) (n me : ℕ) (x y : Node) (m : IsMove language n me x y) → WasAt language n (new_world n) (m.early ++ m.event ∷ []) me y
was_after language n me x y m = record { early = m.early ++ m.event ∷ []; late = []; moment = append-nil (m.early ++ m.event ∷ []); at = m.next }
