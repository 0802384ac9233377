-- Stamps rise in what a member of a run publishes.
use Rattle.std.proofs.Common.{◌≡◌, ◌∙◌, ℕ, zero, suc, ◌<◌, ◌≤◌, Option, Some, None, List, [], ◌∷◌, ◌++◌, length, fold, refl, sym, ap, subst, arith}
use Rattle.std.specs.List.{slice_range}
use Rattle.model.specs.Lists.{nth, IsBeginning}
use Rattle.model.specs.declared.entry.Entry.{Entry}
use Rattle.model.specs.Stamps.{TIME_LAST, above, greater}
use Rattle.model.specs.Logs.{IsStamped, closed}
use Rattle.model.specs.Transactions.{Language}
use Rattle.model.specs.Members.{Node, applied, closed_time}
use Rattle.model.specs.Worlds.{World, Event}
use Rattle.model.specs.Agreement.{Agree, decided}
use Rattle.safety.specs.Floors.{WasAt}
use Rattle.node.specs.View.{Grows}
use Rattle.node.specs.View.{risen}
use Rattle.history.specs.declared.item.Item.{Item}
use Rattle.history.specs.Items.{sealed_in, closed_in, closed_after, RisesFrom}
use Rattle.history.proofs.Rising.{rises_join, closed_is}
use Rattle.cells.specs.Publishing.{marked, marked_seal, items_by}
use Rattle.view.specs.Staying.{IsBegun, LivesAgree, BegunEarlier}
use Rattle.cells.specs.Runs.{RunsRise, IsPublishedIn, MembersAgree}
use Rattle.cells.proofs.Items.{applied_more}

-- ---- places in lists

far : (xs ys : List Entry) (k : ℕ) (e : Entry) → nth ys k ≡ Some e → (i : ℕ) × (length xs < i) × (nth (xs ++ ys) i ≡ Some e)
far [] ys zero e at = absurd (cc at)
far [] ys (suc k) e at = (suc k, omega arith, at)
far (x ∷ xs) ys k e at = further (far xs ys k e at)
  where
    further : (i : ℕ) × (length xs < i) × (nth (xs ++ ys) i ≡ Some e) → (i : ℕ) × (length (x ∷ xs) < i) × (nth (x ∷ (xs ++ ys)) i ≡ Some e)
    further (zero, less, there) = absurd (omega (arith, less))
    further (suc i, less, there) = (suc (suc i), omega (arith, less), there)

in_longer : (xs ys : List Entry) (i : ℕ) (e : Entry) → nth xs i ≡ Some e → nth (xs ++ ys) i ≡ Some e
in_longer xs ys zero e at = absurd (cc at)
in_longer [] ys (suc i) e at = absurd (cc at)
in_longer (x ∷ xs) ys (suc zero) e at = at
in_longer (x ∷ xs) ys (suc (suc i)) e at = in_longer xs ys (suc i) e at

-- ---- stamps

tail_stamped : (d : Entry) (es : List Entry) → IsStamped (d ∷ es) → IsStamped es
tail_stamped d es h = record { instants = instants; rising = rising }
  where
    instants : (i : ℕ) (e : Entry) → nth es i ≡ Some e → e.stamp ≤ TIME_LAST
    instants zero e at = absurd (cc at)
    instants (suc i) e at = h.instants (suc (suc i)) e at

    rising : (i j : ℕ) (x y : Entry) → i < j → nth es i ≡ Some x → nth es j ≡ Some y → x.stamp < y.stamp
    rising zero j x y less a b = absurd (cc a)
    rising (suc i) zero x y less a b = absurd (omega (arith, less))
    rising (suc i) (suc j) x y less a b = h.rising (suc (suc i)) (suc (suc j)) x y (omega (arith, less)) a b

later_stamped : (xs ys : List Entry) → IsStamped (xs ++ ys) → IsStamped ys
later_stamped [] ys h = h
later_stamped (x ∷ xs) ys h = later_stamped xs ys (tail_stamped x (xs ++ ys) h)

above_both : (time : Option ℕ) (s n : ℕ) → above time ≤ n → s < n → above (greater time (Some s)) ≤ n
above_both None s n h k = omega (arith, k)
above_both (Some t) s n h k = omega (arith, h, k)

marked_rise : (time : Option ℕ) (mark : ℕ) (es : List Entry) → ((i : ℕ) (e : Entry) → nth es i ≡ Some e → above time ≤ e.stamp) → IsStamped es → RisesFrom time (marked mark es)
marked_rise time mark [] h k = tt
marked_rise time mark (d ∷ es) h k =
    ((h 1 d refl, k.instants 1 d refl), marked_rise (greater time (Some d.stamp)) mark es later (tail_stamped d es k))
  where
    later : (i : ℕ) (e : Entry) → nth es i ≡ Some e → above (greater time (Some d.stamp)) ≤ e.stamp
    later zero e at = absurd (cc at)
    later (suc i) e at = above_both time d.stamp e.stamp (h (suc (suc i)) e at) (k.rising 1 (suc (suc i)) d e (omega arith) refl at)

seal_rises : (time : Option ℕ) (mark : ℕ) (sealed : Option ℕ) → RisesFrom time (marked_seal mark sealed)
seal_rises time mark None = tt
seal_rises time mark (Some t) = (tt, tt)

by_time : (time : Option ℕ) (n : ℕ) → ((t : ℕ) → time ≡ Some t → t < n) → above time ≤ n
by_time None n h = omega arith
by_time (Some t) n h = let less : t < n = h t refl in omega (arith, less)

-- ---- a member of a run

step_rises : (language : Language) (n : ℕ) (opening : World) (events : List Event) → Agree language n opening events → (me mark : ℕ) (x y : Node)
    → WasAt language n opening events me x → WasAt language n opening events me y → Grows x y → RisesFrom (closed_time x) (items_by mark x y)
step_rises language n opening events agree me mark x y was is grows =
    let es : List Entry = slice_range y.log x.commit y.commit in
    let whole : applied y ≡ applied x ++ es = applied_more x y grows in
    let ours = agree.applied_is_decided is.early is.late me y is.moment is.at in
    let stamps : IsStamped es = later_stamped (applied x) es (subst IsStamped whole ours.1) in
    let over : (i : ℕ) (e : Entry) → nth es i ≡ Some e → above (closed_time x) ≤ e.stamp = λ i e at.
    let place = far (applied x) es i e at in
    let there : nth (applied y) place.0 ≡ Some e = subst (λ (l : List Entry). nth l place.0 ≡ Some e) (sym whole) place.2 in
    let all : nth (decided language n opening events) place.0 ≡ Some e = subst (λ (l : List Entry). nth l place.0 ≡ Some e) ours.0.1 (in_longer (applied y) ours.0.0 place.0 e there) in
    by_time (closed_time x) e.stamp (λ t closed_then. agree.nothing_later_is_closed was.early was.late me place.0 t x e was.moment was.at closed_then place.1 all) in
    rises_join (closed_time x) (marked mark es) (marked_seal mark (risen x.sealed y.sealed)) (marked_rise (closed_time x) mark es over stamps)
    (seal_rises (fold closed_after (closed_time x) (marked mark es)) mark (risen x.sealed y.sealed))

pub runs_rise : (language : Language) (n : ℕ) (opening : World) → ((events : List Event) → Agree language n opening events) → RunsRise language n opening
runs_rise language n opening agree events me mark x y before was is grows rises entries sealed =
    let closed_then : closed_in before ≡ closed_time x = ap (λ (es : List Entry). greater (closed es) (sealed_in before)) entries ∙ ap (λ (t : Option ℕ). greater (closed (applied x)) t) sealed in
    rises_join None before (items_by mark x y) rises
    (subst (λ (t : Option ℕ). RisesFrom t (items_by mark x y)) (sym (closed_is before rises ∙ closed_then)) (step_rises language n opening events (agree events) me mark x y was is grows))

-- ---- members of one run

begun : (language : Language) (n : ℕ) (opening : World) (events : List Event) → Agree language n opening events → BegunEarlier → (seen : List Item) → IsPublishedIn language n opening events seen → IsBegun seen (decided language n opening events)
begun language n opening events agree earlier seen p =
    let x : Node = p.node in
    let ours = agree.applied_is_decided p.was.early p.was.late p.me x p.was.moment p.was.at in
    let closed_then : closed_in p.whole ≡ closed_time x = ap (λ (es : List Entry). greater (closed es) (sealed_in p.whole)) p.entries ∙ ap (λ (t : Option ℕ). greater (closed (applied x)) t) p.sealed in
    let whole : IsBegun p.whole (decided language n opening events) = record {
      begins = subst (λ (es : List Entry). IsBeginning es (decided language n opening events)) (sym p.entries) ours.0;
      later = λ i t e is further at. agree.nothing_later_is_closed p.was.early p.was.late p.me i t x e p.was.moment p.was.at (sym closed_then ∙ is) (subst (λ (es : List Entry). length es < i) p.entries further) at;
    } in
    earlier seen p.whole (decided language n opening events) p.rises p.first whole

pub members_agree : (language : Language) (n : ℕ) (opening : World) → ((events : List Event) → Agree language n opening events) → LivesAgree → BegunEarlier → MembersAgree language n opening
members_agree language n opening agree same earlier events one two p q =
    same language one two (decided language n opening events) (begun language n opening events (agree events) earlier one p) (begun language n opening events (agree events) earlier two q)
