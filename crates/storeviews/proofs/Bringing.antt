-- That a window is brought up to what its member has.
use Rattle.store.specs.declared.refusal.StoreRefusal.TheVariants.{Refused}
use Rattle.fault.specs.declared.refusal.Refusal.{Refusal}
use Rattle.fault.specs.declared.refusal.Refusal.TheVariants.{NodeDown}
use Rattle.store.specs.Applied.{SaysDown}
use Rattle.std.proofs.Common.{◌≡◌, ◌∙◌, ◌⊎◌, inl, inr, ⊎_elim, ℕ, ◌+◌, ◌<◌, ◌≤◌, false, Option, Some, None, Ok, Err, Result, OnOk, MatchOption, List, [], ◌++◌, length, take, slice_range, refl, sym, ap, subst, arith}
use Rattle.std.specs.Option.{ForSome}
use Rattle.std.proofs.lemmas.List.{append-nil}
use Rattle.model.specs.declared.entry.Entry.{Entry}
use Rattle.model.specs.Stamps.{greater}
use Rattle.sqlchecks.specs.Columns.{Tables}
use Rattle.history.specs.declared.item.Item.{Item}
use Rattle.history.specs.Items.{entries_in, closed_in}
use Rattle.journal.specs.Digests.{digest_of}
use Rattle.view.specs.declared.told.Name.{Name}
use Rattle.view.specs.declared.view.View.{View}
use Rattle.view.specs.Viewing.{seen_by}
use Rattle.node.specs.declared.node.Node.{Node}
use Rattle.node.specs.Member.{member_of}
use Rattle.store.specs.declared.since.Since.{Since}
use Rattle.store.specs.declared.refusal.StoreRefusal.{StoreRefusal}
use Rattle.store.specs.Applied.{IsKept, IsSince}
use Rattle.storeviews.specs.Listing.{items_since}
use Rattle.storeviews.specs.Showing.{list_of, shown_of, GoesOn, IsBrought, IsDown, IsLater, IsLive, IsOf, IsShown, IsStill, IsViewOf}
use Rattle.storeviews.specs.declared.window.Window.{Window}
use Rattle.storeviews.proofs.Listing.{entries_since}
use Rattle.storeviews.proofs.Copying.{same_digest, same_entries}
use Rattle.storeviews.proofs.Places.{before_or, same_or}

pub later_same : (o : Option Window) → IsLater o o
later_same None = refl
later_same (Some w) = (((refl, refl, refl), refl), ([], append-nil (shown_of w)))

pub still_same : (o : Option Window) → IsStill o o
still_same None = refl
still_same (Some w) = refl

-- what is later is of the same tables and the same member
pub of_later : (tables : Tables) (at : ℕ) (old new : Option Window) → IsLater old new → IsOf tables at old → IsOf tables at new
of_later tables at None new later of = subst (λ (o : Option Window). IsOf tables at o) (sym later) tt
of_later tables at (Some w) None later of = tt
of_later tables at (Some w) (Some v) later of = (later.0.0.1 ∙ of.0, ap (λ (name : Name). name.node) later.0.0.0 ∙ of.1)

-- each is so still where one is, and the others stay
pub are_of_next : (tables : Tables) (at : ℕ) (old new : ℕ → Option Window) → ((i : ℕ) → IsOf tables i (old i)) → (IsOf tables at (old at) → IsOf tables at (new at)) → ((i : ℕ) → (i ≡ at → ⊥) → new i ≡ old i) → (i : ℕ) → IsOf tables i (new i)
are_of_next tables at old new each here others i =
    ⊎_elim
    (λ (same : i ≡ at). subst (λ (k : ℕ). IsOf tables k (new k)) (sym same) (here (each at)))
    (λ (other : i ≡ at → ⊥). subst (λ (o : Option Window). IsOf tables i o) (sym (others i other)) (each i))
    (same_or i at)

-- with one brought up
pub later_next : (at : ℕ) (first old new : ℕ → Option Window) → ((i : ℕ) → IsLater (first i) (old i)) → ((i : ℕ) → at ≤ i → old i ≡ first i) → IsLater (old at) (new at) → ((i : ℕ) → (i ≡ at → ⊥) → new i ≡ old i) → (i : ℕ) → IsLater (first i) (new i)
later_next at first old new later rest here others i =
    ⊎_elim
    (λ (same : i ≡ at).
    let now : IsLater (first at) (new at) = subst (λ (o : Option Window). IsLater o (new at)) (rest at (omega arith)) here in
    subst (λ (k : ℕ). IsLater (first k) (new k)) (sym same) now)
    (λ (other : i ≡ at → ⊥). subst (λ (o : Option Window). IsLater (first i) o) (sym (others i other)) (later i))
    (same_or i at)

module _ {K I : Type 0} {g : _} {s : _} where
  -- what goes on with what was shown
  gone_on : (honest : K → Type 0) (n : Node K I g s) (w v : Window) (x : Since) (mark : ℕ) → IsSince honest n w.count x → GoesOn w x
      → shown_of v ≡ list_of w ++ items_since mark (list_of w) x → list_of v ≡ shown_of v → closed_in (shown_of v) ≡ x.closed → IsBrought honest (Some n) (Some w) (Some v)
  gone_on honest n w v x mark since on shown all closes =
      let log = (member_of n).log in
      let before = entries_in (list_of w) in
      let new : entries_in (shown_of v) ≡ before ++ x.entries.items = ap entries_in shown ∙ entries_since mark (list_of w) x in (
        all,
        (
          since.0,
          λ h.
              let has = since.1 h in
              let low : w.count ≤ (member_of n).commit = omega (arith, on.0, has.0) in
              let more : entries_in (shown_of v) ≡ before ++ slice_range log w.count (member_of n).commit = new ∙ ap (λ (es : List Entry). before ++ es) has.1 in
              (closes ∙ has.2, same_digest before (entries_in (shown_of v)) log w.count (member_of n).commit w.digest low w.digested (sym has.3 ∙ on.1) more),
        ),
        λ h first.
            let has = since.1 h in
            let low : w.count ≤ (member_of n).commit = omega (arith, on.0, has.0) in
            let more : entries_in (shown_of v) ≡ before ++ slice_range log w.count (member_of n).commit = new ∙ ap (λ (es : List Entry). before ++ es) has.1 in
            same_entries before (entries_in (shown_of v)) log w.count (member_of n).commit low w.counted more first,
      )

  -- the node that is found
  pub brought_at : (honest : K → Type 0) (found : Option (Node K I g s)) (w v : Window) (x : Since) (mark : ℕ) → MatchOption found ⊥ (λ n. IsSince honest n w.count x) → GoesOn w x
      → shown_of v ≡ list_of w ++ items_since mark (list_of w) x → list_of v ≡ shown_of v → closed_in (shown_of v) ≡ x.closed → IsBrought honest found (Some w) (Some v)
  brought_at honest None w v x mark since on shown all closes = since
  brought_at honest (Some n) w v x mark since on shown all closes = gone_on honest n w v x mark since on shown all closes

  -- what does not go on with what was shown
  pub ended_at : (honest : K → Type 0) (found : Option (Node K I g s)) (w : Window) (x : Since) → MatchOption found ⊥ (λ n. IsSince honest n w.count x) → (GoesOn w x → ⊥) → IsBrought honest found (Some w) None
  ended_at honest None w x since not = tt
  ended_at honest (Some n) w x since not = inr (x, since, not)

  pub down_at : (honest : K → Type 0) (found : Option (Node K I g s)) (w : Window) → ForSome found (λ n. n.is_up ≡ false) → IsBrought honest found (Some w) None
  down_at honest None w down = tt
  down_at honest (Some n) w down = inl (down n refl)

  -- so is what a window made of it
  pub brought_by : (honest : K → Type 0) (n : Option (Node K I g s)) (w : Window) (x : Since) (mark : ℕ) (o : Option Window) (r : Result (Unit {0}) StoreRefusal) → MatchOption n ⊥ (λ m. IsSince honest m w.count x)
      → OnOk r (ForSome o (λ v. GoesOn w x × (shown_of v ≡ list_of w ++ items_since mark (list_of w) x) × (list_of v ≡ shown_of v) × (closed_in (shown_of v) ≡ x.closed))) → OnOk r (o ≡ None → GoesOn w x → ⊥) → OnOk r (IsBrought honest n (Some w) o)
  brought_by honest n w x mark o (Err e) since shows ended = tt
  brought_by honest n w x mark None (Ok done) since shows ended = ended_at honest n w x since (ended refl)
  brought_by honest n w x mark (Some v) (Ok done) since shows ended = let all = shows v refl in brought_at honest n w v x mark since all.0 all.1 all.2 all.3

  -- ---- members that stay the same

  pub kept_then : (honest : K → Type 0) (a b c : Option (Node K I g s)) → IsKept honest a b → IsKept honest b c → IsKept honest a c
  kept_then honest None b c h k = subst (λ (m : Option (Node K I g s)). IsKept honest m c) h k
  kept_then honest (Some n) None c h k = absurd h
  kept_then honest (Some n) (Some m) None h k = absurd k
  kept_then honest (Some n) (Some m) (Some o) h k = (k.0 ∙ h.0, k.1 ∙ h.1, λ hon. let last = k.2 hon in let first = h.2 last.0 in (first.0, last.1 ∙ first.1))

  -- ---- one member after another

  -- one more
  pub brought_next : (honest : K → Type 0) (at : ℕ) (n n' : ℕ → Option (Node K I g s)) (first old new : ℕ → Option Window)
      → ((i : ℕ) → i < at → IsBrought honest (n i) (first i) (old i)) → ((i : ℕ) → at ≤ i → old i ≡ first i) → IsBrought honest (n' at) (old at) (new at)
      → ((i : ℕ) → (i ≡ at → ⊥) → new i ≡ old i) → ((i : ℕ) → (i ≡ at → ⊥) → n' i ≡ n i) → (i : ℕ) → i < at + 1 → IsBrought honest (n' i) (first i) (new i)
  brought_next honest at n n' first old new done rest here others seats i low =
      ⊎_elim
      (λ (same : i ≡ at).
      let now : IsBrought honest (n' at) (first at) (new at) = subst (λ (o : Option Window). IsBrought honest (n' at) o (new at)) (rest at (omega arith)) here in
      subst (λ (k : ℕ). IsBrought honest (n' k) (first k) (new k)) (sym same) now)
      (λ (other : i ≡ at → ⊥).
      let less : i < at = omega (arith, low, other) in
      let was : IsBrought honest (n' i) (first i) (old i) = subst (λ (m : Option (Node K I g s)). IsBrought honest m (first i) (old i)) (sym (seats i other)) (done i less) in
      subst (λ (o : Option Window). IsBrought honest (n' i) (first i) o) (sym (others i other)) was)
      (same_or i at)

  -- all of them
  pub brought_all : (honest : K → Type 0) (many : ℕ) (n : ℕ → Option (Node K I g s)) (first new : ℕ → Option Window)
      → ((i : ℕ) → i < many → IsBrought honest (n i) (first i) (new i)) → ((i : ℕ) → many ≤ i → new i ≡ first i) → ((i : ℕ) → many ≤ i → first i ≡ None) → (i : ℕ) → IsBrought honest (n i) (first i) (new i)
  brought_all honest many n first new done rest beyond i =
      ⊎_elim (λ (low : i < many). done i low) (λ (far : many ≤ i). subst (λ (o : Option Window). IsBrought honest (n i) o (new i)) (sym (beyond i far)) (rest i far ∙ beyond i far)) (before_or i many)

  -- ---- a refusal at one of them

  pub failed_at : (honest : K → Type 0) (at : ℕ) (n n' : ℕ → Option (Node K I g s)) (first old new : ℕ → Option Window)
      → ((i : ℕ) → i < at → IsBrought honest (n i) (first i) (old i)) → ((i : ℕ) → at ≤ i → old i ≡ first i) → IsStill (old at) (new at)
      → ((i : ℕ) → (i ≡ at → ⊥) → new i ≡ old i) → ((i : ℕ) → (i ≡ at → ⊥) → n' i ≡ n i) → (i : ℕ) → IsBrought honest (n' i) (first i) (new i) ⊎ IsStill (first i) (new i)
  failed_at honest at n n' first old new done rest here others seats i =
      ⊎_elim
      (λ (same : i ≡ at).
      let now : IsStill (first at) (new at) = subst (λ (o : Option Window). IsStill o (new at)) (rest at (omega arith)) here in
      inr (subst (λ (k : ℕ). IsStill (first k) (new k)) (sym same) now))
      (λ (other : i ≡ at → ⊥).
      ⊎_elim
      (λ (less : i < at).
      let was : IsBrought honest (n' i) (first i) (old i) = subst (λ (m : Option (Node K I g s)). IsBrought honest m (first i) (old i)) (sym (seats i other)) (done i less) in
      inl (subst (λ (o : Option Window). IsBrought honest (n' i) (first i) o) (sym (others i other)) was))
      (λ (far : at ≤ i). inr (subst (λ (o : Option Window). IsStill (first i) o) (sym (others i other ∙ rest i far)) (still_same (first i))))
      (before_or i at))
      (same_or i at)

  -- ---- a life that begins

  begins_on : (honest : K → Type 0) (n : Node K I g s) (w : Window) (x : Since) → list_of w ≡ [] → IsSince honest n w.count x → honest n.keeper → GoesOn w x
  begins_on honest n w x empty since h =
      let log = (member_of n).log in
      let none : w.count ≡ 0 = w.counted ∙ ap (λ (xs : List Item). length (entries_in xs)) empty in
      let blank : w.digest ≡ digest_of [] = w.digested ∙ ap (λ (xs : List Item). digest_of (entries_in xs)) empty in
      let first : digest_of (take w.count log) ≡ digest_of [] = ap (λ (k : ℕ). digest_of (take k log)) none in
      (omega (arith, none), (since.1 h).3 ∙ first ∙ sym blank, ap (λ (xs : List Item). greater (closed_in xs) x.closed) empty)

  -- what is shown of it
  pub live_begun : (honest : K → Type 0) (n : Option (Node K I g s)) (w : Window) (new : Option Window) → list_of w ≡ [] → IsBrought honest n (Some w) new → IsLive honest n new
  live_begun honest None w None empty h = tt
  live_begun honest (Some n) w None empty h =
      ⊎_elim
      (λ (down : n.is_up ≡ false). inl down)
      (λ (ended : (x : Since) × IsSince honest n w.count x × (GoesOn w x → ⊥)). inr (λ (hon : honest n.keeper). ended.2 (begins_on honest n w ended.0 empty ended.1 hon)))
      h
  live_begun honest None w (Some v) empty h = h
  live_begun honest (Some n) w (Some v) empty h = h.1

  -- and of one that goes on
  pub live_on : (honest : K → Type 0) (n : Option (Node K I g s)) (old : Option Window) (v : Window) → IsBrought honest n old (Some v) → IsShown honest n (shown_of v)
  live_on honest n None v h = absurd (cc h)
  live_on honest None (Some w) v h = h
  live_on honest (Some n) (Some w) v h = h.1

  pub live_kept : (honest : K → Type 0) (n : Option (Node K I g s)) (old new : Option Window) → MatchOption new ⊥ (λ _. Unit {0}) → IsBrought honest n old new → IsLive honest n new
  live_kept honest n old None there h = absurd there
  live_kept honest n old (Some v) there h = live_on honest n old v h

  -- of one that begins, once it is put in its place
  pub live_put : (honest : K → Type 0) (n : Option (Node K I g s)) (w : Window) (o new : Option Window) (r : Result (Unit {0}) StoreRefusal) → list_of w ≡ [] → new ≡ o → OnOk r (IsBrought honest n (Some w) o) → OnOk r (IsLive honest n new)
  live_put honest n w o new (Err e) empty is brought = tt
  live_put honest n w o new (Ok done) empty is brought = subst (λ (p : Option Window). IsLive honest n p) (sym is) (live_begun honest n w o empty brought)

  -- nothing is shown only where the member is down
  pub live_none : (honest : K → Type 0) (n : Option (Node K I g s)) → IsLive honest n None → ForSome n (λ m. IsDown honest m)
  live_none honest n h m is = subst (λ (o : Option (Node K I g s)). IsLive honest o None) is h

  -- a view of what is shown of it
  pub shown_by : (honest : K → Type 0) (n : Option (Node K I g s)) (o : Option Window) (v : View) → MatchOption o ⊥ (λ w. IsViewOf w v) → IsLive honest n o → IsShown honest n (seen_by v)
  shown_by honest n None v view live = absurd view
  shown_by honest n (Some w) v view live = subst (λ (items : List Item). IsShown honest n items) (sym view.0) live

-- what a store's refusal is that is any other one
abbrev inner : StoreRefusal → Refusal
inner (Refused refusal) = refusal
inner other = NodeDown

pub told : {refusal : Refusal} → SaysDown (Refused refusal) → refusal ≡ NodeDown
told says = ap inner says
