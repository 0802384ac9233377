-- A step that only adds to what is published keeps the rule.
use Rattle.std.proofs.Common.{◌≡◌, ℕ, ◌≢◌, ◌≤◌, List, [], ◌∷◌, ◌++◌, fold, set, refl, sym, ap, ◌∙◌, subst, ⊎_elim, Option, Some, None, MatchOption, take, drop}
use Rattle.std.proofs.lemmas.List.{take-take, take-append-drop}
use mathlib.Core.Option.{some}
use mathlib.Core.List.{IsPrefix}
use lib.ListN.{get_elem?}
use Rattle.crossbeam_utils.specs.Register.{Admits, TurnsAt, Turns, Forks, Merges}
use Rattle.atomic_table.proofs.Lists.{at_set, at_snoc}
use Rattle.history.specs.declared.item.Item.{Item}
use Rattle.history.specs.declared.front.Front.{Front}
use Rattle.history.proofs.Fronts.{prefix_self, prefix_trans}
use Rattle.view.specs.declared.published.Published.{Published}
use Rattle.view.specs.Rules.{IsBefore, Keeps, Shows}

none_front : {A : Type 0} → (f : Front) → None ≡ Some f → A
none_front f e = absurd cc

some_front : (f g : Front) → Some f ≡ Some g → f ≡ g
some_front f g e = cc e

pub admits : Admits Keeps None
admits x views h seat f at = ⊎_elim (λ (e : get_elem? views seat ≡ some (Some f)). h seat f e) (λ (e : None ≡ Some f). none_front f e) (at_snoc views None (Some f) seat at)

before_self : (x : Published) → IsBefore x.front x
before_self x = (refl, prefix_self x.front.seen.log)

before_trans : (f : Front) (x y : Published) → IsBefore f x → IsBefore x.front y → IsBefore f y
before_trans f x y h up = (h.0 ∙ up.0, prefix_trans f.seen.log x.front.seen.log y.front.seen.log h.1 up.1)

-- what is known of one seat
seen_before : (x : Published) (v : Option Front) → ((f : Front) → v ≡ Some f → IsBefore f x) → MatchOption v (Unit {0}) (λ f. IsBefore f x)
seen_before x None h = tt
seen_before x (Some f) h = h f refl

pub turns_at : (seat : ℕ) (v : Option Front) (x y : Published) → IsBefore x.front y → TurnsAt Keeps seat v x y Shows
turns_at seat v x y up views h at = (
  Some y.front,
  λ j f e. ⊎_elim (λ (t : (j ≡ seat) × (Some y.front ≡ Some f)). subst (λ g. IsBefore g y) (some_front y.front f t.1) (before_self y))
      (λ (t : (j ≢ seat) × (get_elem? views j ≡ some (Some f))). before_trans f x y (h j f t.1) up)
      (at_set views seat j (Some y.front) (Some f) e),
  (refl, seen_before x v (λ f e. h seat f (at ∙ ap some e))),
)

-- to look keeps the rule
pub looks : (seat : ℕ) (v : Option Front) → Turns Keeps seat v (λ x. x) Shows
looks seat v x views h at = turns_at seat v x x (before_self x) views h at

set_before : (seat j : ℕ) (v : Option Front) (x : Published) (views : List (Option Front)) (f : Front) → Keeps x views → ((g : Front) → v ≡ Some g → IsBefore g x) → get_elem? (set views seat v) j ≡ some (Some f) → IsBefore f x
set_before seat j v x views f h mine a = ⊎_elim (λ (t : (j ≡ seat) × (v ≡ Some f)). mine f t.1) (λ (t : (j ≢ seat) × (get_elem? views j ≡ some (Some f))). h j f t.1) (at_set views seat j v (Some f) a)

-- what one seat knows goes to another
pub forks : (seat : ℕ) (v : Option Front) → Forks Keeps seat v v v
forks seat v x views h at =
    let mine : (g : Front) → v ≡ Some g → IsBefore g x = λ g e. h seat g (at ∙ ap some e) in
    λ j f e. ⊎_elim (λ (a : get_elem? (set views seat v) j ≡ some (Some f)). set_before seat j v x views f h mine a) (λ (same : v ≡ Some f). mine f same) (at_snoc (set views seat v) v (Some f) j e)

pub merges : (seat : ℕ) (v : Option Front) (other : ℕ) (w : Option Front) → Merges Keeps seat v other w w None
merges seat v other w x views h at apart there =
    let theirs : (g : Front) → w ≡ Some g → IsBefore g x = λ g e. ⊎_elim (λ (t : (other ≡ seat) × (w ≡ w)). absurd (apart t.0)) (λ (t : (other ≢ seat) × (get_elem? views other ≡ some w)). h other g (t.1 ∙ ap some e)) (at_set views seat other w w there) in
    λ j f e. set_before other j None x (set views seat w) f (λ k g a. set_before seat k w x views g h theirs a) (λ g n. none_front g n) e

-- the list that is read begins with what the seat knew
pub before_of : (v : Option Front) (f : Front) (x : Published) → v ≡ Some f → MatchOption v (Unit {0}) (λ f. IsBefore f x) → IsBefore f x
before_of None f x e h = none_front f e
before_of (Some g) f x e h = subst (λ k. IsBefore k x) (some_front g f e) h

-- a publication is the last token that was given
abbrev pub last_of : Front → List Front → Front
last_of now fronts = fold (λ _ f. f) now fronts

-- to publish with nothing pending keeps the rule
pub starts_at : (seat : ℕ) (v : Option Front) (now next : Published) (fronts : List Front) → fronts ≡ [] → next.front ≡ last_of now.front fronts → TurnsAt Keeps seat v now next Shows
starts_at seat v now next fronts none is =
    let same : next.front ≡ now.front = is ∙ ap (λ (fs : List Front). last_of now.front fs) none in
    turns_at seat v now next (ap (λ f. f.seen.book) (sym same), subst (λ (f : Front). IsPrefix now.front.seen.log f.seen.log) (sym same) (prefix_self now.front.seen.log))

-- the first items begin with fewer of them
pub taken_before : (n m : ℕ) (items : List Item) → n ≤ m → IsPrefix (take n items) (take m items)
taken_before n m items le = (drop n (take m items), ap (λ (xs : List Item). xs ++ drop n (take m items)) (sym (take-take n m items le)) ∙ take-append-drop n (take m items))

-- to publish a longer list of the same history keeps the rule
pub publishes_at : (seat : ℕ) (v : Option Front) (now next : Published) (fronts : List Front) (f : Front) → fronts ≡ f ∷ [] → now.front.seen.book ≡ f.seen.book → IsPrefix now.front.seen.log f.seen.log → next.front ≡ last_of now.front fronts
    → TurnsAt Keeps seat v now next Shows
publishes_at seat v now next fronts f one book up is =
    let same : next.front ≡ f = is ∙ ap (λ (fs : List Front). last_of now.front fs) one in
    turns_at seat v now next (book ∙ ap (λ g. g.seen.book) (sym same), subst (λ (g : Front). IsPrefix now.front.seen.log g.seen.log) (sym same) up)
