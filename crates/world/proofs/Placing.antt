-- A group in which one seat is looked at, or changed.
use Rattle.std.proofs.Common.{rules, ◌≡◌, ◌∙◌, Bool, true, false, if◌then◌else◌, ℕ, zero, suc, ◌+◌, ◌<◌, ◌⊎◌, inl, inr, ⊎_elim, Some, None, List, [], ◌∷◌, ◌++◌, map, length, slice_get, slice_set, slice_index_or, refl, sym, ap, subst, option_map, add-one, append-nil, Ok, Err}
use Rattle.std.proofs.lemmas.Option.{same_Some, slice_get-map, slice_get_read, get_or_from_slice_get}
use Rattle.std.proofs.lemmas.List.{map-set, set-get_or}
use Rattle.std.proofs.Math.ListN.{length-set}
use Rattle.model.specs.Lists.{nth, with_nth}
use Rattle.model.specs.Members.{Node}
use Rattle.model.specs.Steps.{Effect, Moves, Nothing}
use Rattle.model.specs.Worlds.{World, done, effect_gives, numbered, with_node}
use Rattle.model.specs.Worlds.Output.{Applied, Refused}
use Rattle.model.specs.declared.message.Message.{Message}
use Rattle.fault.specs.declared.refusal.Refusal.{Refusal}
use Rattle.keep.specs.Durable.{stored_in}
use Rattle.keep.specs.Log.{IsLog}
use Rattle.keep.specs.declared.memory.MemImage.{MemImage}
use Rattle.node.specs.declared.node.Out.{Out}
use Rattle.node.specs.View.{IsEmpty}
use Rattle.node.specs.Work.{Work}
use Rattle.sqlchecks.specs.Columns.{Tables}
use Rattle.sqlread.specs.Meaning.{language_of}
use Rattle.world.specs.declared.seat.Seat.{Seat}
use Rattle.world.specs.declared.seat.Seat.TheVariants.{Down}
use Rattle.world.specs.View.{brings, brought, if_up, node_in, nodes_of, works_at, IsGroup, IsSeat, IsStep}

get_set : {A : Type 0} (xs : List A) (i k : ℕ) (v s : A) → slice_get (slice_set xs i v) k ≡ Some s → ((k ≡ i) × (v ≡ s)) ⊎ (slice_get xs k ≡ Some s)
get_set {A} [] i k v s e = inr e
get_set (x ∷ xs) zero zero v s e = inl (refl, same_Some v s e)
get_set (x ∷ xs) zero (suc k) v s e = inr e
get_set (x ∷ xs) (suc i) zero v s e = inr e
get_set (x ∷ xs) (suc i) (suc k) v s e = ⊎_elim (λ h. inl (ap suc h.0, h.1)) (λ h. inr h) (get_set xs i k v s e)

nth_next : {A : Type 0} (xs : List A) (m i : ℕ) → m ≡ i + 1 → nth xs m ≡ slice_get xs i
nth_next xs m i e = rw (e, add-one) refl

set_next : {A : Type 0} (xs : List A) (m i : ℕ) (y : A) → m ≡ i + 1 → slice_set xs i y ≡ with_nth xs m y
set_next xs m i y e = rw (e, add-one) refl

down_if : {A : Type 0} (b : Bool) (x : A) → (if b then Some x else None) ≡ None → b ≡ false
down_if true x e = cc
down_if false x e = refl

-- nothing is told of a member that is there, so it is down
pub is_down : (x : Node) → if_up (Some x) ≡ None → x.up ≡ false
is_down x e = down_if x.up x e

-- the world of these members
abbrev pub world_with : List Node → List Message → World
world_with nodes sent = record { nodes = nodes; sent = sent }

-- seat s is that of member m
pub record IsPlaced (t : Tables) (n : ℕ) (seats : List Seat) (m i : ℕ) (s : Seat) : Type 0 where
  pub next : m ≡ i + 1
  pub within : i < length seats
  pub at : s ≡ slice_index_or seats i s
  pub group : IsGroup t n seats

module _ {t : Tables} {n : ℕ} {seats : List Seat} {m i : ℕ} {s : Seat} (p : IsPlaced t n seats m i s) where
  there : slice_get seats i ≡ Some s
  there = slice_get_read seats (length seats) i s refl p.within p.at

  pub seat : IsSeat t n m s
  seat = let P : ℕ → Type 0 = λ k. IsSeat t n k s in subst P (sym p.next) (p.group.each i s there)

  pub group_after : (v : Seat) → IsSeat t n m v → IsGroup t n (slice_set seats i v)
  group_after v h =
      let P : ℕ → Seat → Type 0 = λ k w. IsSeat t n (k + 1) w in
      let new : P i v = let Q : ℕ → Type 0 = λ k. IsSeat t n k v in subst Q p.next h in
      record {
        few = p.group.few;
        all = length-set seats i v ∙ p.group.all;
        each = λ k w e. ⊎_elim (λ (q : (k ≡ i) × (v ≡ w)). subst (P k) q.1 (let R : ℕ → Type 0 = λ j. P j v in subst R (sym q.0) new)) (λ (q : slice_get seats k ≡ Some w). p.group.each k w q) (get_set seats i k v w e);
      }

  node_there : slice_get (nodes_of seats) i ≡ Some (node_in s)
  node_there = slice_get-map node_in seats i ∙ ap (option_map node_in) there

  pub here : nth (nodes_of seats) m ≡ Some (node_in s)
  here = nth_next (nodes_of seats) m i p.next ∙ node_there

  nodes_after : (v : Seat) → nodes_of (slice_set seats i v) ≡ with_nth (nodes_of seats) m (node_in v)
  nodes_after v = map-set node_in seats i v ∙ set_next (nodes_of seats) m i (node_in v) p.next

  same_nodes : (v : Seat) → node_in v ≡ node_in s → nodes_of (slice_set seats i v) ≡ nodes_of seats
  same_nodes v e =
      map-set node_in seats i v ∙ ap (slice_set (nodes_of seats) i) (e ∙ sym (get_or_from_slice_get (nodes_of seats) i (node_in s) (node_in s) node_there)) ∙ set-get_or (nodes_of seats) i (node_in s)

  pub world_after : (sent : List Message) (v : Seat) → world_with (nodes_of (slice_set seats i v)) sent ≡ with_node (world_with (nodes_of seats) sent) m (node_in v) []
  world_after sent v = ap (λ xs. world_with xs sent) (nodes_after v) ∙ ap (world_with (with_nth (nodes_of seats) m (node_in v))) (sym (append-nil sent))

  pub same_world : (sent : List Message) (v : Seat) → node_in v ≡ node_in s → world_with (nodes_of (slice_set seats i v)) sent ≡ world_with (nodes_of seats) sent
  same_world sent v e = ap (λ xs. world_with xs sent) (same_nodes v e)

  -- what comes of a step of the member
  module _ (sent : List Message) (v : Seat) (work : Work) where
    abbrev w : World
    w = world_with (nodes_of seats) sent

    abbrev effect : Effect
    effect = works_at t n m work (node_in s)

    brought_there : done w m effect ≡ brings t n w m work (nth (nodes_of seats) m)
    brought_there = sym (ap (brings t n w m work) here)

    gives_there : effect_gives (language_of t) w m (node_in s) effect ≡ brought t n w m work (nth (nodes_of seats) m)
    gives_there = sym (ap (brought t n w m work) here)

    abbrev IsMove : Out → Type 0
    IsMove out = Moves (record { node = node_in v; sent = out.messages.items }) ≡ effect

    -- nothing comes of it
    abbrev IsNone : Out → Type 0
    IsNone out = (Nothing ≡ effect) × (node_in v ≡ node_in s) × IsEmpty out

    pub made_world : (out : Out) → IsStep (language_of t) m (node_in s) (node_in v) effect (Ok out) →
        world_with (nodes_of (slice_set seats i v)) (sent ++ out.messages.items) ≡ brings t n w m work (nth (nodes_of seats) m)
    made_world out step = ⊎_elim
        (λ (moved : IsMove out). ap (λ xs. world_with xs (sent ++ out.messages.items)) (nodes_after v) ∙ ap (done w m) moved ∙ brought_there)
        (λ (none : IsNone out). ap (λ more. world_with (nodes_of (slice_set seats i v)) (sent ++ more)) none.2.0 ∙ ap (world_with (nodes_of (slice_set seats i v))) (append-nil sent) ∙ same_world sent v none.1 ∙ ap (done w m) none.0 ∙ brought_there)
        step.0

    pub made_gives : (out : Out) → IsStep (language_of t) m (node_in s) (node_in v) effect (Ok out) →
        numbered (length sent) out.messages.items ++ map (Applied m) out.told.items ≡ brought t n w m work (nth (nodes_of seats) m)
    made_gives out step = ⊎_elim
        (λ (moved : IsMove out). ap (λ told. numbered (length sent) out.messages.items ++ told) step.1 ∙ ap (effect_gives (language_of t) w m (node_in s)) moved ∙ gives_there)
        (λ (none : IsNone out). rw (none.2.0, none.2.2) (ap (effect_gives (language_of t) w m (node_in s)) none.0 ∙ gives_there))
        step.0

    pub refused_world : (refusal : Refusal) → IsStep (language_of t) m (node_in s) (node_in v) effect (Err refusal) →
        world_with (nodes_of (slice_set seats i v)) sent ≡ brings t n w m work (nth (nodes_of seats) m)
    refused_world refusal step = same_world sent v step.1 ∙ ap (done w m) step.0 ∙ brought_there

    pub refused_gives : (refusal : Refusal) → IsStep (language_of t) m (node_in s) (node_in v) effect (Err refusal) →
        Refused m refusal ∷ [] ≡ brought t n w m work (nth (nodes_of seats) m)
    refused_gives refusal step = ap (effect_gives (language_of t) w m (node_in s)) step.0 ∙ gives_there

-- ---- a member is given what it has stored

set_none : {A B : Type 0} (f : A → B) (xs : List A) (i : ℕ) (y : B) → slice_get xs i ≡ None → slice_set (map f xs) i y ≡ map f xs
set_none f [] i y e = refl
set_none f (x ∷ xs) zero y e = absurd (cc e)
set_none f (x ∷ xs) (suc i) y e = ap (λ l. f x ∷ l) (set_none f xs i y e)

nth_none : {A B : Type 0} (f : A → B) (xs : List A) (m : ℕ) (y : B) → nth xs m ≡ None → with_nth (map f xs) m y ≡ map f xs
nth_none f xs zero y e = refl
nth_none f xs (suc i) y e = set_none f xs i y e

-- where nobody is there, nothing changes
pub nobody_stores : (seats : List Seat) (sent : List Message) (m : ℕ) (y : Node) → nth seats m ≡ None → world_with (nodes_of seats) sent ≡ with_node (world_with (nodes_of seats) sent) m y []
nobody_stores seats sent m y e = ap (world_with (nodes_of seats)) (sym (append-nil sent)) ∙ ap (λ xs. world_with xs (sent ++ [])) (sym (nth_none node_in seats m y e))

-- a member that is down, with a log stored, sits there
pub rests : (t : Tables) (n m : ℕ) (image : MemImage) → IsLog n (language_of t) (stored_in image) → IsSeat t n m (Down image None)
rests t n m image forms = record { up = search rules; down = search rules; recall = search rules }
