-- Events after which the members have stored what they had stored before.
use Rattle.std.proofs.Common.{◌≡◌, ◌∙◌, ⊎_elim, ℕ, zero, suc, Bool, true, false, Option, Some, None, List, [], ◌∷◌, ◌++◌, slice_get, refl, sym, ap, if◌then◌else◌}
use Rattle.std.specs.Prelude.{All}
use Rattle.std.specs.Option.{option_map_or}
use Rattle.std.proofs.lemmas.List.Elements.{All-head, All-tail, All-nil, All-cons}
use Rattle.model.specs.Lists.{nth}
use Rattle.model.specs.Members.{Node}
use Rattle.model.specs.Transactions.{Language}
use Rattle.model.specs.declared.message.Message.{Message}
use Rattle.model.specs.Worlds.{World, Event, Start, Stop, happens, run, started, stopped, with_node}
use Rattle.journal.specs.Digests.{summary_of}
use Rattle.journal.specs.declared.stored.Summary.{Summary}
use Rattle.node.specs.View.{durable_of}
use Rattle.sessions.specs.Kills.{durable}
use Rattle.sessions.proofs.Lists.{get_map, of_map, with_as_good}
use Rattle.store.specs.Nodes.{rested}
use Rattle.store.specs.Recording.{HasInShort, IsStartOrStop}

-- a member that becomes another one with the same stored
pub same_stored : (w : World) (m : ℕ) (x y : Node) (sent : List Message) → nth w.nodes m ≡ Some x → durable_of y ≡ durable_of x → durable (with_node w m y sent) ≡ durable w
same_stored w m x y sent at is = with_as_good stopped w.nodes m x y at (ap rested is)

-- in worlds whose members have stored the same each has the same stored
pub short_same : (w v : World) (m : ℕ) (stored : Summary) → durable v ≡ durable w → HasInShort w m stored → HasInShort v m stored
short_same w v zero stored same (x, at, is) = absurd (cc at)
short_same w v (suc i) stored same (x, at, is) =
    let there : slice_get (durable v) i ≡ Some (stopped x) = ap (λ (xs : List Node). slice_get xs i) same ∙ get_map stopped w.nodes i x at in
    let y = of_map stopped v.nodes i (stopped x) there in
    (y.0, y.1, is ∙ ap (λ (z : Node). summary_of (durable_of z)) (sym y.2))

pub idle_left : (one two : List Event) → All IsStartOrStop (one ++ two) → All IsStartOrStop one
idle_left [] two all = All-nil IsStartOrStop
idle_left (e ∷ one) two all = All-cons IsStartOrStop e one (All-head IsStartOrStop e (one ++ two) all) (idle_left one two (All-tail IsStartOrStop e (one ++ two) all))

module _ (language : Language) (n : ℕ) where
  start_stores : (w : World) (m : ℕ) → durable (happens language n w (Start m)) ≡ durable w
  start_stores w m = go (nth w.nodes m) refl
    where
      at : (x : Node) → nth w.nodes m ≡ Some x → (up : Bool) → durable (if up then w else with_node w m (started x) []) ≡ durable w
      at x there true = refl
      at x there false = with_as_good stopped w.nodes m x (started x) there refl

      go : (o : Option Node) → nth w.nodes m ≡ o → durable (option_map_or (λ x. if x.up then w else with_node w m (started x) []) o w) ≡ durable w
      go None there = refl
      go (Some x) there = at x there x.up

  stop_stores : (w : World) (m : ℕ) → durable (happens language n w (Stop m)) ≡ durable w
  stop_stores w m = go (nth w.nodes m) refl
    where
      at : (x : Node) → nth w.nodes m ≡ Some x → (up : Bool) → durable (if up then with_node w m (stopped x) [] else w) ≡ durable w
      at x there true = with_as_good stopped w.nodes m x (stopped x) there refl
      at x there false = refl

      go : (o : Option Node) → nth w.nodes m ≡ o → durable (option_map_or (λ x. if x.up then with_node w m (stopped x) [] else w) o w) ≡ durable w
      go None there = refl
      go (Some x) there = at x there x.up

  pub idle_stores : (event : Event) → IsStartOrStop event → (w : World) → durable (happens language n w event) ≡ durable w
  idle_stores event (m, is) w = ⊎_elim
      (λ (start : event ≡ Start m). ap (λ (e : Event). durable (happens language n w e)) start ∙ start_stores w m)
      (λ (stop : event ≡ Stop m). ap (λ (e : Event). durable (happens language n w e)) stop ∙ stop_stores w m) is

  pub idle_run : (events : List Event) → All IsStartOrStop events → (w : World) → durable (run language n w events) ≡ durable w
  idle_run [] all w = refl
  idle_run (e ∷ es) all w = idle_run es (All-tail IsStartOrStop e es all) (happens language n w e) ∙ idle_stores e (All-head IsStartOrStop e es all) w
