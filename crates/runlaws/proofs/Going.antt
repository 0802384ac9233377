-- A step, a stop and a start of one member, as events of a run.
use Rattle.std.proofs.Common.{◌≡◌, ◌∙◌, ℕ, zero, suc, ◌+◌, ◌-◌, ◌&&◌, ◌⊎◌, ⊎_elim, Bool, true, false, Option, Some, None, Result, List, [], ◌∷◌, ◌++◌, length, refl, sym, ap, subst, append-nil, eqb-true, cond, arith}
use Rattle.std.specs.Prelude.{◌==◌, map}
use Rattle.std.specs.List.{filter_map, range_with_len, Contains}
use Rattle.std.specs.Option.{option_map_or}
use Rattle.std.proofs.lemmas.List.Elements.{Contains-append_right}
use Rattle.fault.specs.declared.refusal.Refusal.{Refusal}
use Rattle.fault.specs.declared.refusal.Refusal.TheVariants.{NodeDown}
use Rattle.model.specs.Lists.{nth, with_nth}
use Rattle.model.specs.Logs.{told_at}
use Rattle.model.specs.Transactions.{Language}
use Rattle.model.specs.declared.entry.Told.{Told}
use Rattle.model.specs.declared.message.Message.{Message}
use Rattle.model.specs.declared.event.Job.{Job}
use Rattle.model.specs.declared.event.Job.TheVariants.{Local, Delivery}
use Rattle.model.specs.declared.event.Left.{Left}
use Rattle.model.specs.Members.{Node}
use Rattle.model.specs.Steps.{Effect, Moves, Refuses, Nothing}
use Rattle.model.specs.Worlds.{World, Event, Stop, Start, Torn, Output, effect, with_node, stopped, started, done, node_left, does, is_for, happens, run, stops, starts, tears, delivers, numbered, tells, effect_gives, step_gives, delivery_gives, Gives, GivesAll}
use Rattle.model.specs.Worlds.Output.{Applied, Refused}
use Rattle.safety.proofs.Given.{nth_same}
use Rattle.safety.proofs.Lists.{none_some}
use Rattle.safety.proofs.Runs.{run_append}
use Rattle.onelist.proofs.Explained.{gives_append}
use Rattle.sessions.specs.Kills.{whole, Steps}
use Rattle.sessions.proofs.Lists.{with_same, further, in_front, contains_map}
use Rattle.runlaws.specs.Going.{Goes, HasGiven, WasTold, after_stop}

-- ---- events one after another

module _ (language : Language) (n : ℕ) where
  pub goes_nowhere : (w : World) → Goes language n w w
  goes_nowhere w = record { events = []; gave = []; leads = refl; gives = refl }

  pub nowhere_events : (w : World) → (goes_nowhere w).events ≡ []
  unfolding goes_nowhere
  nowhere_events w = refl

  pub nowhere_gave : (w : World) → (goes_nowhere w).gave ≡ []
  unfolding goes_nowhere
  nowhere_gave w = refl

  pub goes_further : (w v u : World) → Goes language n w v → Goes language n v u → Goes language n w u
  goes_further w v u a b = record {
    events = a.events ++ b.events;
    gave = a.gave ++ b.gave;
    leads = b.leads ∙ ap (λ z. run language n z b.events) a.leads ∙ sym (run_append language n a.events b.events w);
    gives = gives_append language n a.events b.events w a.gave b.gave a.gives (subst (λ z. GivesAll language n z b.events b.gave) a.leads b.gives);
  }

  pub further_events : (w v u : World) (a : Goes language n w v) (b : Goes language n v u) → (goes_further w v u a b).events ≡ a.events ++ b.events
  unfolding goes_further
  further_events w v u a b = refl

  pub goes_by : (w v : World) (event : Event) (out : List Output) → v ≡ happens language n w event → Gives language n w event out → Goes language n w v
  goes_by w v event out is gives = record { events = event ∷ []; gave = out ∷ []; leads = is; gives = (out, [], refl, gives, refl) }

  -- a world is known by its parts
  pub goes_to : (w v u : World) → v ≡ u → Goes language n w v → Goes language n w u
  goes_to w v u is g = record { events = g.events; gave = g.gave; leads = sym is ∙ g.leads; gives = g.gives }

  pub to_events : (w v u : World) (is : v ≡ u) (g : Goes language n w v) → (goes_to w v u is g).events ≡ g.events
  unfolding goes_to
  to_events w v u is g = refl

-- one event leads there, which gives nothing
pub record By (language : Language) (n : ℕ) (w v : World) (event : Event) : Type 0 where
  pub goes : Goes language n w v
  pub events_are : goes.events ≡ event ∷ []
  pub gave_is : goes.gave ≡ [] ∷ []

-- what was given before, and what was given then
pub given_before : (gave more : List (List Output)) (output : Output) → HasGiven gave output → HasGiven (gave ++ more) output
given_before gave more output (zero, h) = absurd (none_some (nth gave 0) h.0 refl h.1)
given_before gave more output (suc k, h) = (suc k, (h.0, in_front gave more k h.0 h.1, h.2))

pub given_then : (gave more : List (List Output)) (output : Output) → HasGiven more output → HasGiven (gave ++ more) output
given_then gave more output (zero, h) = absurd (none_some (nth more 0) h.0 refl h.1)
given_then gave more output (suc k, h) = (suc (length gave + k), (h.0, further gave more k ∙ h.1, h.2))

pub given_now : (out : List Output) (output : Output) → Contains out output → HasGiven (out ∷ []) output
given_now out output has = (1, (out, refl, has))

pub told_before : (gave more : List (List Output)) (client number : ℕ) (outcome : Result ℕ Refusal) → WasTold gave client number outcome → WasTold (gave ++ more) client number outcome
told_before gave more client number outcome t = record { member = t.member; told = t.told; client_is = t.client_is; number_is = t.number_is; outcome_is = t.outcome_is; given = given_before gave more (Applied t.member t.told) t.given }

pub told_then : (gave more : List (List Output)) (client number : ℕ) (outcome : Result ℕ Refusal) → WasTold more client number outcome → WasTold (gave ++ more) client number outcome
told_then gave more client number outcome t = record { member = t.member; told = t.told; client_is = t.client_is; number_is = t.number_is; outcome_is = t.outcome_is; given = given_then gave more (Applied t.member t.told) t.given }

-- ---- a member that stays as it is

pub same_world : (w : World) (m : ℕ) (x y : Node) → nth w.nodes m ≡ Some x → y ≡ x → with_node w m y [] ≡ w
same_world w m x y at same =
    ap (λ z. with_node w m z []) same
    ∙ ap (λ nodes. let v : World = record { nodes = nodes; sent = w.sent ++ [] } in v) (with_same w.nodes m x at)
    ∙ ap (λ sent. let v : World = record { nodes = w.nodes; sent = sent } in v) (append-nil w.sent)

-- ---- a step

module _ (language : Language) (n : ℕ) (w : World) (m : ℕ) (job : Job) (S : Steps w m job) where
  abbrev comes : Effect
  comes = effect language n w m job S.node

  does_so : does language n w m job (nth w.nodes m) ≡ done w m comes
  does_so = ap (does language n w m job) S.at ∙ ap (λ b. cond b (done w m comes) w) S.up

  gives_so : step_gives language n w m job (nth w.nodes m) ≡ effect_gives language w m S.node comes
  gives_so = ap (step_gives language n w m job) S.at ∙ ap (λ b. cond b (effect_gives language w m S.node comes) (Refused m NodeDown ∷ [])) S.up

  torn_so : (left : Left) → tears language n w m job left (nth w.nodes m) ≡ with_node w m (stopped (node_left left S.node comes)) []
  torn_so left = ap (tears language n w m job left) S.at ∙ ap (λ b. cond (b && is_for w m job) (with_node w m (stopped (node_left left S.node comes)) []) w) S.up ∙
      ap (λ b. cond b (with_node w m (stopped (node_left left S.node comes)) []) w) S.for

-- the whole step is what its effect does and gives
brings : (language : Language) (n : ℕ) (w : World) (m : ℕ) (job : Job) → is_for w m job ≡ true → happens language n w (whole m job) ≡ does language n w m job (nth w.nodes m)
brings language n w m (Local input) f = refl
brings language n w m (Delivery k reading) f = go (nth w.sent k) f
  where
    go : (o : Option Message) → option_map_or (λ (p : Message). p.addressee == m) o false ≡ true → delivers language n w (Delivery k reading) o ≡ does language n w m (Delivery k reading) (nth w.nodes m)
    go None g = absurd (cc)
    go (Some p) g = ap (λ i. does language n w i (Delivery k reading) (nth w.nodes i)) (eqb-true p.addressee m g)

brought : (language : Language) (n : ℕ) (w : World) (m : ℕ) (job : Job) (out : List Output) → is_for w m job ≡ true → out ≡ step_gives language n w m job (nth w.nodes m) → Gives language n w (whole m job) out
brought language n w m (Local input) out f is = is
brought language n w m (Delivery k reading) out f is = is ∙ sym (go (nth w.sent k) f)
  where
    go : (o : Option Message) → option_map_or (λ (p : Message). p.addressee == m) o false ≡ true → delivery_gives language n w (Delivery k reading) o ≡ step_gives language n w m (Delivery k reading) (nth w.nodes m)
    go None g = absurd (cc)
    go (Some p) g = ap (λ i. step_gives language n w i (Delivery k reading) (nth w.nodes i)) (eqb-true p.addressee m g)

-- what a member tells of what became applied in a step
abbrev pub told_of : Language → Node → Node → List Told
told_of language x y = filter_map (told_at language y.log) (range_with_len (x.commit + 1) (y.commit - x.commit))

module _ (language : Language) (n : ℕ) (w : World) (m : ℕ) (job : Job) (S : Steps w m job) where
  by_effect : (o : Effect) → o ≡ effect language n w m job S.node → Goes language n w (done w m o)
  by_effect o is = goes_by language n w (done w m o) (whole m job) (effect_gives language w m S.node o)
      (ap (done w m) is ∙ sym (does_so language n w m job S) ∙ sym (brings language n w m job S.for))
      (brought language n w m job (effect_gives language w m S.node o) S.for (ap (effect_gives language w m S.node) is ∙ sym (gives_so language n w m job S)))

  -- a step that was made: these were told
  pub record Made (y : Node) (sent : List Message) (told : List Told) : Type 0 where
    pub goes : Goes language n w (with_node w m y sent)
    pub events_are : goes.events ≡ whole m job ∷ []
    pub gave_is : goes.gave ≡ (numbered (length w.sent) sent ++ map (Applied m) told) ∷ []
    pub tells : (one : Told) → Contains told one → HasGiven goes.gave (Applied m one)

  -- it moved
  moved : (y : Node) (sent : List Message) (told : List Told) → Moves (record { node = y; sent = sent }) ≡ effect language n w m job S.node → told ≡ told_of language S.node y → Made y sent told
  unfolding by_effect goes_by
  moved y sent told is all = record {
    goes = by_effect (Moves (record { node = y; sent = sent })) is;
    events_are = refl;
    gave_is = ap (λ (t : List Told). (numbered (length w.sent) sent ++ map (Applied m) t) ∷ []) (sym all);
    tells = λ one has. given_now (numbered (length w.sent) sent ++ tells language m S.node y) (Applied m one)
        (Contains-append_right (numbered (length w.sent) sent) (tells language m S.node y) (Applied m one) (contains_map (Applied m) (told_of language S.node y) one (subst (λ t. Contains t one) all has)));
  }

  -- nothing came of it
  pub none_made : (y : Node) (sent : List Message) (told : List Told) → Nothing ≡ effect language n w m job S.node → y ≡ S.node → sent ≡ [] → told ≡ [] → Made y sent told
  unfolding goes_to by_effect goes_by
  none_made y sent told is same none nobody_told = record {
    goes = goes_to language n w w (with_node w m y sent) (sym (ap (with_node w m y) none ∙ same_world w m S.node y S.at same)) (by_effect Nothing is);
    events_are = refl;
    gave_is = sym (ap (λ (s : List Message). (numbered (length w.sent) s ++ map (Applied m) told) ∷ []) none ∙ ap (λ (t : List Told). map (Applied m) t ∷ []) nobody_told);
    tells = λ one has. absurd (nobody one (subst (λ t. Contains t one) nobody_told has));
  }
    where
      nobody : (one : Told) → Contains [] one → ⊥
      nobody one (k, l, p) = omega (arith, l)

  pub made : (y : Node) (sent : List Message) (told : List Told) → (Moves (record { node = y; sent = sent }) ≡ effect language n w m job S.node) ⊎ ((Nothing ≡ effect language n w m job S.node) × (y ≡ S.node) × (sent ≡ []) × (told ≡ [])) →
      told ≡ told_of language S.node y → Made y sent told
  made y sent told came all = ⊎_elim (λ is. moved y sent told is all) (λ none. none_made y sent told none.0 none.1 none.2 none.3) came

  -- a step that was refused
  pub record Denied (y : Node) (refusal : Refusal) : Type 0 where
    pub goes : Goes language n w (with_node w m y [])
    pub events_are : goes.events ≡ whole m job ∷ []
    pub gave_is : goes.gave ≡ (Refused m refusal ∷ []) ∷ []
    pub says : HasGiven goes.gave (Refused m refusal)

  pub refused : (y : Node) (refusal : Refusal) → Refuses refusal ≡ effect language n w m job S.node → y ≡ S.node → Denied y refusal
  unfolding goes_to by_effect goes_by
  refused y refusal is same = record {
    goes = goes_to language n w w (with_node w m y []) (sym (same_world w m S.node y S.at same)) (by_effect (Refuses refusal) is);
    events_are = refl;
    gave_is = refl;
    says = given_now (Refused m refusal ∷ []) (Refused m refusal) (0, omega arith, refl);
  }

  -- a step that was cut short
  pub torn : (y : Node) (left : Left) → y ≡ stopped (node_left left S.node (effect language n w m job S.node)) → Goes language n w (with_node w m y [])
  torn y left is = goes_by language n w (with_node w m y []) (Torn m job left) [] (ap (λ z. with_node w m z []) is ∙ sym (torn_so language n w m job S left)) refl

  pub torn_events : (y : Node) (left : Left) (is : y ≡ stopped (node_left left S.node (effect language n w m job S.node))) → (torn y left is).events ≡ Torn m job left ∷ []
  unfolding torn goes_by
  torn_events y left is = refl

  pub torn_gave : (y : Node) (left : Left) (is : y ≡ stopped (node_left left S.node (effect language n w m job S.node))) → (torn y left is).gave ≡ [] ∷ []
  unfolding torn goes_by
  torn_gave y left is = refl

-- ---- a stop, a start, and a member that is down

-- a member that is down refuses what it is handed, and stays as it is
pub record Turned (language : Language) (n : ℕ) (w : World) (m : ℕ) (job : Job) (y : Node) : Type 0 where
  pub goes : Goes language n w (with_node w m y [])
  pub events_are : goes.events ≡ whole m job ∷ []
  pub gave_is : goes.gave ≡ (Refused m NodeDown ∷ []) ∷ []
  pub says : HasGiven goes.gave (Refused m NodeDown)

module _ (language : Language) (n : ℕ) (w : World) (m : ℕ) (job : Job) (x : Node) (at : nth w.nodes m ≡ Some x) (down : x.up ≡ false) (for : is_for w m job ≡ true) where
  turned_so : does language n w m job (nth w.nodes m) ≡ w
  turned_so = ap (does language n w m job) at ∙ ap (λ b. cond b (done w m (effect language n w m job x)) w) down

  turned_gives : step_gives language n w m job (nth w.nodes m) ≡ Refused m NodeDown ∷ []
  turned_gives = ap (step_gives language n w m job) at ∙ ap (λ b. cond b (effect_gives language w m x (effect language n w m job x)) (Refused m NodeDown ∷ [])) down

  pub turned : (y : Node) → y ≡ x → Turned language n w m job y
  unfolding goes_to goes_by
  turned y same = record {
    goes = goes_to language n w w (with_node w m y []) (sym (same_world w m x y at same))
        (goes_by language n w w (whole m job) (Refused m NodeDown ∷ []) (sym turned_so ∙ sym (brings language n w m job for)) (brought language n w m job (Refused m NodeDown ∷ []) for (sym turned_gives)));
    events_are = refl;
    gave_is = refl;
    says = given_now (Refused m NodeDown ∷ []) (Refused m NodeDown) (0, omega arith, refl);
  }

-- a stop and a start, whoever is there
module _ (language : Language) (n : ℕ) (w : World) (m : ℕ) where
  pub stop_goes : By language n w (stops w m (nth w.nodes m)) (Stop m)
  unfolding goes_by
  stop_goes = record { goes = goes_by language n w (stops w m (nth w.nodes m)) (Stop m) [] refl refl; events_are = refl; gave_is = refl }

  pub start_goes : By language n w (starts w m (nth w.nodes m)) (Start m)
  unfolding goes_by
  start_goes = record { goes = goes_by language n w (starts w m (nth w.nodes m)) (Start m) [] refl refl; events_are = refl; gave_is = refl }

-- what they do to a member
module _ (w : World) (m : ℕ) (x : Node) (at : nth w.nodes m ≡ Some x) where
  stop_so : (up : Bool) → cond up (with_node w m (stopped x) []) w ≡ with_node w m (cond up (stopped x) x) []
  stop_so true = refl
  stop_so false = sym (same_world w m x x at refl)

  pub stops_at : stops w m (nth w.nodes m) ≡ with_node w m (after_stop x) []
  stops_at = ap (stops w m) at ∙ stop_so x.up

  pub stop_of_down : x.up ≡ false → stops w m (nth w.nodes m) ≡ w
  stop_of_down down = ap (stops w m) at ∙ ap (λ b. cond b (with_node w m (stopped x) []) w) down

  pub starts_at : x.up ≡ false → starts w m (nth w.nodes m) ≡ with_node w m (started x) []
  starts_at down = ap (starts w m) at ∙ ap (λ b. cond b w (with_node w m (started x) [])) down

-- a stop of one that came down changes nothing
pub stop_after : (w : World) (m : ℕ) (x y : Node) → nth w.nodes m ≡ Some x → y.up ≡ false → stops (with_node w m y []) m (nth (with_nth w.nodes m y) m) ≡ with_node w m y []
stop_after w m x y at down = stop_of_down (with_node w m y []) m y (nth_same w.nodes m x y at) down

-- nor does one that was made before
pub stops_twice : (w : World) (m : ℕ) → stops (stops w m (nth w.nodes m)) m (nth (stops w m (nth w.nodes m)).nodes m) ≡ stops w m (nth w.nodes m)
stops_twice w m = go (nth w.nodes m) refl
  where
    up_or : (x : Node) → nth w.nodes m ≡ Some x → (up : Bool) → x.up ≡ up → stops (cond up (with_node w m (stopped x) []) w) m (nth (cond up (with_node w m (stopped x) []) w).nodes m) ≡ cond up (with_node w m (stopped x) []) w
    up_or x at true is = stop_after w m x (stopped x) at refl
    up_or x at false is = stop_of_down w m x at is

    go : (o : Option Node) → nth w.nodes m ≡ o → stops (stops w m o) m (nth (stops w m o).nodes m) ≡ stops w m o
    go None e = ap (stops w m) e
    go (Some x) e = up_or x e x.up refl

-- ---- a run that went on goes on, where language and number are said in other words

pub record Both (language : Language) (n : ℕ) (w u : World) (events later : List Event) (gave more : List (List Output)) : Type 0 where
  pub goes : Goes language n w u
  pub events_are : goes.events ≡ events ++ later
  pub gave_is : goes.gave ≡ gave ++ more

pub goes_both : (language other : Language) (n k : ℕ) (w v u : World) → other ≡ language → k ≡ n → (a : Goes language n w v) (b : Goes other k v u) → Both language n w u a.events b.events a.gave b.gave
goes_both language other n k w v u p q a b =
    let more : GivesAll language n v b.events b.gave = subst (λ j. GivesAll language j v b.events b.gave) q (subst (λ l. GivesAll l k v b.events b.gave) p b.gives) in
    let there : u ≡ run language n v b.events = b.leads ∙ ap (λ l. run l k v b.events) p ∙ ap (λ j. run language j v b.events) q in
    record {
      goes = record {
        events = a.events ++ b.events;
        gave = a.gave ++ b.gave;
        leads = there ∙ ap (λ z. run language n z b.events) a.leads ∙ sym (run_append language n a.events b.events w);
        gives = gives_append language n a.events b.events w a.gave b.gave a.gives (subst (λ z. GivesAll language n z b.events b.gave) a.leads more);
      };
      events_are = refl;
      gave_is = refl;
    }

-- the same run, where language and number are said in other words
pub record Named (language : Language) (n : ℕ) (w u : World) (events : List Event) (gave : List (List Output)) : Type 0 where
  pub goes : Goes language n w u
  pub events_are : goes.events ≡ events
  pub gave_is : goes.gave ≡ gave

pub goes_named : (language other : Language) (n k : ℕ) (w u : World) → other ≡ language → k ≡ n → (g : Goes other k w u) → Named language n w u g.events g.gave
goes_named language other n k w u p q g = record {
  goes = record {
    events = g.events;
    gave = g.gave;
    leads = g.leads ∙ ap (λ l. run l k w g.events) p ∙ ap (λ j. run language j w g.events) q;
    gives = subst (λ j. GivesAll language j w g.events g.gave) q (subst (λ l. GivesAll l k w g.events g.gave) p g.gives);
  };
  events_are = refl;
  gave_is = refl;
}
