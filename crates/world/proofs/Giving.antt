-- What a world gave, one event more at a time.
use Rattle.std.proofs.Common.{◌≡◌, ◌∙◌, ℕ, List, [], ◌∷◌, ◌++◌, map, refl, sym, ap, subst, append_assoc, Result, Ok, Err, IfOk}
use Rattle.std.proofs.Math.Logic.{∥∥₁_elim}
use Rattle.std.proofs.Props.{props}
use Rattle.std.proofs.lemmas.Grind.{merely}
use Rattle.std.specs.declared.vec.Vec.{Vec}
use Rattle.std.specs.declared.alloc.Global.{Global}
use Rattle.model.specs.Transactions.{Language}
use Rattle.model.specs.Worlds.{World, Event, Output, happens, run, Gives, GivesAll, new_world}
use Rattle.believed.specs.Explained.{Explanation, IsExplainedSo}
use Rattle.sqlchecks.specs.Columns.{Tables}
use Rattle.sqlread.specs.Meaning.{language_of}
use Rattle.world.specs.declared.event.Event.{Event as Given}
use Rattle.world.specs.declared.group.Group.{Group}
use Rattle.world.specs.declared.output.Output.{Output as Out}
use Rattle.world.specs.declared.history.World.{World as Whole}
use Rattle.world.specs.Given.{given_prop, HasGiven}
use Rattle.world.specs.Run.{language_in, members_in, events_of, given_of, now_of}
use Rattle.world.specs.View.{event_of, outputs_of}
use Rattle.world.proofs.Lists.{map_append}

-- these events gave this, of so many members from when nothing had happened on
abbrev pub Gave : Tables → ℕ → List Event → List (List Output) → Type 0
Gave schema members events given = GivesAll (language_of schema) members (new_world members) events given

-- what is given is one list
pub given_is : (schema : Tables) (members : ℕ) (events : List Given) (x : HasGiven schema members events) (given : List (List Output)) → ∥ Gave schema members (map event_of events) given ∥₁ → x.0 ≡ given
given_is schema members events x given p =
    ap (λ (z : HasGiven schema members events). z.0) (given_prop schema members events x (given, p))

-- no events give nothing
pub given_none : (schema : Tables) (members : ℕ) (events : List Given) (x : HasGiven schema members events) → events ≡ [] → x.0 ≡ []
given_none schema members events x none =
    given_is schema members events x [] (merely (subst (λ es. Gave schema members (map event_of es) []) (sym none) refl))

-- a world that keeps its events keeps what they gave
pub given_same : (one other : Group) (kept after : List Given) (x : HasGiven one.schema one.members kept) (y : HasGiven other.schema other.members after) →
    other.schema ≡ one.schema → other.members ≡ one.members → after ≡ kept → y.0 ≡ x.0
given_same one other kept after x y schema members same =
    given_is other.schema other.members after y x.0 (rw (schema, members, same) x.1)

pub given_still : (one other : Group) (kept after : List Given) → HasGiven one.schema one.members kept → other.schema ≡ one.schema → other.members ≡ one.members → after ≡ kept → HasGiven other.schema other.members after
given_still one other kept after x schema members same = rw (schema, members, same) x

-- one event more gives one list of outputs more
gives_more : (s : Language) (n : ℕ) (w : World) (es : List Event) (outs : List (List Output)) (e : Event) (out : List Output) → GivesAll s n w es outs → Gives s n (run s n w es) e out → GivesAll s n w (es ++ e ∷ []) (outs ++ out ∷ [])
gives_more s n w [] outs e out all one = (out, [], ap (λ xs. xs ++ out ∷ []) all, one, refl)
gives_more s n w (f ∷ es) outs e out all one =
    (all.0, all.1 ++ out ∷ [], ap (λ xs. xs ++ out ∷ []) all.2, all.3, gives_more s n (happens s n w f) es all.1 e out all.4 one)

pub gave_more : (schema : Tables) (members : ℕ) (kept : List Event) (given : List (List Output)) (e : Event) (out : List Output) →
    Gives (language_of schema) members (run (language_of schema) members (new_world members) kept) e out → Gave schema members kept given → Gave schema members (kept ++ e ∷ []) (given ++ out ∷ [])
gave_more schema members kept given e out one all = gives_more (language_of schema) members (new_world members) kept given e out all one

pub given_next : (old new : Group) (kept after : List Given) (e : Given) (out : List Output) (x : HasGiven old.schema old.members kept) → new.schema ≡ old.schema → new.members ≡ old.members →
    map event_of after ≡ map event_of kept ++ event_of e ∷ [] → Gives (language_of old.schema) old.members (run (language_of old.schema) old.members (new_world old.members) (map event_of kept)) (event_of e) out →
    ∥ Gave new.schema new.members (map event_of after) (x.0 ++ out ∷ []) ∥₁
given_next old new kept after e out x schema members is one =
    rw (schema, members, is) (∥∥₁_elim x.1 (hlevel props) (λ (p : Gave old.schema old.members (map event_of kept) x.0). merely (gave_more old.schema old.members (map event_of kept) x.0 (event_of e) out one p)))

-- what a world gave is explained
pub given_explained : ((language : Language) (n : ℕ) (events : List Event) (outs : List (List Output)) → GivesAll language n (new_world n) events outs → Explanation language n events outs) →
    (schema : Tables) (members : ℕ) (events : List Given) (x : HasGiven schema members events) (given : List (List Output)) → x.0 ≡ given → IsExplainedSo (language_of schema) members (map event_of events) given
given_explained promise schema members events x given is =
    subst (λ z. IsExplainedSo (language_of schema) members (map event_of events) z) is
    (∥∥₁_elim x.1 (hlevel props) (λ (p : Gave schema members (map event_of events) x.0). merely (promise (language_of schema) members (map event_of events) x.0 p)))

-- and so is what it gave before, and what comes of a call
pub given_after : {A E : Type 0} (r : Result A E) (given : A → List (List Output)) (new : List (List Output)) (P : List (List Output) → Type 0) → ((all : List (List Output)) → new ≡ all → P all) → IfOk r (λ outs. new ≡ given outs) → IfOk r (λ outs. P (given outs))
given_after (Ok x) given new P all is = all (given x) is
given_after (Err e) given new P all is = is

-- the outputs of one event more
pub given_through : (first now new : List (List Output)) (outs after : List (Vec Out Global)) (out : Vec Out Global) → now ≡ first ++ map (λ o. outputs_of o.items) outs → new ≡ now ++ outputs_of out.items ∷ [] → after ≡ outs ++ out ∷ [] →
    new ≡ first ++ map (λ o. outputs_of o.items) after
given_through first now new outs after out before is pushed =
    is ∙ ap (λ z. z ++ outputs_of out.items ∷ []) before ∙ append_assoc first (map (λ o. outputs_of o.items) outs) (outputs_of out.items ∷ [])
    ∙ ap (λ z. first ++ z) (sym (ap (map (λ o. outputs_of o.items)) pushed ∙ map_append (λ o. outputs_of o.items) outs (out ∷ [])))

-- ---- worlds

pub silent_world : (w : Whole) → w.kept.items ≡ [] → given_of w ≡ []
unfolding given_of
silent_world w none = given_none w.group.schema w.group.members w.kept.items w.given none

pub same_given : (old new : Whole) → new.group.schema ≡ old.group.schema → new.group.members ≡ old.group.members → new.kept.items ≡ old.kept.items → given_of new ≡ given_of old
unfolding given_of
same_given old new schema members kept = given_same old.group new.group old.kept.items new.kept.items old.given new.given schema members kept

pub more_given : (old new : Whole) (e : Given) (out : List Output) → new.group.schema ≡ old.group.schema → new.group.members ≡ old.group.members → events_of new ≡ events_of old ++ event_of e ∷ [] →
    Gives (language_in old) (members_in old) (now_of old) (event_of e) out → given_of new ≡ given_of old ++ out ∷ []
unfolding given_of
more_given old new e out schema members is gave =
    given_is new.group.schema new.group.members new.kept.items new.given (old.given.0 ++ out ∷ []) (given_next old.group new.group old.kept.items new.kept.items e out old.given schema members is gave)

pub world_explained : ((language : Language) (n : ℕ) (events : List Event) (outs : List (List Output)) → GivesAll language n (new_world n) events outs → Explanation language n events outs) →
    (w : Whole) (given : List (List Output)) → given_of w ≡ given → IsExplainedSo (language_in w) (members_in w) (events_of w) given
unfolding given_of
world_explained promise w given is = given_explained promise w.group.schema w.group.members w.kept.items w.given given is
