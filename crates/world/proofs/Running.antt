-- Runs, one more event at a time.
use Rattle.std.proofs.Common.{◌≡◌, ◌∙◌, ℕ, ◌+◌, ⊎_elim, Some, List, [], ◌∷◌, ◌++◌, map, take, length, slice_get, refl, sym, ap, subst, append_assoc, Result, Ok, Err, IfOk, OnErr}
use Rattle.std.proofs.lemmas.Option.{same_Some}
use Rattle.std.proofs.lemmas.List.{take-map}
use Rattle.std.specs.declared.vec.Vec.{Vec}
use Rattle.std.specs.declared.alloc.Global.{Global}
use Rattle.sqlchecks.specs.Columns.{Tables}
use Rattle.model.specs.Transactions.{Language}
use Rattle.model.specs.Worlds.{World, Event, Output, happens, run, Gives, new_world}
use Rattle.believed.specs.Worlds as later
use Rattle.believed.proofs.GivesSame.{gives_now}
use Rattle.believed.proofs.WorldsSame.{run_same}
use Rattle.world.specs.declared.event.Event.{Event as Given}
use Rattle.sqlread.specs.Meaning.{language_of}
use Rattle.world.specs.declared.group.Group.{Group}
use Rattle.world.specs.declared.output.Output.{Output as Out}
use Rattle.world.specs.Run.{AddsBeginning}
use Rattle.world.specs.View.{event_of, outputs_of, world_of, EachShowsColumns, IsGroup, IsRun, ShowsColumns}
use Rattle.world.proofs.Lists.{map_append, push_get}

run_more : (s : Language) (n : ℕ) (w : World) (es fs : List Event) → run s n w (es ++ fs) ≡ run s n (run s n w es) fs
run_more s n w [] fs = refl
run_more s n w (e ∷ es) fs = run_more s n (happens s n w e) es fs

-- ---- in the words of `believed`

runs_more : (s : Language) (n : ℕ) (w : World) (es fs : List Event) → later.run s n w (es ++ fs) ≡ later.run s n (later.run s n w es) fs
runs_more s n w [] fs = refl
runs_more s n w (e ∷ es) fs = runs_more s n (later.happens s n w e) es fs

gives_more : (s : Language) (n : ℕ) (w : World) (es : List Event) (outs : List (List Output)) (e : Event) (out : List Output) → later.GivesAll s n w es outs → later.Gives s n (later.run s n w es) e out → later.GivesAll s n w (es ++ e ∷ []) (outs ++ out ∷ [])
gives_more s n w [] outs e out all one = (out, [], ap (λ xs. xs ++ out ∷ []) all, one, refl)
gives_more s n w (f ∷ es) outs e out all one =
    (all.0, all.1 ++ out ∷ [], ap (λ xs. xs ++ out ∷ []) all.2, all.3, gives_more s n (later.happens s n w f) es all.1 e out all.4 one)

-- after the events kept, and those taken since
pub step_more : (s : Language) (n : ℕ) (w : World) (kept : List Event) (taken : List Given) (e : Given) (outs : List (List Output)) (out : List Output) →
    later.GivesAll s n (later.run s n w kept) (map event_of taken) outs →
    later.Gives s n (later.run s n w (kept ++ map event_of taken)) (event_of e) out →
    later.GivesAll s n (later.run s n w kept) (map event_of (taken ++ e ∷ [])) (outs ++ out ∷ [])
step_more s n w kept taken e outs out all one =
    let there : World → Type 0 = λ v. later.Gives s n v (event_of e) out in
    let P : List Event → Type 0 = λ es. later.GivesAll s n (later.run s n w kept) es (outs ++ out ∷ []) in
    subst P (sym (map_append event_of taken (e ∷ []))) (gives_more s n (later.run s n w kept) (map event_of taken) outs (event_of e) out all (subst there (runs_more s n w kept (map event_of taken)) one))

-- what an event gives after others
pub gives_so : {E : Type 0} (s : Language) (n : ℕ) (w : World) (early : List Event) (e : Event) (r : Result (Vec Out Global) E) →
    IfOk r (λ outs. Gives s n (run s n w early) e (outputs_of outs.items)) → IfOk r (λ outs. later.Gives s n (later.run s n w early) e (outputs_of outs.items))
gives_so {E} s n w early e (Ok outs) h = subst (λ v. later.Gives s n v e (outputs_of outs.items)) (sym (run_same s n w early)) (gives_now s n (run s n w early) e (outputs_of outs.items) h)
gives_so {E} s n w early e (Err error) h = h

-- ---- one event more

-- a copy of one more event is kept
pub kept_more : (kept after : List Given) (e copy : Given) → after ≡ kept ++ copy ∷ [] → event_of copy ≡ event_of e → map event_of after ≡ map event_of kept ++ event_of e ∷ []
kept_more kept after e copy is same = ap (map event_of) is ∙ map_append event_of kept (copy ∷ []) ∙ ap (λ x. map event_of kept ++ x ∷ []) same

-- the world after one more event
pub run_next : (s : Language) (n : ℕ) (w : World) (kept : List Event) (e : Event) → run s n w (kept ++ e ∷ []) ≡ happens s n (run s n w kept) e
run_next s n w kept e = run_more s n w kept (e ∷ [])

pub run_is : (old new : Group) (kept after : List Given) (e : Given) → IsRun old kept → IsGroup old.schema old.members new.seats.items →
    world_of new ≡ happens (language_of old.schema) old.members (world_of old) (event_of e) → new.schema ≡ old.schema → new.members ≡ old.members → map event_of after ≡ map event_of kept ++ event_of e ∷ [] → IsRun new after
run_is old new kept after e r g w schema members is = record {
  group = rw (schema, members) g;
  world = rw (schema, members, is) (w ∙ ap (λ (v : World). happens (language_of old.schema) old.members v (event_of e)) r.world ∙ sym (run_next (language_of old.schema) old.members (new_world old.members) (map event_of kept) (event_of e)));
}

-- after the outputs of one more event
pub columns_more : (t : Tables) (all : List Given) (outs after : List (Vec Out Global)) (i : ℕ) (e : Given) (out : Vec Out Global) → length outs ≡ i → after ≡ outs ++ out ∷ [] → slice_get all i ≡ Some e →
    EachShowsColumns t all outs → ShowsColumns t e out.items → EachShowsColumns t all after
columns_more t all outs after i e out count is here before new k f v at gave =
    let P : Given → Type 0 = λ g. ShowsColumns t g out.items in
    let Q : Vec Out Global → Type 0 = λ o. ShowsColumns t f o.items in
    ⊎_elim (λ (h : slice_get outs k ≡ Some v). before k f v at h)
    (λ (h : (k ≡ length outs) × (out ≡ v)). subst Q h.1 (subst P (same_Some e f (sym here ∙ ap (slice_get all) (sym (h.0 ∙ count)) ∙ at)) new))
    (push_get outs out v k (ap (λ (xs : List (Vec Out Global)). slice_get xs k) (sym is) ∙ gave))

-- the first events that were done are kept
pub begun_with : (old new : List Event) (all : List Given) (i : ℕ) → new ≡ old ++ map event_of (take i all) → AddsBeginning old new (map event_of all)
begun_with old new all i is = (i, is ∙ ap (λ es. old ++ es) (sym (take-map event_of i all)))

-- one more event is kept
pub kept_through : (old now new : List Event) (all : List Given) (i : ℕ) (e : Given) → now ≡ old ++ map event_of (take i all) → new ≡ now ++ event_of e ∷ [] → take (i + 1) all ≡ take i all ++ e ∷ [] → new ≡ old ++ map event_of (take (i + 1) all)
kept_through old now new all i e before is next =
    is ∙ ap (λ es. es ++ event_of e ∷ []) before ∙ append_assoc old (map event_of (take i all)) (event_of e ∷ []) ∙ ap (λ es. old ++ es) (sym (ap (map event_of) next ∙ map_append event_of (take i all) (e ∷ [])))

pub on_err : {A E : Type 0} (r : Result A E) {P : Type 0} → P → OnErr r P
on_err (Ok x) p = tt
on_err (Err e) p = p
