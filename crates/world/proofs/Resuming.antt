-- Members that go on from what they had stored, one more deed at a time.
use Rattle.std.proofs.Common.{◌≡◌, ◌∙◌, ℕ, List, [], ◌∷◌, ◌++◌, map, refl, sym, ap, subst}
use Rattle.believed.specs.Worlds as later
use Rattle.believed.proofs.GivesSame.{gives_now}
use Rattle.believed.proofs.WorldsSame.{happens_same}
use Rattle.model.specs.Transactions.{Language}
use Rattle.model.specs.Worlds.{World, Event, Gives, Output, happens, new_world}
use Rattle.sqlread.specs.Meaning.{language_of}
use Rattle.world.specs.Deeds.{after_deed, after_deeds, deed_of, Deed, Happened, IsResumed}
use Rattle.world.specs.View.{world_of, IsGroup}
use Rattle.world.specs.declared.group.Group.{Group}
use Rattle.world.specs.declared.resumed.Deed.{Deed as Done}
use Rattle.world.proofs.Lists.{map_append}

-- the world after one deed more
after_more : (language : Language) (n : ℕ) (w : World) (deeds : List Deed) (d : Deed) → after_deeds language n w (deeds ++ d ∷ []) ≡ after_deed language n (after_deeds language n w deeds) d
after_more language n w [] d = refl
after_more language n w (one ∷ deeds) d = after_more language n (after_deed language n w one) deeds d

-- one deed more is kept
pub deeds_more : (old new : List Done) (d : Done) → new ≡ old ++ d ∷ [] → map deed_of new ≡ map deed_of old ++ deed_of d ∷ []
deeds_more old new d is = ap (map deed_of) is ∙ map_append deed_of old (d ∷ [])

-- a group goes on by one deed
pub goes_on : (old new : Group) (kept after : List Done) (d : Done) → IsResumed old kept → IsGroup old.schema old.members new.seats.items
    → world_of new ≡ after_deed (language_of old.schema) old.members (world_of old) (deed_of d) → new.schema ≡ old.schema → new.members ≡ old.members
    → map deed_of after ≡ map deed_of kept ++ deed_of d ∷ [] → IsResumed new after
goes_on old new kept after d r g w schema members is = record {
  group = rw (schema, members) g;
  world = rw (schema, members, is)
      (w ∙ ap (λ (v : World). after_deed (language_of old.schema) old.members v (deed_of d)) r.world
      ∙ sym (after_more (language_of old.schema) old.members (new_world old.members) (map deed_of kept) (deed_of d)));
}

-- an event happens
pub happened_now : (language : Language) (n : ℕ) (v w : World) (e : Event) → v ≡ happens language n w e → v ≡ after_deed language n w (Happened e)
happened_now language n v w e is = is ∙ sym (happens_same language n w e)

-- what an event gives there
pub gives_there : (language : Language) (n : ℕ) (v w : World) (e : Event) (outs : List Output) → v ≡ w → Gives language n v e outs → later.Gives language n w e outs
gives_there language n v w e outs is h = subst (λ z. later.Gives language n z e outs) is (gives_now language n v e outs h)
