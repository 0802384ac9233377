use Rattle.std.proofs.Common.{rules, ◌≡◌, ◌∙◌, ◌+◌, ◌<◌, ◌++◌, ◌∷◌, [], ℕ, map, length, take, subst, sym, ap, refl, List, Some, slice_get, length-append}
use Rattle.std.proofs.lemmas.List.{take_more}
use Rattle.std.proofs.lemmas.Option.{slice_get_read}
use Rattle.model.specs.Worlds.{new_world, Event, Output}
use Rattle.believed.specs.Worlds.{run, Gives, GivesAll}
use Rattle.sqlchecks.specs.Columns.{Tables}
use Rattle.sqlread.specs.Meaning.{language_of}
use Rattle.world.specs.declared.event.Event.{Event as Given}
use Rattle.world.specs.Run.{language_in, members_in, events_of, given_of, world_in}
use Rattle.world.specs.View.{event_of, outputs_of, ShowsColumns}
use Rattle.world.proofs.Lists.{map_append}
use Rattle.world.proofs.Giving.{given_through}
use Rattle.world.proofs.Running.{begun_with, columns_more, kept_through, on_err, step_more}
use Rattle.world.proofs.history.World.run_all.Goals as goal

pub loop-event-preserved : goal.loop-event-preserved
loop-event-preserved c =
    let i = c.loop-event.event-index in
    let all = c.args.events.now in
    let e = c.event-item.result in
    let old = c.args.self.now in
    let inv = c.loop-event.invariant in
    let out = outputs_of c.in_ok-step.field-0.items in
    let within : i < length all = search rules in
    let next : take (i + 1) all ≡ take i all ++ e ∷ [] = take_more all i e within ∙ ap (λ x. take i all ++ x ∷ []) (sym c.event-item.is) in
    let pushed : c.push.new.self.items ≡ c.loop-event.outs.items ++ c.in_ok-step.field-0 ∷ [] = search rules in
    let P : Tables → Type 0 = λ s. Gives (language_of s) (members_in c.loop-event.self) (run (language_of s) (members_in c.loop-event.self) (new_world (members_in c.loop-event.self)) (map event_of c.loop-event.self.kept.items)) (event_of e) out in
    let Q : ℕ → Type 0 = λ n. Gives (language_in old) n (run (language_in old) n (new_world n) (map event_of c.loop-event.self.kept.items)) (event_of e) out in
    let R : List Event → Type 0 = λ k. Gives (language_in old) (members_in old) (run (language_in old) (members_in old) (new_world (members_in old)) k) (event_of e) out in
    let gave = subst R inv.kept (subst Q inv.members (subst P inv.schema c.in_ok-step.ensures.gives)) in
    let more = step_more (language_in old) (members_in old) (new_world (members_in old)) (events_of old) (take i all) e _ out inv.gives gave in
    let S : List Given → Type 0 = λ es. GivesAll (language_in old) (members_in old) (world_in old) (map event_of es) (map (λ o. outputs_of o.items) c.push.new.self.items) in
    let T : List (List Output) → Type 0 = λ os. GivesAll (language_in old) (members_in old) (world_in old) (map event_of (take i all ++ e ∷ [])) os in
    let U : Tables → Type 0 = λ s. ShowsColumns s e c.in_ok-step.field-0.items in
    let at : slice_get all i ≡ Some e = slice_get_read all (length all) i e refl within c.event-item.is in
    record {
      live = c.in_ok-step.ensures.ok.1;
      schema = c.step.ensures.tables ∙ inv.schema;
      members = c.step.ensures.same.1 ∙ inv.members;
      kept = kept_through (events_of old) (events_of c.loop-event.self) (events_of c.step.new.self) all i e inv.kept c.in_ok-step.ensures.kept next;
      gives = subst S (sym next) (subst T (sym (ap (map (λ o. outputs_of o.items)) pushed ∙ map_append (λ o. outputs_of o.items) c.loop-event.outs.items (c.in_ok-step.field-0 ∷ []))) more);
      given = given_through (given_of old) (given_of c.loop-event.self) (given_of c.step.new.self) c.loop-event.outs.items c.push.new.self.items c.in_ok-step.field-0 inv.given c.in_ok-step.ensures.given pushed;
      count = ap length pushed ∙ length-append c.loop-event.outs.items (c.in_ok-step.field-0 ∷ []) ∙ ap (λ n. n + 1) inv.count;
      columns = columns_more old.group.schema all c.loop-event.outs.items c.push.new.self.items i e c.in_ok-step.field-0 inv.count pushed at inv.columns (subst U inv.schema c.in_ok-step.ensures.columns);
    }

pub returns-in_err-step-clause-begun : goal.returns-in_err-step-clause-begun
returns-in_err-step-clause-begun c =
    let old = c.args.self.now in
    on_err c.from_residual.result (begun_with (events_of old) (events_of c.step.new.self) c.args.events.now c.loop-event.event-index (ap (map event_of) c.in_err-step.ensures.unkept ∙ c.loop-event.invariant.kept))

pub returns-in_err-push-clause-begun : goal.returns-in_err-push-clause-begun
returns-in_err-push-clause-begun c =
    let i = c.loop-event.event-index in
    let all = c.args.events.now in
    let e = c.event-item.result in
    let old = c.args.self.now in
    let within : i < length all = search rules in
    let next : take (i + 1) all ≡ take i all ++ e ∷ [] = take_more all i e within ∙ ap (λ x. take i all ++ x ∷ []) (sym c.event-item.is) in
    let kept = kept_through (events_of old) (events_of c.loop-event.self) (events_of c.step.new.self) all i e c.loop-event.invariant.kept c.in_ok-step.ensures.kept next in
    on_err c.from_residual-in_err-push.result (begun_with (events_of old) (events_of c.step.new.self) all (i + 1) kept)
