use Rattle.std.proofs.Common.{rules, map}
use Rattle.model.specs.Worlds.{new_world}
use Rattle.sqlread.specs.Meaning.{language_of}
use Rattle.world.specs.Deeds.{after_deeds, deed_of}
use Rattle.world.specs.View.{event_of, outputs_of, world_of}
use Rattle.world.specs.declared.resumed.Deed.{Deed}
use Rattle.world.specs.declared.resumed.Deed.TheVariants.{Happened}
use Rattle.world.proofs.Resuming.{deeds_more, gives_there, goes_on, happened_now}
use Rattle.world.proofs.resumed.Resumed.happen.Goals as goal

pub invariant_of-self-2 : goal.invariant_of-self-2
invariant_of-self-2 c =
    let self = c.args.self.now in
    let g = self.group in
    let deed : Deed = Happened c.args.event in
    let same = c.happen.ensures.same in
    record {
      whole = λ _. goes_on g c.happen.new.self self.deeds.items c.push.new.self.items deed (self.whole (search rules)) c.in_ok-outs.ensures.group
          (happened_now (language_of g.schema) g.members (world_of c.happen.new.self) (world_of g) (event_of c.args.event) c.in_ok-outs.ensures.world)
          same.0 same.1 (deeds_more self.deeds.items c.push.new.self.items deed (search rules));
    }

pub returns-clause-gives : goal.returns-clause-gives
returns-clause-gives c =
    let self = c.args.self.now in
    let g = self.group in
    gives_there (language_of g.schema) g.members (world_of g) (after_deeds (language_of g.schema) g.members (new_world g.members) (map deed_of self.deeds.items)) (event_of c.args.event) (outputs_of c.in_ok-outs.outs.items)
    (self.whole (search rules)).world c.in_ok-outs.ensures.gives
