use Rattle.std.proofs.Common.{◌∙◌, rules, ap, []}
use Rattle.keep.specs.Durable.{Durable}
use Rattle.model.specs.Worlds.{with_node}
use Rattle.world.specs.View.{at_rest, world_of}
use Rattle.world.specs.declared.resumed.Deed.{Deed}
use Rattle.world.specs.declared.resumed.Deed.TheVariants.{Stored}
use Rattle.world.proofs.Resuming.{deeds_more, goes_on}
use Rattle.world.proofs.resumed.Resumed.store.Goals as goal

pub store-requires-clause-group : goal.store-requires-clause-group
store-requires-clause-group c = (c.args.self.now.whole (search rules)).group

pub invariant_of-self-2 : goal.invariant_of-self-2
invariant_of-self-2 c =
    let self = c.args.self.now in
    let deed : Deed = Stored c.args.member c.args.hard c.args.log in
    let same = c.store.ensures.same in
    record {
      whole = λ _. goes_on self.group c.store.new.self self.deeds.items c.push.new.self.items deed (self.whole (search rules)) c.store.ensures.group
          (c.store.ensures.world ∙ ap (λ (d : Durable). with_node (world_of self.group) c.args.member (at_rest d) []) c.requires.holds)
          (search rules) (search rules) (deeds_more self.deeds.items c.push.new.self.items deed (search rules));
    }
