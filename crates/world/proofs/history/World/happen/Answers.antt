use Rattle.std.proofs.Common.{rules, ◌++◌, ◌∷◌, [], subst}
use Rattle.model.specs.Worlds.{Gives}
use Rattle.sqlread.specs.Meaning.{language_of}
use Rattle.world.specs.View.{event_of, outputs_of}
use Rattle.world.proofs.Giving.{given_next, more_given}
use Rattle.world.proofs.Running.{kept_more, run_is}
use Rattle.world.proofs.history.World.happen.Goals as goal

pub invariant_of-self-2 : goal.invariant_of-self-2
invariant_of-self-2 c =
    let self = c.args.self.now in
    let e = c.args.event.now in
    let after = kept_more self.kept.items c.push.new.self.items e c.in_ok-clone.field-0 (search rules) c.in_ok-clone.ensures.cases in
    let same = c.happen.ensures.same in
    let out = outputs_of c.in_ok-outs.outs.items in
    let gave = subst (λ v. Gives (language_of self.group.schema) self.group.members v (event_of e) out) (self.whole c.requires.live).world c.in_ok-outs.ensures.gives in
    record {
      whole = λ _. run_is self.group c.happen.new.self self.kept.items c.push.new.self.items e (self.whole c.requires.live) c.in_ok-outs.ensures.group c.in_ok-outs.ensures.world same.0 same.1 after;
      given = (self.given.0 ++ out ∷ [], given_next self.group c.happen.new.self self.kept.items c.push.new.self.items e out self.given same.0 same.1 after gave);
    }

pub returns-clause-given : goal.returns-clause-given
returns-clause-given c =
    let self = c.args.self.now in
    let e = c.args.event.now in
    let after = kept_more self.kept.items c.push.new.self.items e c.in_ok-clone.field-0 (search rules) c.in_ok-clone.ensures.cases in
    let same = c.happen.ensures.same in
    let out = outputs_of c.in_ok-outs.outs.items in
    let gave = subst (λ v. Gives (language_of self.group.schema) self.group.members v (event_of e) out) (self.whole c.requires.live).world c.in_ok-outs.ensures.gives in
    more_given self _ e out same.0 same.1 after gave
