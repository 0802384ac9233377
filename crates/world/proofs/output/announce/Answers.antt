use Rattle.std.proofs.Common.{rules, ◌≡◌, ◌+◌, ◌∷◌, ◌++◌, [], List, take, subst, sym}
use Rattle.model.specs.Worlds.{numbered}
use Rattle.world.specs.declared.output.Output.{Output}
use Rattle.world.specs.declared.output.Output.TheVariants.{Sent}
use Rattle.world.specs.View.{outputs_of}
use Rattle.world.proofs.Numbers.{one_more}
use Rattle.world.proofs.output.announce.Goals as goal

pub loop-message-preserved : goal.loop-message-preserved
loop-message-preserved c =
    let at : c.in-Some.number ≡ c.args.before + (c.loop-message.message-index + 1) = search rules in
    let new : c.push.new.self.items ≡ c.loop-message.outs.items ++ Sent c.in-Some.number c.in_ok-clone.field-0 ∷ [] = search rules in
    let P : List Output → Type 0 = λ xs. outputs_of xs ≡ numbered c.args.before (take (c.loop-message.message-index + 1) c.args.messages.now) in
    record {
      place = at;
      same = subst P (sym new) (one_more c.args.messages.now c.args.before c.loop-message.message-index c.in-Some.number c.in_ok-clone.field-0 c.loop-message.outs.items c.loop-message.invariant.same (search rules) (search rules) at);
    }
