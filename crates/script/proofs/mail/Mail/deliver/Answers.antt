use Rattle.std.proofs.Common.{arith, ◌<◌, length}
use Rattle.script.proofs.Mailing.{seen_length, delivered_at, still_delivered}
use Rattle.script.proofs.mail.Mail.deliver.Goals as goal

pub index_mut-requires : goal.index_mut-requires
index_mut-requires c = omega (arith, c.requires, seen_length c.self.inside.all_lost c.self.inside.sent.items c.args.self.now c.self.view_is)

pub invariant_of-self : goal.invariant_of-self
invariant_of-self c =
    let within : c.args.place < length c.self.inside.sent.items = omega (arith, c.requires, seen_length c.self.inside.all_lost c.self.inside.sent.items c.args.self.now c.self.view_is) in
    still_delivered c.self.inside.all_lost c.args.place c.self.inside.settled c.self.inside.sent.items c.args.self.now c.index_mut.result.now c.self.view_is c.index_mut.ensures.value within c.self.invariant

pub returns : goal.returns
returns c =
    let within : c.args.place < length c.self.inside.sent.items = omega (arith, c.requires, seen_length c.self.inside.all_lost c.self.inside.sent.items c.args.self.now c.self.view_is) in
    delivered_at c.self.inside.all_lost c.args.place c.self.inside.sent.items c.args.self.now c.index_mut.result.now c.self.view_is c.index_mut.ensures.value within
