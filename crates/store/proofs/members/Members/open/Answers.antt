use Rattle.std.proofs.Common.{◌∙◌}
use Rattle.store.specs.Pasts.{told_by}
use Rattle.store.proofs.Closing.{opened_each}
use Rattle.store.proofs.Opening.{are_opened}
use Rattle.store.proofs.members.Members.open.Goals as goal

pub returns-clause-opened : goal.returns-clause-opened
returns-clause-opened g c = record {
  count = c.in_ok-start_seats.ensures.starts.count ∙ c.in_ok-seats.ensures.laid.all;
  each = opened_each g.K.LogReader.is_honest (told_by c.args.past.now) c.args.images.items c.in_ok-seats.seats.items c.start_seats.new.seats.items c.in_ok-seats.ensures.laid c.in_ok-start_seats.ensures.up;
  went = are_opened g.K.LogReader.is_honest g.K.LogReader.may_hold g.K.Keeper.holds (told_by c.args.past.now) c.args.schema c.args.images.items c.in_ok-seats.seats.items c.start_seats.new.seats.items c.in_ok-seats.ensures.laid c.in_ok-start_seats.ensures.starts;
}
