use Rattle.std.proofs.Common.{drop, rules}
use Rattle.view.proofs.Turns.{starts_at}
use Rattle.view.proofs.publisher.Publisher.start.Goals as goal

pub publish_as-writer-requires : goal.publish_as-writer-requires
publish_as-writer-requires g c next is =
    let writer = c.in_ok-writer.writer in
    starts_at _ _ writer.desk.shown.value next (drop writer.behind writer.log.items) (search rules) is
