use Rattle.std.proofs.Common.{◌∙◌, ap}
use Rattle.store.specs.Fullness.{entries_of, longest}
use Rattle.store.proofs.store.Store.room.Goals as goal

pub returns-clause-entries : goal.returns-clause-entries
returns-clause-entries g c = c.most_entries.ensures ∙ ap (λ seats. longest seats (λ seat. entries_of seat.node seat.chain.links.items)) c.as_slice.ensures.value
