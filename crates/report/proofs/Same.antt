-- Worlds in which the same happened, and one that has just begun.
use Rattle.std.proofs.Common.{◌≡◌, ◌∙◌, ℕ, [], ap, false}
use Rattle.model.specs.Lists.{nth}
use Rattle.model.specs.Agreement.{decided}
use Rattle.model.specs.Worlds.{new_world, run}
use Rattle.sqlread.specs.Meaning.{language_of}
use Rattle.world.specs.declared.history.World.{World}
use Rattle.world.specs.Run.{events_of, members_in, member_of, now_of, tables_in}
use Rattle.report.specs.Deciding.{decided_by, IsSameWorld}
use Rattle.report.proofs.Deciding.{none_longer}

-- the members are the same
pub same_nodes : (old new : World) → IsSameWorld old new → (now_of new).nodes ≡ (now_of old).nodes
same_nodes old new is = λ i. (run (language_of (is.tables i)) (is.members i) (new_world (is.members i)) (is.events i)).nodes

pub same_member : (old new : World) (m : ℕ) → IsSameWorld old new → member_of new m ≡ member_of old m
same_member old new m is = ap (λ nodes. nth nodes m) (same_nodes old new is)

-- the same happened in a third one
pub same_then : (old new last : World) → IsSameWorld old new → events_of last ≡ events_of new → tables_in last ≡ tables_in new → members_in last ≡ members_in new → last.is_spent ≡ false → IsSameWorld old last
same_then old new last is events tables members live = record { events = events ∙ is.events; tables = tables ∙ is.tables; members = members ∙ is.members; live = live }

pub same_on : (old new last : World) → IsSameWorld old new → IsSameWorld new last → IsSameWorld old last
same_on old new last is on = same_then old new last is on.events on.tables on.members on.live

-- nothing is decided before anything happened
pub decided_none : (w : World) → events_of w ≡ [] → decided_by w ≡ []
decided_none w none = ap (decided (language_of (tables_in w)) (members_in w) (new_world (members_in w))) none ∙ none_longer (members_in w)
