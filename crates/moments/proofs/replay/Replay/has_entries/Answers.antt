use Rattle.std.proofs.Common.{rules, ◌≡◌, ◌∙◌, ◌<◌, length, sym, ap}
use Rattle.std.specs.Prelude.{slice_get}
use Rattle.world.specs.Run.{member_of}
use Rattle.moments.specs.Behind.{log_in}
use Rattle.moments.proofs.Posting.{member_same, same_again}
use Rattle.moments.proofs.Storing.{entries_more}
use Rattle.moments.proofs.replay.Replay.has_entries.Goals as goal

pub loop-place-preserved : goal.loop-place-preserved
loop-place-preserved c =
    let old = c.args.self.now in
    let now = c.loop-place.self in
    let i = c.loop-place.place in
    let inv = c.loop-place.invariant in
    let within : i < length c.args.entries.now = search rules in
    let at = sym c.in-Some.is ∙ c.in_ok-found.ensures.found ∙ ap (λ m. slice_get (log_in m) i) (member_same old now c.args.node inv.same) in
    let same : c.in-Some.found ≡ c.index-entries-place.result = search rules in
    record {
      taken = entries_more (log_in (member_of old.world c.args.node)) c.args.entries.now i c.in-Some.found c.index-entries-place.result at same within c.index-entries-place.is inv.taken;
      same = same_again old now c.entry_at.new.self inv.same c.in_ok-found.ensures.same;
    }
