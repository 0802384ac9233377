use Rattle.std.proofs.Common.{◌≡◌, ◌∙◌, ◌+◌, Some, sym, ap}
use Rattle.std.specs.Prelude.{slice_get}
use Rattle.world.specs.Run.{member_of}
use Rattle.world.specs.View.{entry_in}
use Rattle.moments.specs.Behind.{log_in}
use Rattle.journal.specs.Digests.{next_digest}
use Rattle.adopt.proofs.Looking.{member_same, looked_again, entry_found, digest_more}
use Rattle.adopt.proofs.stored.digest_in.Goals as goal

pub loop-index-preserved : goal.loop-index-preserved
loop-index-preserved c =
    let old = c.args.world.now in
    let now = c.loop-index.world in
    let node = c.args.node in
    let i = c.loop-index.index in
    let inv = c.loop-index.invariant in
    let log = log_in (member_of old node) in
    let e = c.in-Some.entry in
    let at : Some e ≡ slice_get log i = sym c.in-Some.is ∙ c.in_ok-entry.ensures.found ∙ ap (entry_in (i + 1)) (member_same old now node inv.same) ∙ entry_found (member_of old node) i in
    record {
      digest = c.in_ok-digest.ensures ∙ ap (λ d. next_digest d e) inv.digest ∙ digest_more log i e at;
      same = looked_again old now c.entry.new.self inv.same (record { kept = c.entry.ensures.kept; tables = c.entry.ensures.tables; members = c.entry.ensures.same.1; live = c.in_ok-entry.ensures.ok.1 });
    }
