use Rattle.std.proofs.Common.{◌∙◌, ap, length, sym, take}
use Rattle.std.proofs.Math.Seq.{take-length}
use Rattle.store.specs.Chains.{links_of}
use Rattle.store.proofs.Links.{links_take}
use Rattle.store.proofs.known.KnownLog.link.Goals as goal

pub invariant_of-drop : goal.invariant_of-drop
invariant_of-drop c =
    let entries = c.args.entries.now in
    record { linked = c.in_ok-beginning.ensures ∙ ap (take (length entries)) c.in_ok-chain.ensures ∙ links_take (length entries) entries ∙ ap links_of (take-length entries) ∙ sym (ap links_of c.in_ok-copies_of.ensures) }
