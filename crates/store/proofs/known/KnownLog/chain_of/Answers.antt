use Rattle.std.proofs.Common.{◌≡◌, ◌∙◌, ◌-◌, ap, arith, drop, length, sym, take}
use Rattle.std.specs.Prelude.{fold}
use Rattle.std.proofs.lemmas.List.{length-drop, take-append-drop, take_all}
use Rattle.store.specs.Chains.{link_entry, links_of}
use Rattle.store.proofs.Links.{links_after, links_take}
use Rattle.store.proofs.known.KnownLog.chain_of.Goals as goal

pub returns : goal.returns
returns c =
    let known = c.args.self.now in
    let entries = c.args.entries.now in
    let n = c.same_first-same.result in
    let same = sym (ap (take n) c.as_slice.ensures.value) ∙ c.same_first-same.ensures.same in
    let begun : c.in_ok-chain.chain.links.items ≡ take n (links_of entries) = c.in_ok-chain.ensures ∙ ap (take n) known.linked ∙ links_take n known.entries.items ∙ ap links_of same ∙ sym (links_take n entries) in
    c.in_ok-push_all.ensures ∙ ap (fold link_entry c.in_ok-chain.chain.links.items) (take_all (length entries - n) (drop n entries) (omega (arith, length-drop n entries))) ∙ ap (λ links. fold link_entry links (drop n entries)) begun ∙ links_after n entries (drop n entries) ∙ ap links_of (take-append-drop n entries)
