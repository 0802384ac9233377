use Rattle.std.proofs.Common.{◌≡◌, ◌∙◌, List, take, fold, refl, ap, arith}
use Rattle.std.proofs.lemmas.Grind.{common_steps}
use Rattle.keep.specs.Durable.{after}
use Rattle.store.specs.declared.chain.Link.{Link}
use Rattle.store.specs.Chains.{link_entry}
use Rattle.store.proofs.Links.{links_after}
use Rattle.store.proofs.chain.Chain.change.Goals as goal

pub returns-clause-stored : goal.returns-clause-stored
returns-clause-stored c = λ d same.
    let whole : c.loop-entry.self.links.items ≡ fold link_entry (take c.args.change.now.kept c.args.self.now.links.items) c.args.change.now.entries.items = grind (arith, common_steps) in
    c.summary.ensures (after c.args.change.now d) refl
    (whole ∙ ap (λ (links : List Link). fold link_entry (take c.args.change.now.kept links) c.args.change.now.entries.items) same ∙ links_after c.args.change.now.kept d.log c.args.change.now.entries.items)

pub returns-clause-links : goal.returns-clause-links
returns-clause-links c = λ d same.
    let whole : c.loop-entry.self.links.items ≡ fold link_entry (take c.args.change.now.kept c.args.self.now.links.items) c.args.change.now.entries.items = grind (arith, common_steps) in
    whole ∙ ap (λ (links : List Link). fold link_entry (take c.args.change.now.kept links) c.args.change.now.entries.items) same ∙ links_after c.args.change.now.kept d.log c.args.change.now.entries.items
