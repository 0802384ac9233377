use Rattle.std.proofs.Common.{◌≡◌, ◌∙◌, length, sym, refl, subst, arith}
use Rattle.sqlite.proofs.Callers.{unchanged_then}
use Rattle.durable.specs.Rows.{Holds}
use Rattle.durable.proofs.Tails.{tail_more, tail_whole}
use Rattle.durable.proofs.finding.read_tail.Goals as goal

pub each-preserved : goal.each-preserved
each-preserved g c = record {
  clean = λ h. c.each.invariant.clean (c.find_entry.ensures.clean h);
  autocommit = λ h. c.find_entry.ensures.autocommit (c.each.invariant.autocommit h);
  limit = c.find_entry.ensures.limit ∙ c.each.invariant.limit;
  same = λ clean d has opened.
      let one = c.each.invariant.same (c.find_entry.ensures.clean clean) d has opened in
      unchanged_then _ _ _ one (c.in_ok-entry.ensures.same clean d (subst (λ db. Holds db d) (sym one.0.now_is) has));
  read = λ clean d has opened count.
      let early = c.find_entry.ensures.clean clean in
      let one = c.each.invariant.same early d has opened in
      let found = rw c.in-Some.is at (c.in_ok-entry.ensures.ok clean d c.each.i (subst (λ db. Holds db d) (sym one.0.now_is) has) refl) in
      tail_more d.log c.args.before c.each.i c.in-Some.entry c.each.tail.items c.push.new.self.items c.each.auto.i found (c.each.invariant.read early d has opened count) c.in_ok-push.ensures.items;
}

pub returns-clause-ok : goal.returns-clause-ok
returns-clause-ok g c clean d has opened count low =
    let end : c.each.i ≡ length d.log = omega arith in
    tail_whole d.log c.args.before c.each.i c.each.tail.items end (c.each.invariant.read clean d has opened count)
