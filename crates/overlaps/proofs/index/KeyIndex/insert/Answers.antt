use Rattle.std.proofs.Common.{inl, inr}
use Rattle.overlaps.specs.Index.{with_item}
use Rattle.overlaps.specs.Items.{items_of}
use Rattle.overlaps.proofs.Ordered.{with_apart}
use Rattle.overlaps.proofs.Changed.{items-written, items-written_back, entries-written_back, apart_changed, kept_apart, either, on_ok, on_err}
use Rattle.overlaps.proofs.index.KeyIndex.insert.Goals as goal

pub invariant_of-self : goal.invariant_of-self
invariant_of-self g c =
    let period = g.T.HasPeriod.period in
    let m = c.args.self.now in
    let key = c.args.key in
    let w = c.insert_in_order.new.items in
    let n = c.get_mut.follows.lender w in
    let value = c.in-Some.ensures.value in
    let writes = c.get_mut.follows.holds w in
    let change = with_item period c.args.item in
    record {
      apart = elim (either c.insert_in_order.result c.insert_in_order.ensures.ok c.insert_in_order.ensures.err) [
        | inl ok ↦ apart_changed period m.strands n key change (items-written m.strands n key c.in-Some.strand.now w change value writes ok) m.apart (with_apart period g.met.T.HasPeriod.some_day c.args.item (items_of m.strands key) (m.apart key) c.requires)
        | inr err ↦ kept_apart period m.strands n (items-written_back m.strands n key c.in-Some.strand.now w value writes err) m.apart
      ];
    }

pub returns-in-Some-clause-ok : goal.returns-in-Some-clause-ok
returns-in-Some-clause-ok g c =
    let w = c.insert_in_order.new.items in
    on_ok c.insert_in_order.result
    (items-written c.args.self.now.strands (c.get_mut.follows.lender w) c.args.key c.in-Some.strand.now w (with_item g.T.HasPeriod.period c.args.item) c.in-Some.ensures.value (c.get_mut.follows.holds w))
    c.insert_in_order.ensures.ok

pub returns-in-Some-clause-err : goal.returns-in-Some-clause-err
returns-in-Some-clause-err g c =
    let w = c.insert_in_order.new.items in
    on_err c.insert_in_order.result
    (entries-written_back c.args.self.now.strands (c.get_mut.follows.lender w) c.args.key c.in-Some.strand.now w c.in-Some.ensures.value (c.get_mut.follows.holds w))
    c.insert_in_order.ensures.err
