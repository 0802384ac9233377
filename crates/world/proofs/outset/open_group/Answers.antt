use Rattle.std.proofs.Common.{rules, ◌≡◌, ◌∙◌, ◌+◌, ◌++◌, ◌∷◌, [], None, List, length, replicate, ap, subst, arith}
use Rattle.std.proofs.Common.{length-append}
use Rattle.model.specs.declared.message.Message.{Message}
use Rattle.model.specs.Members.{Node}
use Rattle.model.specs.Worlds.{World, fresh}
use Rattle.sqlchecks.specs.Columns.{Tables}
use Rattle.world.specs.View.{nodes_of, IsSeat}
use Rattle.world.proofs.Starting.{each_push, nodes_push}
use Rattle.world.proofs.outset.open_group.Goals as goal

pub loop-index-preserved : goal.loop-index-preserved
loop-index-preserved c =
    let xs = c.loop-index.seats.items in
    let x = c.in_ok-start_member.field-0 in
    let i = c.loop-index.index in
    let ys : c.push.new.self.items ≡ xs ++ x ∷ [] = search rules in
    let inv = c.loop-index.invariant in
    let P : Tables → Type 0 = λ t. IsSeat t c.args.members (i + 1) x in
    record {
      count = ap length ys ∙ length-append xs (x ∷ []) ∙ ap (λ k. k + 1) inv.count;
      each = each_push c.args.schema c.args.members i xs c.push.new.self.items x inv.count ys inv.each (subst P c.in_ok-own.ensures.cases c.in_ok-start_member.ensures.seat);
      nodes = nodes_push i xs c.push.new.self.items x (fresh 0 None) ys inv.nodes c.in_ok-start_member.ensures.node;
    }

pub returns-clause-world : goal.returns-clause-world
returns-clause-world c =
    let all : c.loop-index.index ≡ c.args.members = omega arith in
    ap (λ (ms : List Message). let w : World = record { nodes = nodes_of c.loop-index.seats.items; sent = ms } in w) c.new.ensures.items
    ∙ ap (λ (xs : List Node). let w : World = record { nodes = xs; sent = [] } in w) (c.loop-index.invariant.nodes ∙ ap (λ k. replicate k (fresh 0 None)) all)
