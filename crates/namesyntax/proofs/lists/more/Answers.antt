use Rattle.std.proofs.Common.{◌≡◌, ◌<◌, ◌++◌, ◌∷◌, [], length, map, sym, ◌∙◌, arith}
use Rattle.std.proofs.lemmas.Result.{err_from_is_err_and}
use Rattle.std.proofs.lemmas.List.{map_push, length-map}
use Rattle.sqltokens.specs.What.{what, whats}
use Rattle.phrase.specs.Grammar.{read_many}
use Rattle.phrase.specs.Reading.{with_front}
use Rattle.phrase.proofs.Loops.{begins, goes_on, ends_here, fails_item}
use Rattle.namesyntax.proofs.lists.more.Goals as goal

pub loop-alloc-init : goal.loop-alloc-init
loop-alloc-init g c = begins g.R.Repeated.begins g.R.Repeated.reads (map g.R.Repeated.form c.args.all.now.items) (whats c.args.cursor.now.rest.now)

pub returns-in_err-item : goal.returns-in_err-item
returns-in_err-item g c =
    let p = err_from_is_err_and c.from_residual.result c.from_residual.ensures.1 in
    rw (p.1, p.2) (fails_item g.R.Repeated.begins g.R.Repeated.reads c.in_err-item.field-0.0 (map g.R.Repeated.form c.loop-alloc.all.items) (whats c.loop-alloc.cursor.rest.now) (with_front (map g.R.Repeated.form c.args.all.now.items) (read_many g.R.Repeated.begins g.R.Repeated.reads (length (whats c.args.cursor.now.rest.now)) (whats c.args.cursor.now.rest.now))) c.loop-alloc.invariant (sym c.is_next.ensures ∙ c.loop-alloc-test.true) c.in_err-item.ensures.item)

pub loop-alloc-preserved : goal.loop-alloc-preserved
loop-alloc-preserved g c =
    let ts = whats c.loop-alloc.cursor.rest.now in
    let mid = whats c.read.new.cursor.rest.now in
    let lt : length mid < length ts = omega (arith, c.in_ok-item.ensures.shorter, length-map c.loop-alloc.cursor.rest.now what, length-map c.read.new.cursor.rest.now what) in
    let e : map g.R.Repeated.form c.push.new.self.items ≡ map g.R.Repeated.form c.loop-alloc.all.items ++ (g.R.Repeated.form c.in_ok-item.item) ∷ [] = rw c.in_ok-push.ensures.items (map_push _ c.loop-alloc.all.items c.in_ok-item.item) in
    rw e (goes_on g.R.Repeated.begins g.R.Repeated.reads (map g.R.Repeated.form c.loop-alloc.all.items) ts mid (g.R.Repeated.form c.in_ok-item.item) (with_front (map g.R.Repeated.form c.args.all.now.items) (read_many g.R.Repeated.begins g.R.Repeated.reads (length (whats c.args.cursor.now.rest.now)) (whats c.args.cursor.now.rest.now))) c.loop-alloc.invariant (sym c.is_next.ensures ∙ c.loop-alloc-test.true) c.in_ok-item.ensures.item lt)

pub returns : goal.returns
returns g c = ends_here g.R.Repeated.begins g.R.Repeated.reads (map g.R.Repeated.form c.loop-alloc.all.items) (whats c.loop-alloc.cursor.rest.now) (with_front (map g.R.Repeated.form c.args.all.now.items) (read_many g.R.Repeated.begins g.R.Repeated.reads (length (whats c.args.cursor.now.rest.now)) (whats c.args.cursor.now.rest.now))) c.loop-alloc.invariant (sym c.is_next.ensures ∙ c.loop-alloc-test.false)
