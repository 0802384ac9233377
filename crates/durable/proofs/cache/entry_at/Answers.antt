use Rattle.std.proofs.Common.{◌≡◌, ◌∙◌, Some, slice_get, sym, ap}
use Rattle.std.proofs.lemmas.Option.{slice_get-get_or}
use Rattle.model.specs.declared.entry.Entry.{Entry}
use Rattle.durable.proofs.Settling.{read_is}
use Rattle.durable.proofs.cache.entry_at.Goals as goal

pub returns-in_ok-copy_of-in-Some-clause-ok : goal.returns-in_ok-copy_of-in-Some-clause-ok
returns-in_ok-copy_of-in-Some-clause-ok g c = λ clean d holds begin.
    let look = c.in-Some.ensures.lookup in
    let there : slice_get c.args.read.now c.args.i ≡ Some c.in-Some.entry.now = slice_get-get_or c.args.read.now c.args.i c.in-Some.entry.now look.3.0 ∙ ap (λ (e : Entry). Some e) (sym look.1) in
    read_is d.log c.args.read.now c.args.i c.in_ok-copy_of-in-Some.field-0 begin (there ∙ ap (λ (e : Entry). Some e) (sym c.in_ok-copy_of-in-Some.ensures))
