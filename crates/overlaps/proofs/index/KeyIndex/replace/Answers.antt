use Rattle.std.proofs.Common.{◌+◌, ◌∙◌}
use Rattle.std.specs.List.{splice}
use Rattle.overlaps.proofs.Changed.{items-written, entries-written_back, on_err_too}
use Rattle.overlaps.proofs.index.KeyIndex.replace.Goals as goal

pub returns-in_err-replace-clause-err : goal.returns-in_err-replace-clause-err
returns-in_err-replace-clause-err g c =
    let w = c.replace.new.self in
    on_err_too c.from_residual.result (entries-written_back c.args.self.now.strands (c.get_mut.follows.lender w) c.args.key.now c.in-Some.strand.now w c.in-Some.ensures.value (c.get_mut.follows.holds w) c.in_err-replace.ensures.err)

pub returns-clause-ok : goal.returns-clause-ok
returns-clause-ok g c =
    let w = c.replace.new.self in
    c.forget_if_empty.ensures
    ∙ items-written c.args.self.now.strands (c.get_mut.follows.lender w) c.args.key.now c.in-Some.strand.now w (λ old. splice old c.args.place (c.args.place + c.args.many) c.args.items.items) c.in-Some.ensures.value (c.get_mut.follows.holds w) c.in_ok-replace.ensures.ok
