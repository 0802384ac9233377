use Rattle.std.proofs.Common.{◌∙◌, sym}
use Rattle.sqlread.specs.Shapes.{row, term_of}
use Rattle.sqlread.specs.Meaning.{term_passes}
use Rattle.sqlread.proofs.Each.{pass_next, pass_failed, pass_end}
use Rattle.sqlread.proofs.term.pass_all_terms.Goals as goal

pub returns-then-not-passes : goal.returns-then-not-passes
returns-then-not-passes c = λ system_start. sym (pass_failed (λ t. term_passes t (row c.args.key.now c.args.values.now c.args.period system_start)) term_of c.args.terms.now c.loop-term.term-index c.term-item.result c.loop-term-test.true (c.loop-term.invariant system_start) c.term-item.is (sym (c.passes.ensures system_start) ∙ c.if-not-passes.true))

pub loop-term-preserved : goal.loop-term-preserved
loop-term-preserved c = λ system_start. pass_next (λ t. term_passes t (row c.args.key.now c.args.values.now c.args.period system_start)) term_of c.args.terms.now c.loop-term.term-index c.term-item.result c.loop-term-test.true (c.loop-term.invariant system_start) c.term-item.is (sym (c.passes.ensures system_start) ∙ c.if-not-passes.false)

pub returns : goal.returns
returns c = λ system_start. sym (pass_end (λ t. term_passes t (row c.args.key.now c.args.values.now c.args.period system_start)) term_of c.args.terms.now c.loop-term.term-index c.loop-term-test.false (c.loop-term.invariant system_start))
