use Rattle.std.specs.Prelude.{codes}
use Rattle.looks.specs.Outcomes.{counts, says}
use Rattle.report.specs.Machine.{extent_tokens, word_of}
use Rattle.report.proofs.Adding.{three}
use Rattle.report.proofs.machine.put_extent.Goals as goal

pub returns : goal.returns
unfolding extent_tokens
returns c =
    let d = c.args.difference.now in
    three c.put_number-2.result c.args.writer.now c.put_text.new.writer c.put_number.new.writer c.put_number-2.new.writer
    (says (codes "differs") (word_of d.differs)) (counts (codes "lines") d.lines) (counts (codes "differing") d.differing) (rw c.word_of.ensures at c.in_ok-put_text.ensures) c.in_ok-put_number.ensures c.put_number-2.ensures
