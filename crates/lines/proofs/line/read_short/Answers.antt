use Rattle.std.proofs.Common.{rules}
use Rattle.lines.proofs.Lines.{line_word, IsNoShort}
use Rattle.lines.proofs.line.read_short.Goals as goal

pub returns-in_default-clause-none : goal.returns-in_default-clause-none
returns-in_default-clause-none c =
    let short : IsNoShort c.args.word.now = record {
      timeout = search rules;
      beat = search rules;
      close = search rules;
      floor = search rules;
      stop = search rules;
      start = search rules;
      deliver = search rules;
      lose = search rules;
      settle = search rules;
    } in
    line_word c.args.members c.args.word.now c.args.rest.now c.requires.first c.requires.short short
