use Rattle.std.proofs.Common.{rules, ◌≡◌, false, codes}
use Rattle.std.proofs.lemmas.Result.{IfOk-weaker}
use Rattle.clap.specs.Words.{app_of, new_app}
use Rattle.clap.specs.declared.builder.command.Command.TheViews.{out-Command}
use Rattle.storecommands.proofs.CommandLines.{with_arg}
use Rattle.storecommands.proofs.command_line.import_words.Goals as goal

pub returns : goal.returns
returns c =
    let start : app_of c.after_help.result ≡ new_app (codes "import") = search rules in
    let local : (out-Command c.after_help.result).has_globals ≡ false = search rules in
    let from_line_given = with_arg _ _ _ _ _ c.in_ok-arg.ensures (start, local) c.from_line_word.ensures in
    let dir_given = with_arg _ _ _ _ _ c.in_ok-arg-2.ensures from_line_given c.dir_word.ensures in
    let table_given = with_arg _ _ _ _ _ c.in_ok-arg-3.ensures dir_given c.table_word.ensures in
    IfOk-weaker c.arg-4.result _ _ (λ r added. with_arg _ _ _ _ _ added table_given c.csv_word.ensures) c.arg-4.ensures
