use Rattle.std.proofs.Common.{rules, ◌≡◌, false, codes}
use Rattle.std.proofs.lemmas.Result.{IfOk-weaker}
use Rattle.clap.specs.Words.{app_of, new_app}
use Rattle.clap.specs.declared.builder.command.Command.TheViews.{out-Command}
use Rattle.storecommands.proofs.CommandLines.{with_arg}
use Rattle.storecommands.proofs.command_line.export_words.Goals as goal

pub returns : goal.returns
returns c =
    let start : app_of c.after_help.result ≡ new_app (codes "export") = search rules in
    let local : (out-Command c.after_help.result).has_globals ≡ false = search rules in
    let as_of_given = with_arg _ _ _ _ _ c.in_ok-arg.ensures (start, local) c.as_of_word.ensures in
    let all_given = with_arg _ _ _ _ _ c.in_ok-arg-2.ensures as_of_given c.all_word.ensures in
    let dir_given = with_arg _ _ _ _ _ c.in_ok-arg-3.ensures all_given c.dir_word.ensures in
    IfOk-weaker c.arg-4.result _ _ (λ r added. with_arg _ _ _ _ _ added dir_given c.table_word.ensures) c.arg-4.ensures
