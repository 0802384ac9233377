use Rattle.std.proofs.Common.{rules, ◌≡◌, false, codes}
use Rattle.std.proofs.lemmas.Result.{IfOk-weaker}
use Rattle.clap.specs.Words.{app_of, new_app}
use Rattle.clap.specs.declared.builder.command.Command.TheViews.{out-Command}
use Rattle.storecommands.proofs.CommandLines.{with_arg}
use Rattle.storecommands.proofs.command_line.open_words.Goals as goal

pub returns : goal.returns
returns c =
    let start : app_of c.after_help.result ≡ new_app (codes "open") = search rules in
    let local : (out-Command c.after_help.result).has_globals ≡ false = search rules in
    let sync = with_arg _ _ _ _ _ c.in_ok-arg.ensures (start, local) c.sync_word.ensures in
    let clock = with_arg _ _ _ _ _ c.in_ok-arg-2.ensures sync c.clock_word.ensures in
    let format = with_arg _ _ _ _ _ c.in_ok-arg-3.ensures clock c.format_word.ensures in
    let dir = with_arg _ _ _ _ _ c.in_ok-arg-4.ensures format c.dir_word.ensures in
    IfOk-weaker c.arg-5.result _ _ (λ r added. with_arg _ _ _ _ _ added dir c.file_word.ensures) c.arg-5.ensures
