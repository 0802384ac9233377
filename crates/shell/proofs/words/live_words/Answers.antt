use Rattle.std.proofs.Common.{rules, ◌≡◌, false, codes}
use Rattle.std.proofs.lemmas.Result.{IfOk-weaker}
use Rattle.clap.specs.Words.{app_of, new_app}
use Rattle.clap.specs.declared.builder.command.Command.TheViews.{out-Command}
use Rattle.storecommands.proofs.CommandLines.{with_arg}
use Rattle.shell.proofs.words.live_words.Goals as goal

pub returns : goal.returns
returns c =
    let start : app_of c.after_help.result ≡ new_app (codes "live") = search rules in
    let local : (out-Command c.after_help.result).has_globals ≡ false = search rules in
    let nodes = with_arg _ _ _ _ _ c.in_ok-arg.ensures (start, local) c.nodes_word.ensures in
    let seed = with_arg _ _ _ _ _ c.in_ok-arg-2.ensures nodes c.seed_word.ensures in
    let loss = with_arg _ _ _ _ _ c.in_ok-arg-3.ensures seed c.loss_word.ensures in
    let dir = with_arg _ _ _ _ _ c.in_ok-arg-4.ensures loss c.dir_word.ensures in
    let format = with_arg _ _ _ _ _ c.in_ok-arg-5.ensures dir c.format_word.ensures in
    IfOk-weaker c.arg-6.result _ _ (λ r added. with_arg _ _ _ _ _ added format c.script_word.ensures) c.arg-6.ensures
