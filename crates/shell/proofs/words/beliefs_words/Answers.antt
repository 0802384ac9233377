use Rattle.std.proofs.Common.{rules, ◌≡◌, false, codes}
use Rattle.std.proofs.lemmas.Result.{IfOk-weaker}
use Rattle.clap.specs.Words.{app_of, new_app}
use Rattle.clap.specs.declared.builder.command.Command.TheViews.{out-Command}
use Rattle.storecommands.proofs.CommandLines.{with_arg}
use Rattle.shell.proofs.words.beliefs_words.Goals as goal

pub returns : goal.returns
returns c =
    let start : app_of c.after_help.result ≡ new_app (codes "beliefs") = search rules in
    let local : (out-Command c.after_help.result).has_globals ≡ false = search rules in
    let svg = with_arg _ _ _ _ _ c.in_ok-arg.ensures (start, local) c.svg_word.ensures in
    let source = with_arg _ _ _ _ _ c.in_ok-arg-2.ensures svg c.source_word.ensures in
    IfOk-weaker c.arg-3.result _ _ (λ r added. with_arg _ _ _ _ _ added source c.query_word.ensures) c.arg-3.ensures
