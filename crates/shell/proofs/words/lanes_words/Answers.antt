use Rattle.std.proofs.Common.{rules, ◌≡◌, false, codes}
use Rattle.std.proofs.lemmas.Result.{IfOk-weaker}
use Rattle.clap.specs.Words.{app_of, new_app}
use Rattle.clap.specs.declared.builder.command.Command.TheViews.{out-Command}
use Rattle.storecommands.proofs.CommandLines.{with_arg}
use Rattle.shell.proofs.words.lanes_words.Goals as goal

pub returns : goal.returns
returns c =
    let start : app_of c.after_help.result ≡ new_app (codes "lanes") = search rules in
    let local : (out-Command c.after_help.result).has_globals ≡ false = search rules in
    let svg = with_arg _ _ _ _ _ c.in_ok-arg.ensures (start, local) c.svg_word.ensures in
    let first = with_arg _ _ _ _ _ c.in_ok-arg-2.ensures svg c.from_word.ensures in
    let last = with_arg _ _ _ _ _ c.in_ok-arg-3.ensures first c.to_word.ensures in
    IfOk-weaker c.arg-4.result _ _ (λ r added. with_arg _ _ _ _ _ added last c.script_word.ensures) c.arg-4.ensures
