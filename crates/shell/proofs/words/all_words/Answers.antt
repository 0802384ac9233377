use Rattle.std.proofs.Common.{◌∙◌, ap}
use Rattle.std.proofs.lemmas.Result.{IfOk-weaker}
use Rattle.storecommands.specs.CommandLine.{with_store_commands}
use Rattle.storecommands.proofs.CommandLines.{with_sub}
use Rattle.shell.proofs.words.all_words.Goals as goal

pub returns : goal.returns
returns c =
    let store = c.in_ok-with_commands.ensures ∙ ap with_store_commands c.program_words.ensures in
    let audit = with_sub _ _ _ _ _ c.in_ok-subcommand.ensures store c.in_ok-audit_words.ensures in
    let sim = with_sub _ _ _ _ _ c.in_ok-subcommand-2.ensures audit c.in_ok-sim_words.ensures in
    let live = with_sub _ _ _ _ _ c.in_ok-subcommand-3.ensures sim c.in_ok-live_words.ensures in
    let beliefs = with_sub _ _ _ _ _ c.in_ok-subcommand-4.ensures live c.in_ok-beliefs_words.ensures in
    let lanes = with_sub _ _ _ _ _ c.in_ok-subcommand-5.ensures beliefs c.in_ok-lanes_words.ensures in
    IfOk-weaker c.subcommand-6.result _ _ (λ r added. with_sub _ _ _ _ _ added lanes c.in_ok-check_words.ensures) c.subcommand-6.ensures
