use Rattle.std.proofs.Common.{refl}
use Rattle.std.proofs.lemmas.Result.{IfOk-weaker}
use Rattle.storecommands.proofs.CommandLines.{with_sub}
use Rattle.storecommands.proofs.command_line.with_commands.Goals as goal

pub returns : goal.returns
returns c =
    let made = with_sub _ _ _ _ _ c.in_ok-subcommand.ensures refl c.in_ok-new_words.ensures in
    let opened = with_sub _ _ _ _ _ c.in_ok-subcommand-2.ensures made c.in_ok-open_words.ensures in
    let import = with_sub _ _ _ _ _ c.in_ok-subcommand-3.ensures opened c.in_ok-import_words.ensures in
    let export = with_sub _ _ _ _ _ c.in_ok-subcommand-4.ensures import c.in_ok-export_words.ensures in
    let log = with_sub _ _ _ _ _ c.in_ok-subcommand-5.ensures export c.in_ok-log_words.ensures in
    let flights = with_sub _ _ _ _ _ c.in_ok-subcommand-6.ensures log c.in_ok-flights_words.ensures in
    IfOk-weaker c.subcommand-7.result _ _ (λ r added. with_sub _ _ _ _ _ added flights c.in_ok-restore_words.ensures) c.subcommand-7.ensures
