use Rattle.std.proofs.Common.{◌∙◌, ℕ, List, subst}
use Rattle.playback.specs.Histories.{IsPut}
use Rattle.playback.proofs.Turns.{always_ok}
use Rattle.playback.proofs.play.Play.check_answer.Goals as goal

pub returns : goal.returns
returns c =
    let given = c.in_ok-ask.ensures in
    let put : IsPut given.0 c.args.answer = subst (λ (text : List ℕ). IsPut given.0 text) c.as_str.ensures given.3 in
    always_ok c.record_answer.result (c.in_ok-asked.asked, given.0, c.in_ok-asked.ensures, given.1, given.2, put, c.record_answer.ensures ∙ given.4)
