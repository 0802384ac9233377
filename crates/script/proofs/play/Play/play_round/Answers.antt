use Rattle.std.proofs.Common.{◌≡◌, ◌∙◌, ◌+◌, true, false, sym, subst}
use Rattle.script.specs.Mail.{is_left}
use Rattle.script.specs.Plays.{stage_of, tables_of, members_of}
use Rattle.script.specs.Stage.{Played, round}
use Rattle.script.proofs.Mailing.{none_fewer}
use Rattle.script.proofs.Rounds.{InRound, round_begins, round_skips, round_delivers, round_fails}
use Rattle.script.proofs.play.Play.play_round.Goals.{then-is_left+in_default, else-is_left}
use Rattle.script.proofs.play.Play.play_round.Goals as goal

pub loop-place-init : goal.loop-place-init
loop-place-init g c = round_begins c.args.self.now c.len-count.result c.first_left-place.result _ c.requires.live c.len-count.ensures c.first_left-place.ensures

pub returns-in-Err-clause-plays : goal.returns-in-Err-clause-plays
returns-in-Err-clause-plays g c =
    let first = c.args.self.now in
    let left : is_left c.is_left.ensures.0 ≡ true = sym c.is_left.ensures.2 ∙ c.if-is_left.true in
    round_fails first.world c.loop-place.self (round (tables_of first) (members_of first) (stage_of first)) c.len-count.result c.loop-place.place c.is_left.ensures.0 _ _
    c.loop-place.invariant c.loop-place-test.true c.is_left.ensures.1 left c.in-Err.fault c.settle_at.new.self c.settle_at.new.self _ c.in-Err.ensures.plays

pub loop-place-preserved : goal.loop-place-preserved
loop-place-preserved g c =
    let first = c.args.self.now in
    let p : Played = round (tables_of first) (members_of first) (stage_of first) in
    let before = g.P.Printer.printed c.args.printer.now in
    elim c.if-is_left.branch [
      | then-is_left+in_default w ↦
          let left : is_left c.is_left.ensures.0 ≡ true = sym c.is_left.ensures.2 ∙ w.if-is_left.true in
          subst (λ x. InRound first.world x p c.len-count.result (c.loop-place.place + 1) before (g.P.Printer.printed c.if-is_left.printer)) (sym w.self-is)
          (subst (λ x. InRound first.world w.settle_at.new.self p c.len-count.result (c.loop-place.place + 1) before (g.P.Printer.printed x)) (sym w.printer-is)
          (round_delivers first.world c.loop-place.self p c.len-count.result c.loop-place.place c.is_left.ensures.0 _ _
          c.loop-place.invariant c.loop-place-test.true c.is_left.ensures.1 left w.settle_at.new.self _ w.in_default.ensures.plays))
      | else-is_left w ↦
          let left : is_left c.is_left.ensures.0 ≡ false = sym c.is_left.ensures.2 ∙ w.if-is_left.false in
          subst (λ x. InRound first.world x p c.len-count.result (c.loop-place.place + 1) before (g.P.Printer.printed c.if-is_left.printer)) (sym w.self-is)
          (subst (λ x. InRound first.world c.loop-place.self p c.len-count.result (c.loop-place.place + 1) before (g.P.Printer.printed x)) (sym w.printer-is)
          (round_skips first.world c.loop-place.self p c.len-count.result c.loop-place.place c.is_left.ensures.0 _ _
          c.loop-place.invariant c.loop-place-test.true c.is_left.ensures.1 left))
    ]

pub settle-requires : goal.settle-requires
settle-requires g c = none_fewer c.len-count.result c.loop-place.place c.loop-place.self.mail c.loop-place-test.false c.loop-place.invariant.none
