use Rattle.std.proofs.Common.{rules, arith, ◌<◌, ◌≤◌, length}
use Rattle.script.specs.Plays.{stage_of, tables_of, members_of}
use Rattle.script.specs.Stage.{played_all}
use Rattle.script.proofs.Playing.{so_far_nothing}
use Rattle.script.proofs.Rounds.{lines_more, lines_fail, lines_end}
use Rattle.script.proofs.play.Play.play_lines.Goals as goal

pub loop-line-init : goal.loop-line-init
loop-line-init g c =
    let first = c.args.self.now in
    so_far_nothing first (played_all (tables_of first) (members_of first) c.args.lines.now (stage_of first)) _ c.requires.live

pub returns-in-Err-clause-plays : goal.returns-in-Err-clause-plays
returns-in-Err-clause-plays g c =
    let first = c.args.self.now in
    let within : c.loop-line.line-index < length c.args.lines.now = search rules in
    lines_fail first.world c.loop-line.self (played_all (tables_of first) (members_of first) c.args.lines.now (stage_of first)) _ _ c.args.lines.now c.loop-line.line-index c.loop-line.invariant
    c.line-item.result within c.line-item.is c.in-Err.fault c.play_line.new.self c.play_line.new.self _ c.in-Err.ensures.plays

pub loop-line-preserved : goal.loop-line-preserved
loop-line-preserved g c =
    let first = c.args.self.now in
    let within : c.loop-line.line-index < length c.args.lines.now = search rules in
    lines_more first.world c.loop-line.self (played_all (tables_of first) (members_of first) c.args.lines.now (stage_of first)) _ _ c.args.lines.now c.loop-line.line-index c.loop-line.invariant
    c.line-item.result within c.line-item.is c.play_line.new.self _ c.in_default.ensures.plays

pub returns-clause-plays : goal.returns-clause-plays
returns-clause-plays g c =
    let first = c.args.self.now in
    let over : length c.args.lines.now ≤ c.loop-line.line-index = omega arith in
    lines_end first.world c.loop-line.self (played_all (tables_of first) (members_of first) c.args.lines.now (stage_of first)) _ _ c.args.lines.now c.loop-line.line-index c.loop-line.invariant over
