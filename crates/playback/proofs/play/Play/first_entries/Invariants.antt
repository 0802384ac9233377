use Rattle.std.proofs.Common.{◌≡◌, length}
use Rattle.playback.specs.Histories.{BeginsLog}
use Rattle.playback.specs.Scenes.{scene_of}
use Rattle.playback.proofs.play.Play.first_entries.Given as goal

abbrev pub invariant-loop-before : goal.invariant-loop-before
invariant-loop-before l = record {
  same : scene_of l.self ≡ scene_of l.initial.self;
  count : length l.entries.items ≡ l.before;
  first : BeginsLog (scene_of l.initial.self).history l.member l.entries.items;
}
