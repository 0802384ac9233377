use Rattle.std.proofs.Common.{◌≡◌, take}
use Rattle.playback.proofs.making.are_same_entries.Given as goal

abbrev pub invariant-loop-place : goal.invariant-loop-place
invariant-loop-place l = take l.place l.some ≡ take l.place l.others
