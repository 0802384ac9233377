use Rattle.std.proofs.Common.{◌≡◌, vec_len}
use Rattle.folder.proofs.databases.Made.add_all.Given as goal

abbrev pub invariant-loop-at : goal.invariant-loop-at
invariant-loop-at g l = vec_len l.images ≡ l.at
