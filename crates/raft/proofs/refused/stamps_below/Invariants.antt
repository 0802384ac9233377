use Rattle.std.proofs.Common.{[]}
use Rattle.raft.proofs.refused.stamps_below.Given as goal

abbrev pub ghost-next_stamp : goal.ghost-next_stamp
ghost-next_stamp a = []
