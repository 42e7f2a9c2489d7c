use Rattle.std.proofs.Common.{◌≡◌, List, map, take}
use Rattle.esr_results.specs.Pruned.{pruned_of}
use Rattle.esr_desk.specs.Calls.{Call}
use Rattle.esr_delete.specs.Gathered.{IsSoFar}
use Rattle.esr_delete.proofs.gather.gather.Given as goal

abbrev pub invariant-loop-shard : goal.invariant-loop-shard
invariant-loop-shard g l = record {
  so_far : IsSoFar g.Q.Desk.start (g.Q.Desk.seen l.fn.desk) (g.Q.Desk.seen l.desk) l.ticket (map pruned_of (take l.shard-index l.shard-items)) l.held;
  calls : ◌≡◌ {A = List Call} (g.Q.Desk.calls l.desk) (g.Q.Desk.calls l.fn.desk);
}
