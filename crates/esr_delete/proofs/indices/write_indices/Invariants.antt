use Rattle.std.proofs.Common.{◌≡◌, ◌+◌, List, map, take}
use Rattle.esr_model.specs.Delete.{kept_count, pruned_blobs}
use Rattle.esr_formats.specs.Ids.{number_of}
use Rattle.esr_results.specs.Pruned.{pruned_of}
use Rattle.esr_desk.specs.Start.{formats_of, ticket_of}
use Rattle.esr_desk.specs.Calls.{Call}
use Rattle.esr_desk.specs.Told.{TellsAll}
use Rattle.esr_finish.specs.Went.{Went}
use Rattle.esr_delete.specs.Planned.{Notes}
use Rattle.esr_delete.proofs.indices.write_indices.Given as goal

abbrev pub invariant-loop-shard : goal.invariant-loop-shard
invariant-loop-shard g l =
    let s = g.Q.Desk.start in
    let old = g.Q.Desk.seen l.fn.desk in
    let now = g.Q.Desk.seen l.desk in
    let before = map pruned_of (take l.shard-index l.shard-items) in
    record {
      notes : Notes s (ticket_of s old l.ticket) (ticket_of s now l.ticket) (pruned_blobs (formats_of s) (ticket_of s old l.ticket).read (map number_of l.left) l.draft.first.number before);
      next : l.next.number ≡ l.draft.first.number + kept_count before;
      tells : TellsAll s now l.ticket;
      went : Went s old now l.ticket;
      calls : ◌≡◌ {A = List Call} (g.Q.Desk.calls l.desk) (g.Q.Desk.calls l.fn.desk);
    }
