use Rattle.std.proofs.Common.{◌≡◌, List, map, take}
use Rattle.esr_model.specs.Values.{IndexRef}
use Rattle.esr_formats.specs.Refs.{ref_of_code}
use Rattle.esr_desk.specs.Start.{formats_of}
use Rattle.esr_desk.specs.Calls.{Call}
use Rattle.esr_desk.specs.Told.{TellsAll}
use Rattle.esr_finish.specs.Blobs.{index_blob}
use Rattle.esr_finish.specs.Ticket.{Puts}
use Rattle.esr_finish.specs.Went.{Went}
use Rattle.esr_finish.proofs.metadata.put_indices.Given as goal

abbrev pub invariant-loop-index : goal.invariant-loop-index
invariant-loop-index g l =
    let s = g.Q.Desk.start in
    let old = g.Q.Desk.seen l.fn.desk in
    let now = g.Q.Desk.seen l.desk in
    record {
      puts : Puts s old now l.ticket (map (λ (r : IndexRef). index_blob (formats_of s) l.info-inside.uuid.number r) (map ref_of_code (take l.index-index l.index-items)));
      tells : TellsAll s now l.ticket;
      went : Went s old now l.ticket;
      calls : ◌≡◌ {A = List Call} (g.Q.Desk.calls l.desk) (g.Q.Desk.calls l.fn.desk);
    }
