use Rattle.std.proofs.Common.{◌≡◌, ◌++◌, List, length, map}
use Rattle.esr_names.specs.declared.blob.BlobName.{BlobName as CodeName}
use Rattle.esr_formats.specs.Names.{name_of}
use Rattle.esr_reach.specs.Names.{AreOnce}
use Rattle.esr_desk.specs.Start.{ticket_of}
use Rattle.esr_desk.specs.Grew.{GrewBy}
use Rattle.esr_desk.specs.Calls.{Call}
use Rattle.esr_delete.specs.Removed.{AreUnnamed, HasRemoved}
use Rattle.esr_delete.proofs.remove.remove_all.Given as goal

abbrev pub invariant-loop-rest : goal.invariant-loop-rest
invariant-loop-rest g l =
    let s = g.Q.Desk.start in
    let old = g.Q.Desk.seen l.fn.desk in
    let now = g.Q.Desk.seen l.desk in
    record {
      front : List CodeName;
      whole : l.fn.names ≡ front ++ l.rest;
      removed : HasRemoved l.clean s old now l.ticket (map name_of front);
      once : AreOnce (map name_of l.rest);
      new : AreUnnamed s now l.ticket (map name_of l.rest);
      own : ticket_of s now l.ticket ≡ ticket_of s old l.ticket;
      grew : GrewBy s l.ticket old now;
      calls : ◌≡◌ {A = List Call} (g.Q.Desk.calls l.desk) (g.Q.Desk.calls l.fn.desk);
    }

abbrev pub decreases-loop-rest : goal.decreases-loop-rest
decreases-loop-rest g l = length l.rest
