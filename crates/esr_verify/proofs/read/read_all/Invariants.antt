use Rattle.std.proofs.Common.{map, take}
use Rattle.esr_formats.specs.Names.{name_of}
use Rattle.esr_desk.specs.Own.{caller_of}
use Rattle.esr_verify.specs.Steps.{reading}
use Rattle.esr_verify.specs.Went.{Went, Kept}
use Rattle.esr_verify.specs.Done.{HasDone, HasMade}
use Rattle.esr_verify.proofs.read.read_all.Given as goal

abbrev pub invariant-loop-name : goal.invariant-loop-name
invariant-loop-name g l =
    record {
      went : Went (g.Q.Desk.seen l.fn.desk) (g.Q.Desk.seen l.desk) (reading (map name_of (take l.name-index l.names)));
      done : HasDone g.Q.Desk.start (caller_of g.Q.Desk.start (g.Q.Desk.seen l.desk)) l.id.number (map name_of l.names) (map name_of (take l.name-index l.names));
      made : HasMade g.Q.Desk.start (g.Q.Desk.seen l.desk) l.id.number (map name_of l.names) (map name_of (take l.name-index l.names));
      kept : Kept g.Q.Desk.start (g.Q.Desk.seen l.fn.desk) (g.Q.Desk.seen l.desk) l.id.number;
    }
