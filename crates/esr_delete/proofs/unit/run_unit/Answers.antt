use Rattle.std.proofs.Common.{◌≡◌, true, false, List, [], map}
use Rattle.esr_names.specs.declared.ids.Id.{Id}
use Rattle.esr_formats.specs.Ids.{number_of}
use Rattle.esr_desk.specs.Start.{ticket_of}
use Rattle.esr_delete.proofs.Uniting.{IsFresh, took_delete, took_cleanup}
use Rattle.esr_delete.proofs.unit.run_unit.Goals as goal
use Rattle.esr_delete.proofs.unit.run_unit.Goals.{In-Delete, In-Cleanup}

-- ---- a delete

delete_at : (g : _) (c : In-Delete g) → IsFresh (ticket_of g.Q.Desk.start (g.Q.Desk.seen c.args.desk.now) c.args.unit.now.ready.ticket) false c.args.unit.now.ready.copy (map number_of c.in-Delete.uuids)
delete_at g c =
    let unit = c.args.unit.now in
    took_delete (ticket_of g.Q.Desk.start (g.Q.Desk.seen c.args.desk.now) unit.ready.ticket) unit.ready.work c.in-Delete.uuids unit.new_root unit.ready.op unit.ready.copy c.in-Delete.is c.requires.fresh

pub run-requires-clause-may : goal.run-requires-clause-may
run-requires-clause-may g c κs within = (delete_at g (goal.at.run-requires-clause-may g c).In-Delete).free

pub run-requires-clause-unread : goal.run-requires-clause-unread
run-requires-clause-unread g c κs within = (delete_at g (goal.at.run-requires-clause-unread g c).In-Delete).unread

pub run-requires-clause-safe : goal.run-requires-clause-safe
run-requires-clause-safe g c κs within = (delete_at g (goal.at.run-requires-clause-safe g c).In-Delete).safe

-- ---- a cleanup, which names none

cleanup_at : (g : _) (c : In-Cleanup g) (none : List Id) → none ≡ [] → IsFresh (ticket_of g.Q.Desk.start (g.Q.Desk.seen c.args.desk.now) c.args.unit.now.ready.ticket) true c.args.unit.now.ready.copy (map number_of none)
cleanup_at g c none is =
    let unit = c.args.unit.now in
    took_cleanup (ticket_of g.Q.Desk.start (g.Q.Desk.seen c.args.desk.now) unit.ready.ticket) unit.ready.work none unit.new_root unit.ready.op unit.ready.copy is c.in-Cleanup.is c.requires.fresh

pub run-requires-in-Cleanup-clause-may : goal.run-requires-in-Cleanup-clause-may
run-requires-in-Cleanup-clause-may g c κs within = (cleanup_at g (goal.at.run-requires-in-Cleanup-clause-may g c).In-Cleanup c.new-none.result c.new-none.ensures).free

pub run-requires-in-Cleanup-clause-unread : goal.run-requires-in-Cleanup-clause-unread
run-requires-in-Cleanup-clause-unread g c κs within = (cleanup_at g (goal.at.run-requires-in-Cleanup-clause-unread g c).In-Cleanup c.new-none.result c.new-none.ensures).unread

pub run-requires-in-Cleanup-clause-safe : goal.run-requires-in-Cleanup-clause-safe
run-requires-in-Cleanup-clause-safe g c κs within = (cleanup_at g (goal.at.run-requires-in-Cleanup-clause-safe g c).In-Cleanup c.new-none.result c.new-none.ensures).safe
