use Rattle.std.proofs.Common.{map, ◌∙◌}
use Rattle.esr_core.specs.Deletes.{is_listed_uuid}
use Rattle.esr_formats.specs.Roots.{root_snap_of}
use Rattle.esr_ops.proofs.NamedUuids.{listed_so, listed_not}
use Rattle.esr_ops.proofs.delete.list_the_same.Goals as goal

pub returns-then-are_listed_in : goal.returns-then-are_listed_in
returns-then-are_listed_in c =
    listed_so (is_listed_uuid (map root_snap_of c.args.snaps.now)) c.args.all.now c.args.uuids.now c.are_listed_in.result c.listed_are_in.result c.if-are_listed_in.true c.are_listed_in.ensures c.listed_are_in.ensures

pub returns-else-are_listed_in : goal.returns-else-are_listed_in
returns-else-are_listed_in c =
    c.if-are_listed_in.false
    ∙ listed_not (is_listed_uuid (map root_snap_of c.args.snaps.now)) c.args.all.now c.args.uuids.now c.are_listed_in.result c.if-are_listed_in.false c.are_listed_in.ensures
