use Rattle.std.proofs.Common.{map}
use Rattle.esr_formats.specs.Ids.{number_of}
use Rattle.esr_progress.specs.Lowest.{ok_maps}
use Rattle.esr_accept.proofs.DeletePlans.{merged_keeps, merged_is}
use Rattle.esr_accept.proofs.delete.merged.Goals as goal

pub with_lists-requires : goal.with_lists-requires
with_lists-requires c =
    let s = c.lists-list.result in
    let uuids = map number_of c.args.uuids.now in
    let ops_are = c.in_ok-ops.ensures in
    let deletes_are = c.in_ok-deletes.ensures in
    merged_keeps s.ops.now s.deletes.now s.completed.now s.tickets.now s.next_op s.restores.now c.args.progress.now c.lists-list.ensures.view
    c.lists-list.ensures.valid c.args.term uuids c.args.number c.in_ok-ops.ops.items ops_are c.in_ok-deletes.deletes.items deletes_are

pub returns : goal.returns
returns c =
    let s = c.lists-list.result in
    let uuids = map number_of c.args.uuids.now in
    let ops_are = c.in_ok-ops.ensures in
    let deletes_are = c.in_ok-deletes.ensures in
    ok_maps c.with_lists.result c.with_lists.ensures
    (λ p new_is w names is term_is named there.
    merged_is s.ops.now s.deletes.now s.completed.now s.tickets.now s.next_op s.restores.now c.args.progress.now c.lists-list.ensures.view c.lists-list.ensures.valid
    c.args.term w is term_is uuids c.args.number c.in_ok-ops.ops.items ops_are c.in_ok-deletes.deletes.items names named deletes_are there p new_is)
