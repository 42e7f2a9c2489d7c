use Rattle.std.proofs.Common.{[], map, ◌∙◌}
use Rattle.esr_formats.specs.Ids.{number_of}
use Rattle.esr_formats.specs.Roots.{root_of}
use Rattle.esr_accept.specs.AskedDeletes.{uuids_named}
use Rattle.esr_progress.specs.Lowest.{ok_maps}
use Rattle.esr_accept.proofs.DeleteRules.{named_is}
use Rattle.esr_accept.proofs.delete.named.Goals as goal

pub returns-clause-named : goal.returns-clause-named
returns-clause-named c =
    let s = c.lists-list.result in
    let root = root_of c.args.root.now in
    ok_maps c.uuids_named.result c.uuids_named.ensures.named
    (λ v e w is root_is.
    named_is s.ops.now s.deletes.now s.completed.now s.tickets.now s.next_op s.restores.now c.args.progress.now c.lists-list.ensures.view c.lists-list.ensures.valid w is root root_is c.args.names.now (map number_of v)
    (e ∙ λ j. uuids_named root c.lists-list.result.ops.now [] (c.as_slice.ensures j)))
