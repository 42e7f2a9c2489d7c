use Rattle.std.proofs.Common.{map, sym, ◌∙◌}
use Rattle.esr_core.specs.Deletes.{first_delete}
use Rattle.esr_formats.specs.Ids.{number_of}
use Rattle.esr_formats.specs.Roots.{root_of}
use Rattle.esr_accept.specs.AskedDeletes.{runs_in}
use Rattle.esr_accept.proofs.DeleteRules.{running_is}
use Rattle.esr_accept.proofs.delete.running_delete.Goals as goal

pub returns : goal.returns
returns c w is root_is term_is =
    let s = c.lists-list.result in
    c.running.ensures
    ∙ (λ j. first_delete (runs_in (c.snaps_of.ensures j) c.lists-list.result.tickets.now c.args.term (map number_of (c.as_slice.ensures j))) c.lists-list.result.deletes.now)
    ∙ sym (running_is s.ops.now s.deletes.now s.completed.now s.tickets.now s.next_op s.restores.now c.args.progress.now c.lists-list.ensures.view
    c.lists-list.ensures.valid w is c.args.term term_is (root_of c.args.root.now) root_is (map number_of c.args.uuids.now))
