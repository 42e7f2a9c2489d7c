use Rattle.std.proofs.Common.{◌≡◌, Option, map, sym, ◌∙◌, subst}
use Rattle.std.specs.List.{position}
use Rattle.esr_formats.specs.Ids.{number_of}
use Rattle.esr_formats.specs.Roots.{root_of}
use Rattle.esr_ops.specs.declared.refusal.Refusal.{Refusal}
use Rattle.esr_accept.specs.Asking.{open_cleanup}
use Rattle.esr_accept.specs.AskedDeletes.{is_unused, copying, reading, rule_on}
use Rattle.esr_accept.specs.Accepting.{IsRuledOn}
use Rattle.esr_accept.proofs.DeleteRules.{ruled}
use Rattle.esr_accept.proofs.delete.delete_refusal.Goals as goal

pub returns : goal.returns
returns c w is root_is named =
    let s = c.lists-list.result in
    let root = root_of c.args.root.now in
    let names = c.args.names.now in
    let uuids = map number_of c.args.uuids.now in
    let found : c.refusal.result ≡ rule_on (open_cleanup s.deletes.now) (position (is_unused root s.ops.now) names) (copying s.ops.now uuids) (reading s.restores.now uuids) =
    c.refusal.ensures
    ∙ (λ j. rule_on (open_cleanup c.lists-list.result.deletes.now) (position (is_unused root c.lists-list.result.ops.now) (c.as_slice.ensures j))
    (copying c.lists-list.result.ops.now (map number_of (c.as_slice-2.ensures j))) (reading c.lists-list.result.restores.now (map number_of (c.as_slice-2.ensures j)))) in
    subst (λ (o : Option Refusal). IsRuledOn w names o) (sym found)
    (ruled s.ops.now s.deletes.now s.completed.now s.tickets.now s.next_op s.restores.now c.args.progress.now c.lists-list.ensures.view c.lists-list.ensures.valid w is names root root_is uuids named)
