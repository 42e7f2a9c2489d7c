use Rattle.std.proofs.Common.{◌≡◌, ◌<◌, ◌^◌, ◌++◌, ◌∷◌, [], map, refl, ap, ◌∙◌, arith}
use Rattle.esr_formats.specs.Ids.{number_of}
use Rattle.esr_ops.specs.Plan.{Plan}
use Rattle.esr_ops.specs.Deletes.{kept_delete}
use Rattle.esr_accept.specs.AskedDeletes.{aborted_by}
use Rattle.esr_progress.specs.Lowest.{ok_maps}
use Rattle.esr_accept.proofs.DeletePlans.{opened_keeps, opened_is}
use Rattle.esr_accept.proofs.delete.with_delete.Goals as goal

pub with_lists-requires : goal.with_lists-requires
with_lists-requires c =
    let s = c.lists-list.result in
    let uuids = map number_of c.args.uuids in
    let ops_are = c.in_ok-ops.ensures ∙ (λ j. map (aborted_by c.lists-list.result.tickets.now c.args.term (map number_of (c.as_slice.ensures j)) s.next_op) c.lists-list.result.ops.now) in
    let copied = c.in_ok-deletes.ensures in
    let deletes_are = c.in_ok-push.ensures.items ∙ (λ j. copied j ++ c.new.ensures j ∷ []) in
    let number : s.next_op ≡ c.args.progress.now.next_op = ap (λ (q : Plan). q.next_op) c.lists-list.ensures.view in
    let room : c.args.progress.now.next_op < 2 ^ 62 = c.requires.room in
    opened_keeps s.ops.now s.deletes.now s.completed.now s.tickets.now s.next_op s.restores.now c.args.progress.now c.lists-list.ensures.view c.lists-list.ensures.valid
    c.args.term uuids s.next_op c.in_ok-ops.ops.items ops_are c.push.new.self.items (s.next_op, kept_delete uuids) refl deletes_are (omega (arith, number, room))

pub returns : goal.returns
returns c =
    let s = c.lists-list.result in
    let uuids = map number_of c.args.uuids in
    let ops_are = c.in_ok-ops.ensures ∙ (λ j. map (aborted_by c.lists-list.result.tickets.now c.args.term (map number_of (c.as_slice.ensures j)) s.next_op) c.lists-list.result.ops.now) in
    let copied = c.in_ok-deletes.ensures in
    let deletes_are = c.in_ok-push.ensures.items ∙ (λ j. copied j ++ c.new.ensures j ∷ []) in
    ok_maps c.with_lists.result c.with_lists.ensures
    (λ p new_is w is term_is.
    opened_is s.ops.now s.deletes.now s.completed.now s.tickets.now s.next_op s.restores.now c.args.progress.now c.lists-list.ensures.view
    c.lists-list.ensures.valid c.args.term w is term_is uuids s.next_op c.in_ok-ops.ops.items ops_are c.push.new.self.items refl deletes_are p new_is)
