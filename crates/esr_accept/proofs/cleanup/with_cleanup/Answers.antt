use Rattle.std.proofs.Common.{◌≡◌, ◌<◌, ◌^◌, ◌++◌, ◌∷◌, [], ap, ◌∙◌, arith}
use Rattle.esr_ops.specs.Plan.{Plan}
use Rattle.esr_progress.specs.Lowest.{ok_maps}
use Rattle.esr_accept.proofs.Cleanups.{cleanup_keeps, cleanup_is}
use Rattle.esr_accept.proofs.cleanup.with_cleanup.Goals as goal

pub with_lists-requires : goal.with_lists-requires
with_lists-requires c =
    let s = c.lists-list.result in
    let ops_are = c.in_ok-ops.ensures in
    let copied = c.in_ok-deletes.ensures in
    let deletes_are = c.in_ok-push.ensures.items ∙ (λ j. copied j ++ c.cleanup.ensures j ∷ []) in
    let number : s.next_op ≡ c.args.progress.now.next_op = ap (λ (q : Plan). q.next_op) c.lists-list.ensures.view in
    let room : c.args.progress.now.next_op < 2 ^ 62 = c.requires.room in
    cleanup_keeps s.ops.now s.deletes.now s.completed.now s.tickets.now s.next_op s.restores.now c.args.progress.now c.lists-list.ensures.view
    c.lists-list.ensures.valid c.in_ok-ops.ops.items ops_are c.push.new.self.items deletes_are (omega (arith, number, room))

pub returns : goal.returns
returns c =
    let s = c.lists-list.result in
    let ops_are = c.in_ok-ops.ensures in
    let copied = c.in_ok-deletes.ensures in
    let deletes_are = c.in_ok-push.ensures.items ∙ (λ j. copied j ++ c.cleanup.ensures j ∷ []) in
    ok_maps c.with_lists.result c.with_lists.ensures
    (λ p new_is w is.
    cleanup_is s.ops.now s.deletes.now s.completed.now s.tickets.now s.next_op s.restores.now c.args.progress.now c.lists-list.ensures.view c.lists-list.ensures.valid w is c.in_ok-ops.ops.items ops_are c.push.new.self.items deletes_are p new_is)
