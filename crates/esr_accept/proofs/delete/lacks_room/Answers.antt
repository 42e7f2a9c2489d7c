use Rattle.std.proofs.Common.{ℕ, ◌&&◌, sym, ap, ◌∙◌}
use Rattle.std.specs.Prelude.{not, nat_lt}
use Rattle.esr_core.specs.Allowed.{open_count}
use Rattle.esr_accept.proofs.DeleteRules.{count_is}
use Rattle.esr_accept.proofs.delete.lacks_room.Goals as goal

pub returns-then-is_joined : goal.returns-then-is_joined
returns-then-is_joined c w is = sym (ap (λ b. not b && not (nat_lt (open_count w) 1000)) (sym c.is_joined.ensures ∙ c.if-is_joined.true))

pub returns : goal.returns
returns c w is =
    let s = c.lists-list.result in
    c.is_full.ensures
    ∙ ap (λ (n : ℕ). not (nat_lt n 1000)) (sym (count_is s.ops.now s.deletes.now s.completed.now s.tickets.now s.next_op s.restores.now c.args.progress.now c.lists-list.ensures.view c.lists-list.ensures.valid w is))
    ∙ sym (ap (λ b. not b && not (nat_lt (open_count w) 1000)) (sym c.is_joined.ensures ∙ c.if-is_joined.false))
