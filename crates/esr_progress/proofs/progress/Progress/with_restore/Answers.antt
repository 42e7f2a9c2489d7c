use Rattle.std.proofs.Common.{◌≡◌, ◌<◌, ◌^◌, ℕ, List, ap, sym, ◌∙◌, subst, arith}
use Rattle.esr_ops.specs.Plan.{Plan, RestorePlan}
use Rattle.esr_ops.specs.Inside.{IsProgress}
use Rattle.esr_progress.proofs.Added.{progress_opened, plan_opened}
use Rattle.esr_progress.proofs.progress.Progress.with_restore.Goals as goal

pub invariant_of-new : goal.invariant_of-new
invariant_of-new c =
    let n = c.new.inside in
    subst (λ (rs : List (ℕ × RestorePlan)). IsProgress n.ops.items n.deletes.items n.next_op rs) (sym c.in_err-push_waiting.ensures.err) c.new.invariant

pub invariant_of-new-2 : goal.invariant_of-new-2
invariant_of-new-2 c =
    let next : c.new.inside.next_op ≡ c.args.self.now.next_op = ap (λ (p : Plan). p.next_op) (c.new.view_is ∙ c.in_ok-new.ensures) in
    let room : c.args.self.now.next_op < 2 ^ 62 = c.requires.room in
    progress_opened c.new.inside.ops.items c.new.inside.deletes.items c.new.inside.completed.items c.new.inside.tickets c.new.inside.next_op c.new.inside.restores.items c.push_waiting.new.restores.items c.new.invariant
    (omega arith) c.args.restore (c.requires.number ∙ sym next) _ c.in_ok-push_waiting.ensures.ok

pub returns : goal.returns
returns c =
    let next : c.new.inside.next_op ≡ c.args.self.now.next_op = ap (λ (p : Plan). p.next_op) (c.new.view_is ∙ c.in_ok-new.ensures) in
    plan_opened c.new.inside.ops.items c.new.inside.deletes.items c.new.inside.completed.items c.new.inside.tickets c.new.inside.next_op c.new.inside.restores.items c.push_waiting.new.restores.items c.new.invariant
    c.args.restore (c.requires.number ∙ sym next) c.in_ok-push_waiting.ensures.ok c.args.self.now (c.new.view_is ∙ c.in_ok-new.ensures)
