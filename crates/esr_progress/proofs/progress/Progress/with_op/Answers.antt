use Rattle.std.proofs.Common.{◌≡◌, ◌<◌, ◌^◌, ℕ, List, ap, sym, ◌∙◌, subst, arith}
use Rattle.esr_core.specs.World.{Op}
use Rattle.esr_ops.specs.Plan.{Plan}
use Rattle.esr_ops.specs.Inside.{IsProgress}
use Rattle.esr_progress.proofs.Added.{progress-push, plan-push}
use Rattle.esr_progress.proofs.progress.Progress.with_op.Goals as goal

pub invariant_of-new-in_err-push : goal.invariant_of-new-in_err-push
invariant_of-new-in_err-push c =
    let n = c.new.inside in
    subst (λ (es : List (ℕ × Op)). IsProgress es n.deletes.items n.next_op n.restores.items) (sym c.in_err-push.ensures.items) c.new.invariant

pub invariant_of-new-2 : goal.invariant_of-new-2
invariant_of-new-2 c =
    let next : c.new.inside.next_op ≡ c.args.self.now.next_op = ap (λ (p : Plan). p.next_op) (c.new.view_is ∙ c.in_ok-new.ensures) in
    let room : c.args.self.now.next_op < 2 ^ 62 = c.requires.room in
    progress-push c.new.inside.ops.items c.new.inside.deletes.items c.new.inside.next_op c.new.inside.restores.items c.args.op c.push.new.self.items c.new.invariant (omega arith) (c.requires.number ∙ sym next) c.in_ok-push.ensures.items

pub returns : goal.returns
returns c =
    let next : c.new.inside.next_op ≡ c.args.self.now.next_op = ap (λ (p : Plan). p.next_op) (c.new.view_is ∙ c.in_ok-new.ensures) in
    plan-push c.new.inside.ops.items c.new.inside.deletes.items c.new.inside.completed.items c.note_completed.new.completed.items
    c.new.inside.tickets c.new.inside.next_op c.new.inside.restores.items c.args.op c.push.new.self.items c.args.self.now c.new.invariant
    (c.new.view_is ∙ c.in_ok-new.ensures) (c.requires.number ∙ sym next) c.in_ok-push.ensures.items c.in_ok-note_completed.ensures
