use Rattle.std.proofs.Common.{◌≡◌, ℕ, eqb, ap, ◌∙◌, rules}
use Rattle.std.proofs.lemmas.Fn.{filter_same}
use Rattle.std.specs.Prelude.{not}
use Rattle.std.specs.List.{filter}
use Rattle.esr_core.specs.World.{Op, Deletion}
use Rattle.esr_ops.specs.Plan.{Plan}
use Rattle.esr_ops.specs.Inside.{plan_with}
use Rattle.esr_progress.specs.Changes.{without_op}
use Rattle.esr_progress.proofs.Changing.{left_keeps, left_is}
use Rattle.esr_progress.proofs.progress.Progress.remove_op.Goals as goal

ops : (c : goal.After-retain-2) → c.retain.new.self.items ≡ filter (λ (e : ℕ × Op). not (eqb e.0 c.args.number)) c.self.inside.ops.items
ops c = filter_same _ _ _ (λ x b f' k. search rules) _ _ c.retain.ensures.filtered

deletes : (c : goal.After-retain-2) → c.retain-2.new.self.items ≡ filter (λ (e : ℕ × Deletion). not (eqb e.0 c.args.number)) c.self.inside.deletes.items
deletes c = filter_same _ _ _ (λ x b f' k. search rules) _ _ c.retain-2.ensures.filtered

pub invariant_of-self : goal.invariant_of-self
invariant_of-self c = rw (ops c, deletes c) (left_keeps c.self.inside.ops.items c.self.inside.deletes.items c.args.number c.self.inside.next_op c.self.inside.restores.items c.self.invariant)

pub returns : goal.returns
returns c =
    (λ j. plan_with (ops c j) (deletes c j) c.self.inside.completed.items c.self.inside.tickets c.self.inside.next_op c.self.inside.restores.items)
    ∙ left_is c.self.inside.ops.items c.self.inside.deletes.items c.args.number c.self.inside.completed.items c.self.inside.tickets c.self.inside.next_op c.self.inside.restores.items
    ∙ ap (λ (p : Plan). without_op p c.args.number) c.self.view_is
