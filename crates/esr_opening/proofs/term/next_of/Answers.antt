use Rattle.std.proofs.Common.{ℕ, ◌^◌, ◌≤◌, ap, ◌∙◌, subst}
use Rattle.esr_record.specs.Record.{Record}
use Rattle.esr_ops.specs.Plan.{Plan}
use Rattle.esr_opening.specs.Terms.{plan_of}
use Rattle.esr_opening.proofs.term.next_of.Goals as goal

pub returns-clause-list : goal.returns-clause-list
returns-clause-list c = c.in_ok-progress.ensures.list ∙ ap (λ (r : Record). plan_of r) c.cluster.view_is

pub returns-clause-few : goal.returns-clause-few
returns-clause-few c = subst (λ (n : ℕ). n ≤ 2 ^ 61) (ap (λ (p : Plan). p.next_op) (c.in_ok-progress.ensures.list ∙ ap (λ (r : Record). plan_of r) c.cluster.view_is)) c.in_ok-progress.ensures.few
