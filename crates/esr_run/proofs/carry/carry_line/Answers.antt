use Rattle.std.proofs.Common.{◌≡◌, ◌+◌, ◌≤◌, sym, ◌∙◌, subst, arith}
use Rattle.esr_script.specs.declared.item.Item.{Item}
use Rattle.esr_complete.specs.Lines.{steps_of_item}
use Rattle.esr_drive.specs.Takes.{idle_takes}
use Rattle.esr_run.specs.Made.{LineMade, AddsOnly}
use Rattle.esr_run.specs.Waits.{waits_in, LineElects}
use Rattle.esr_run.proofs.Waiting.{wait_is, no_check, no_verify, no_wait, other_elects}
use Rattle.esr_run.proofs.carry.carry_line.Goals as goal

pub carry_step-answer-requires-clause-alone : goal.carry_step-answer-requires-clause-alone
carry_step-answer-requires-clause-alone g c κs within = c.requires.waits.alone

pub carry_step-answer-requires-clause-some : goal.carry_step-answer-requires-clause-some
carry_step-answer-requires-clause-some g c = let some : 1 ≤ c.args.crew.workers = c.requires.waits.some in omega (arith, some)

pub carry_step-answer-requires-clause-few : goal.carry_step-answer-requires-clause-few
carry_step-answer-requires-clause-few g c κs within = c.requires.waits.few

pub carry_step-answer-requires-clause-ops : goal.carry_step-answer-requires-clause-ops
carry_step-answer-requires-clause-ops g c κs within = c.requires.waits.workable.ops

pub carry_step-answer-requires-clause-other : goal.carry_step-answer-requires-clause-other
carry_step-answer-requires-clause-other g c κs within = sym c.is_wait.ensures ∙ c.if-is_wait.false

pub returns-then-is_wait-clause-made : goal.returns-then-is_wait-clause-made
returns-then-is_wait-clause-made g c =
    subst (λ (i : Item). LineMade g.Q.Desk.start (steps_of_item c.args.moment i) (g.Q.Desk.seen c.args.desk) (g.Q.Desk.seen c.wait.result.0) c.wait.result.1)
    (sym (wait_is c.args.item.now (sym c.is_wait.ensures ∙ c.if-is_wait.true))) c.wait.ensures.made

pub returns-then-is_wait-clause-checked : goal.returns-then-is_wait-clause-checked
returns-then-is_wait-clause-checked g c check = absurd (no_check c.args.item.now (wait_is c.args.item.now (sym c.is_wait.ensures ∙ c.if-is_wait.true)) check)

pub returns-then-is_wait-clause-ended : goal.returns-then-is_wait-clause-ended
returns-then-is_wait-clause-ended g c wait = c.wait.ensures.ended

pub returns-then-is_wait-clause-takes : goal.returns-then-is_wait-clause-takes
returns-then-is_wait-clause-takes g c =
    subst (λ (i : Item). idle_takes (g.Q.Desk.seen c.wait.result.0) ≤ idle_takes (g.Q.Desk.seen c.args.desk) + waits_in c.args.crew.workers i) (sym (wait_is c.args.item.now (sym c.is_wait.ensures ∙ c.if-is_wait.true))) c.wait.ensures.takes

pub returns-then-is_wait-clause-elects : goal.returns-then-is_wait-clause-elects
returns-then-is_wait-clause-elects g c =
    subst (λ (i : Item). LineElects c.args.crew.elections i (g.Q.Desk.seen c.args.desk) (g.Q.Desk.seen c.wait.result.0) c.wait.result.1) (sym (wait_is c.args.item.now (sym c.is_wait.ensures ∙ c.if-is_wait.true))) c.wait.ensures.elects

pub returns-then-is_wait-clause-begun : goal.returns-then-is_wait-clause-begun
returns-then-is_wait-clause-begun g c verify = absurd (no_verify c.args.item.now (wait_is c.args.item.now (sym c.is_wait.ensures ∙ c.if-is_wait.true)) verify)

pub returns-then-is_wait-clause-only : goal.returns-then-is_wait-clause-only
returns-then-is_wait-clause-only g c = subst (λ (i : Item). AddsOnly i (g.Q.Desk.seen c.args.desk) (g.Q.Desk.seen c.wait.result.0)) (sym (wait_is c.args.item.now (sym c.is_wait.ensures ∙ c.if-is_wait.true))) c.wait.ensures.only

pub returns-then-is_wait-clause-verified : goal.returns-then-is_wait-clause-verified
returns-then-is_wait-clause-verified g c checks asks may = c.wait.ensures.verified checks may

pub returns-clause-ended : goal.returns-clause-ended
returns-clause-ended g c wait = absurd (no_wait c.args.item.now (sym c.is_wait.ensures ∙ c.if-is_wait.false) wait)

pub returns-clause-takes : goal.returns-clause-takes
returns-clause-takes g c =
    let same : idle_takes (g.Q.Desk.seen c.carry_step-answer.new.desk) ≡ idle_takes (g.Q.Desk.seen c.args.desk) = c.carry_step-answer.ensures.takes in
    omega (arith, same)

pub returns-clause-elects : goal.returns-clause-elects
returns-clause-elects g c =
    other_elects c.args.crew.elections c.args.item.now (g.Q.Desk.seen c.args.desk) (g.Q.Desk.seen c.carry_step-answer.new.desk) c.carry_step-answer.result (sym c.is_wait.ensures ∙ c.if-is_wait.false) c.carry_step-answer.ensures.elects
