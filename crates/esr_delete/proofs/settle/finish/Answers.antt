use Rattle.std.proofs.Common.{◌∙◌, Bool, inl, inr, refl, sym, subst}
use Rattle.std.proofs.lemmas.Result.{on_ok_weaker}
use Rattle.esr_desk.specs.declared.unit.UnitRefusal.TheVariants.{Stopped}
use Rattle.esr_desk.specs.Evidence.{evidence}
use Rattle.esr_unit.specs.Refusals.{passed_on}
use Rattle.esr_delete.specs.Refused.{IsCleanRefused, IsLateRefused}
use Rattle.esr_delete.specs.Removed.{IsCleared}
use Rattle.esr_delete.proofs.Uniting.{if_err}
use Rattle.esr_delete.proofs.settle.finish.Goals as goal

-- ---- of a cleanup

pub clean_up-requires-clause-mode : goal.clean_up-requires-clause-mode
clean_up-requires-clause-mode g c κs within = c.requires.mode ∙ c.if-clean.true

pub clean_up-requires-clause-put : goal.clean_up-requires-clause-put
clean_up-requires-clause-put g c κs within = c.requires.put c.if-clean.true

pub returns-then-clean-clause-ok : goal.returns-then-clean-clause-ok
returns-then-clean-clause-ok g c =
    on_ok_weaker c.clean_up.result (λ cleared. subst (λ (b : Bool). IsCleared b g.Q.Desk.start (g.Q.Desk.seen c.args.desk.now) (g.Q.Desk.seen c.clean_up.new.desk) c.args.ticket) (sym c.if-clean.true) cleared) c.clean_up.ensures.ok

pub returns-then-clean-clause-refused : goal.returns-then-clean-clause-refused
returns-then-clean-clause-refused g c =
    let s = g.Q.Desk.start in
    let old = g.Q.Desk.seen c.args.desk.now in
    let new = g.Q.Desk.seen c.clean_up.new.desk in
    let who = c.args.ticket in
    let e = evidence g.Q.Stage.Counted.faults g.Q.Fetch.Counted.faults g.Q.Shard.Counted.faults g.Q.Target.Counted.faults g.Q.Shard.Shard.told g.Q.Target.Target.told in
    if_err c.clean_up.result (IsCleanRefused e s old new who) (IsLateRefused c.args.clean e s old new who) (λ x h. inr (c.if-clean.true, h)) c.clean_up.ensures.refused

-- ---- of a delete

pub clear-requires-clause-mode : goal.clear-requires-clause-mode
clear-requires-clause-mode g c κs within = c.requires.mode ∙ c.if-clean.false

pub returns-in_err-clear-clause-refused : goal.returns-in_err-clear-clause-refused
returns-in_err-clear-clause-refused g c =
    let s = g.Q.Desk.start in
    let old = g.Q.Desk.seen c.args.desk.now in
    let new = g.Q.Desk.seen c.clear.new.desk in
    let refusal = c.in_err-clear.field-0.0 in
    let e = evidence g.Q.Stage.Counted.faults g.Q.Fetch.Counted.faults g.Q.Shard.Counted.faults g.Q.Target.Counted.faults g.Q.Shard.Shard.told g.Q.Target.Target.told in
    passed_on c.from_residual.result (IsLateRefused c.args.clean e s old new c.args.ticket) (Stopped refusal) c.from_residual.ensures.1 (inl (c.if-clean.false, (refusal, refl, c.in_err-clear.ensures.kept, c.in_err-clear.ensures.refused)))

pub returns-clause-ok : goal.returns-clause-ok
returns-clause-ok g c = subst (λ (b : Bool). IsCleared b g.Q.Desk.start (g.Q.Desk.seen c.args.desk.now) (g.Q.Desk.seen c.clear.new.desk) c.args.ticket) (sym c.if-clean.false) c.in_ok-clear.ensures.ok
