use Rattle.std.proofs.Common.{inl, inr, refl, sym, ◌∙◌, subst}
use Rattle.esr_desk.specs.Evidence.{evidence}
use Rattle.esr_desk.specs.Grew.{grew_by_none}
use Rattle.esr_unit.specs.declared.ending.Ending.{Ending}
use Rattle.esr_unit.specs.Shown.{EndingShown}
use Rattle.esr_finish.specs.Refused.{EndsAs}
use Rattle.esr_finish.proofs.end.end_swap.Goals as goal

-- ---- the container failed in it

pub returns-then-is_fault-clause-ended : goal.returns-then-is_fault-clause-ended
returns-then-is_fault-clause-ended g c = inl (sym c.is_fault.ensures ∙ c.if-is_fault.true, refl, refl)

pub returns-then-is_fault-clause-grew : goal.returns-then-is_fault-clause-grew
returns-then-is_fault-clause-grew g c = grew_by_none g.Q.Desk.start c.args.ticket (g.Q.Desk.seen c.args.desk.now)

-- ---- it was refused for another reason

pub end_early-requires-clause-may : goal.end_early-requires-clause-may
end_early-requires-clause-may g c κs within = c.requires.may (sym c.is_fault.ensures ∙ c.if-is_fault.false)

pub end_early-requires-clause-shown : goal.end_early-requires-clause-shown
end_early-requires-clause-shown g c κs within =
    subst (λ (ending : Ending g.row.Q-Stage.Denot g.row.Q-Fetch.Denot g.row.Q-Shard.Denot g.row.Q-Target.Denot). EndingShown c.args.hand
    (evidence g.Q.Stage.Counted.faults g.Q.Fetch.Counted.faults g.Q.Shard.Counted.faults g.Q.Target.Counted.faults g.Q.Shard.Shard.told g.Q.Target.Target.told)
    ⊥ g.Q.Desk.start (g.Q.Desk.seen c.args.desk.now) c.args.ticket ending) (sym c.ending_of.ensures) (c.requires.shown (sym c.is_fault.ensures ∙ c.if-is_fault.false))

pub end_early-requires-clause-cause : goal.end_early-requires-clause-cause
end_early-requires-clause-cause g c κs within =
    subst (λ (ending : Ending g.row.Q-Stage.Denot g.row.Q-Fetch.Denot g.row.Q-Shard.Denot g.row.Q-Target.Denot). EndsAs c.args.hand ending) (sym c.ending_of.ensures) (c.requires.cause (sym c.is_fault.ensures ∙ c.if-is_fault.false))

pub returns-clause-ended : goal.returns-clause-ended
returns-clause-ended g c = inr (sym c.is_fault.ensures ∙ c.if-is_fault.false, c.end_early.ensures.given_up)
