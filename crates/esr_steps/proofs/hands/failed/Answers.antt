use Rattle.std.proofs.Common.{Some, refl, sym, subst}
use Rattle.esr_desk.specs.declared.hand.Hand.{Hand}
use Rattle.esr_desk.specs.Start.{world_of}
use Rattle.esr_steps.specs.Hands.{IsPlanAfter}
use Rattle.esr_desk.specs.Hands.{MayFail}
use Rattle.esr_steps.proofs.Stepping.{seat_is_kept, reader_is_kept}
use Rattle.esr_steps.proofs.hands.failed.Goals as goal

pub unit_failed-requires : goal.unit_failed-requires
unit_failed-requires g c =
    let may = subst (λ (h : Hand). MayFail h g.K.Told.start c.args.repo.now c.args.who) c.in-Unit.is c.requires.may in
    seat_is_kept g.K.Told.start c.args.repo.now c.args.repo.now c.args.who c.plan.result.now refl may.out c.plan.ensures

pub delete_failed-requires : goal.delete_failed-requires
delete_failed-requires g c =
    let may = subst (λ (h : Hand). MayFail h g.K.Told.start c.args.repo.now c.args.who) c.in-Delete.is c.requires.may in
    seat_is_kept g.K.Told.start c.args.repo.now c.args.repo.now c.args.who c.plan-in-Delete.result.now refl may.out c.plan-in-Delete.ensures

pub shard_read-requires : goal.shard_read-requires
shard_read-requires g c =
    let may = subst (λ (h : Hand). MayFail h g.K.Told.start c.args.repo.now c.args.who) c.in-Restore.is c.requires.may in
    reader_is_kept g.K.Told.start c.args.repo.now c.args.repo.now c.args.who c.plan-in-Restore.result.now refl may c.plan-in-Restore.ensures

pub returns-in_ok-unit_failed-in-Unit : goal.returns-in_ok-unit_failed-in-Unit
returns-in_ok-unit_failed-in-Unit g c =
    subst (λ (h : Hand). IsPlanAfter h (world_of g.K.Told.start c.args.repo.now) c.args.who (Some c.in_ok-unit_failed-in-Unit.field-0))
    (sym c.in-Unit.is) (c.in_ok-unit_failed-in-Unit.ensures (world_of g.K.Told.start c.args.repo.now) c.plan.ensures (sym c.term.ensures.term))

pub returns-in_ok-delete_failed-in-Delete : goal.returns-in_ok-delete_failed-in-Delete
returns-in_ok-delete_failed-in-Delete g c =
    subst (λ (h : Hand). IsPlanAfter h (world_of g.K.Told.start c.args.repo.now) c.args.who (Some c.in_ok-delete_failed-in-Delete.field-0)) (sym c.in-Delete.is)
    (c.in_ok-delete_failed-in-Delete.ensures (world_of g.K.Told.start c.args.repo.now) c.plan-in-Delete.ensures (sym c.term-in-Delete.ensures.term))

pub returns-in_ok-shard_read-in-Restore : goal.returns-in_ok-shard_read-in-Restore
returns-in_ok-shard_read-in-Restore g c =
    subst (λ (h : Hand). IsPlanAfter h (world_of g.K.Told.start c.args.repo.now) c.args.who (Some c.in_ok-shard_read-in-Restore.field-0)) (sym c.in-Restore.is)
    (λ state ended. c.in_ok-shard_read-in-Restore.ensures (world_of g.K.Told.start c.args.repo.now) state ended c.plan-in-Restore.ensures)
