use Rattle.std.proofs.Common.{Ok, ap, ◌∙◌}
use Rattle.esr_ops.specs.Plan.{seat_of_code}
use Rattle.esr_steps.proofs.Swapping.{info_there}
use Rattle.esr_steps.proofs.renewing.made_info.Goals as goal

pub unreachable-requires : goal.unreachable-requires
unreachable-requires g c =
    info_there g.K.Told.start c.args.repo.now c.args.ticket c.requires.may.0 (seat_of_code c.seat-seat.result) c.plan.result.now c.rules.ensures.tracked c.requires.unpruned c.requires.may.1 c.requires.present c.seat-seat.ensures c.plan.ensures
    (c.finalized_info.ensures.none (c.in_ok-info.was ∙ ap Ok c.in_default.is))
