use Rattle.esr_steps.proofs.Swapping.{may_raise}
use Rattle.std.proofs.Common.{refl}
use Rattle.esr_steps.proofs.Stepping.{seat_is_kept}
use Rattle.esr_steps.proofs.renewing.raised.Goals as goal

pub raised-requires : goal.raised-requires
raised-requires g c = seat_is_kept g.K.Told.start c.args.repo.now c.args.repo.now c.args.ticket c.plan.result.now refl c.requires.may.out c.plan.ensures

pub returns : goal.returns
returns g c =
    may_raise g.K.Told.start c.args.repo.now c.args.ticket c.args.generation c.args.cluster c.plan.result.now c.in_ok-progress.progress
    c.next_id.result.number c.rules.ensures.infos c.requires.may c.requires.present c.requires.pending c.requires.room c.requires.record c.plan.ensures
    c.in_ok-progress.ensures c.next_id.ensures.number
