use Rattle.esr_core.specs.Entry.{DoneStep, HasEnded}
use Rattle.esr_results.specs.Results.{result_of}
use Rattle.esr_repo.specs.Stepping.{on_done}
use Rattle.esr_steps.proofs.Stepping.{seat_is_kept}
use Rattle.esr_steps.proofs.Doing.{may_note_done, done_ticket}
use Rattle.esr_repo.specs.Fresh.{free_fresh}
use Rattle.esr_steps.proofs.ending.end_shard.Goals as goal

pub shard_done-requires : goal.shard_done-requires
shard_done-requires g c = seat_is_kept g.K.Told.start c.args.repo.now c.check.new.self c.args.ticket c.plan.result.now c.in_ok-check.ensures.step.0 c.requires.may.out c.plan.ensures

pub note-requires-clause-may : goal.note-requires-clause-may
note-requires-clause-may g c =
    may_note_done g.K.Told.start c.args.repo.now c.check.new.self c.args.ticket
    (result_of c.args.outcome.now) c.plan.result.now c.in_ok-progress.progress c.next_id-next.result.number c.in_ok-check.ensures.step.0 c.rules.ensures.tracked c.requires.may
    c.plan.ensures c.in_ok-progress.ensures c.next_id-next.ensures.number

pub returns-clause-own : goal.returns-clause-own
returns-clause-own g c =
    on_done g.K.Told.start c.check.new.self c.note.new.self c.args.ticket (DoneStep (result_of c.args.outcome.now)) HasEnded c.note.result c.note.ensures.step
    (done_ticket g.K.Told.start c.args.repo.now c.check.new.self c.note.new.self c.args.ticket (result_of c.args.outcome.now) c.in_ok-check.ensures.step.0 c.rules.ensures.tracked c.requires.may)

pub check-requires-clause-fresh : goal.check-requires-clause-fresh
check-requires-clause-fresh g c = free_fresh g.K.Told.start c.args.repo.now c.args.ticket (DoneStep (result_of c.args.outcome.now)) tt
