use Rattle.esr_core.specs.Entry.{ReadStep, RestoredShard, HasEnded}
use Rattle.esr_repo.specs.Stepping.{on_done}
use Rattle.esr_steps.proofs.Stepping.{reader_is_kept}
use Rattle.esr_steps.proofs.Reading.{may_note_restored, restored_reader}
use Rattle.esr_repo.specs.Fresh.{free_fresh}
use Rattle.esr_steps.proofs.ending.end_restore.Goals as goal

pub shard_read-requires : goal.shard_read-requires
shard_read-requires g c = reader_is_kept g.K.Told.start c.args.repo.now c.check.new.self c.args.ticket c.plan.result.now c.in_ok-check.ensures.step.0 c.requires.may.out c.plan.ensures

pub note-requires-clause-may : goal.note-requires-clause-may
note-requires-clause-may g c =
    may_note_restored g.K.Told.start c.args.repo.now c.check.new.self c.args.ticket c.args.files c.args.bytes c.plan.result.now c.in_ok-ended.ended c.next_id-next.result.number c.in_ok-check.ensures.step.0 c.rules.ensures.read_tracked c.requires.may
    c.plan.ensures c.in_ok-ended.ensures c.next_id-next.ensures.number

pub returns-clause-own : goal.returns-clause-own
returns-clause-own g c =
    on_done g.K.Told.start c.check.new.self c.note.new.self c.args.ticket (ReadStep (RestoredShard c.args.files c.args.bytes)) HasEnded c.note.result c.note.ensures.step
    (restored_reader g.K.Told.start c.args.repo.now c.check.new.self c.note.new.self c.args.ticket c.args.files c.args.bytes c.in_ok-check.ensures.step.0 c.rules.ensures.read_tracked c.requires.may)

pub check-requires-clause-fresh : goal.check-requires-clause-fresh
check-requires-clause-fresh g c = free_fresh g.K.Told.start c.args.repo.now c.args.ticket (ReadStep (RestoredShard c.args.files c.args.bytes)) tt
