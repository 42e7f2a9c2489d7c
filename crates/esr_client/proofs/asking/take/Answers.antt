use Rattle.std.proofs.Common.{subst}
use Rattle.esr_ops.specs.Units.{NextUnit}
use Rattle.esr_desk.specs.Start.{world_of}
use Rattle.esr_client.proofs.Taken.{may_note_nothing}
use Rattle.esr_core.specs.Entry.{TakeStep}
use Rattle.esr_repo.specs.Fresh.{free_fresh}
use Rattle.esr_client.proofs.asking.take.Goals as goal

pub note-requires-clause-may : goal.note-requires-clause-may
note-requires-clause-may g c =
    may_note_nothing g.K.Told.start c.check.new.self c.next_id-next.result.number (subst (NextUnit (world_of g.K.Told.start c.check.new.self)) c.in_default.is c.in_ok-progress.ensures.next) c.next_id-next.ensures.number

pub check-requires-clause-fresh : goal.check-requires-clause-fresh
check-requires-clause-fresh g c = free_fresh g.K.Told.start c.args.repo.now 0 TakeStep tt
