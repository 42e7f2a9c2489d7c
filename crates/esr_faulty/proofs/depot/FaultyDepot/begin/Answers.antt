use Rattle.std.proofs.Common.{refl}
use Rattle.esr_depot.specs.Calls.{SameImage, has_failed}
use Rattle.esr_faulty.proofs.Answered.{each_ok, none_sure, unsure, called, no_fault, has_cause}
use Rattle.esr_faulty.proofs.depot.FaultyDepot.begin.Goals as goal

pub returns-clause-name : goal.returns-clause-name
returns-clause-name g c = c.begin_in-answer.ensures.name

pub returns-clause-room : goal.returns-clause-room
returns-clause-room g c = c.begin_in-answer.ensures.room

pub returns-clause-contents : goal.returns-clause-contents
returns-clause-contents g c = each_ok c.begin_in-answer.result _ (λ s. refl)

pub returns-clause-count : goal.returns-clause-count
returns-clause-count g c = c.begin_in-answer.ensures.count

pub returns-clause-sure_stage : goal.returns-clause-sure_stage
returns-clause-sure_stage g c = each_ok c.begin_in-answer.result _ (λ s some. none_sure some)

pub returns-clause-call : goal.returns-clause-call
returns-clause-call g c =
    called c.begin_in-answer.result (λ x. SameImage) SameImage c.args.self.now.clock c.next_turn-turn.new.self.clock c.count.new.self.clock c.next_turn-turn.ensures.clock c.count.ensures.later c.count.ensures.clock (λ x. refl) refl

pub returns-clause-memory : goal.returns-clause-memory
returns-clause-memory g c = no_fault c.begin_in-answer.result c.args.self.now.faults c.next_turn-turn.new.self.faults c.count.new.self.faults c.next_turn-turn.ensures.faults c.count.ensures.faults

pub returns-clause-cause : goal.returns-clause-cause
returns-clause-cause g c = has_cause c.begin_in-answer.result c.args.self.now.faults c.next_turn-turn.new.self.faults c.count.new.self.faults c.next_turn-turn.ensures.faults c.count.ensures.more c.count.ensures.faults

pub returns-clause-sure : goal.returns-clause-sure
returns-clause-sure g c = unsure (has_failed c.begin_in-answer.result)
