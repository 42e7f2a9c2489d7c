use Rattle.std.proofs.Common.{refl}
use Rattle.esr_depot.specs.Calls.{SameImage, has_failed}
use Rattle.esr_faulty.proofs.Answered.{each_ok, unsure, called, no_fault, has_cause}
use Rattle.esr_faulty.proofs.depot.FaultyDepot.read_record.Goals as goal

pub returns-clause-text : goal.returns-clause-text
returns-clause-text g c = each_ok c.read_in-answer.result _ (λ o i is. absurd cc)

pub returns-clause-call : goal.returns-clause-call
returns-clause-call g c =
    called c.read_in-answer.result (λ x. SameImage) SameImage c.args.self.now.clock c.next_turn-turn.new.self.clock c.count.new.self.clock c.next_turn-turn.ensures.clock c.count.ensures.later c.count.ensures.clock (λ x. refl) refl

pub returns-clause-memory : goal.returns-clause-memory
returns-clause-memory g c = no_fault c.read_in-answer.result c.args.self.now.faults c.next_turn-turn.new.self.faults c.count.new.self.faults c.next_turn-turn.ensures.faults c.count.ensures.faults

pub returns-clause-cause : goal.returns-clause-cause
returns-clause-cause g c = has_cause c.read_in-answer.result c.args.self.now.faults c.next_turn-turn.new.self.faults c.count.new.self.faults c.next_turn-turn.ensures.faults c.count.ensures.more c.count.ensures.faults

pub returns-clause-sure : goal.returns-clause-sure
returns-clause-sure g c = unsure (has_failed c.read_in-answer.result)
