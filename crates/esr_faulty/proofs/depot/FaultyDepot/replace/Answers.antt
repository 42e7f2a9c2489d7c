use Rattle.std.proofs.Common.{None, inl, refl}
use Rattle.esr_depot.specs.Calls.{has_failed}
use Rattle.esr_depot.specs.Changes.{Replaced, ReplaceMay}
use Rattle.esr_faulty.proofs.Answered.{unsure, called, no_fault, has_cause}
use Rattle.esr_faulty.proofs.depot.FaultyDepot.replace.Goals as goal

pub returns-clause-call : goal.returns-clause-call
returns-clause-call g c = called c.replace_in-answer.result (λ x. Replaced (g.D.Stage.Stage.name c.args.stage.stage) None)
    (ReplaceMay (g.D.Stage.Stage.name c.args.stage.stage) None) c.args.self.now.clock c.next_turn-turn.new.self.clock c.count.new.self.clock c.next_turn-turn.ensures.clock c.count.ensures.later c.count.ensures.clock (λ x. refl) (inl refl)

pub returns-clause-memory : goal.returns-clause-memory
returns-clause-memory g c = no_fault c.replace_in-answer.result c.args.self.now.faults c.next_turn-turn.new.self.faults c.count.new.self.faults c.next_turn-turn.ensures.faults c.count.ensures.faults

pub returns-clause-cause : goal.returns-clause-cause
returns-clause-cause g c = has_cause c.replace_in-answer.result c.args.self.now.faults c.next_turn-turn.new.self.faults c.count.new.self.faults c.next_turn-turn.ensures.faults c.count.ensures.more c.count.ensures.faults

pub returns-clause-sure : goal.returns-clause-sure
returns-clause-sure g c = unsure (has_failed c.replace_in-answer.result)
