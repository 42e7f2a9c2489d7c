use Rattle.std.proofs.Common.{ℕ, List, None, inl, refl}
use Rattle.esr_depot.specs.declared.depot.Commit.{Commit}
use Rattle.esr_depot.specs.declared.depot.Commit.TheVariants.{Done, Exists}
use Rattle.esr_depot.specs.Calls.{has_failed}
use Rattle.esr_depot.specs.Changes.{Committed, CommitMay}
use Rattle.esr_faulty.proofs.Answered.{unsure, called, no_fault, has_cause}
use Rattle.esr_faulty.proofs.depot.FaultyDepot.commit.Goals as goal

committed : (name : List ℕ) (found : Commit) → Committed name None found None None
committed name Done = (refl, λ i is. absurd cc)
committed name Exists = (refl, λ i is. absurd cc)

pub returns-clause-call : goal.returns-clause-call
returns-clause-call g c = called c.commit_in-answer.result (Committed (g.D.Stage.Stage.name c.args.stage.stage) None) (CommitMay (g.D.Stage.Stage.name c.args.stage.stage) None) c.args.self.now.clock
    c.next_turn-turn.new.self.clock c.count.new.self.clock c.next_turn-turn.ensures.clock c.count.ensures.later c.count.ensures.clock (committed (g.D.Stage.Stage.name c.args.stage.stage)) (inl refl)

pub returns-clause-memory : goal.returns-clause-memory
returns-clause-memory g c = no_fault c.commit_in-answer.result c.args.self.now.faults c.next_turn-turn.new.self.faults c.count.new.self.faults c.next_turn-turn.ensures.faults c.count.ensures.faults

pub returns-clause-cause : goal.returns-clause-cause
returns-clause-cause g c = has_cause c.commit_in-answer.result c.args.self.now.faults c.next_turn-turn.new.self.faults c.count.new.self.faults c.next_turn-turn.ensures.faults c.count.ensures.more c.count.ensures.faults

pub returns-clause-sure : goal.returns-clause-sure
returns-clause-sure g c = unsure (has_failed c.commit_in-answer.result)
