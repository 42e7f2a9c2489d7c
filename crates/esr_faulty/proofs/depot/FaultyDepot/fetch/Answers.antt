use Rattle.std.proofs.Common.{◌≡◌, ℕ, ◌<◌, false, List, Option, None, IsTrue, refl}
use Rattle.esr_depot.specs.Image.{IsTaken}
use Rattle.esr_depot.specs.Calls.{SameImage, has_failed}
use Rattle.esr_faulty.proofs.Answered.{each_some, none_sure, unsure, called, no_fault, has_cause}
use Rattle.esr_faulty.proofs.depot.FaultyDepot.fetch.Goals as goal

pub returns-clause-absent : goal.returns-clause-absent
returns-clause-absent g c = λ e i is. absurd cc

pub returns-clause-present : goal.returns-clause-present
returns-clause-present g c = each_some c.fetch_in-answer.result (λ f. IsTaken None c.args.name.now) (λ f i is. absurd cc)

pub returns-clause-left : goal.returns-clause-left
returns-clause-left g c = each_some c.fetch_in-answer.result (λ f. ◌≡◌ {A = Option (List ℕ)} None None) (λ f. refl)

pub returns-clause-count : goal.returns-clause-count
returns-clause-count g c = c.fetch_in-answer.ensures

pub returns-clause-sure_fetch : goal.returns-clause-sure_fetch
returns-clause-sure_fetch g c = each_some c.fetch_in-answer.result (λ f. 0 < 0 → IsTrue false) (λ f some. none_sure some)

pub returns-clause-call : goal.returns-clause-call
returns-clause-call g c =
    called c.fetch_in-answer.result (λ x. SameImage) SameImage c.args.self.now.clock c.next_turn-turn.new.self.clock c.count.new.self.clock c.next_turn-turn.ensures.clock c.count.ensures.later c.count.ensures.clock (λ x. refl) refl

pub returns-clause-memory : goal.returns-clause-memory
returns-clause-memory g c = no_fault c.fetch_in-answer.result c.args.self.now.faults c.next_turn-turn.new.self.faults c.count.new.self.faults c.next_turn-turn.ensures.faults c.count.ensures.faults

pub returns-clause-cause : goal.returns-clause-cause
returns-clause-cause g c = has_cause c.fetch_in-answer.result c.args.self.now.faults c.next_turn-turn.new.self.faults c.count.new.self.faults c.next_turn-turn.ensures.faults c.count.ensures.more c.count.ensures.faults

pub returns-clause-sure : goal.returns-clause-sure
returns-clause-sure g c = unsure (has_failed c.fetch_in-answer.result)
