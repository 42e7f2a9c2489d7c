use Rattle.esr_quiet.proofs.Callers.{checks_stay}
use Rattle.esr_quiet.proofs.Others.{steps_stay, gift_stays, nothing_stays}
use Rattle.esr_quiet.proofs.law.other_tickets_stay.Goals as goal

pub returns : goal.returns
returns c = record { steps = steps_stay; gives = gift_stays; nothing = nothing_stays; checks = checks_stay }
