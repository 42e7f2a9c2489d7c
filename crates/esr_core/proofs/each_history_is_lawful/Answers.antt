use Rattle.esr_core.proofs.Histories.{legal_law}
use Rattle.esr_core.proofs.Lists.{opening_law}
use Rattle.esr_core.proofs.each_history_is_lawful.Goals as goal

pub returns : goal.returns
returns c = λ f size image shelf w log kept opened legal told. legal_law f size log w shelf (opening_law f image shelf w kept opened) legal told
