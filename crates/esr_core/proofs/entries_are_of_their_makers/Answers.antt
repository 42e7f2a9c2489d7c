use Rattle.esr_core.proofs.Past.{entry_among, entry_from}
use Rattle.esr_core.proofs.StepFrames.{entries_apart, entries_own}
use Rattle.esr_core.proofs.entries_are_of_their_makers.Goals as goal

pub returns : goal.returns
returns c = record { others = entries_apart; among = entry_among; from = entry_from; own = entries_own }
