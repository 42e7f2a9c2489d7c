use Rattle.esr_core.proofs.what_a_delete_dooms_stays_doomed.Goals as goal

pub returns : goal.returns
returns c = λ f w shelf k t uuids s l there settled work. l.pruned.settled k t uuids s there settled work
