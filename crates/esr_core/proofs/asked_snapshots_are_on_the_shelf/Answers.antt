use Rattle.esr_core.proofs.AskedShelf.{accepted_as, asked_shelf}
use Rattle.esr_core.proofs.asked_snapshots_are_on_the_shelf.Goals as goal

pub returns : goal.returns
returns c = λ f size w shelf m name place o uuid indices image l a told step reply. asked_shelf f w shelf l m name place o uuid indices image told (accepted_as f size w m name place o uuid indices a step reply)
