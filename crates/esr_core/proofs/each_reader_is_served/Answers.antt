use Rattle.esr_core.proofs.AskedShelf.{served}
use Rattle.esr_core.proofs.each_reader_is_served.Goals as goal

pub returns : goal.returns
returns c = λ f w shelf k q l r reading. served f w shelf l r k q reading
