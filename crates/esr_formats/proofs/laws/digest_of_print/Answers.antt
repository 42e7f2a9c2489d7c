use Rattle.std.proofs.Common.{refl}
use Rattle.esr_formats.specs.Formats.{formats}
use Rattle.esr_formats.proofs.laws.digest_of_print.Goals as goal

pub returns : goal.returns
unfolding formats
returns c = λ known told bytes. refl
