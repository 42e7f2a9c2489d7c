use Rattle.std.proofs.lemmas.Slice.Eq.{strip_prefix_is}
use Rattle.std.proofs.lemmas.Bool.Decides.{Decides-eqb}
use Rattle.esr_names.proofs.Front.{strip_is}
use Rattle.esr_names.proofs.parse.strip.Goals as goal

pub returns : goal.returns
returns c = strip_is c.args.prefix.now c.args.bytes.now c.strip_prefix.result (strip_prefix_is Decides-eqb _ _ _ c.strip_prefix.ensures.cases)
