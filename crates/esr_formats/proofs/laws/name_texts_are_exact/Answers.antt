use Rattle.esr_formats.proofs.NameTexts.{name_kind-exact}
use Rattle.esr_formats.proofs.laws.name_texts_are_exact.Goals as goal

pub returns : goal.returns
returns c = name_kind-exact
