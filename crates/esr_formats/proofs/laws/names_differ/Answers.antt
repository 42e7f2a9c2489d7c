use Rattle.std.proofs.Common.{◌≡◌, Some, sym, ap, ◌∙◌}
use Rattle.esr_formats.specs.Names.{name_kind}
use Rattle.esr_formats.proofs.laws.names_differ.Goals as goal

pub returns : goal.returns
returns c = λ a b back_a back_b same. let both : Some a ≡ Some b = sym back_a ∙ ap name_kind.read same ∙ back_b in cc
