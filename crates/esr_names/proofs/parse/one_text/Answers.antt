use Rattle.std.proofs.Common.{◌≡◌, Some, sym, ap, ◌∙◌}
use Rattle.esr_names.specs.Reading.{name_of}
use Rattle.esr_names.specs.NameTexts.{name_of-name_text}
use Rattle.esr_names.proofs.parse.one_text.Goals as goal

pub returns : goal.returns
returns c = λ a b a_ids a_name b_ids b_name same.
    let both : Some a ≡ Some b = sym (name_of-name_text a a_ids a_name) ∙ ap name_of same ∙ name_of-name_text b b_ids b_name in
    cc
