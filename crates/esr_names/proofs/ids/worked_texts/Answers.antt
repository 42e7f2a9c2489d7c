use Rattle.std.proofs.Common.{refl}
use Rattle.base64.proofs.OnLiterals.{base64_on_literals}
use Rattle.esr_names.specs.IdText.{id_text}
use Rattle.esr_names.proofs.ids.worked_texts.Goals as goal

pub returns-clause-first : goal.returns-clause-first
unfolding id_text base64_on_literals
returns-clause-first c = refl

pub returns-clause-eighth : goal.returns-clause-eighth
unfolding id_text base64_on_literals
returns-clause-eighth c = refl

pub returns-clause-third_term : goal.returns-clause-third_term
unfolding id_text base64_on_literals
returns-clause-third_term c = refl
