use Rattle.std.proofs.Common.{ℕ, List, subst, ◌∙◌}
use Rattle.esr_scenes.specs.Words.{Spells}
use Rattle.esr_scenes.proofs.words.Words.number.Goals as goal

pub returns-clause-number : goal.returns-clause-number
returns-clause-number c = subst (λ (text : List ℕ). Spells text c.number_in.result) c.word-word.ensures.word c.number_in.ensures.number

pub returns-clause-rest : goal.returns-clause-rest
returns-clause-rest c = c.number_in.ensures.rest ∙ c.word-word.ensures.rest
