use Rattle.esr_scenes.proofs.words.Words.number_in.Goals as goal

pub returns-in-Some-clause-number : goal.returns-in-Some-clause-number
returns-in-Some-clause-number c = (λ is. c.in-Some.ensures.1, λ none. absurd (none c.in-Some.ensures.0))

pub returns-in-None-clause-number : goal.returns-in-None-clause-number
returns-in-None-clause-number c = (λ is. absurd (c.in-None.ensures is), λ none. c.refuse.ensures.value)
