use Rattle.esr_scenes.proofs.words.is_among.Goals as goal

pub returns : goal.returns
returns c = c.contains.ensures.value
