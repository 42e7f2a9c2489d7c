use Rattle.esr_bounds.proofs.Masters.{untouched_masters, masters_log}
use Rattle.esr_bounds.proofs.each_op_is_worked_once_a_term.Goals as goal

pub returns-clause-finals : goal.returns-clause-finals
returns-clause-finals c = λ f size w log tracked reads untouched legal. (masters_log f size (c.changes_are_lawful.ensures f size) w log tracked reads (untouched_masters w untouched) legal).finals

pub returns-clause-drops : goal.returns-clause-drops
returns-clause-drops c = λ f size w log tracked reads untouched legal. (masters_log f size (c.changes_are_lawful.ensures f size) w log tracked reads (untouched_masters w untouched) legal).drops

pub returns-clause-deletes : goal.returns-clause-deletes
returns-clause-deletes c = λ f size w log tracked reads untouched legal. (masters_log f size (c.changes_are_lawful.ensures f size) w log tracked reads (untouched_masters w untouched) legal).deletes
