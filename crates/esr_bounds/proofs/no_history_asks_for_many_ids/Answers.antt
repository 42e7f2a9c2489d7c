use Rattle.esr_bounds.proofs.DoomedSeen.{opened_parts}
use Rattle.esr_bounds.proofs.FewIds.{ids_few}
use Rattle.esr_bounds.proofs.no_history_asks_for_many_ids.Goals as goal

pub returns : goal.returns
returns c = λ f size image w log last opened h known told.
    ids_few f size known (c.steps_are_lawful.ensures f size) (c.changes_are_lawful.ensures f size) w log last h told (opened_parts f image w opened).2
