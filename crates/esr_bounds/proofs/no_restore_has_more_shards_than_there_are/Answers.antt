use Rattle.esr_model.specs.Shelf.{shelf_after}
use Rattle.esr_core.specs.History.{world_from, committed}
use Rattle.esr_bounds.proofs.DoomedSeen.{law_parts, opened_parts}
use Rattle.esr_bounds.proofs.RestoredShards.{restores_few}
use Rattle.esr_bounds.proofs.no_restore_has_more_shards_than_there_are.Goals as goal

pub returns : goal.returns
returns c = λ f size image shelf w log kept opened h known told.
    restores_few f size known (c.steps_are_lawful.ensures f size) (c.changes_are_lawful.ensures f size) (c.answers_tell_their_steps.ensures.began f size) w log h told
    (law_parts f size w (λ part legal tells. (shelf_after shelf (committed f (world_from f w part).safe w part), c.each_history_is_lawful.ensures f size image shelf w part kept opened legal tells)) log h.legal told)
    (opened_parts f image w opened).2
