use Rattle.esr_model.specs.Shelf.{shelf_after}
use Rattle.esr_core.specs.History.{world_from, committed}
use Rattle.esr_bounds.proofs.DoomedSeen.{law_parts, opened_parts}
use Rattle.esr_bounds.proofs.ClonedShards.{shards_asked, work_asked}
use Rattle.esr_bounds.proofs.no_clone_has_more_shards_than_there_are.Goals as goal

pub returns-clause-shards : goal.returns-clause-shards
returns-clause-shards c = λ f size image shelf w log kept opened h known tells.
    shards_asked f size known (c.steps_are_lawful.ensures f size) (c.changes_are_lawful.ensures f size) w log h tells
    (law_parts f size w (λ part legal told. (shelf_after shelf (committed f (world_from f w part).safe w part), c.each_history_is_lawful.ensures f size image shelf w part kept opened legal told)) log h.legal tells)
    (opened_parts f image w opened).2

pub returns-clause-work : goal.returns-clause-work
returns-clause-work c = λ f size terms image shelf w log kept opened h known tells.
    work_asked f size known (c.steps_are_lawful.ensures f size) (c.changes_are_lawful.ensures f size) w log h tells
    (law_parts f size w (λ part legal told. (shelf_after shelf (committed f (world_from f w part).safe w part), c.each_history_is_lawful.ensures f size image shelf w part kept opened legal told)) log h.legal tells)
    (opened_parts f image w opened).2 terms
