use Rattle.esr_model.specs.Shelf.{shelf_after}
use Rattle.esr_core.specs.History.{world_from, committed}
use Rattle.esr_bounds.proofs.DoomedSeen.{delete_closed, law_parts, opened_parts}
use Rattle.esr_bounds.proofs.each_delete_dooms_few.Goals as goal

pub returns : goal.returns
returns c = λ f size image shelf w log k t uuids plan kept opened refuses h known told some there is.
    delete_closed f size known (c.steps_are_lawful.ensures f size) (c.changes_are_lawful.ensures f size) (c.each_step_changes_blobs_so.ensures f size)
    (c.a_delete_dooms_what_it_leaves.ensures.was f) (λ v now law. c.the_reach_is_there.ensures.all f v now law refuses) w log h told
    (law_parts f size w (λ part legal tells. (shelf_after shelf (committed f (world_from f w part).safe w part), c.each_history_is_lawful.ensures f size image shelf w part kept opened legal tells)) log h.legal told) (opened_parts f image w opened).0
    (opened_parts f image w opened).2 k t uuids plan some there is
