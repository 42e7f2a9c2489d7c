use Rattle.esr_bounds.specs.Keys.{made_by}
use Rattle.esr_bounds.specs.Others.{most_deleting, most_restoring}
use Rattle.esr_bounds.proofs.Closed.{deleting_few, restoring_few, all_few}
use Rattle.esr_bounds.proofs.DoomedSeen.{opened_parts}
use Rattle.esr_bounds.proofs.no_history_is_longer_than_asked.Goals as goal

pub returns : goal.returns
returns c = λ f size image shelf w log kept opened refuses h known told.
    let none = (opened_parts f image w opened).1 in
    let one_each = (opened_parts f image w opened).2 in
    let writes = c.no_more_is_written_than_asked.ensures f size w log h known told one_each none in
    all_few f size w log writes
    (c.no_history_is_longer_than_its_units.ensures f size w log (most_deleting f size w log) (most_restoring f size w log) h known told none
    (λ k t uuids plan some there is. deleting_few f size w log writes (made_by log k) (c.each_delete_dooms_few.ensures f size image shelf w log k t uuids plan kept opened refuses h known told some there is))
    (λ k q some there. restoring_few f size w log writes (made_by log k) k (c.each_restore_finds_few.ensures f size w log k q h told some there)))
    (c.each_check_finds_few.ensures f size w log h told) (c.no_more_ends_than_begins.ensures f size w log h)
