use Rattle.esr_bounds.proofs.FewCleanups.{cleanup_few}
use Rattle.esr_bounds.proofs.each_cleanup_makes_few_steps.Goals as goal

pub returns : goal.returns
returns c = λ f size w log k t uuids plan h known told one_each some there is clean.
    cleanup_few f w log k t uuids plan is clean (c.each_delete_works_on_few_shards.ensures f size w log k t uuids plan h known told one_each some there is) (c.no_ticket_lists_more_than_there_was.ensures f size w log k t h known told there)
