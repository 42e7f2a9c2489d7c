use Rattle.esr_bounds.proofs.FewShards.{delete_by_shards}
use Rattle.esr_bounds.proofs.each_delete_works_on_few_shards.Goals as goal

pub returns : goal.returns
returns c = λ f size w log k t uuids plan h known told one_each some there is. delete_by_shards f size known (c.steps_are_lawful.ensures f size) (c.changes_are_lawful.ensures f size) w log h told one_each k t some there uuids plan is
