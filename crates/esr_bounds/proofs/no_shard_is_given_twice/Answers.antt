use Rattle.esr_bounds.proofs.Given.{untouched_once, log_once}
use Rattle.esr_bounds.proofs.GivenReads.{untouched_reads, reads_once}
use Rattle.esr_bounds.proofs.no_shard_is_given_twice.Goals as goal

pub returns-clause-shards : goal.returns-clause-shards
returns-clause-shards c = λ f size w log j k index number t u tracked untouched legal at_j at_k is also one.
    (log_once f size (c.each_step_is_one_change.ensures f) (c.each_step_leaves_the_others.ensures.frame f) (c.each_step_is_tracked.ensures f size) w log tracked (untouched_once w untouched) legal).one j k t u index number at_j at_k is also one

pub returns-clause-restores : goal.returns-clause-restores
returns-clause-restores c = λ f size w log j k p q tracked reads untouched legal at_j at_k op index number.
    (reads_once f size (c.each_step_is_one_change.ensures f) (c.each_step_leaves_the_others.ensures.frame f) (c.each_step_is_tracked.ensures f size)
    (c.each_step_tracks_restores.ensures f size) w log tracked reads (untouched_reads w untouched) legal).one j k p q at_j at_k op index number
