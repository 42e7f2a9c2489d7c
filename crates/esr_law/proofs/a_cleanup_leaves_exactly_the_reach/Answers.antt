use Rattle.esr_law.proofs.Exact.{exactly}
use Rattle.esr_law.proofs.a_cleanup_leaves_exactly_the_reach.Goals as goal

pub returns : goal.returns
returns c = λ f size image shelf w before rest last k kept opened tracked legal told ended.
    let page = c.each_cleanup_lists_first.ensures f size image w before rest last k opened tracked legal ended in (
      page,
      λ no_test none.
          exactly f size w
          (λ front between after first end j h is_first is_last untested unchanged.
          c.a_cleanup_leaves_the_reach_alone.ensures f size image shelf w front between after first end j kept opened tracked h.legal h.told is_first is_last untested unchanged)
          (λ log h. (_, c.each_history_is_lawful.ensures f size image shelf w log kept opened h.legal h.told)) (c.each_step_changes_blobs_so.ensures f size) (c.the_reach_is_there.ensures.listed f) (c.the_reach_is_there.ensures.all f)
          (λ front end j h closed. c.a_cleanup_leaves_latest.ensures f size image shelf w front end j kept opened tracked h.legal h.told closed) before last k ended page no_test rest
          (record { legal = legal; told = told }) none,
    )
