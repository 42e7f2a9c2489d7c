use Rattle.esr_bounds.proofs.changes_are_lawful.Goals as goal

pub returns : goal.returns
returns c = λ f size. record {
  tracks = c.each_step_is_tracked.ensures f size;
  reads = c.each_step_tracks_restores.ensures f size;
  frame = c.each_step_leaves_the_others.ensures.frame f;
  maker = c.each_step_has_its_maker.ensures f size;
  change = c.each_step_is_one_change.ensures f;
}
