use Rattle.esr_readers.proofs.steps_keep_order.Goals as goal

pub returns : goal.returns
returns c = record {
  step = c.each_step_is_tracked.ensures;
  read_step = c.each_step_tracks_restores.ensures;
  history = c.each_history_is_tracked.ensures;
  read_history = c.each_history_tracks_restores.ensures;
}
