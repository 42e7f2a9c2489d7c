use Rattle.esr_law.proofs.OpenedWorlds.{opened_reads}
use Rattle.esr_law.proofs.Pages.{listed_first}
use Rattle.esr_law.proofs.each_cleanup_lists_first.Goals as goal

pub returns : goal.returns
returns c = λ f size image w before rest last k opened tracked legal ended.
    listed_first f size (record {
      tracks = c.each_step_is_tracked.ensures f size;
      reads = c.each_step_tracks_restores.ensures f size;
      frame = c.each_step_leaves_the_others.ensures.frame f;
      maker = c.each_step_has_its_maker.ensures f size;
      gave = c.answers_tell_their_steps.ensures.gave f size;
    })
    w before rest last k tracked (opened_reads f image c.opened_worlds_track_restores.ensures w opened) legal ended
