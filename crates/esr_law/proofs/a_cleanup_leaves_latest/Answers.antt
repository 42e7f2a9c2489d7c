use Rattle.esr_law.proofs.OpenedWorlds.{opened_reads, no_entries, no_tests}
use Rattle.esr_law.proofs.LatestStays.{latest_put}
use Rattle.esr_law.proofs.a_cleanup_leaves_latest.Goals as goal

pub returns : goal.returns
returns c = λ f size image shelf w before last k kept opened tracked legal told ended.
    latest_put f size (record {
      steps = record {
        tracks = c.each_step_is_tracked.ensures f size;
        reads = c.each_step_tracks_restores.ensures f size;
        frame = c.each_step_leaves_the_others.ensures.frame f;
        maker = c.each_step_has_its_maker.ensures f size;
        gave = c.answers_tell_their_steps.ensures.gave f size;
      };
      change = λ w m. c.each_step_is_one_change.ensures f w m.entry.who m.entry.step m.entry.reply m.image;
      blobs = c.each_step_changes_blobs_so.ensures f size;
    })
    w (λ log h. (_, c.each_history_is_lawful.ensures f size image shelf w log kept opened h.legal h.told)) tracked (opened_reads f image c.opened_worlds_track_restores.ensures w opened) (no_tests f image w opened) (no_entries f image w opened)
    before last k (record { legal = legal; told = told }) ended
