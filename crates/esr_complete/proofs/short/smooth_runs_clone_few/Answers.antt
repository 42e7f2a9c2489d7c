use Rattle.esr_desk.specs.Start.{formats_of}
use Rattle.esr_complete.proofs.Histories.{OpenedLaws}
use Rattle.esr_complete.proofs.Lengths.{is_heard}
use Rattle.esr_complete.proofs.short.smooth_runs_clone_few.Goals as goal

pub returns-clause-shards : goal.returns-clause-shards
returns-clause-shards c = λ s log smooth.
    let laws : OpenedLaws = record { opening = c.opening_is_lawful.ensures; tracked = c.opened_worlds_are_tracked.ensures; read_tracked = c.opened_worlds_track_restores.ensures } in
    c.no_clone_has_more_shards_than_there_are.ensures.shards (formats_of s) s.part_size smooth.image smooth.shelf s.world log smooth.kept smooth.opened (is_heard laws s log smooth (c.only_rules_refuse.ensures s log smooth)) smooth.known smooth.told

pub returns-clause-work : goal.returns-clause-work
returns-clause-work c = λ s log terms smooth.
    let laws : OpenedLaws = record { opening = c.opening_is_lawful.ensures; tracked = c.opened_worlds_are_tracked.ensures; read_tracked = c.opened_worlds_track_restores.ensures } in
    c.no_clone_has_more_shards_than_there_are.ensures.work (formats_of s) s.part_size terms smooth.image smooth.shelf s.world log smooth.kept smooth.opened (is_heard laws s log smooth (c.only_rules_refuse.ensures s log smooth)) smooth.known
    smooth.told
