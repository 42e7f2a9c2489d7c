use Rattle.esr_desk.specs.Start.{formats_of}
use Rattle.esr_complete.proofs.Histories.{OpenedLaws}
use Rattle.esr_complete.proofs.Lengths.{is_heard}
use Rattle.esr_complete.proofs.short.smooth_runs_are_short.Goals as goal

pub returns : goal.returns
returns c = λ s log smooth unlisted.
    let laws : OpenedLaws = record { opening = c.opening_is_lawful.ensures; tracked = c.opened_worlds_are_tracked.ensures; read_tracked = c.opened_worlds_track_restores.ensures } in
    c.no_history_is_longer_than_asked.ensures (formats_of s) s.part_size smooth.image smooth.shelf s.world log smooth.kept smooth.opened unlisted (is_heard laws s log smooth (c.only_rules_refuse.ensures s log smooth)) smooth.known smooth.told
