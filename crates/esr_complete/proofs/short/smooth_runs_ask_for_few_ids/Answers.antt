use Rattle.esr_desk.specs.Start.{formats_of}
use Rattle.esr_complete.proofs.Histories.{OpenedLaws}
use Rattle.esr_complete.proofs.Lengths.{is_heard, one_more_heard}
use Rattle.esr_complete.proofs.short.smooth_runs_ask_for_few_ids.Goals as goal

pub returns : goal.returns
returns c = λ s log last smooth legal told spent.
    let laws : OpenedLaws = record { opening = c.opening_is_lawful.ensures; tracked = c.opened_worlds_are_tracked.ensures; read_tracked = c.opened_worlds_track_restores.ensures } in
    c.no_history_asks_for_many_ids.ensures (formats_of s) s.part_size smooth.image s.world log last smooth.opened
    (one_more_heard s log last (is_heard laws s log smooth (c.only_rules_refuse.ensures s log smooth)) legal spent) smooth.known told
