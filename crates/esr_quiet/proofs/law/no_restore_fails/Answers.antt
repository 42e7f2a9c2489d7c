use Rattle.esr_quiet.proofs.Restores.{ReadCoreLaws, serves, none_unrestored}
use Rattle.esr_quiet.proofs.OverKept.{smooth_lawful}
use Rattle.esr_quiet.proofs.law.no_restore_fails.Goals as goal

pub returns : goal.returns
returns c b = λ counts s log faults smooth sure shown.
    let laws : ReadCoreLaws = record { opened = b.opened_restores_are_lawful.ensures; kept = b.each_history_keeps_restores.ensures; served = b.each_reader_is_served.ensures } in
    let lawful = smooth_lawful s log smooth (b.each_world_is_free.ensures s log smooth) in
    none_unrestored s log smooth lawful (serves laws s log lawful) sure counts faults shown
