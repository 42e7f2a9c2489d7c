use Rattle.esr_quiet.proofs.Restores.{ReadCoreLaws, serves}
use Rattle.esr_quiet.proofs.OverKept.{smooth_lawful}
use Rattle.esr_quiet.proofs.Checks.{none_ended}
use Rattle.esr_quiet.proofs.law.no_check_fails.Goals as goal

pub returns : goal.returns
returns c b = λ counts s log faults smooth shown.
    let laws : ReadCoreLaws = record { opened = b.opened_restores_are_lawful.ensures; kept = b.each_history_keeps_restores.ensures; served = b.each_reader_is_served.ensures } in
    let prefixes = b.each_world_is_free.ensures s log smooth in
    none_ended s log smooth prefixes (serves laws s log (smooth_lawful s log smooth prefixes)) counts faults shown
