use Rattle.esr_quiet.proofs.Restores.{ReadCoreLaws, none_damaged}
use Rattle.esr_quiet.proofs.damage.no_restore_finds_damage.Goals as goal

pub returns : goal.returns
returns c b = λ counts s log faults over shown.
    let laws : ReadCoreLaws = record { opened = b.opened_restores_are_lawful.ensures; kept = b.each_history_keeps_restores.ensures; served = b.each_reader_is_served.ensures } in
    none_damaged laws s log (b.each_world_is_lawful.ensures s log over) counts faults shown
