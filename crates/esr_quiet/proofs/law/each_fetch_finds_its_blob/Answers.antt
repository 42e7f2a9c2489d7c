use Rattle.esr_quiet.proofs.Restores.{ReadCoreLaws, serves}
use Rattle.esr_quiet.proofs.OverKept.{smooth_lawful}
use Rattle.esr_quiet.proofs.Fetches.{each_finds}
use Rattle.esr_quiet.proofs.law.each_fetch_finds_its_blob.Goals as goal

pub returns : goal.returns
returns c = λ s log smooth.
    let laws : ReadCoreLaws = record { opened = c.opened_restores_are_lawful.ensures; kept = c.each_history_keeps_restores.ensures; served = c.each_reader_is_served.ensures } in
    let prefixes = c.each_world_is_free.ensures s log smooth in
    each_finds s log smooth prefixes (serves laws s log (smooth_lawful s log smooth prefixes))
