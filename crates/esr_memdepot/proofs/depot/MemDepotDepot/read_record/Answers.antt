use Rattle.std.proofs.Common.{◌∙◌}
use Rattle.esr_memdepot.proofs.Told.{shown_text}
use Rattle.esr_memdepot.proofs.depot.MemDepotDepot.read_record.Goals as goal

pub returns-clause-text : goal.returns-clause-text
returns-clause-text c i is =
    let d = c.args.self.now in
    c.in_ok-text.ensures ∙ shown_text d.meter.clock d.blobs.items d.texts.items d.dated i is
