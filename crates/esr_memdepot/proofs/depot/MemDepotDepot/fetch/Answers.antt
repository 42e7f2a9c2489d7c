use Rattle.esr_memdepot.proofs.Told.{fetched_absent, fetched_present, fetched_left}
use Rattle.esr_memdepot.proofs.depot.MemDepotDepot.fetch.Goals as goal

pub returns-clause-absent : goal.returns-clause-absent
returns-clause-absent c none =
    let d = c.args.self.now in
    fetched_absent d.meter.clock d.blobs.items d.texts.items d.dated c.args.name.now c.in_ok-found.found c.in_ok-found.ensures.bytes cc

pub returns-clause-present : goal.returns-clause-present
returns-clause-present c =
    let d = c.args.self.now in
    fetched_present d.meter.clock d.blobs.items d.texts.items d.dated c.args.name.now c.in_ok-found.found c.in_ok-found.ensures.bytes

pub returns-clause-left : goal.returns-clause-left
returns-clause-left c =
    let d = c.args.self.now in
    fetched_left d.meter.clock d.blobs.items d.texts.items d.dated c.args.name.now c.in_ok-found.found c.in_ok-found.ensures.bytes
