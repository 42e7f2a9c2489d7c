use Rattle.esr_depot.specs.Look.{now}
use Rattle.esr_opening.proofs.Listing.{info_kept}
use Rattle.esr_opening.proofs.infos.check_info.Goals as goal

pub returns-clause-info : goal.returns-clause-info
returns-clause-info g c =
    info_kept (now (g.D.Depot.look c.args.depot.now)) c.args.root.now c.args.number c.args.snap.now c.in_ok-info.info c.in_ok-name.name c.in_ok-bytes.bytes c.in_ok-check_agreement.field-0 c.write_name.ensures.reads c.in_ok-name.ensures.text
    c.in_ok-bytes.ensures.answer c.in_ok-info.ensures.says c.in_ok-info.ensures.apart c.in_ok-check_agreement.ensures
