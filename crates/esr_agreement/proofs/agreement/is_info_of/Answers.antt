use Rattle.std.proofs.Common.{ap}
use Rattle.esr_meta.specs.Info.{Info}
use Rattle.esr_agreement.proofs.Served.{info_so, info_not}
use Rattle.esr_agreement.proofs.agreement.is_info_of.Goals as goal

pub returns-then-is_snap_named : goal.returns-then-is_snap_named
returns-then-is_snap_named c =
    info_so c.args.snap.now c.args.info.now c.info.inside.name c.info.inside.uuid c.info.inside.state c.is_snap_named.result c.has_numbers.result (ap (λ (i : Info). i.name) c.info.view_is) (ap (λ (i : Info). i.uuid) c.info.view_is)
    (ap (λ (i : Info). i.state) c.info.view_is) c.if-is_snap_named.true c.is_snap_named.ensures c.has_numbers.ensures

pub returns-else-is_snap_named : goal.returns-else-is_snap_named
returns-else-is_snap_named c = info_not c.args.snap.now c.args.info.now c.info.inside.name c.is_snap_named.result (ap (λ (i : Info). i.name) c.info.view_is) c.if-is_snap_named.false c.is_snap_named.ensures
