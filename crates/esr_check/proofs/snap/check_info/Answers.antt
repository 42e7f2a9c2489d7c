use Rattle.std.proofs.Common.{◌∙◌, sym, true≢false}
use Rattle.esr_model.specs.Names.{Snap}
use Rattle.esr_formats.specs.Infos.{info_of_code}
use Rattle.esr_formats.specs.Roots.{root_of, root_snap_of}
use Rattle.esr_check.specs.Names.{Just}
use Rattle.esr_check.proofs.Reaching.{can_snap}
use Rattle.esr_check.proofs.Snapping.{each_once, info_beside}
use Rattle.esr_check.proofs.snap.check_info.Goals as goal

pub fetch_info-requires-clause-may : goal.fetch_info-requires-clause-may
fetch_info-requires-clause-may g c κs within =
    can_snap g.Q.Desk.start (g.Q.Desk.seen c.args.desk.now) c.args.count.now c.args.snap.number (root_of c.args.snap.root.now) (root_snap_of c.args.snap.listed.now) c.requires.so_far c.requires.snap.safe c.requires.snap.listed c.requires.new

pub returns-then-agrees-clause-agrees : goal.returns-then-agrees-clause-agrees
returns-then-agrees-clause-agrees g c = c.agreement_is.ensures.holds (root_of c.args.snap.root.now) (root_snap_of c.args.snap.listed.now) (info_of_code c.in_ok-info.info) (sym c.agrees.ensures ∙ c.if-agrees.true)

pub returns-clause-trouble : goal.returns-clause-trouble
returns-clause-trouble g c =
    let s = g.Q.Desk.start in
    let old = g.Q.Desk.seen c.args.desk.now in
    let new = g.Q.Desk.seen c.fetch_info.new.desk in
    let root = root_of c.args.snap.root.now in
    let snap = root_snap_of c.args.snap.listed.now in
    let info = info_of_code c.in_ok-info.info in
    info_beside s old new (Just (Snap c.args.snap.listed.now.uuid.number)) c.args.snap.number root snap info c.fetch_info.ensures.went c.requires.snap.safe c.requires.snap.listed c.in_ok-info.ensures.read
    (λ agree. true≢false (sym (c.agreement_is.ensures.only root snap info (each_once s old c.args.snap.number root c.requires.snap.safe) agree) ∙ sym c.agrees.ensures ∙ c.if-agrees.false))
