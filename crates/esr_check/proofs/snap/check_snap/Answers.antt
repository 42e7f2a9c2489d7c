use Rattle.esr_model.specs.Names.{Snap, Meta}
use Rattle.esr_desk.specs.Start.{formats_of}
use Rattle.esr_formats.specs.Infos.{info_of_code}
use Rattle.esr_formats.specs.Roots.{root_of, root_snap_of}
use Rattle.esr_desk.specs.Own.{caller_of}
use Rattle.esr_check.specs.Names.{Just, IsOfSnap, IsMetaIn}
use Rattle.esr_check.specs.Went.{Went}
use Rattle.esr_check.proofs.Going.{went_as, went_both, went_on, some_new, still_new, read_more, root_on, snap_on}
use Rattle.esr_check.proofs.Naming.{info_of_snap, global_of_snap, metas_of_snap, global_no_info, metas_no_info, metas_no_global}
use Rattle.esr_check.proofs.Reaching.{can_meta}
use Rattle.esr_check.proofs.Snapping.{has_info}
use Rattle.esr_model.specs.Image.{global_of}
use Rattle.esr_check.specs.First.{FirstOfMetas, FirstOfSnap, AtInfo, AtGlobal, AtMeta}
use Rattle.esr_check.proofs.Telling.{passes}
use Rattle.esr_check.proofs.snap.check_snap.Goals.{After-check_metas}
use Rattle.esr_check.proofs.snap.check_snap.Goals as goal

pub check_info-requires-clause-snap : goal.check_info-requires-clause-snap
check_info-requires-clause-snap g c κs within = c.requires.snap

pub check_info-requires-clause-new : goal.check_info-requires-clause-new
check_info-requires-clause-new g c κs within =
    let s = g.Q.Desk.start in
    let uuid = c.args.snap.listed.now.uuid.number in
    some_new (caller_of s (g.Q.Desk.seen c.args.desk.now)) (IsOfSnap uuid) (Just (Snap uuid)) (λ name own. info_of_snap uuid name own) c.requires.new

pub returns-in_err-info-clause-went : goal.returns-in_err-info-clause-went
returns-in_err-info-clause-went g c =
    let uuid = c.args.snap.listed.now.uuid.number in
    went_as g.Q.Desk.start (g.Q.Desk.seen c.args.desk.now) (g.Q.Desk.seen c.check_info.new.desk) (Just (Snap uuid)) (IsOfSnap uuid) (λ name own. info_of_snap uuid name own) c.check_info.ensures.went

-- ---- the global metadata

pub check_global-requires-clause-may : goal.check_global-requires-clause-may
check_global-requires-clause-may g c κs within =
    let s = g.Q.Desk.start in
    let old = g.Q.Desk.seen c.args.desk.now in
    let mid = g.Q.Desk.seen c.check_info.new.desk in
    let uuid = c.args.snap.listed.now.uuid.number in
    let root = root_of c.args.snap.root.now in
    can_meta s mid c.check_info.new.count c.args.snap.number root (root_snap_of c.args.snap.listed.now) c.in_ok-info.ensures.so_far
    (root_on s old mid (Just (Snap uuid)) c.args.snap.number root c.check_info.ensures.went c.requires.snap.safe) c.requires.snap.listed
    (still_new s old mid (Just (Snap uuid)) (Just (Meta uuid)) (λ name own other. global_no_info uuid name own other)
    (some_new (caller_of s old) (IsOfSnap uuid) (Just (Meta uuid)) (λ name own. global_of_snap uuid name own) c.requires.new) c.check_info.ensures.went)

pub returns-in_err-check_global-clause-went : goal.returns-in_err-check_global-clause-went
returns-in_err-check_global-clause-went g c =
    let uuid = c.args.snap.listed.now.uuid.number in
    went_both g.Q.Desk.start (g.Q.Desk.seen c.args.desk.now) (g.Q.Desk.seen c.check_info.new.desk) (g.Q.Desk.seen c.check_global.new.desk) (Just (Snap uuid)) (Just (Meta uuid)) (IsOfSnap uuid)
    (λ name own. info_of_snap uuid name own) (λ name own. global_of_snap uuid name own) c.check_info.ensures.went c.check_global.ensures.went

-- ---- that of its indices

pub check_metas-requires-clause-snap : goal.check_metas-requires-clause-snap
check_metas-requires-clause-snap g c κs within =
    let s = g.Q.Desk.start in
    let mid = g.Q.Desk.seen c.check_info.new.desk in
    let snap = root_snap_of c.args.snap.listed.now in
    let root = root_of c.args.snap.root.now in
    snap_on s mid (g.Q.Desk.seen c.check_global.new.desk) (Just (Meta snap.uuid)) c.args.snap.number root snap c.check_global.ensures.went
    (snap_on s (g.Q.Desk.seen c.args.desk.now) mid (Just (Snap snap.uuid)) c.args.snap.number root snap c.check_info.ensures.went c.requires.snap)

pub check_metas-requires-clause-info : goal.check_metas-requires-clause-info
check_metas-requires-clause-info g c κs within =
    let s = g.Q.Desk.start in
    read_more s (caller_of s (g.Q.Desk.seen c.check_info.new.desk)) (caller_of s (g.Q.Desk.seen c.check_global.new.desk)) c.check_global.ensures.went.grown
    (Snap c.args.snap.listed.now.uuid.number) (formats_of s).info (info_of_code c.in_ok-info.info) c.in_ok-info.ensures.read

pub check_metas-requires-clause-new : goal.check_metas-requires-clause-new
check_metas-requires-clause-new g c κs within =
    let s = g.Q.Desk.start in
    let old = g.Q.Desk.seen c.args.desk.now in
    let mid = g.Q.Desk.seen c.check_info.new.desk in
    let uuid = c.args.snap.listed.now.uuid.number in
    still_new s mid (g.Q.Desk.seen c.check_global.new.desk) (Just (Meta uuid)) (IsMetaIn uuid) (λ name own other. metas_no_global uuid name own other)
    (still_new s old mid (Just (Snap uuid)) (IsMetaIn uuid) (λ name own other. metas_no_info uuid name own other)
    (some_new (caller_of s old) (IsOfSnap uuid) (IsMetaIn uuid) (λ name own. metas_of_snap uuid name own) c.requires.new) c.check_info.ensures.went) c.check_global.ensures.went

-- by the metadata, well or not
metas_went : (g : _) (c : After-check_metas g) → Went g.Q.Desk.start (g.Q.Desk.seen c.args.desk.now) (g.Q.Desk.seen c.check_metas.new.desk) (IsOfSnap c.args.snap.listed.now.uuid.number)
metas_went g c =
    let s = g.Q.Desk.start in
    let old = g.Q.Desk.seen c.args.desk.now in
    let mid = g.Q.Desk.seen c.check_info.new.desk in
    let next = g.Q.Desk.seen c.check_global.new.desk in
    let new = g.Q.Desk.seen c.check_metas.new.desk in
    let uuid = c.args.snap.listed.now.uuid.number in
    went_on s old next new (IsOfSnap uuid)
    (went_both s old mid next (Just (Snap uuid)) (Just (Meta uuid)) (IsOfSnap uuid) (λ name own. info_of_snap uuid name own) (λ name own. global_of_snap uuid name own) c.check_info.ensures.went c.check_global.ensures.went)
    (went_as s next new (IsMetaIn uuid) (IsOfSnap uuid) (λ name own. metas_of_snap uuid name own) c.check_metas.ensures.went)

pub returns-in_err-check_metas-clause-went : goal.returns-in_err-check_metas-clause-went
returns-in_err-check_metas-clause-went g c = metas_went g (goal.at.returns-in_err-check_metas-clause-went g c).After-check_metas

pub returns-clause-went : goal.returns-clause-went
returns-clause-went g c = metas_went g (goal.at.returns-clause-went g c).After-check_metas

pub returns-clause-info : goal.returns-clause-info
returns-clause-info g c =
    let uuid = c.args.snap.listed.now.uuid.number in
    has_info g.Q.Desk.start (g.Q.Desk.seen c.check_info.new.desk) (g.Q.Desk.seen c.check_global.new.desk) (g.Q.Desk.seen c.check_metas.new.desk)
    (root_of c.args.snap.root.now) (root_snap_of c.args.snap.listed.now) (info_of_code c.in_ok-info.info) (Just (Meta uuid)) (IsMetaIn uuid)
    c.check_global.ensures.went c.check_metas.ensures.went c.in_ok-info.ensures.read c.in_ok-info.ensures.agrees c.in_ok-check_global.ensures.read c.in_ok-check_metas.ensures.metas

-- ---- the first that is damaged

pub returns-in_err-info-clause-first : goal.returns-in_err-info-clause-first
returns-in_err-info-clause-first g c =
    let s = g.Q.Desk.start in
    passes (Just (Snap c.args.snap.listed.now.uuid.number))
    (FirstOfSnap s (caller_of s (g.Q.Desk.seen c.check_info.new.desk)) (root_of c.args.snap.root.now) (root_snap_of c.args.snap.listed.now)) c.from_residual.result c.in_err-info.field-0.0 c.from_residual.ensures.1
    (λ name is. AtInfo is) c.in_err-info.ensures.first

pub returns-in_err-check_global-clause-first : goal.returns-in_err-check_global-clause-first
returns-in_err-check_global-clause-first g c =
    let s = g.Q.Desk.start in
    let mid = caller_of s (g.Q.Desk.seen c.check_info.new.desk) in
    let new = caller_of s (g.Q.Desk.seen c.check_global.new.desk) in
    let uuid = c.args.snap.listed.now.uuid.number in
    let info = info_of_code c.in_ok-info.info in
    passes (Just (Meta uuid)) (FirstOfSnap s new (root_of c.args.snap.root.now) (root_snap_of c.args.snap.listed.now)) c.from_residual-in_err-check_global.result c.in_err-check_global.field-0.0 c.from_residual-in_err-check_global.ensures.1
    (λ name is. AtGlobal info (read_more s mid new c.check_global.ensures.went.grown (Snap uuid) (formats_of s).info info c.in_ok-info.ensures.read) c.in_ok-info.ensures.agrees is) c.in_err-check_global.ensures.first

pub returns-in_err-check_metas-clause-first : goal.returns-in_err-check_metas-clause-first
returns-in_err-check_metas-clause-first g c =
    let s = g.Q.Desk.start in
    let mid = caller_of s (g.Q.Desk.seen c.check_info.new.desk) in
    let next = caller_of s (g.Q.Desk.seen c.check_global.new.desk) in
    let new = caller_of s (g.Q.Desk.seen c.check_metas.new.desk) in
    let uuid = c.args.snap.listed.now.uuid.number in
    let info = info_of_code c.in_ok-info.info in
    passes (FirstOfMetas s new uuid info.indices) (FirstOfSnap s new (root_of c.args.snap.root.now) (root_snap_of c.args.snap.listed.now))
    c.from_residual-in_err-check_metas.result c.in_err-check_metas.field-0.0 c.from_residual-in_err-check_metas.ensures.1
    (λ name first. AtMeta info
    (read_more s next new c.check_metas.ensures.went.grown (Snap uuid) (formats_of s).info info (read_more s mid next c.check_global.ensures.went.grown (Snap uuid) (formats_of s).info info c.in_ok-info.ensures.read)) c.in_ok-info.ensures.agrees
    (read_more s next new c.check_metas.ensures.went.grown (Meta uuid) (formats_of s).global (global_of info) c.in_ok-check_global.ensures.read) first) c.in_err-check_metas.ensures.first
