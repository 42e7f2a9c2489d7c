use Rattle.std.proofs.Common.{List, map, sym, subst, ◌∙◌}
use Rattle.esr_meta.specs.Info.{Info}
use Rattle.esr_model.specs.Names.{Root}
use Rattle.esr_formats.specs.Infos.{info_of_code}
use Rattle.esr_formats.specs.Roots.{root_of}
use Rattle.esr_desk.specs.Own.{caller_of}
use Rattle.esr_check.specs.Names.{Just, IsAny, IsOfAnySnap, IsOfAnyShard}
use Rattle.esr_check.specs.Pieces.{HasInfos, HasIndices}
use Rattle.esr_check.specs.Went.{Went}
use Rattle.esr_check.proofs.Going.{went_as, went_both, went_on, infos_more, still_new, root_on}
use Rattle.esr_check.proofs.Counting.{all_new}
use Rattle.esr_check.proofs.Ending.{checked_by}
use Rattle.esr_check.proofs.Naming.{snaps_no_root, shards_no_root, shards_no_snaps}
use Rattle.esr_check.proofs.Rooted.{are_listed}
use Rattle.esr_check.specs.First.{FirstOfSnaps, FirstOfIndices, FirstOf, AtRoot, AtSnap, AtShard}
use Rattle.esr_check.proofs.Telling.{passes}
use Rattle.esr_check.proofs.checking.read_root.Goals.{After-check_indices}
use Rattle.esr_check.proofs.checking.read_root.Goals as goal

pub returns-in_err-root-clause-went : goal.returns-in_err-root-clause-went
returns-in_err-root-clause-went g c = went_as g.Q.Desk.start (g.Q.Desk.seen c.args.desk.now) (g.Q.Desk.seen c.fetch_root.new.desk) (Just (Root c.args.number)) IsAny (λ name own. tt) c.fetch_root.ensures.went

-- ---- the snapshots

pub check_snaps-requires-clause-new : goal.check_snaps-requires-clause-new
check_snaps-requires-clause-new g c κs within =
    let s = g.Q.Desk.start in
    let old = g.Q.Desk.seen c.args.desk.now in
    still_new s old (g.Q.Desk.seen c.fetch_root.new.desk) (Just (Root c.args.number)) IsOfAnySnap (λ name own other. snaps_no_root c.args.number name own other) (all_new (caller_of s old) IsOfAnySnap c.requires.first) c.fetch_root.ensures.went

pub returns-in_err-infos-clause-went : goal.returns-in_err-infos-clause-went
returns-in_err-infos-clause-went g c =
    went_both g.Q.Desk.start (g.Q.Desk.seen c.args.desk.now) (g.Q.Desk.seen c.fetch_root.new.desk) (g.Q.Desk.seen c.check_snaps.new.desk)
    (Just (Root c.args.number)) IsOfAnySnap IsAny (λ name own. tt) (λ name own. tt) c.fetch_root.ensures.went c.check_snaps.ensures.went

-- ---- the indices

pub check_indices-requires-clause-root : goal.check_indices-requires-clause-root
check_indices-requires-clause-root g c κs within =
    (c.args.number, root_on g.Q.Desk.start (g.Q.Desk.seen c.fetch_root.new.desk) (g.Q.Desk.seen c.check_snaps.new.desk) IsOfAnySnap c.args.number (root_of c.in_ok-root.root) c.check_snaps.ensures.went c.in_ok-root.ensures.root)

pub check_indices-requires-clause-infos : goal.check_indices-requires-clause-infos
check_indices-requires-clause-infos g c κs within =
    let s = g.Q.Desk.start in
    subst (λ (l : List Info). HasInfos s (caller_of s (g.Q.Desk.seen c.check_snaps.new.desk)) (root_of c.in_ok-root.root) (map info_of_code l)) (sym c.as_slice.ensures) c.in_ok-infos.ensures.infos

pub check_indices-requires-clause-new : goal.check_indices-requires-clause-new
check_indices-requires-clause-new g c κs within =
    let s = g.Q.Desk.start in
    let old = g.Q.Desk.seen c.args.desk.now in
    let mid = g.Q.Desk.seen c.fetch_root.new.desk in
    still_new s mid (g.Q.Desk.seen c.check_snaps.new.desk) IsOfAnySnap IsOfAnyShard (λ name own other. shards_no_snaps name own other)
    (still_new s old mid (Just (Root c.args.number)) IsOfAnyShard (λ name own other. shards_no_root c.args.number name own other) (all_new (caller_of s old) IsOfAnyShard c.requires.first) c.fetch_root.ensures.went) c.check_snaps.ensures.went

-- by the indices, well or not
indices_went : (g : _) (c : After-check_indices g) → Went g.Q.Desk.start (g.Q.Desk.seen c.args.desk.now) (g.Q.Desk.seen c.check_indices.new.desk) IsAny
indices_went g c =
    let s = g.Q.Desk.start in
    let old = g.Q.Desk.seen c.args.desk.now in
    let mid = g.Q.Desk.seen c.fetch_root.new.desk in
    let next = g.Q.Desk.seen c.check_snaps.new.desk in
    let new = g.Q.Desk.seen c.check_indices.new.desk in
    went_on s old next new IsAny (went_both s old mid next (Just (Root c.args.number)) IsOfAnySnap IsAny (λ name own. tt) (λ name own. tt) c.fetch_root.ensures.went c.check_snaps.ensures.went)
    (went_as s next new IsOfAnyShard IsAny (λ name own. tt) c.check_indices.ensures.went)

pub returns-in_err-check_indices-clause-went : goal.returns-in_err-check_indices-clause-went
returns-in_err-check_indices-clause-went g c = indices_went g (goal.at.returns-in_err-check_indices-clause-went g c).After-check_indices

pub returns-clause-went : goal.returns-clause-went
returns-clause-went g c = indices_went g (goal.at.returns-clause-went g c).After-check_indices

pub returns-clause-read : goal.returns-clause-read
returns-clause-read g c =
    let s = g.Q.Desk.start in
    let mid = g.Q.Desk.seen c.fetch_root.new.desk in
    let next = g.Q.Desk.seen c.check_snaps.new.desk in
    let new = g.Q.Desk.seen c.check_indices.new.desk in
    let root = root_of c.in_ok-root.root in
    let infos = map info_of_code c.in_ok-infos.infos in
    let has = root_on s next new IsOfAnyShard c.args.number root c.check_indices.ensures.went (root_on s mid next IsOfAnySnap c.args.number root c.check_snaps.ensures.went c.in_ok-root.ensures.root) in
    λ tells. checked_by s new c.check_indices.new.count c.args.number root infos c.in_ok-check_indices.ensures.so_far has
    (infos_more s (caller_of s next) (caller_of s new) c.check_indices.ensures.went.grown root root.snapshots infos c.in_ok-infos.ensures.infos)
    (subst (λ (l : List Info). HasIndices s (caller_of s new) root (map info_of_code l) root.indices) c.as_slice.ensures c.in_ok-check_indices.ensures.indices)
    (are_listed c.in_ok-root.root c.in_ok-root.ensures.rule) tells

-- ---- the first that is damaged

pub returns-in_err-root-clause-first : goal.returns-in_err-root-clause-first
returns-in_err-root-clause-first g c =
    passes (Just (Root c.args.number)) (FirstOf g.Q.Desk.start (g.Q.Desk.seen c.fetch_root.new.desk)) c.from_residual.result c.in_err-root.field-0.0 c.from_residual.ensures.1
    (λ name is. AtRoot c.args.number (c.fetch_root.ensures.went.same.safe ∙ c.requires.safe) is) c.in_err-root.ensures.first

pub returns-in_err-infos-clause-first : goal.returns-in_err-infos-clause-first
returns-in_err-infos-clause-first g c =
    let s = g.Q.Desk.start in
    let mid = g.Q.Desk.seen c.fetch_root.new.desk in
    let new = g.Q.Desk.seen c.check_snaps.new.desk in
    let root = root_of c.in_ok-root.root in
    passes (FirstOfSnaps s (caller_of s new) root) (FirstOf s new) c.from_residual-in_err-infos.result c.in_err-infos.field-0.0 c.from_residual-in_err-infos.ensures.1
    (λ name first. AtSnap root (c.args.number, root_on s mid new IsOfAnySnap c.args.number root c.check_snaps.ensures.went c.in_ok-root.ensures.root) first) c.in_err-infos.ensures.first

pub returns-in_err-check_indices-clause-first : goal.returns-in_err-check_indices-clause-first
returns-in_err-check_indices-clause-first g c =
    let s = g.Q.Desk.start in
    let next = g.Q.Desk.seen c.check_snaps.new.desk in
    let new = g.Q.Desk.seen c.check_indices.new.desk in
    let root = root_of c.in_ok-root.root in
    let infos = map info_of_code c.in_ok-infos.infos in
    passes (FirstOfIndices s (caller_of s new) root (map info_of_code c.as_slice.result.now)) (FirstOf s new) c.from_residual-in_err-check_indices.result c.in_err-check_indices.field-0.0 c.from_residual-in_err-check_indices.ensures.1
    (λ name first. AtShard root infos (
      c.args.number,
      root_on s next new IsOfAnyShard c.args.number root c.check_indices.ensures.went (root_on s (g.Q.Desk.seen c.fetch_root.new.desk) next IsOfAnySnap c.args.number root c.check_snaps.ensures.went c.in_ok-root.ensures.root),
    )
    (infos_more s (caller_of s next) (caller_of s new) c.check_indices.ensures.went.grown root root.snapshots infos c.in_ok-infos.ensures.infos)
    (subst (λ (l : List Info). FirstOfIndices s (caller_of s new) root (map info_of_code l) name) c.as_slice.ensures first)) c.in_err-check_indices.ensures.first
