use Rattle.std.proofs.Common.{◌≡◌, ◌∙◌, ◌+◌, ◌++◌, ◌∷◌, [], List, map, take, sym, ap, subst}
use Rattle.esr_model.specs.Loops.{has_at, all}
use Rattle.esr_root.specs.Root.{Root as CodeRoot}
use Rattle.esr_root.specs.Snaps.{AreSnaps}
use Rattle.esr_root.specs.declared.snaps.RootSnap.{RootSnap as CodeSnap}
use Rattle.esr_meta.specs.Info.{Info}
use Rattle.esr_model.specs.Values.{Has, RootSnap}
use Rattle.esr_formats.specs.Infos.{info_of_code}
use Rattle.esr_formats.specs.Roots.{root_of, root_snap_of}
use Rattle.esr_desk.specs.Own.{caller_of}
use Rattle.esr_unit.specs.Objects.{on_ok}
use Rattle.esr_reach.specs.OnceEach.{snaps_once}
use Rattle.esr_check.specs.Names.{IsOfAnySnap}
use Rattle.esr_check.specs.Pieces.{HasInfosOf}
use Rattle.esr_check.proofs.Going.{went_none, some_new, root_on, infos_more}
use Rattle.esr_check.proofs.Listing.{Any, next_new, any_next, any_all, any_then}
use Rattle.esr_check.proofs.Naming.{SnapOf, snap_key, snap_any}
use Rattle.esr_check.proofs.Snapping.{infos_next}
use Rattle.esr_check.specs.First.{IsNext, FirstOfSnap, FirstOfSnaps}
use Rattle.esr_check.proofs.Telling.{passes, next_at}
use Rattle.esr_check.proofs.snap.check_snaps.Goals as goal

pub loop-snap-init : goal.loop-snap-init
loop-snap-init g c = record {
  infos = subst (λ (l : List Info). HasInfosOf g.Q.Desk.start (caller_of g.Q.Desk.start (g.Q.Desk.seen c.args.desk.now)) (root_of c.args.root.now) [] (map info_of_code l)) (sym c.new-infos.ensures) tt;
  so_far = c.requires.so_far;
  went = went_none g.Q.Desk.start (g.Q.Desk.seen c.args.desk.now) (Any SnapOf (map root_snap_of (take 0 c.as_slice-snap-items.result.now)));
}

pub check_snap-requires-clause-snap : goal.check_snap-requires-clause-snap
check_snap-requires-clause-snap g c κs within =
    let own = root_snap_of c.snap-item.result in
    let items = c.as_slice-snap-items.ensures.items ∙ ap (λ (r : CodeRoot). r.snapshots) c.root.view_is in
    record {
      safe = root_on g.Q.Desk.start (g.Q.Desk.seen c.args.desk.now) (g.Q.Desk.seen c.loop-snap.desk)
          (Any SnapOf (map root_snap_of (take c.loop-snap.snap-index c.as_slice-snap-items.result.now))) c.args.number (root_of c.args.root.now) c.loop-snap.invariant.went c.requires.root;
      listed = subst (λ (ss : List CodeSnap). Has (map root_snap_of ss) own) items (has_at root_snap_of c.as_slice-snap-items.result.now c.loop-snap.snap-index c.snap-item.result c.loop-snap-test.true c.snap-item.is);
    }

pub check_snap-requires-clause-new : goal.check_snap-requires-clause-new
check_snap-requires-clause-new g c κs within =
    let s = g.Q.Desk.start in
    let old = g.Q.Desk.seen c.args.desk.now in
    let own = c.snap-item.result in
    let xs = c.as_slice-snap-items.result.now in
    let rule = subst AreSnaps (sym c.as_slice-snap-items.ensures.items) c.as_slice-snap-items.ensures.rule in
    next_new s old (g.Q.Desk.seen c.loop-snap.desk) (λ (r : RootSnap). r.uuid) SnapOf root_snap_of xs c.loop-snap.snap-index own (λ a b name one two. snap_key a b name one two) (snaps_once xs rule) c.loop-snap-test.true c.snap-item.is
    (some_new (caller_of s old) IsOfAnySnap (SnapOf (root_snap_of own)) (λ name of. snap_any (root_snap_of own) name of) c.requires.new) c.loop-snap.invariant.went

pub returns-in_err-info-clause-went : goal.returns-in_err-info-clause-went
returns-in_err-info-clause-went g c =
    any_then g.Q.Desk.start (g.Q.Desk.seen c.args.desk.now) (g.Q.Desk.seen c.loop-snap.desk) (g.Q.Desk.seen c.check_snap.new.desk) SnapOf IsOfAnySnap
    (map root_snap_of (take c.loop-snap.snap-index c.as_slice-snap-items.result.now)) (root_snap_of c.snap-item.result)
    (λ snap name own. snap_any snap name own) c.loop-snap.invariant.went c.check_snap.ensures.went

pub returns-then-is_err-clause-went : goal.returns-then-is_err-clause-went
returns-then-is_err-clause-went g c =
    any_then g.Q.Desk.start (g.Q.Desk.seen c.args.desk.now) (g.Q.Desk.seen c.loop-snap.desk) (g.Q.Desk.seen c.check_snap.new.desk) SnapOf IsOfAnySnap
    (map root_snap_of (take c.loop-snap.snap-index c.as_slice-snap-items.result.now)) (root_snap_of c.snap-item.result)
    (λ snap name own. snap_any snap name own) c.loop-snap.invariant.went c.check_snap.ensures.went

pub loop-snap-preserved : goal.loop-snap-preserved
loop-snap-preserved g c =
    let s = g.Q.Desk.start in
    let mid = g.Q.Desk.seen c.loop-snap.desk in
    let new = g.Q.Desk.seen c.check_snap.new.desk in
    let xs = c.as_slice-snap-items.result.now in
    let i = c.loop-snap.snap-index in
    let own = c.snap-item.result in
    let inv = c.loop-snap.invariant in
    let root = root_of c.args.root.now in
    let info = c.in_ok-info.info in
    let pushed : c.push.new.self ≡ c.loop-snap.infos ++ info ∷ [] = on_ok c.push.result (c.push.new.self ≡ c.loop-snap.infos ++ info ∷ []) (sym c.is_err.ensures.value ∙ c.if-is_err.false) c.push.ensures.ok in
    record {
      infos = subst (λ (l : List Info). HasInfosOf s (caller_of s new) root (map root_snap_of (take (i + 1) xs)) (map info_of_code l)) (sym pushed)
          (infos_next s (caller_of s mid) (caller_of s new) root xs i own c.loop-snap.infos info c.check_snap.ensures.went.grown c.loop-snap-test.true c.snap-item.is inv.infos c.in_ok-info.ensures.info);
      so_far = c.in_ok-info.ensures.so_far;
      went = any_next s (g.Q.Desk.seen c.args.desk.now) mid new SnapOf root_snap_of xs i own c.loop-snap-test.true c.snap-item.is inv.went c.check_snap.ensures.went;
    }

pub returns-clause-infos : goal.returns-clause-infos
returns-clause-infos g c =
    let s = g.Q.Desk.start in
    let now = caller_of s (g.Q.Desk.seen c.loop-snap.desk) in
    let root = root_of c.args.root.now in
    let xs = c.as_slice-snap-items.result.now in
    let items = c.as_slice-snap-items.ensures.items ∙ ap (λ (r : CodeRoot). r.snapshots) c.root.view_is in
    subst (λ (ss : List CodeSnap). HasInfosOf s now root (map root_snap_of ss) (map info_of_code c.loop-snap.infos)) items
    (subst (λ (snaps : List RootSnap). HasInfosOf s now root snaps (map info_of_code c.loop-snap.infos)) (all root_snap_of xs c.loop-snap.snap-index c.loop-snap-test.false) c.loop-snap.invariant.infos)

pub returns-clause-went : goal.returns-clause-went
returns-clause-went g c =
    any_all g.Q.Desk.start (g.Q.Desk.seen c.args.desk.now) (g.Q.Desk.seen c.loop-snap.desk) SnapOf IsOfAnySnap
    (map root_snap_of (take c.loop-snap.snap-index c.as_slice-snap-items.result.now)) (λ snap name own. snap_any snap name own) c.loop-snap.invariant.went

pub returns-in_err-info-clause-first : goal.returns-in_err-info-clause-first
returns-in_err-info-clause-first g c =
    let s = g.Q.Desk.start in
    let mid = caller_of s (g.Q.Desk.seen c.loop-snap.desk) in
    let new = caller_of s (g.Q.Desk.seen c.check_snap.new.desk) in
    let root = root_of c.args.root.now in
    let xs = c.as_slice-snap-items.result.now in
    let i = c.loop-snap.snap-index in
    let own = c.snap-item.result in
    let items = c.as_slice-snap-items.ensures.items ∙ ap (λ (r : CodeRoot). r.snapshots) c.root.view_is in
    let before = map root_snap_of (take i xs) in
    let infos = map info_of_code c.loop-snap.infos in
    let next = subst (λ (ss : List CodeSnap). IsNext (map root_snap_of ss) before (root_snap_of own)) items (next_at root_snap_of xs i own c.loop-snap-test.true c.snap-item.is) in
    passes (FirstOfSnap s new root (root_snap_of own)) (FirstOfSnaps s new root) c.from_residual.result c.in_err-info.field-0.0 c.from_residual.ensures.1
    (λ name first. record { before = before; snap = root_snap_of own; infos = infos; next = next; agree = infos_more s mid new c.check_snap.ensures.went.grown root before infos c.loop-snap.invariant.infos; first = first })
    c.in_err-info.ensures.first
