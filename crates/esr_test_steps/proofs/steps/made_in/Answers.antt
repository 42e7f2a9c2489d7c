use Rattle.std.proofs.Common.{refl, arith}
use Rattle.esr_depot.specs.Look.{Look, now}
use Rattle.esr_formats.specs.Clusters.{cluster_of}
use Rattle.esr_formats.specs.Roots.{root_of}
use Rattle.esr_opening.specs.Opening.{Kept}
use Rattle.esr_run.specs.Start.{telling, is_calm_by, start_of}
use Rattle.esr_run.specs.Worlds.{begun_world, begins}
use Rattle.esr_run.specs.RunEnds.{calm_enough, is_outside}
use Rattle.esr_test_steps.proofs.Starting.{spent_begun, spent_outside}
use Rattle.esr_test_steps.proofs.steps.made_in.Goals as goal

pub made-requires-clause-begun : goal.made-requires-clause-begun
made-requires-clause-begun g c κs within =
    let k : Kept = record { cluster = c.in-Ok.opening.cluster; root = c.in-Ok.opening.root; infos = c.in-Ok.opening.infos; plan = c.in-Ok.opening.progress; next = c.in-Ok.opening.next.number } in
    let l : Look = g.D.Depot.look c.in-Ok.opening.depot in
    spent_begun
    (start_of (telling (g.S.Sources.told c.args.sources.now) (g.T.Targets.told c.args.targets.now)) 16777216 (is_calm_by l.sure) l (begun_world (now l) (cluster_of k.cluster) (root_of k.root) k.plan))
    l.clock l.since l k
    (begins c.opened_worlds_track_restores.ensures (telling (g.S.Sources.told c.args.sources.now) (g.T.Targets.told c.args.targets.now)) 16777216
    (is_calm_by l.sure) (g.D.Depot.look c.args.depot) l k c.in-Ok.ensures.opened c.in-Ok.ensures.listed c.only_now.ensures)

pub made-requires-clause-outside : goal.made-requires-clause-outside
made-requires-clause-outside g c κs within =
    let l : Look = g.D.Depot.look c.in-Ok.opening.depot in
    let w = begun_world (now l) (cluster_of c.in-Ok.opening.cluster) (root_of c.in-Ok.opening.root) c.in-Ok.opening.progress in
    spent_outside (start_of (telling (g.S.Sources.told c.args.sources.now) (g.T.Targets.told c.args.targets.now)) 16777216 (is_calm_by l.sure) l w) (g.S.Sources.told c.args.sources.now) (g.T.Targets.told c.args.targets.now) 16777216
    (is_outside (g.S.Sources.told c.args.sources.now) (g.T.Targets.told c.args.targets.now) 16777216 (is_calm_by l.sure) l w (omega arith, omega arith))

pub made-requires-clause-calm : goal.made-requires-clause-calm
made-requires-clause-calm g c κs within = calm_enough (g.D.Depot.look c.in-Ok.opening.depot).sure

pub made-requires-clause-alone : goal.made-requires-clause-alone
made-requires-clause-alone g c κs within = refl

pub made-requires-clause-earlier : goal.made-requires-clause-earlier
made-requires-clause-earlier g c κs within = refl
