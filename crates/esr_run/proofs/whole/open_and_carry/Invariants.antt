use Rattle.esr_depot.specs.Look.{now}
use Rattle.esr_formats.specs.Clusters.{cluster_of}
use Rattle.esr_formats.specs.Roots.{root_of}
use Rattle.esr_run.specs.Start.{telling, is_calm_by, start_of}
use Rattle.esr_run.specs.Worlds.{begun_world}
use Rattle.esr_run.proofs.whole.open_and_carry.Given as goal

abbrev pub ghosts-run_told : goal.ghosts-run_told
ghosts-run_told g a = record {
  start = start_of (telling (g.S.Sources.told a.host.now.sources.now) (g.T.Targets.told a.host.now.targets.now)) a.asked.now.part_size (is_calm_by (g.D.Depot.look a.opening.depot).sure) (g.D.Depot.look a.opening.depot)
      (begun_world (now (g.D.Depot.look a.opening.depot)) (cluster_of a.opening.cluster) (root_of a.opening.root) a.opening.progress);
  clock = (g.D.Depot.look a.opening.depot).clock;
  faults = g.D.Counted.faults a.opening.depot;
  past = (g.D.Depot.look a.opening.depot).since;
}
