use Rattle.std.proofs.Common.{◌≡◌, ◌+◌, ◌≤◌, false, drop, take, Some}
use Rattle.esr_depot.specs.Image.{Image}
use Rattle.esr_depot.specs.Look.{now}
use Rattle.esr_opening.specs.Found.{infos_in}
use Rattle.esr_opening.specs.Listed.{AreInfosIn}
use Rattle.esr_opening.specs.Looked.{Looked}
use Rattle.esr_opening.specs.Spent.{Spends}
use Rattle.esr_opening.proofs.infos.check_infos.Given as goal

abbrev pub invariant-loop-snap : goal.invariant-loop-snap
invariant-loop-snap g l =
    record {
      looked : Looked (g.D.Depot.look l.fn.depot) (g.D.Depot.look l.depot) (g.D.Counted.faults l.fn.depot) (g.D.Counted.faults l.depot);
      left : (i : Image) → now (g.D.Depot.look l.fn.depot) ≡ Some i → infos_in i.blobs l.root l.number l.snaps ≡ infos_in i.blobs l.root l.number (drop l.snap-index l.snaps);
      infos : AreInfosIn (now (g.D.Depot.look l.fn.depot)) l.root (take l.snap-index l.snaps) l.infos;
      spends : Spends (g.D.Depot.look l.fn.depot).sure (g.D.Depot.look l.depot).sure l.snap-index false;
      calls : (g.D.Depot.look l.depot).clock ≤ (g.D.Depot.look l.fn.depot).clock + l.snap-index;
    }
