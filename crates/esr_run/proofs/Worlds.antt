-- The start of a run over a container that was opened.
use Rattle.std.proofs.Common.{◌≡◌, ℕ, Bool, ap, ◌∙◌}
use Rattle.esr_core.specs.World.{World}
use Rattle.esr_depot.specs.Look.{Look, now}
use Rattle.esr_formats.specs.Roots.{root_of}
use Rattle.esr_formats.specs.Clusters.{cluster_of}
use Rattle.esr_desk.specs.Start.{Start}
use Rattle.esr_opening.specs.Opening.{Kept, world_in, IsOpening}
use Rattle.esr_run.specs.Start.{Telling, start_of}
use Rattle.esr_run.specs.Worlds.{begun_world, begun_is, same_tells}

pub start_is : (files : Telling) (size : ℕ) (quiet : Bool) (before after : Look) (k : Kept) (o : IsOpening before after k)
    → start_of files size quiet after (begun_world (now after) (cluster_of k.cluster) (root_of k.root) k.plan) ≡ start_of files size quiet before (world_in (now before) o.cluster o.root)
start_is files size quiet before after k o =
    ap (λ (w : World). start_of files size quiet after w) (begun_is before after k o)
    ∙ ap (λ (b : Bool). let s : Start = record (start_of files size quiet before (world_in (now before) o.cluster o.root)) { tells = b } in s) (same_tells before after k o)
