-- What a repository keeps of the world, apart from the container.
use Rattle.std.specs.Prelude.{◌≡◌, ℕ, ◌^◌, ◌≤◌, List}
use Rattle.esr_model.specs.Values.{ReadsBack}
use Rattle.esr_model.specs.Image.{Image}
use Rattle.esr_core.specs.World.{World, record_of}
use Rattle.esr_core.specs.Allowed.{NoCleanup}
use Rattle.esr_core.specs.Tracked.{Tracked}
use Rattle.esr_core.specs.Ranked.{Ranked}
use Rattle.esr_depot.specs.Image.{Image as Held}
use Rattle.esr_root.specs.Root.{Root}
use Rattle.esr_record.specs.Record.{Record}
use Rattle.esr_meta.specs.Info.{Info}
use Rattle.esr_formats.specs.Roots.{root_of}
use Rattle.esr_formats.specs.Clusters.{cluster_of, cluster_kind}
use Rattle.esr_ops.specs.Plan.{Plan, IsPlanOf}

-- an image of the container, as the definitions see it
abbrev pub image_of : Held → Image
image_of i = record { blobs = i.blobs; text = i.text }

-- what a repository keeps of the world, apart from the container
pub record Kept : Type 0 where
  pub cluster : Record
  pub root : Root
  pub infos : List Info
  pub plan : Plan
  pub next : ℕ

-- it is that of the world
pub record IsKeptOf (w : World) (k : Kept) : Type 0 where
  pub cluster : cluster_of k.cluster ≡ record_of w
  pub root : root_of k.root ≡ w.root
  pub plan : IsPlanOf w k.plan
  pub next : k.next ≡ w.next_id

-- what holds of a world with which a repository begins, whatever the container tells
pub record IsInOrder (w : World) : Type 0 where
  pub record_back : ReadsBack cluster_kind (record_of w)
  pub tracked : Tracked w
  pub ranked : Ranked w
  pub no_cleanups : NoCleanup w
  pub few : w.next_op ≤ 2 ^ 61
