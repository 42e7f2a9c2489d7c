-- What the opening of a container does.
use Rattle.std.specs.Prelude.{◌≡◌, ◌⊎◌, ℕ, ◌+◌, ◌-◌, ◌^◌, ◌<◌, ◌≤◌, Bool, true, false, List, length, Option, Some, None, Ok, Err}
use Rattle.std.specs.FinMap as fin
use Rattle.esr_model.specs.Values.{Bytes}
use Rattle.esr_model.specs.Shelf.{Shelved}
use Rattle.esr_model.specs.Image.{Blobs}
use Rattle.esr_model.specs.Kept.{Kept as IsKept}
use Rattle.esr_core.specs.World.{World, record_of, opened, Opened}
use Rattle.esr_depot.specs.Image.{Image as Held, with_text}
use Rattle.esr_depot.specs.Look.{Look, now}
use Rattle.esr_depot.specs.Calls.{HasCause}
use Rattle.esr_depot.specs.Moments.{LeavesOnly}
use Rattle.esr_root.specs.Root.{Root}
use Rattle.esr_record.specs.Record.{Record}
use Rattle.esr_formats.specs.Formats.{formats}
use Rattle.esr_formats.specs.Roots.{root_of}
use Rattle.esr_formats.specs.Clusters.{cluster_of, cluster_kind}
pub use Rattle.esr_progress.specs.Kept.{image_of, Kept, IsKeptOf, IsInOrder}
use Rattle.esr_progress.specs.Infos.{AreInfosOf}
use Rattle.esr_opening.specs.Found.{Damage, LastTerm, found}
use Rattle.esr_opening.specs.declared.refusal.OpenRefusal.{OpenRefusal}
use Rattle.esr_opening.specs.declared.refusal.OpenRefusal.TheVariants as refusals

-- ---- the opened world

-- the blobs, where they are told
abbrev pub known_blobs : Option Held → Blobs
known_blobs None = fin.empty
known_blobs (Some i) = i.blobs

-- whether they are told
abbrev pub is_told : Option Held → Bool
is_told None = false
is_told (Some i) = true

-- the world that opening makes of a container with this record and this root
abbrev pub world_in : Option Held → Record → Root → World
world_in held cluster root = opened (known_blobs held) (cluster_of cluster) (root_of root)

-- the text of its record
abbrev pub opened_text : Record → Root → Bytes
opened_text cluster root = cluster_kind.text (record_of (opened fin.empty (cluster_of cluster) (root_of root)))

-- what a crash in the opening may leave: all as it was, or with the opened world's record
abbrev pub IsLeftOf : Option Held → Record → Root → Held → Type 0
IsLeftOf before cluster root i = (before ≡ Some i) ⊎ ((j : Held) × (before ≡ Some j) × (i ≡ with_text j (opened_text cluster root)))

-- ---- the answers

-- The container was opened: this record and this root were read, the container has the opened world's record now, and else it
-- is as it was.
pub record IsOpening (before after : Look) (k : Kept) : Type 0 where
  pub cluster : Record
  pub root : Root
  pub kept : IsKeptOf (world_in (now before) cluster root) k
  pub order : IsInOrder (world_in (now before) cluster root)
  -- where it tells they are what opening finds, and this is the opened world of its image
  pub finds : (i : Held) → now before ≡ Some i → found i ≡ Ok (cluster, root)
  pub opens : (i : Held) (known : Bytes → Bytes → ℕ → Bool) (told : Bytes → Bytes → ℕ → Option (List (Bytes × Bytes))) → now before ≡ Some i → Opened (formats known told) (image_of i) (world_in (now before) cluster root)
  -- the infos are those of the listed snapshots, and where it tells those that are there
  pub infos : (known : Bytes → Bytes → ℕ → Bool) (told : Bytes → Bytes → ℕ → Option (List (Bytes × Bytes))) → AreInfosOf (formats known told) (world_in (now before) cluster root) (is_told (now before)) k.infos
  pub untold : now before ≡ None → now after ≡ None
  pub swapped : (i : Held) → now before ≡ Some i → now after ≡ Some (with_text i (opened_text cluster root))
  pub bounded : after.clock ≤ 2 ^ 64 - 1
  -- it asks for the record, or for the record and all names, for the root, for the info of each listed snapshot, and swaps the record
  pub calls : after.clock ≤ before.clock + (4 + length root.snapshots)
  pub left : LeavesOnly before after (IsLeftOf (now before) cluster root)

-- the container is as it was
pub record IsAsBefore (before after : Look) : Type 0 where
  pub same : now after ≡ now before
  pub left : LeavesOnly before after (λ i. now before ≡ Some i)

-- The swap of the record failed: the old record stands or that of the opened world.
pub record SwapFailed (before after : Look) : Type 0 where
  pub cluster : Record
  pub root : Root
  pub order : IsInOrder (world_in (now before) cluster root)
  pub finds : (i : Held) → now before ≡ Some i → found i ≡ Ok (cluster, root)
  pub opens : (i : Held) (known : Bytes → Bytes → ℕ → Bool) (told : Bytes → Bytes → ℕ → Option (List (Bytes × Bytes))) → now before ≡ Some i → Opened (formats known told) (image_of i) (world_in (now before) cluster root)
  pub left : LeavesOnly before after (IsLeftOf (now before) cluster root)

-- a read of the fetch failed
abbrev pub HasFailed : {F : Type 0} → (F → ℕ) → Option F → Type 0
HasFailed faults None = ⊥
HasFailed faults (Some fetch) = 0 < faults fetch

-- The container failed, or a read of a fetch that it gave.
abbrev pub IsFault : {F : Type 0} → (F → ℕ) → ℕ → ℕ → Option F → Type 0
IsFault faults old_faults new_faults fetch = HasCause old_faults new_faults true ⊎ HasFailed faults fetch

-- the image is kept for no shelf, as nothing in one that is kept is damaged
abbrev pub SparesKept : Option Held → Type 0
SparesKept held =
    (i : Held) (known : Bytes → Bytes → ℕ → Bool) (told : Bytes → Bytes → ℕ → Option (List (Bytes × Bytes))) (shelf : List Shelved) → held ≡ Some i
    → IsKept (formats known told) (image_of i) shelf → ⊥

-- Why a container wasn't opened; it counts faults. Where it tells, a refusal is what opening finds, and no kept image is damaged.
abbrev pub IsOpenRefused : {F : Type 0} → (F → ℕ) → Look → Look → ℕ → ℕ → OpenRefusal F → Type 0
IsOpenRefused faults before after old_faults new_faults refusals.Memory = IsAsBefore before after
IsOpenRefused faults before after old_faults new_faults (refusals.DepotFault fetch) = IsFault faults old_faults new_faults fetch × (IsAsBefore before after ⊎ SwapFailed before after)
IsOpenRefused faults before after old_faults new_faults (refusals.Damaged name why) =
    IsAsBefore before after × ((i : Held) → now before ≡ Some i → found i ≡ Err (Damage name why)) × SparesKept (now before)
IsOpenRefused faults before after old_faults new_faults (refusals.TermsSpent term) = IsAsBefore before after × ((i : Held) → now before ≡ Some i → found i ≡ Err (LastTerm term))
