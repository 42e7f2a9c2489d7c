-- What accepting a command looks up, and what it adds, over lists.
use Rattle.std.specs.Prelude.{ℕ, zero, suc, Bool, true, false, not, ◌&&◌, List, [], ◌∷◌, ◌++◌, Option, Some, None, map, if◌then◌else◌}
use Rattle.std.specs.List.{list_any}
use Rattle.esr_names.specs.declared.ids.Id.{Id}
use Rattle.esr_names.specs.declared.index_ref.IndexRef.{IndexRef as CodeRef}
use Rattle.esr_model.specs.Values.{Bytes, IndexRef, RootSnap, RootIndex, RootData}
use Rattle.esr_model.specs.Uploads.{same_bytes}
use Rattle.esr_model.specs.Places.{places}
use Rattle.esr_model.specs.Shelf.{names_uuid}
use Rattle.esr_core.specs.Restores.{restore_of}
use Rattle.esr_ops.specs.Plan.{RestorePlan, restore_plan}
use Rattle.esr_core.specs.World.{Op, Deletion}
use Rattle.esr_core.specs.Entry.{AskedIndex}
use Rattle.esr_core.specs.After.{or_else, root_index_id, open_index_id, ref_by, next_by, all_pending, copied_shard}
use Rattle.esr_formats.specs.Ids.{id_of}
use Rattle.esr_formats.specs.Refs.{ref_of_code}
use Rattle.esr_record.specs.declared.op.Making.{Making}
use Rattle.esr_ops.specs.declared.refusal.Refusal.{Refusal}
use Rattle.esr_ops.specs.declared.refusal.Refusal.TheVariants as refusals
use Rattle.esr_ops.specs.declared.shard.ShardState.TheVariants as states
use Rattle.esr_ops.specs.declared.shard.OpenShard.{OpenShard}

-- ---- look-ups

-- the number of the first open cleanup
abbrev pub open_cleanup : List (ℕ × Deletion) → Option ℕ
open_cleanup [] = None
open_cleanup (e ∷ deletes) = if e.1.clean then Some e.0 else open_cleanup deletes

-- the number of the first open delete that names the snapshot
abbrev pub deleting : List (ℕ × Deletion) → ℕ → Option ℕ
deleting [] uuid = None
deleting (e ∷ deletes) uuid = if names_uuid e.1.uuids uuid then Some e.0 else deleting deletes uuid

-- the uuid of a name: of a listed snapshot, of an open op
abbrev pub snap_uuid : List RootSnap → Bytes → Option ℕ
snap_uuid [] name = None
snap_uuid (s ∷ snaps) name = if same_bytes s.name name then Some s.uuid else snap_uuid snaps name

abbrev pub op_uuid : List (ℕ × Op) → Bytes → Option ℕ
op_uuid [] name = None
op_uuid (e ∷ ops) name = if same_bytes e.1.name name then Some e.1.uuid else op_uuid ops name

abbrev pub name_user : RootData → List (ℕ × Op) → Bytes → Option ℕ
name_user root ops name = or_else (snap_uuid root.snapshots name) (op_uuid ops name)

-- the id of an index by its name
abbrev pub known_in : RootData → List (ℕ × Op) → Bytes → Option ℕ
known_in root ops name = or_else (root_index_id root.indices name) (open_index_id ops name)

-- the first rule that refuses a name: a cleanup is open, something has the name, too many ops are open
abbrev pub first_refusal : Option ℕ → Option ℕ → Bool → Option Refusal
first_refusal (Some op) user full = Some (refusals.CleanupRunning op)
first_refusal None (Some uuid) full = Some (refusals.NameInUse (id_of uuid))
first_refusal None None true = Some (refusals.TooMany 1000)
first_refusal None None false = None

-- the first rule that refuses a cleanup: a cleanup is open, an op is open, a ticket is out
abbrev pub cleanup_refusal : Option ℕ → Option ℕ → Option ℕ → Option Refusal
cleanup_refusal (Some op) lowest ticket = Some (refusals.CleanupRunning op)
cleanup_refusal None (Some op) ticket = Some (refusals.BusyOp op)
cleanup_refusal None None (Some ticket) = Some (refusals.BusyTicket ticket)
cleanup_refusal None None None = None

-- ---- look-ups of a clone

-- the index has this name and the snapshot
abbrev pub is_index_of : ℕ → Bytes → RootIndex → Bool
is_index_of uuid name x = same_bytes x.name name && names_uuid x.snapshots uuid

-- the snapshot has no index of this name
abbrev pub lacks_index : List RootIndex → ℕ → Bytes → Bool
lacks_index indices uuid name = not (list_any (is_index_of uuid name) indices)

-- the first rule on its name that refuses a clone: a cleanup is open, something has the name
abbrev pub name_refusal : Option ℕ → Option Id → Option Refusal
name_refusal (Some op) user = Some (refusals.CleanupRunning op)
name_refusal None (Some uuid) = Some (refusals.NameInUse uuid)
name_refusal None None = None

-- the first rule on its source: a delete names it, it has no index of the name at a place
abbrev pub source_refusal : Option ℕ → Option ℕ → Option Refusal
source_refusal (Some op) missing = Some (refusals.BeingDeleted op)
source_refusal None (Some place) = Some (refusals.NoIndex place)
source_refusal None None = None

-- ---- what is added

-- the indices with their ids, and how many of their names are new
abbrev pub refs_by : (Bytes → Option ℕ) → ℕ → List AskedIndex → List IndexRef
refs_by known next [] = []
refs_by known next (a ∷ asked) = ref_by a (known a.name) next ∷ refs_by known (next_by (known a.name) next) asked

abbrev pub new_by : (Bytes → Option ℕ) → List AskedIndex → ℕ
new_by known [] = 0
new_by known (a ∷ asked) = next_by (known a.name) (new_by known asked)

-- so many pending shards of an index, from a number on
abbrev pub shards_from : ℕ → Id → ℕ → ℕ → List OpenShard
shards_from at index first zero = []
shards_from at index first (suc n) = record { at = at; shard = record { index = index; number = first }; state = states.Pending } ∷ shards_from at index (suc first) n

-- the shards of indices, of which the first stands at this place
abbrev pub shards_of : ℕ → List CodeRef → List OpenShard
shards_of at [] = []
shards_of at (r ∷ refs) = shards_from at r.id 0 r.shards ++ shards_of (suc at) refs

-- a restore as it begins
abbrev pub restore_begun : ℕ → Bytes → List IndexRef → RestorePlan
restore_begun uuid place indices = restore_plan (restore_of uuid place indices)

-- what a clone makes as it begins
abbrev pub clone_begun : Making → ℕ → Op
clone_begun m source =
    record {
      name = m.name;
      uuid = m.uuid.number;
      moment = m.moment;
      indices = map ref_of_code m.indices;
      shards = map copied_shard (places (map ref_of_code m.indices));
      failed = false;
      source = Some source;
      aborted = None;
    }

-- what an op makes as it begins
abbrev pub op_begun : Making → List AskedIndex → Op
op_begun m asked =
    record {
      name = m.name;
      uuid = m.uuid.number;
      moment = m.moment;
      indices = map ref_of_code m.indices;
      shards = all_pending asked (map ref_of_code m.indices);
      failed = false;
      source = None;
      aborted = None;
    }
