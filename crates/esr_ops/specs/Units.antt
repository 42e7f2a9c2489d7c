-- The unit that is given, as the definitions see it.
use Rattle.std.specs.Prelude.{◌≡◌, ◌⊎◌, ℕ, ◌<◌, true, map, List, Option, Some, None, option_map}
use Rattle.std.specs.FinMap as fin
use Rattle.esr_model.specs.Values.{Bytes, ShardResult, Formats}
use Rattle.esr_core.specs.World.{World, Op, Deletion, ShardWork, RestoreShard, Restoring, info_of}
use Rattle.esr_core.specs.Ready.{Stopped, UnitIsOut, ReadyShard, ReadyFinalize, ReadyDrop, ReadyDelete, ReadyCleanup, ReadyRestore, AnyReady}
use Rattle.esr_core.specs.After.{taken_by}
use Rattle.esr_ops.specs.Plan.{Plan, IsPlanOf}
use Rattle.esr_core.specs.Entry.{Given, GivenShard, GivenFinalize, GivenDrop, GivenRestore, GivenClone, GivenDelete, GivenCleanup}
use Rattle.esr_core.specs.Allowed.{HasReady, GivesShard, GivesRestore}
use Rattle.esr_formats.specs.Ids.{number_of}
use Rattle.esr_formats.specs.Roots.{root_of}
use Rattle.esr_formats.specs.Infos.{info_of_code}
use Rattle.esr_formats.specs.Clusters.{count_of}
use Rattle.esr_ops.specs.declared.unit.Work.{Work}
use Rattle.esr_ops.specs.declared.unit.Work.TheVariants as works
use Rattle.esr_ops.specs.declared.unit.Copied.{Copied}
use Rattle.esr_ops.specs.declared.unit.ReadyUnit.{ReadyUnit}
use Rattle.esr_results.specs.Results.{result_of}

-- what is given, as the history tells it
abbrev pub given_by : Work → Copied → Given
given_by (works.Shard uuid shard index place) copy = GivenShard shard.index.number shard.number (option_map number_of copy.base)
given_by (works.Finalize info shards) copy = GivenFinalize (info_of_code info) (map result_of shards)
given_by works.Drop copy = GivenDrop
given_by (works.RestoreShard uuid shard index place) copy = GivenRestore shard.index.number shard.number uuid.number
given_by (works.CloneShard source uuid shard index) copy = GivenClone shard.index.number shard.number source.number (option_map number_of copy.base)
given_by (works.Delete uuids) copy = GivenDelete (map number_of uuids)
given_by works.Cleanup copy = GivenCleanup

abbrev pub given_of : ReadyUnit → Given
given_of u = given_by u.work u.copy

-- it copies the safe root, and which one that is
pub record IsCopyOf (w : World) (copy : Copied) : Type 0 where
  pub safe : count_of copy.safe ≡ w.safe
  pub root : root_of copy.root ≡ w.root

-- the unit of a shard carries the uuid of its op, the name of its index and the place of its files
pub record ShardGiven (w : World) (o index number : ℕ) (base : Option ℕ) (uuid : ℕ) (name place : Bytes) : Type 0 where
  pub gives : GivesShard w o index number None base
  pub uuid_is : uuid ≡ gives.op.uuid
  pub name_is : name ≡ gives.s.ref.name
  pub place_is : place ≡ gives.s.place
  pub few : number < 1024

-- that of a clone's shard the uuids of its source and of its op, and the name of its index
pub record CloneGiven (w : World) (o index number source : ℕ) (base : Option ℕ) (uuid : ℕ) (name : Bytes) : Type 0 where
  pub gives : GivesShard w o index number (Some source) base
  pub uuid_is : uuid ≡ gives.op.uuid
  pub name_is : name ≡ gives.s.ref.name
  pub few : number < 1024

-- the unit of a restore's shard carries the name of its index and the place of the restore
pub record RestoreGiven (w : World) (o index number uuid : ℕ) (name place : Bytes) : Type 0 where
  pub gives : GivesRestore w o index number uuid
  pub name_is : name ≡ gives.s.ref.name
  pub place_is : place ≡ gives.r.place
  pub few : number < 1024

-- a finalization carries its info, with the sums, and the results of its shards
abbrev pub GivesWork : World → ℕ → Work → Copied → Type 0
GivesWork w o (works.Shard uuid shard index place) copy = ShardGiven w o shard.index.number shard.number (option_map number_of copy.base) uuid.number index place
GivesWork w o (works.CloneShard source uuid shard index) copy = CloneGiven w o shard.index.number shard.number source.number (option_map number_of copy.base) uuid.number index
GivesWork w o (works.Finalize info shards) copy = (op : Op) × ReadyFinalize w o op (map result_of shards) × (info_of_code info ≡ info_of op (map result_of shards))
GivesWork w o works.Drop copy = ReadyDrop w o
GivesWork w o (works.RestoreShard uuid shard index place) copy = RestoreGiven w o shard.index.number shard.number uuid.number index place
GivesWork w o (works.Delete uuids) copy = (x : Deletion) × ReadyDelete w o x × (map number_of uuids ≡ x.uuids)
GivesWork w o works.Cleanup copy = (x : Deletion) × ReadyCleanup w o x

-- the ready unit of the lowest op is given
pub record GivesUnit (w : World) (u : ReadyUnit) : Type 0 where
  pub ticket : u.ticket ≡ w.next_ticket
  pub lowest : (p : ℕ) → p < u.op → HasReady w p → ⊥
  pub gives : GivesWork w u.op u.work u.copy
  pub copy : IsCopyOf w u.copy

-- ---- units of snapshots, of deletes, and of restores

-- the snapshot of this number has stopped, and none of its units is out
pub record LeavesSnap (w : World) (o : ℕ) : Type 0 where
  pub op : Op
  pub there : fin.get w.ops o ≡ Some op
  pub stopped : Stopped op
  pub idle : (k : ℕ) → UnitIsOut w.tickets w.term o k → ⊥

-- the delete of this number has failed, and none of its units is out
pub record LeavesDelete (w : World) (o : ℕ) : Type 0 where
  pub deletion : Deletion
  pub there : fin.get w.deletes o ≡ Some deletion
  pub failed : deletion.failed ≡ true
  pub idle : (k : ℕ) → UnitIsOut w.tickets w.term o k → ⊥

-- some unit of the snapshot of this number is ready
abbrev pub HasSnapReady : World → ℕ → Type 0
HasSnapReady w o = ((op : Op) × (s : ShardWork) × ReadyShard w o op s) ⊎ (((op : Op) × (results : List ShardResult) × ReadyFinalize w o op results) ⊎ LeavesSnap w o)

-- some unit of the delete or cleanup of this number is ready
abbrev pub HasDeleteReady : World → ℕ → Type 0
HasDeleteReady w o = LeavesDelete w o ⊎ ((x : Deletion) × (ReadyDelete w o x ⊎ ReadyCleanup w o x))

-- some shard of this restore is unread
abbrev pub HasUnread : World → ℕ → Type 0
HasUnread w o = (r : Restoring) × (s : RestoreShard) × ReadyRestore w o r s

-- the lowest number of which it holds, or none where there is none
abbrev pub IsLowest : (ℕ → Type 0) → Option ℕ → Type 0
IsLowest P None = (n : ℕ) → P n → ⊥
IsLowest P (Some o) = P o × ((p : ℕ) → p < o → P p → ⊥)

-- the lowest unit of these is given
pub record GivesLowest (P : ℕ → Type 0) (w : World) (u : ReadyUnit) : Type 0 where
  pub ticket : u.ticket ≡ w.next_ticket
  pub lowest : (p : ℕ) → p < u.op → P p → ⊥
  pub gives : GivesWork w u.op u.work u.copy
  pub copy : IsCopyOf w u.copy

abbrev pub LowestUnit : (ℕ → Type 0) → World → Option (Plan × ReadyUnit) → Type 0
LowestUnit P w None = (n : ℕ) → P n → ⊥
LowestUnit P w (Some (new, u)) = GivesLowest P w u × ((f : Formats) → IsPlanOf (taken_by f w u.op (given_of u) (fin.get w.ops u.op)) new)

-- the unit that is given, with the list of ops in which its ticket is out; or no unit is ready
abbrev pub NextUnit : World → Option (Plan × ReadyUnit) → Type 0
NextUnit w None = AnyReady w → ⊥
NextUnit w (Some (new, u)) = GivesUnit w u × ((f : Formats) → IsPlanOf (taken_by f w u.op (given_of u) (fin.get w.ops u.op)) new)
