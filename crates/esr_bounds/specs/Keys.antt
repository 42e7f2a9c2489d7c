-- What a ticket does once, and how many steps it has made.
use Rattle.std.specs.Prelude.{◌≡◌, ℕ, suc, ◌==◌, if◌then◌else◌, List, [], ◌∷◌, Option}
use Rattle.std.specs.FinMap as fin
use Rattle.esr_model.specs.Names.{BlobName}
use Rattle.esr_model.specs.Values.{Bytes, Has, Formats}
use Rattle.esr_core.specs.World.{World, no_caller}
use Rattle.esr_core.specs.Tracked.{Tracked}
use Rattle.esr_core.specs.ReadTracked.{ReadTracked}
use Rattle.esr_core.specs.History.{IsLegal}
use Rattle.esr_core.specs.Entry.{ReadBlob, RestoredShard, ReadFails, FetchShard, PlanShards, SettlePruned, RemoveDoomed, EndDelete, DeleteFails, Step, DrawStep, BeginStep, CommitStep, LatestStep, FetchStep, ListStep, RaiseStep, SettleStep, DoneStep, FailedStep, FinishStep, DroppedStep, ReadStep, PruneStep, DeposedAt, AbortedBy, Reply, Refused, Entry, Moment}

-- What a ticket does once: a step on one name, where it has one; a removal goes by its first name.
pub data Key : Type 0 where
  DrawKey : Key
  BeginKey : (name : BlobName) → Key
  CommitKey : (name : BlobName) → Key
  LatestKey : Key
  FetchKey : (name : BlobName) → Key
  -- a page of the listing, after this name
  PageKey : (from : Option Bytes) → Key
  RaiseKey : Key
  SettleKey : Key
  DropKey : Key
  -- a blob that a restore reads
  ReadKey : (name : BlobName) → Key
  -- of the ticket of a delete or cleanup
  IndexKey : (name : BlobName) → Key
  PlanKey : Key
  PrunedKey : Key
  NoneKey : Key
  RemovalKey : (name : BlobName) → Key
  -- the ticket ends
  EndKey : Key
  -- a step of who 0
  ClientKey : Key

abbrev pub key : Step → Key
key (DrawStep count) = DrawKey
key (BeginStep name) = BeginKey name
key (CommitStep name) = CommitKey name
key LatestStep = LatestKey
key (FetchStep name) = FetchKey name
key (ListStep from) = PageKey from
key RaiseStep = RaiseKey
key SettleStep = SettleKey
key DroppedStep = DropKey
key (DoneStep result) = EndKey
key (FailedStep why) = EndKey
key FinishStep = EndKey
key (ReadStep (ReadBlob name)) = ReadKey name
key (ReadStep (RestoredShard files bytes)) = EndKey
key (ReadStep (ReadFails why)) = EndKey
key (PruneStep (FetchShard name)) = IndexKey name
key (PruneStep (PlanShards shards)) = PlanKey
key (PruneStep SettlePruned) = PrunedKey
key (PruneStep (RemoveDoomed [])) = NoneKey
key (PruneStep (RemoveDoomed (name ∷ names))) = RemovalKey name
key (PruneStep EndDelete) = EndKey
key (PruneStep (DeleteFails why)) = EndKey
key step = ClientKey

-- the keys of entries
abbrev pub keys : List Entry → List Key
keys [] = []
keys (e ∷ entries) = key e.step ∷ keys entries

-- how many moments are steps of who
abbrev pub made_by : List Moment → ℕ → ℕ
made_by [] who = 0
made_by (m ∷ log) who = if m.entry.who == who then suc (made_by log who) else made_by log who

-- refused before it was looked at
abbrev pub IsUnheard : Reply → Type 0
IsUnheard (Refused (DeposedAt place)) = Unit {0}
IsUnheard (Refused (AbortedBy op)) = Unit {0}
IsUnheard reply = ⊥

-- each step was looked at: none was refused since a record swap had failed, or since a delete had aborted the op of its ticket
abbrev pub AreHeard : List Moment → Type 0
AreHeard log = (m : Moment) → Has log m → IsUnheard m.entry.reply → ⊥

-- nothing was done so far: no snapshot is open, and no ticket was given, nor one of a restore
pub record IsUntouched (w : World) : Type 0 where
  pub ops : w.ops ≡ fin.empty
  pub tickets : w.tickets ≡ fin.empty
  pub readers : w.readers ≡ fin.empty
  pub entries : w.entries ≡ []
  -- and who 0 has done nothing
  pub caller : w.caller ≡ no_caller

-- a legal history from a world in which nothing was done, of which each step was looked at
pub record IsHeard (f : Formats) (part_size : ℕ) (w : World) (log : List Moment) : Type 0 where
  pub tracked : Tracked w
  pub readers : ReadTracked w
  pub untouched : IsUntouched w
  pub legal : IsLegal f part_size w log
  pub heard : AreHeard log
