-- That a restore's ticket can end well.
use Rattle.std.specs.Prelude.{◌≡◌, ℕ, List, [], ◌∷◌, ◌++◌}
use Rattle.esr_model.specs.Names.{BlobName}
use Rattle.esr_model.specs.Values.{Bytes, Has, Formats}
use Rattle.esr_core.specs.World.{World, Reader}
use Rattle.esr_core.specs.Past.{entries_by}
use Rattle.esr_core.specs.Entry.{ReadBlob, RestoredShard, ReadStep, HasEnded, Entry, Moment}
use Rattle.esr_core.specs.History.{IsLegal, AreTold}

-- each step of the ticket so far fetched a blob, which it has read
abbrev pub NoFetchFailed : World → ℕ → Reader → Type 0
NoFetchFailed w k q = (e : Entry) → Has (entries_by w.entries k) e → (name : BlobName) × (bytes : Bytes) × (e.step ≡ ReadStep (ReadBlob name)) × Has q.read (name, bytes)

-- a legal history with told images goes on from here to the step in which the ticket has restored its shard
pub record CanEnd (f : Formats) (part_size : ℕ) (w : World) (k : ℕ) : Type 0 where
  pub front : List Moment
  pub last : Moment
  pub legal : IsLegal f part_size w (front ++ last ∷ [])
  pub told : AreTold (front ++ last ∷ [])
  pub files : ℕ
  pub bytes : ℕ
  pub ends : last.entry ≡ record { who = k; step = ReadStep (RestoredShard files bytes); reply = HasEnded }
