-- The laws on which the targets rest.
use Rattle.std.specs.Prelude.{◌≡◌, ℕ, ◌<◌, ◌≤◌, List, [], ◌∷◌, ◌++◌, Some}
use Rattle.std.specs.FinMap as fin
use Rattle.esr_model.specs.Values.{Bytes, Has, IndexRef, RootData, ClusterRecord, Formats}
use Rattle.esr_model.specs.Image.{Blobs, Image}
use Rattle.esr_model.specs.Kept.{Kept}
use Rattle.esr_model.specs.Shelf.{Shelved, shelf_after}
use Rattle.esr_core.specs.World.{World, Reader, opened, Opened}
use Rattle.esr_core.specs.Entry.{Restore, AskStep, Given, GivenRestore, Gave, AcceptedRestore, Moment}
use Rattle.esr_core.specs.After.{after}
use Rattle.esr_core.specs.Allowed.{RestoredBy, Allowed}
use Rattle.esr_core.specs.Causes.{TakeGave, RestoreBegan}
use Rattle.esr_core.specs.History.{world_from, IsLegal, AreTold, committed}
use Rattle.esr_core.specs.Ids.{Law}
use Rattle.esr_core.specs.Tracked.{Tracked}
use Rattle.esr_core.specs.ReadTracked.{ReadTracked}
use Rattle.esr_core.specs.ReadLaw.{ReadLaw, IsOnShelf}
use Rattle.esr_core.specs.Restored.{IsShelvedAs}
use Rattle.esr_core.specs.Restores.{IsReading}
use Rattle.esr_readers.specs.Readers.{RestoresIn, IsThereAs, IsGiven, IsReaderOf}

-- of the tickets of restores, over any container
pub record ReaderLaws : Type 0 where
  pub takes : (f : Formats) (part_size : ℕ) (w : World) (m : Moment) (k o : ℕ) (unit : Given) → Allowed f part_size w m → m.entry.reply ≡ Gave k o unit → TakeGave f w m.entry.who m.entry.step k o unit
  pub began : (f : Formats) (part_size : ℕ) (w : World) (m : Moment) (o uuid : ℕ) (indices : List IndexRef) → Allowed f part_size w m → m.entry.reply ≡ AcceptedRestore o uuid indices
      → RestoreBegan f w m.entry.who m.entry.step o uuid indices m.image
  pub tracked : (f : Formats) (part_size : ℕ) (w : World) (log : List Moment) → Tracked w → IsLegal f part_size w log → Tracked (world_from f w log)
  pub read_tracked : (f : Formats) (part_size : ℕ) (w : World) (log : List Moment) → Tracked w → ReadTracked w → IsLegal f part_size w log → ReadTracked (world_from f w log)
  pub given : (f : Formats) (part_size : ℕ) (w : World) (m : Moment) (k o index number uuid : ℕ) → Allowed f part_size w m → m.entry.reply ≡ Gave k o (GivenRestore index number uuid) → IsGiven (after f w m) k o index number uuid
  pub stay : (f : Formats) (part_size : ℕ) (w : World) (log : List Moment) (k : ℕ) (q : Reader) → Tracked w → ReadTracked w → IsLegal f part_size w log → fin.get w.readers k ≡ Some q → IsThereAs (world_from f w log) k q
  pub of : (f : Formats) (part_size : ℕ) (w : World) (before rest : List Moment) (m : Moment) (name place : Bytes) (o uuid : ℕ) (indices : List IndexRef) (k : ℕ) (q : Reader) → Tracked w → ReadTracked w
      → IsLegal f part_size w (before ++ m ∷ rest) → m.entry.step ≡ AskStep (Restore name place)
      → m.entry.reply ≡ AcceptedRestore o uuid indices → IsReading (world_from f w (before ++ m ∷ rest)) k q → q.op ≡ o → IsReaderOf q uuid place indices
  pub apart : (f : Formats) (part_size : ℕ) (w : World) (m : Moment) (o uuid : ℕ) (indices : List IndexRef) (r q : IndexRef) → Tracked w → Allowed f part_size w m → m.entry.reply ≡ AcceptedRestore o uuid indices → Has indices r
      → Has indices q → r.name ≡ q.name → r ≡ q
  pub one_id : (f : Formats) (part_size : ℕ) (w : World) (m : Moment) (o uuid : ℕ) (indices : List IndexRef) (r q : IndexRef) → Allowed f part_size w m → m.entry.reply ≡ AcceptedRestore o uuid indices → Has indices r → Has indices q
      → r.id ≡ q.id → r ≡ q
  pub numbered : (f : Formats) (part_size : ℕ) (w : World) (m : Moment) (o uuid : ℕ) (indices : List IndexRef) → Allowed f part_size w m → m.entry.reply ≡ AcceptedRestore o uuid indices → (o ≡ w.next_op) × (o < (after f w m).next_op)
  pub rises : (f : Formats) (part_size : ℕ) (w : World) (log : List Moment) → Tracked w → IsLegal f part_size w log → w.next_op ≤ (world_from f w log).next_op
  pub once : (f : Formats) (part_size : ℕ) (w : World) (before between : List Moment) (a b : Moment) (j k files bytes more total : ℕ) (p q : Reader) → Tracked w → ReadTracked w → IsLegal f part_size w (before ++ a ∷ between ++ b ∷ [])
      → RestoresIn a j files bytes → RestoresIn b k more total
      → fin.get (world_from f w before).readers j ≡ Some p → fin.get (world_from f w (before ++ a ∷ between)).readers k ≡ Some q → p.op ≡ q.op → p.index ≡ q.index → p.number ≡ q.number → ⊥

-- of the shelf, over a container that tells
pub record ShelfLaws : Type 0 where
  pub opening : (f : Formats) (image : Image) (shelf : List Shelved) (w : World) → Kept f image shelf → Opened f image w → Law f w shelf
  pub opened_reads : (f : Formats) (blobs : Blobs) (cluster : ClusterRecord) (root : RootData) → ReadLaw f (opened blobs cluster root)
  pub lawful : (f : Formats) (part_size : ℕ) (image : Image) (shelf : List Shelved) (w : World) (log : List Moment) → Kept f image shelf → Opened f image w → IsLegal f part_size w log → AreTold log
      → Law f (world_from f w log) (shelf_after shelf (committed f (world_from f w log).safe w log))
  pub gives : (f : Formats) (part_size : ℕ) (shelf : List Shelved) (w : World) (before rest : List Moment) (m : Moment) (name place : Bytes) (o uuid : ℕ) (indices : List IndexRef) (k : ℕ) (q : Reader) (files bytes : ℕ) → Law f w shelf
      → ReadLaw f w → IsLegal f part_size w (before ++ m ∷ rest)
      → AreTold (before ++ m ∷ rest) → m.entry.step ≡ AskStep (Restore name place) → m.entry.reply ≡ AcceptedRestore o uuid indices → IsReading (world_from f w (before ++ m ∷ rest)) k q → q.op ≡ o
      → (by : RestoredBy f q files bytes)
      → IsOnShelf f (shelf_after shelf (committed f (world_from f w before).safe w before)) q files bytes by
  pub asked : (f : Formats) (part_size : ℕ) (w : World) (shelf : List Shelved) (m : Moment) (name place : Bytes) (o uuid : ℕ) (indices : List IndexRef) (image : Image) → Law f w shelf → Allowed f part_size w m → m.image ≡ Some image
      → m.entry.step ≡ AskStep (Restore name place)
      → m.entry.reply ≡ AcceptedRestore o uuid indices → IsShelvedAs shelf name uuid indices
