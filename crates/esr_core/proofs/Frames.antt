-- What stands goes on standing where all that is known of blobs is kept.
use Rattle.std.proofs.Common.{ℕ, zero, suc, List, inl, inr}
use Rattle.esr_model.specs.Names.{BlobName, Root}
use Rattle.esr_model.specs.Values.{Bytes, RootSnap, RootData, Ledger, Formats}
use Rattle.esr_model.specs.Shelf.{Shelved, shelf_after}
use Rattle.esr_model.specs.Image.{Has, IndexStands, Stands, Picked}
use Rattle.esr_core.specs.World.{Swap, Ticket}
use Rattle.esr_core.specs.Swaps.{OrOwn, SwapLaw, TicketLaw}
use Rattle.esr_core.specs.Laws.BlobFrames.{root_kept, stands_kept as law-stands_kept}

-- an index stands in a root that lists no more
pub index_less : (f : Formats) (has : BlobName → Bytes → Type 0) (root new : RootData) → ((snap : RootSnap) → Has new.snapshots snap → Has root.snapshots snap) → (index shard generation : ℕ)
    → IndexStands f has root index shard generation → IndexStands f has new index shard generation
index_less f has root new less index shard generation s = record { held = s.held; held_reads = s.held_reads; files = s.files; snaps = λ l snap m n e. s.snaps l snap m (less snap n) e; below = s.below }

module _ (f : Formats) (has now : BlobName → Bytes → Type 0) (keeps : (name : BlobName) (bytes : Bytes) → has name bytes → now name bytes) where
  stands_kept : (n : ℕ) (shelf : List Shelved) → Stands f has n shelf → Stands f now n shelf
  stands_kept = law-stands_kept f has now keeps

  pub picked_kept : (n : ℕ) (shelf : List Shelved) → Picked f has n shelf → Picked f now n shelf
  picked_kept zero shelf h = h
  picked_kept (suc n) shelf h = stands_kept n shelf h

-- a swap's law and a ticket's
module _ (f : Formats) (has now : BlobName → Bytes → Type 0) (keeps : (name : BlobName) (bytes : Bytes) → has name bytes → now name bytes) where
  or_own_kept : (own : List (BlobName × Bytes)) (name : BlobName) (bytes : Bytes) → OrOwn has own name bytes → OrOwn now own name bytes
  or_own_kept own name bytes (inl h) = inl (keeps name bytes h)
  or_own_kept own name bytes (inr h) = inr h

  pub swap_kept : (shelf : List Shelved) (names : List BlobName) (s : Swap) → SwapLaw f has shelf names s → SwapLaw f now shelf names s
  swap_kept shelf names s l =
      record {
        staged = root_kept f (OrOwn has s.own) (OrOwn now s.own) (or_own_kept s.own) s.root (shelf_after shelf s.commands) l.staged;
        noted = λ name bytes own h. keeps name bytes (l.noted name bytes own h);
        root_noted = λ n h. keeps (Root n) _ (l.root_noted n h);
      }

  pub ticket_kept : (doomed : List BlobName) (ledger : Ledger) (shelf : List Shelved) (t : Ticket) → TicketLaw f has doomed ledger shelf t → TicketLaw f now doomed ledger shelf t
  ticket_kept doomed ledger shelf t l = record { term = l.term; raised = l.raised; last = l.last; clean = l.clean; clean_root = l.clean_root; listed = l.listed; shape = l.shape; swaps = λ s i c. swap_kept shelf t.noted s (l.swaps s i c) }
