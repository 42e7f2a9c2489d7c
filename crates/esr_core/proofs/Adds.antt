-- A blob more, under a name that was absent.
use Rattle.std.proofs.Common.{◌≡◌, ◌⊎◌, ℕ, ◌<◌, ◌≤◌, List, None, sym, inl, inr}
use Rattle.std.specs.Cmp.Lexicographic.{nat_list_cmp_total}
use Rattle.std.specs.FinMap as fin
use Rattle.esr_model.specs.Names.{BlobName, Root}
use Rattle.esr_model.specs.Values.{Bytes, Ledger, Formats}
use Rattle.esr_model.specs.Shelf.{Shelved}
use Rattle.esr_model.specs.Image.{IsStored, Blobs, At, Whole, KeptBy}
use Rattle.esr_core.specs.World.{Ticket, Swap, Safely}
use Rattle.esr_core.specs.Swaps.{SwapLaw, TicketLaw}
use Rattle.esr_core.specs.Laws.Maps.{get_was, texts_same}
use Rattle.esr_core.specs.Laws.BlobFrames.{stands_kept, added as law-added, at_kept as law-at_kept, at_was as law-at_was}
use Rattle.esr_core.proofs.Frames.{picked_kept, swap_kept, ticket_kept}

module _ (f : Formats) (blobs : Blobs) (name : BlobName) (bytes : Bytes) (named : IsStored f name) (absent : fin.get blobs (f.names.text name) ≡ None) (doomed : List BlobName) where
  abbrev added : Blobs
  added = law-added f blobs name bytes named absent doomed

  at_kept : (m : BlobName) (b : Bytes) → At f blobs m b → At f added m b
  at_kept = law-at_kept f blobs name bytes named absent doomed

  at_was : (m : BlobName) (b : Bytes) → At f added m b → ((m ≡ name) × (bytes ≡ b)) ⊎ At f blobs m b
  at_was = law-at_was f blobs name bytes named absent doomed

  abbrev was : BlobName → Bytes → Type 0
  was = Safely f blobs doomed

  abbrev pub now : BlobName → Bytes → Type 0
  now = Safely f added doomed

  pub safe_kept : (m : BlobName) (b : Bytes) → was m b → now m b
  safe_kept m b h = (at_kept m b h.0, h.1)

  pub whole_kept : (n : ℕ) → Whole f was n → Whole f now n
  whole_kept n h = (h.0, stands_kept f was now safe_kept n h.0 h.1)

  -- a root among what is added has to be whole itself, where it is above the safe one
  pub kept_added : (ledger : Ledger) (shelf : List Shelved) → KeptBy f was blobs ledger shelf
      → ((n : ℕ) → name ≡ Root n → (n < ledger.pending) × (ledger.safe ≤ n → Whole f now n))
      → KeptBy f now added ledger shelf
  kept_added ledger shelf h root =
      record {
        ordered = h.ordered;
        picked = picked_kept f was now safe_kept ledger.safe shelf h.picked;
        begun = λ n p. elim (at_was (Root n) p.0 p.1) [ inl e ↦ (root n (sym e.0)).0 | inr e ↦ h.begun n (p.0, e) ];
        whole = λ n p above. elim (at_was (Root n) p.0 p.1) [ inl e ↦ (root n (sym e.0)).1 above | inr e ↦ whole_kept n (h.whole n (p.0, e) above) ];
        named = λ text b there. elim (get_was nat_list_cmp_total texts_same blobs (f.names.text name) bytes text b there) [ inl e ↦ (name, sym e.0, named.0) | inr e ↦ h.named text b e.1 ];
      }

  pub swap_added : (shelf : List Shelved) (names : List BlobName) (s : Swap) → SwapLaw f was shelf names s → SwapLaw f now shelf names s
  swap_added shelf names s l = swap_kept f was now safe_kept shelf names s l

  pub ticket_added : (ledger : Ledger) (shelf : List Shelved) (t : Ticket) → TicketLaw f was doomed ledger shelf t → TicketLaw f now doomed ledger shelf t
  ticket_added ledger shelf t l = ticket_kept f was now safe_kept doomed ledger shelf t l
