-- The inductive law. Each part reads only what it names, so that a step that leaves that alone keeps the part as it is.
use Rattle.std.specs.Prelude.{◌≡◌, ℕ, suc, ◌<◌, ◌≤◌, ◌⊎◌, true, false, List, Some}
use Rattle.std.specs.Ordering.{nat_cmp}
use Rattle.std.specs.FinMap.{FinMap}
use Rattle.std.specs.FinMap as fin
use Rattle.esr_model.specs.Names.{BlobName, Root}
use Rattle.esr_model.specs.Values.{Bytes, Ledger, ReadsBack, Formats}
use Rattle.esr_model.specs.Shelf.{Shelved, shelf_after}
use Rattle.esr_model.specs.Cleanup.{names_listed}
use Rattle.esr_model.specs.Image.{Has, RootStands, KeptBy}
use Rattle.esr_core.specs.World.{World, Ticket, Swap, swap, ledger_of, HeldIn}
use Rattle.esr_core.specs.Restores.{IsTestOf}

-- the blob is there, or the unit writes it
abbrev pub OrOwn : (BlobName → Bytes → Type 0) → List (BlobName × Bytes) → BlobName → Bytes → Type 0
OrOwn has own name bytes = has name bytes ⊎ Has own (name, bytes)

-- the ticket's swap may still become the safe root, or a root above it
abbrev pub Counts : Ledger → Ticket → Type 0
Counts ledger t = (t.term ≡ ledger.term) ⊎ ((n : ℕ) × (t.raised ≡ Some n) × (ledger.safe ≤ n))

-- its root can be written, its own blobs are no roots and no test blobs, and each has one text
pub record SwapShape (f : Formats) (s : Swap) : Type 0 where
  pub root_back : ReadsBack f.root s.root
  pub no_root : (n : ℕ) (bytes : Bytes) → Has s.own (Root n, bytes) → ⊥
  pub no_test : (v : ℕ) (name : BlobName) (bytes : Bytes) → Has s.own (name, bytes) → IsTestOf v name → ⊥
  pub one_text : (name : BlobName) (a b : Bytes) → Has s.own (name, a) → Has s.own (name, b) → a ≡ b

-- what holds of a swap that counts, of which the ticket noted these names
pub record SwapLaw (f : Formats) (has : BlobName → Bytes → Type 0) (shelf : List Shelved) (names : List BlobName) (s : Swap) : Type 0 where
  -- with its own blobs added, all that its root reaches is there
  pub staged : RootStands f (OrOwn has s.own) s.root (shelf_after shelf s.commands)
  pub noted : (name : BlobName) (bytes : Bytes) → Has s.own (name, bytes) → Has names name → has name bytes
  pub root_noted : (n : ℕ) → Has names (Root n) → has (Root n) (f.root.text s.root)

-- a swap that isn't settled
pub record IsUnsettled (f : Formats) (t : Ticket) (s : Swap) : Type 0 where
  pub is : swap f t ≡ Some s
  pub out : t.out ≡ true
  pub unsettled : t.settled ≡ false

-- what holds of each ticket
pub record TicketLaw (f : Formats) (has : BlobName → Bytes → Type 0) (doomed : List BlobName) (ledger : Ledger) (shelf : List Shelved) (t : Ticket) : Type 0 where
  pub term : t.term ≤ ledger.term
  pub raised : (n : ℕ) → t.raised ≡ Some n → n < ledger.pending
  pub last : (s : Swap) → IsUnsettled f t s → t.term ≡ ledger.term → (n : ℕ) → t.raised ≡ Some n → (suc n ≡ ledger.pending) × (ledger.safe ≤ n)
  pub shape : (s : Swap) → swap f t ≡ Some s → SwapShape f s
  pub swaps : (s : Swap) → IsUnsettled f t s → Counts ledger t → SwapLaw f has shelf t.noted s
  -- none of the names that it may commit is doomed
  pub clean : (s : Swap) → IsUnsettled f t s → Counts ledger t → (name : BlobName) (bytes : Bytes) → Has s.own (name, bytes) → Has doomed name → ⊥
  pub clean_root : (n : ℕ) → t.raised ≡ Some n → ledger.safe ≤ n → Has doomed (Root n) → ⊥
  -- each root that it listed was begun
  pub listed : (n : ℕ) → Has (names_listed f t.listed) (Root n) → n < ledger.pending

-- the ticket has a swap of this term that is not settled
pub record IsSwapping (f : Formats) (tickets : FinMap nat_cmp Ticket) (term k : ℕ) : Type 0 where
  pub t : Ticket
  pub there : fin.get tickets k ≡ Some t
  pub s : Swap
  pub is : IsUnsettled f t s
  pub present : t.term ≡ term

pub record Rooted (f : Formats) (w : World) (shelf : List Shelved) : Type 0 where
  pub kept : KeptBy f (HeldIn f w) w.blobs (ledger_of w) shelf
  pub doomed_begun : (n : ℕ) → Has w.doomed (Root n) → n < w.pending
  pub tickets : (k : ℕ) (t : Ticket) → fin.get w.tickets k ≡ Some t → TicketLaw f (HeldIn f w) w.doomed (ledger_of w) shelf t
  pub single : (j k : ℕ) → IsSwapping f w.tickets w.term j → IsSwapping f w.tickets w.term k → j ≡ k
