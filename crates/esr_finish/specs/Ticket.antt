-- What a finalization's ticket may do next, and what its steps make of it.
use Rattle.std.specs.Prelude.{◌≡◌, ◌⊎◌, ℕ, Bool, true, false, List, [], ◌∷◌, Some, None}
use Rattle.std.proofs.Common.{inl, inr, ap}
use Rattle.esr_model.specs.Names.{BlobName, Root}
use Rattle.esr_model.specs.Values.{Bytes, Has, RootData, SnapInfo, Formats}
use Rattle.esr_core.specs.World.{Ticket, Swap, swap, metadata}
use Rattle.esr_core.specs.Ready.{IsMaster}
use Rattle.esr_core.specs.Entry.{Moment}
use Rattle.esr_desk.specs.Start.{Start, formats_of, ticket_of, told_bytes}
use Rattle.esr_desk.specs.Conditions.{CanCommit, CanFail}
use Rattle.esr_finish.specs.Blobs.{root_blob}

-- ---- what it may do

-- the ticket is out with this swap, which it hasn't settled
pub record HasSwap (s : Start) (t : Ticket) (change : Swap) : Type 0 where
  pub out : t.out ≡ true
  pub is : swap (formats_of s) t ≡ Some change
  pub unsettled : t.settled ≡ false

-- the blobs are among those that its swap writes before the root, and it is no cleanup's
abbrev pub MayPut : Start → Ticket → List (BlobName × Bytes) → Type 0
MayPut s t blobs = (change : Swap) × HasSwap s t change × ((b : BlobName × Bytes) → Has blobs b → Has change.own b) × (t.clean ≡ false)

-- the blob may be committed, as far as the container tells its bytes
abbrev pub MayStore : Start → Ticket → BlobName → Bytes → Type 0
MayStore s t name bytes = (told : Bytes) × (told_bytes s bytes ≡ told_bytes s told) × CanCommit s t name told

-- the name isn't noted
abbrev pub IsUnnoted : Ticket → BlobName → Type 0
IsUnnoted t name = Has t.noted name → ⊥

-- all of them are written, and no root is, so that this root is next
pub record MayPutRoot (s : Start) (t : Ticket) (root : RootData) : Type 0 where
  pub change : Swap
  pub swaps : HasSwap s t change
  pub root_is : root ≡ change.root
  pub noted : (name : BlobName) (bytes : Bytes) → Has change.own (name, bytes) → Has t.noted name
  pub once : t.raised ≡ None
  pub unnoted : (n : ℕ) → Has t.noted (Root n) → ⊥

-- its swap writes the metadata of this info, and then this root; nothing is written yet
pub record MayWrite (s : Start) (t : Ticket) (info : SnapInfo) (root : RootData) : Type 0 where
  pub change : Swap
  pub swaps : HasSwap s t change
  pub own_is : change.own ≡ metadata (formats_of s) info
  pub root_is : root ≡ change.root
  pub once : t.raised ≡ None
  pub unnoted : t.noted ≡ []
  pub untried : t.tried_latest ≡ false
  pub plain : t.clean ≡ false

-- the ticket of a finalization is out and hasn't settled, so that the unit may fail
pub record IsUnsettledMaster (t : Ticket) : Type 0 where
  pub fails : CanFail t
  pub master : IsMaster t.work

-- ---- what its steps make of it

-- the names of blobs, the last first, and then those that were noted before
abbrev pub noted_with : List (BlobName × Bytes) → List BlobName → List BlobName
noted_with [] noted = noted
noted_with (b ∷ blobs) noted = noted_with blobs (b.0 ∷ noted)

noted_stays : (blobs : List (BlobName × Bytes)) (noted : List BlobName) (name : BlobName) → Has noted name → Has (noted_with blobs noted) name
noted_stays [] noted name has = has
noted_stays (b ∷ blobs) noted name has = noted_stays blobs (b.0 ∷ noted) name (inr has)

-- each of the blobs is noted
pub has_noted : (blobs : List (BlobName × Bytes)) (noted : List BlobName) (b : BlobName × Bytes) → Has blobs b → Has (noted_with blobs noted) b.0
has_noted [] noted b none = absurd none
has_noted (x ∷ blobs) noted b (inl same) = noted_stays blobs (x.0 ∷ noted) b.0 (inl (ap (λ (y : BlobName × Bytes). y.0) same))
has_noted (x ∷ blobs) noted b (inr later) = has_noted blobs (x.0 ∷ noted) b later

-- the blobs were committed one after another, each added or found
pub record Wrote (old new : Ticket) (blobs : List (BlobName × Bytes)) : Type 0 where
  -- those that were added, where the container tells
  pub wrote : List (BlobName × Bytes)
  pub from : (b : BlobName × Bytes) → Has wrote b → Has old.wrote b ⊎ Has blobs b
  pub is : new ≡ record old { noted = noted_with blobs old.noted; wrote = wrote }

abbrev pub Puts : Start → List Moment → List Moment → ℕ → List (BlobName × Bytes) → Type 0
Puts s old new who blobs = Wrote (ticket_of s old who) (ticket_of s new who) blobs

abbrev pub raised_to : Ticket → ℕ → Ticket
raised_to t n = record t { raised = Some n }

-- a generation was raised, and the root committed under it
abbrev pub PutsRoot : Start → List Moment → List Moment → ℕ → RootData → ℕ → Type 0
PutsRoot s old new who root n = Wrote (raised_to (ticket_of s old who) n) (ticket_of s new who) (root_blob (formats_of s) n root ∷ [])

-- All that goes before the settle is done: the ticket has raised a generation, has noted what its swap writes and the
-- root under that generation, and has tried `index.latest`. Nothing else of it changed.
pub record IsWritten (f : Formats) (old new : Ticket) : Type 0 where
  pub change : Swap
  pub swaps : swap f old ≡ Some change
  pub n : ℕ
  pub wrote : List (BlobName × Bytes)
  pub from : (b : BlobName × Bytes) → Has wrote b → Has old.wrote b ⊎ (Has change.own b ⊎ (root_blob f n change.root ≡ b))
  pub is : new ≡ record old { noted = Root n ∷ noted_with change.own old.noted; wrote = wrote; raised = Some n; tried_latest = true }

-- and it has settled
pub record HasSettled (f : Formats) (old : Ticket) (out : Bool) (new : Ticket) : Type 0 where
  pub written : Ticket
  pub is_written : IsWritten f old written
  pub is : new ≡ record written { settled = true; out = out }

-- it has settled and ended
abbrev pub HasEndedSettled : Ticket → Ticket → Type 0
HasEndedSettled old new = new ≡ record old { settled = true; out = false }

-- all of this
abbrev pub Finalized : Start → List Moment → List Moment → ℕ → Type 0
Finalized s old new who = HasSettled (formats_of s) (ticket_of s old who) false (ticket_of s new who)
