-- How far a check has come.
use Rattle.std.specs.Prelude.{◌≡◌, ◌↔◌, ◌≤◌, ℕ, Bool, true, false, List, ◌∷◌, ◌++◌, length, Option}
use Rattle.esr_model.specs.Names.{BlobName}
use Rattle.esr_model.specs.Values.{Bytes, Has}
use Rattle.esr_model.specs.Image.{At}
use Rattle.esr_core.specs.World.{World, Caller}
use Rattle.esr_core.specs.Restores.{AreOnce, WasRead}
use Rattle.esr_core.specs.Allowed.{IsChecking, InReach}
use Rattle.esr_core.specs.Entry.{ReadBlob, LookStep, ReadStep, Entry, Moment}
use Rattle.esr_desk.specs.Grew.{GrewBy}
use Rattle.esr_desk.specs.Start.{Start, Legal, formats_of, told_bytes, world_of}
use Rattle.esr_desk.specs.Own.{caller_of, made_of}
use Rattle.esr_desk.specs.Check.Shown.{AllFetches}
use Rattle.esr_check.specs.Checked.{AreFetched}
use Rattle.esr_check.specs.Names.{FetchesOnly}

-- no record swap has failed that deposed the world
abbrev pub IsAlive : Start → List Moment → Type 0
IsAlive s log = (world_of s log).deposed ≡ false

-- A look of who 0 began the check, and since then it has fetched these blobs, one after another, no two of one name; each was there.
pub record HasLooked (s : Start) (log : List Moment) (names : List BlobName) : Type 0 where
  pub before : List Moment
  pub look : Moment
  pub fetches : List Moment
  pub is : log ≡ before ++ look ∷ fetches
  pub looker : look.entry.who ≡ 0
  pub looks : look.entry.step ≡ LookStep
  pub are : AreFetched fetches names
  pub once : AreOnce names
  pub fetched : (name : BlobName) → Has (caller_of s log).fetched name ↔ Has names name
  pub found : (name : BlobName) → Has (caller_of s log).found name ↔ Has names name

-- A check is open, and has fetched so many blobs, each of which the safe root reaches and is there as it was told.
pub record IsSoFar (s : Start) (log : List Moment) (count : ℕ) : Type 0 where
  pub legal : Legal s log
  pub alive : IsAlive s log
  pub is_open : IsChecking (world_of s log)
  pub names : List BlobName
  pub looked : HasLooked s log names
  pub made : (e : Entry) (name : BlobName) → Has (made_of s log 0) e → e.step ≡ ReadStep (ReadBlob name) → Has names name
  pub count_is : count ≡ length names
  pub counted : count ≡ length (caller_of s log).found
  pub within : count ≤ length log
  pub reached : s.tells ≡ true → (name : BlobName) → Has names name → InReach (formats_of s) (world_of s log) name
  pub told : s.tells ≡ true → (name : BlobName) → Has (caller_of s log).found name → (bytes : Bytes) × WasRead (caller_of s log).read name bytes
  pub there : (name : BlobName) (bytes : Bytes) → WasRead (caller_of s log).read name bytes → At (formats_of s) (world_of s log).blobs name bytes

-- what was found and read before was so still
pub record Grown (a b : Caller) : Type 0 where
  pub found : (name : BlobName) → Has a.found name → Has b.found name
  pub read : (name : BlobName) (bytes : Bytes) → WasRead a.read name bytes → WasRead b.read name bytes

-- the repository is as it was, and no verification or check was opened or ended
pub record IsSame (w v : World) : Type 0 where
  pub blobs : v.blobs ≡ w.blobs
  pub root : v.root ≡ w.root
  pub safe : v.safe ≡ w.safe
  pub deposed : v.deposed ≡ w.deposed
  pub looked : v.caller.looked ≡ w.caller.looked
  pub drawn : v.caller.drawn ≡ w.caller.drawn
  pub spent : v.caller.spent ≡ w.caller.spent

-- The history has gone on by fetches of the check, of such blobs alone: the repository is as it was, and what was fetched before still is.
pub record Went (s : Start) (old new : List Moment) (P : BlobName → Type 0) : Type 0 where
  pub grew : GrewBy s 0 old new
  pub more : List Moment
  pub is : new ≡ old ++ more
  pub all : AllFetches more
  pub same : IsSame (world_of s old) (world_of s new)
  pub grown : Grown (caller_of s old) (caller_of s new)
  pub only : FetchesOnly s old new P

-- a blob came, of which nothing is read yet; where the container is quiet no read of it fails
pub record Came (s : Start) (new : List Moment) (name : BlobName) (left : Option Bytes) (sure : Bool) : Type 0 where
  pub bytes : Bytes
  pub holds : left ≡ told_bytes s bytes
  pub found : Has (caller_of s new).found name
  pub read : s.tells ≡ true → WasRead (caller_of s new).read name bytes
  pub served : s.quiet ≡ true → sure ≡ true
