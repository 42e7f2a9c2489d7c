-- What who 0 has done of a verification.
use Rattle.std.specs.Prelude.{◌≡◌, ◌⊎◌, ℕ, true, List, [], ◌∷◌, Some}
use Rattle.esr_model.specs.Names.{BlobName}
use Rattle.esr_model.specs.Values.{Bytes, Has}
use Rattle.esr_core.specs.World.{Caller}
use Rattle.esr_core.specs.Restores.{IsTestOf, WasRead}
use Rattle.esr_core.specs.After.{caller_told, caller_wrote}
use Rattle.esr_core.specs.Entry.{ReadBlob, BeginTest, CommitTest, RemoveTests, ReadStep, Entry, Moment}
use Rattle.esr_names.specs.IdText.{id_text}
use Rattle.esr_desk.specs.Start.{Start, told_bytes}
use Rattle.esr_desk.specs.Own.{caller_of, made_of}
use Rattle.esr_unit.specs.Fetch.{MadeOne}
use Rattle.esr_verify.specs.Steps.{writing, reading}
use Rattle.esr_verify.specs.Went.{Went}

-- It has committed these test blobs under the id, and fetched some of them, which were there; where the container tells, each held
-- the text of the id. It has removed none.
pub record HasDone (s : Start) (c : Caller) (id : ℕ) (written fetched : List BlobName) : Type 0 where
  pub drawn : c.drawn ≡ Some id
  pub committed : (name : BlobName) → Has written name → Has c.committed name
  pub only : (name : BlobName) → Has c.committed name → Has written name
  pub once : (name : BlobName) → Has c.fetched name → Has fetched name
  pub found : (name : BlobName) → Has fetched name → Has c.found name
  pub read : (name : BlobName) → Has fetched name → s.tells ≡ true → WasRead c.read name (id_text id)
  pub unremoved : c.removed ≡ []

-- of test blobs who 0 has begun and committed these alone, and fetched these alone of those under the id, since it began anew; it has
-- removed none
pub record HasMade (s : Start) (log : List Moment) (id : ℕ) (written fetched : List BlobName) : Type 0 where
  pub begun : (e : Entry) (name : BlobName) → Has (made_of s log 0) e → e.step ≡ ReadStep (BeginTest name) → Has written name
  pub committed : (e : Entry) (name : BlobName) → Has (made_of s log 0) e → e.step ≡ ReadStep (CommitTest name) → Has written name
  pub read : (e : Entry) (name : BlobName) → Has (made_of s log 0) e → e.step ≡ ReadStep (ReadBlob name) → IsTestOf id name → Has fetched name
  pub unremoved : (e : Entry) (names : List BlobName) (name : BlobName) → Has (made_of s log 0) e → e.step ≡ ReadStep (RemoveTests names) → Has names name → ⊥

-- one test blob more is begun and committed, with these bytes
pub record Wrote (s : Start) (old new : List Moment) (name : BlobName) (bytes : Bytes) : Type 0 where
  pub went : Went old new (writing (name ∷ []))
  pub own : caller_of s new ≡ caller_wrote (caller_of s old) name (told_bytes s bytes)
  pub made : (e : Entry) → Has (made_of s new 0) e → Has (made_of s old 0) e ⊎ ((e.step ≡ ReadStep (BeginTest name)) ⊎ (e.step ≡ ReadStep (CommitTest name)))

-- one test blob more is fetched and held these bytes
pub record Fetched (s : Start) (old new : List Moment) (name : BlobName) (bytes : Bytes) : Type 0 where
  pub went : Went old new (reading (name ∷ []))
  pub own : caller_of s new ≡ caller_told (caller_of s old) name (told_bytes s bytes)
  pub made : MadeOne s old new 0 (ReadStep (ReadBlob name))
