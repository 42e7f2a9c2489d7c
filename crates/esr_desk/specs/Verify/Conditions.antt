-- What a step of a verification needs, by what who 0 has done.
use Rattle.std.specs.Prelude.{◌≡◌, ◌⊎◌, ℕ, ◌≤◌, true, false, List, length, Option, Some, None}
use Rattle.esr_model.specs.Names.{BlobName, TestMaster}
use Rattle.esr_model.specs.Values.{Bytes, Has}
use Rattle.esr_core.specs.World.{Caller}
use Rattle.esr_core.specs.Restores.{IsTestOf}
use Rattle.esr_core.specs.Entry.{Read, ReadBlob, BeginTest, CommitTest, RemoveTests, ReadStep, Entry, Moment}
use Rattle.esr_names.specs.IdText.{id_text}
use Rattle.esr_desk.specs.Start.{Start}
use Rattle.esr_desk.specs.Own.{made_of}
use Rattle.esr_desk.specs.Conditions.{Holds}

-- no verification is open, so that one may begin
pub record CanDrawTest (c : Caller) : Type 0 where
  pub undrawn : c.drawn ≡ None
  pub unspent : c.spent ≡ false

-- a verification is open, with an id, or without one, as there was none left
abbrev pub IsOpen : Caller → Type 0
IsOpen c = (c.drawn ≡ None → ⊥) ⊎ (c.spent ≡ true)

-- the name is that of a test blob under the id that was drawn
pub record IsOwn (c : Caller) (name : BlobName) : Type 0 where
  pub id : ℕ
  pub drawn : c.drawn ≡ Some id
  pub test : IsTestOf id name

-- a stage holds the text of the id that was drawn
abbrev pub HoldsText : Start → Caller → Option Bytes → Type 0
HoldsText s c contents = (id : ℕ) × (c.drawn ≡ Some id) × Holds s contents (id_text id)

-- each test blob is committed once
pub record CanCommitTest (c : Caller) (name : BlobName) : Type 0 where
  pub own : IsOwn c name
  pub once : Has c.committed name → ⊥

-- each that was committed is fetched once, before it is removed
pub record CanFetchTest (c : Caller) (name : BlobName) : Type 0 where
  pub drawn : c.drawn ≡ None → ⊥
  pub committed : Has c.committed name
  pub unremoved : Has c.removed name → ⊥
  pub once : Has c.fetched name → ⊥

-- only test blobs that were committed are removed
pub record CanRemoveTests (c : Caller) (names : List BlobName) : Type 0 where
  pub few : length names ≤ 1000
  pub committed : (name : BlobName) → Has names name → Has c.committed name

-- all was well: the master's test blob was committed, and each one was there, and then was removed
pub record CanEndVerification (c : Caller) : Type 0 where
  pub drawn : c.drawn ≡ None → ⊥
  pub master : (id : ℕ) → c.drawn ≡ Some id → Has c.committed (TestMaster id)
  pub found : (name : BlobName) → Has c.committed name → Has c.found name
  pub removed : (name : BlobName) → Has c.committed name → Has c.removed name

-- a step on test blobs: one is begun or committed, some are removed, or one under this id is fetched
abbrev pub IsOnTests : ℕ → Read → Type 0
IsOnTests id (BeginTest name) = Unit {0}
IsOnTests id (CommitTest name) = Unit {0}
IsOnTests id (RemoveTests names) = (name : BlobName) × Has names name
IsOnTests id (ReadBlob name) = IsTestOf id name
IsOnTests id read = ⊥

-- who 0 has made none since it began anew
abbrev pub HasTestedNone : Start → List Moment → ℕ → Type 0
HasTestedNone s log id = (e : Entry) (read : Read) → Has (made_of s log 0) e → e.step ≡ ReadStep read → IsOnTests id read → ⊥
