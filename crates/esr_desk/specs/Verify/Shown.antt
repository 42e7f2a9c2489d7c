-- What shows why a verification failed.
use Rattle.std.specs.Prelude.{◌≡◌, ◌⊎◌, ◌≤◌, ◌^◌, ℕ, true, List, length, Some}
use Rattle.esr_model.specs.Names.{BlobName}
use Rattle.esr_model.specs.Values.{Bytes, Has}
use Rattle.esr_core.specs.World.{Caller}
use Rattle.esr_core.specs.Restores.{WasRead}
use Rattle.esr_core.specs.Entry.{BadId, Why, OfDepot, OfAbsence, OfUnreadable, OfTaken, OfIdsSpent, OfPrint, Step, ReadStep, ReadBlob, DrawTest, DrawnFrom, WasAbsent, Reply, Refusal, Refused, DepotFault, IdsSpent, NameTaken, Moment}
use Rattle.esr_names.specs.IdText.{id_text}
use Rattle.esr_desk.specs.declared.fault.By.{By}
use Rattle.esr_desk.specs.Start.{Start, formats_of}
use Rattle.esr_desk.specs.Own.{caller_of}
use Rattle.esr_desk.specs.Evidence.{Evidence, HadReply, HadSince, DepotShown, ReadShown, StepShown}

-- who 0 got this answer to a step after it drew the id of its test blobs
pub record HadAfterDraw (log : List Moment) (c : Caller) (step : Step) (reply : Reply) : Type 0 where
  pub id : ℕ
  pub is_open : c.drawn ≡ Some id
  pub had : HadSince log 0 (ReadStep DrawTest) (DrawnFrom id) step reply

-- some step after the draw was refused so
abbrev pub HadRefusalIn : List Moment → Caller → Refusal → Type 0
HadRefusalIn log c refusal = (step : Step) × HadAfterDraw log c step (Refused refusal)

-- who 0 was to draw an id, and there was none left
pub record HadNoId (log : List Moment) (c : Caller) (next : ℕ) : Type 0 where
  pub is_open : c.spent ≡ true
  pub had : HadReply log 0 (ReadStep DrawTest) (Refused (IdsSpent next))

-- a test blob that was committed and not removed is absent
pub record IsAbsent (log : List Moment) (c : Caller) (name : BlobName) : Type 0 where
  pub committed : Has c.committed name
  pub unremoved : Has c.removed name → ⊥
  pub missing : HadAfterDraw log c (ReadStep (ReadBlob name)) WasAbsent

-- what was read of a test blob that was fetched, and there, isn't the text of its id, though it has its print, or is too much to have one
pub record IsOther (s : Start) (c : Caller) (name : BlobName) : Type 0 where
  pub id : ℕ
  pub drawn : c.drawn ≡ Some id
  pub committed : Has c.committed name
  pub there : Has c.found name
  pub bytes : Bytes
  pub read : s.tells ≡ true → WasRead c.read name bytes
  pub differ : bytes ≡ id_text id → ⊥
  pub unprinted : (2 ^ 61 ≤ length bytes) ⊎ ((length (id_text id) ≡ length bytes) × ((formats_of s).digest (id_text id) ≡ (formats_of s).digest bytes))

-- what was read of a test blob that was fetched, and there, has another print than the text of its id
pub record IsMisprinted (s : Start) (c : Caller) (name : BlobName) (stated_len : ℕ) (stated_digest : Bytes) (found_len : ℕ) (found_digest : Bytes) : Type 0 where
  pub id : ℕ
  pub drawn : c.drawn ≡ Some id
  pub committed : Has c.committed name
  pub there : Has c.found name
  pub bytes : Bytes
  pub read : s.tells ≡ true → WasRead c.read name bytes
  pub stated_len_is : stated_len ≡ length (id_text id)
  pub stated_digest_is : stated_digest ≡ (formats_of s).digest (id_text id)
  pub found_len_is : found_len ≡ length bytes
  pub found_digest_is : found_digest ≡ (formats_of s).digest bytes
  pub differ : stated_len ≡ found_len → stated_digest ≡ found_digest → ⊥

-- By its cause: an object that failed, or a step; or a test blob is absent; or it holds something else, which is told as no text of an
-- id or by its print; or its name was taken.
abbrev pub IsVerifyShownBy : {S F H T : Type 0} → Evidence S F H T → Start → List Moment → Caller → Why → By S F H T → Type 0
IsVerifyShownBy e s log c OfDepot b = DepotShown e s (HadRefusalIn log c DepotFault) b
IsVerifyShownBy e s log c (OfAbsence name) b = ReadShown b (IsAbsent log c name)
IsVerifyShownBy e s log c (OfUnreadable name reason) b = ReadShown b (IsOther s c name × (reason ≡ BadId))
IsVerifyShownBy e s log c (OfPrint name stated_len stated_digest found_len found_digest) b = ReadShown b (IsMisprinted s c name stated_len stated_digest found_len found_digest)
IsVerifyShownBy e s log c (OfTaken name) b = StepShown b (HadRefusalIn log c (NameTaken name))
IsVerifyShownBy e s log c (OfIdsSpent next) b = StepShown b (HadNoId log c next)
-- the others are of snapshots, restores and checks
IsVerifyShownBy e s log c why b = ⊥

pub record IsVerifyShown {S F H T : Type 0} (e : Evidence S F H T) (s : Start) (log : List Moment) (who : ℕ) (why : Why) (b : By S F H T) : Type 0 where
  pub client : who ≡ 0
  pub shown : IsVerifyShownBy e s log (caller_of s log) why b
