-- The world after a step of who 0: a look, a fetch, or the end of a check.
use Rattle.std.proofs.Common.{◌≡◌, ◌⊎◌, inl, inr, ℕ, suc, true, false, List, [], ◌∷◌, ◌++◌, append-nil, Option, Some, None, refl, sym, ap, ◌∙◌, subst}
use Rattle.std.specs.FinMap as fin
use Rattle.esr_model.specs.Names.{BlobName, Root}
use Rattle.esr_model.specs.Values.{Bytes, Has, RootSnap, RootData, Formats}
use Rattle.esr_model.specs.Image.{Blobs, Image, IsStored, At, Reads}
use Rattle.esr_model.specs.Reach.{Reached}
use Rattle.esr_core.specs.World.{World, Caller, no_caller}
use Rattle.esr_core.specs.Restores.{WasRead}
use Rattle.esr_core.specs.Entry.{Read, ReadBlob, CheckedAll, Step, LookStep, ReadStep, Reply, Refused, DepotFault, DeposedAt, WasFetched, WasAbsent, Looked, HasEnded, Moment, Entry, Refusal}
use Rattle.esr_core.specs.After.{after, heard, answered, blobs_in, told_blob, caller_told, caller_after}
use Rattle.esr_core.specs.Allowed as allowed
use Rattle.esr_core.specs.Allowed.{InReach, SameBlobs, ReadAllows, ReadFound, VerifyAllows, DrawingTest, Allows, Allowed, Blocks, ByFailedSwap, ByDelete}
use Rattle.esr_core.specs.Past.{with_entry, entries_by}
use Rattle.esr_core.specs.History.{world_from, IsLegal}
use Rattle.esr_core.specs.Laws.Asides.{blobs_stay}
use Rattle.esr_desk.specs.Start.{Start, Legal, formats_of, world_of}
use Rattle.esr_desk.specs.Outcome.{Waited, Stepped}
use Rattle.esr_desk.specs.Own.{caller_of, made_of}
use Rattle.esr_desk.specs.Made.{world_more}
use Rattle.esr_check.specs.Went.{Grown, IsSame}

-- ---- histories

pub legal_last : (f : Formats) (size : ℕ) (w : World) (front : List Moment) (m : Moment) → IsLegal f size w (front ++ m ∷ []) → Allowed f size (world_from f w front) m
legal_last f size w [] m legal = legal.0
legal_last f size w (x ∷ front) m legal = legal_last f size (after f w x) front m legal.1

pub front_is : (s : Start) (old front : List Moment) (who : ℕ) → s.alone ≡ true → Waited s old front who → front ≡ old
front_is s old front who alone h = h.grew ∙ ap (λ (others : List Moment). old ++ others) (h.nobody alone) ∙ append-nil old

-- ---- the blobs are left

abbrev LeavesBlobs : World → Step → Option Image → Type 0
LeavesBlobs w (ReadStep (ReadBlob name)) image = SameBlobs w image
LeavesBlobs w (ReadStep (CheckedAll snapshots blobs)) image = SameBlobs w image
LeavesBlobs w LookStep image = SameBlobs w image
LeavesBlobs w step image = Unit {0}

read_leaves : (w : World) (read : Read) (image : Option Image) → SameBlobs w image → LeavesBlobs w (ReadStep read) image
read_leaves w (ReadBlob name) image same = same
read_leaves w (CheckedAll snapshots blobs) image same = same
read_leaves w read image same = tt

step_leaves : (w : World) (step : Step) (image : Option Image) → SameBlobs w image → LeavesBlobs w step image
step_leaves w (ReadStep read) image same = read_leaves w read image same
step_leaves w LookStep image same = same
step_leaves w step image same = tt

verify_leaves : (f : Formats) (w : World) (read : Read) (reply : Reply) (image : Option Image) → VerifyAllows f w read reply image → LeavesBlobs w (ReadStep read) image
verify_leaves f w read reply image (DrawingTest im may fits same) = tt
verify_leaves f w read reply image a = tt

leaves : (f : Formats) (size : ℕ) (w : World) (who : ℕ) (step : Step) (reply : Reply) (image : Option Image) → Allows f size w who step reply image → LeavesBlobs w step image
leaves f size w who step reply image (allowed.Reading k read rep im a same) = read_leaves w read im same
leaves f size w who step reply image (allowed.Verifying read rep im a) = verify_leaves f w read rep im a
leaves f size w who step reply image (allowed.Looking im same) = same
leaves f size w who step reply image a = tt

left_by : (f : Formats) (size : ℕ) (w : World) (m : Moment) → Allowed f size w m → LeavesBlobs w m.entry.step m.image
left_by f size w m a = elim a.answered [
  | inl alive ↦ leaves f size w m.entry.who m.entry.step m.entry.reply m.image alive.1
  | inr dead ↦ step_leaves w m.entry.step m.image dead.same
]

-- ---- what an answer tells

abbrev Tells : Formats → World → Step → Reply → Type 0
Tells f w (ReadStep (ReadBlob name)) WasFetched = IsStored f name
Tells f w LookStep (Looked snapshots safe) = (snapshots ≡ w.root.snapshots) × (safe ≡ w.safe)
Tells f w step reply = Unit {0}

read_tells : (f : Formats) (w : World) (who : ℕ) (read : Read) (reply : Reply) (image : Option Image) → ReadAllows f w who read reply image → Tells f w (ReadStep read) reply
read_tells f w who read reply image (ReadFound k name im stored by told) = stored
read_tells f w who read reply image a = tt

verify_tells : (f : Formats) (w : World) (read : Read) (reply : Reply) (image : Option Image) → VerifyAllows f w read reply image → Tells f w (ReadStep read) reply
verify_tells f w read reply image (DrawingTest im may fits same) = tt
verify_tells f w read reply image a = tt

tells : (f : Formats) (size : ℕ) (w : World) (who : ℕ) (step : Step) (reply : Reply) (image : Option Image) → Allows f size w who step reply image → Tells f w step reply
tells f size w who step reply image (allowed.Reading k read rep im a same) = read_tells f w k read rep im a
tells f size w who step reply image (allowed.Verifying read rep im a) = verify_tells f w read rep im a
tells f size w who step reply image (allowed.Looking im same) = (refl, refl)
tells f size w who step reply image a = tt

-- a refusal tells nothing
refused_tells : (f : Formats) (w : World) (step : Step) (refusal : Refusal) → Tells f w step (Refused refusal)
refused_tells f w (ReadStep (ReadBlob name)) refusal = tt
refused_tells f w step refusal = tt

blocked_tells : (f : Formats) (w : World) (who : ℕ) (step : Step) (reply : Reply) (refusal : Refusal) → reply ≡ Refused refusal → Tells f w step reply
blocked_tells f w who step reply refusal is = subst (λ (r : Reply). Tells f w step r) (sym is) (refused_tells f w step refusal)

block_alive : (w : World) (who : ℕ) (step : Step) (refusal : Refusal) → Blocks w who step refusal → ((place : ℕ) → refusal ≡ DeposedAt place → ⊥) → w.deposed ≡ false
block_alive w who step refusal (ByFailedSwap place deposed) live = absurd (live place refl)
block_alive w who step refusal (ByDelete op deposed aborted) live = deposed

-- one that isn't the refusal of a deposed world is given by one that isn't deposed
told_by : (f : Formats) (size : ℕ) (w : World) (m : Moment) → ((place : ℕ) → m.entry.reply ≡ Refused (DeposedAt place) → ⊥) → Allowed f size w m → (w.deposed ≡ false) × Tells f w m.entry.step m.entry.reply
told_by f size w m live a = elim a.answered [
  | inl alive ↦ (alive.0, tells f size w m.entry.who m.entry.step m.entry.reply m.image alive.1)
  | inr b ↦ (block_alive w m.entry.who m.entry.step b.refusal b.blocks (λ place is. live place (b.refused ∙ ap (λ (r : Refusal). Refused r) is)), blocked_tells f w m.entry.who m.entry.step m.entry.reply b.refusal b.refused)
]

-- ---- one step

module _ (s : Start) (old new : List Moment) (step : Step) (reply : Reply) (alone : s.alone ≡ true) (h : Stepped s old new 0 step reply) where
  abbrev pub moment_of : Moment
  moment_of = record { entry = record { who = 0; step = step; reply = reply }; image = h.image }

  pub stepped_is : new ≡ old ++ moment_of ∷ []
  stepped_is = h.is ∙ ap (λ (log : List Moment). log ++ moment_of ∷ []) (front_is s old h.front 0 alone h.waited)

  pub allowed_at : Allowed (formats_of s) s.part_size (world_of s old) moment_of
  allowed_at =
      subst (λ (log : List Moment). Allowed (formats_of s) s.part_size (world_of s log) moment_of) (front_is s old h.front 0 alone h.waited)
      (legal_last (formats_of s) s.part_size s.world h.front moment_of (subst (Legal s) h.is h.legal))

  pub world_is : world_of s new ≡ after (formats_of s) (world_of s old) moment_of
  world_is = ap (λ (log : List Moment). world_of s log) stepped_is ∙ world_more (formats_of s) s.world old (moment_of ∷ [])

-- ---- a fetch

-- what it makes of who 0
pub record Goes (c d : Caller) (name : BlobName) : Type 0 where
  pub looked : d.looked ≡ c.looked
  pub drawn : d.drawn ≡ c.drawn
  pub spent : d.spent ≡ c.spent
  pub grown : Grown c d
  pub only : (n : BlobName) → Has d.fetched n → Has c.fetched n ⊎ (n ≡ name)

more_fetched : (fetched : List BlobName) (name n : BlobName) → Has (name ∷ fetched) n → Has fetched n ⊎ (n ≡ name)
more_fetched fetched name n (inl same) = inr (sym same)
more_fetched fetched name n (inr before) = inl before

told_goes : (c : Caller) (name : BlobName) (told : Option Bytes) → Goes c (caller_told c name told) name
told_goes c name None = record { looked = refl; drawn = refl; spent = refl; grown = record { found = λ n has. inr has; read = λ n bytes has. has }; only = λ n has. more_fetched c.fetched name n has }
told_goes c name (Some bytes) = record { looked = refl; drawn = refl; spent = refl; grown = record { found = λ n has. inr has; read = λ n b has. inr has }; only = λ n has. more_fetched c.fetched name n has }

read_goes : (f : Formats) (c : Caller) (name : BlobName) (reply : Reply) (image : Option Image) → Goes c (caller_after f c 0 (ReadStep (ReadBlob name)) reply image) name
read_goes f c name WasFetched image = told_goes c name (told_blob f image name)
read_goes f c name WasAbsent image = record { looked = refl; drawn = refl; spent = refl; grown = record { found = λ n has. has; read = λ n bytes has. has }; only = λ n has. more_fetched c.fetched name n has }
read_goes f c name reply image = record { looked = refl; drawn = refl; spent = refl; grown = record { found = λ n has. has; read = λ n bytes has. has }; only = λ n has. inl has }

answered_fetch : (f : Formats) (w : World) (name : BlobName) (reply : Reply) (image : Option Image) → answered f w 0 (ReadStep (ReadBlob name)) reply image ≡ w
answered_fetch f w name (Refused DepotFault) image = refl
answered_fetch f w name (Refused refusal) image = refl
answered_fetch f w name reply image = refl

module _ (s : Start) (old new : List Moment) (name : BlobName) (reply : Reply) (alone : s.alone ≡ true) (h : Stepped s old new 0 (ReadStep (ReadBlob name)) reply) where
  abbrev moment : Moment
  moment = moment_of s old new (ReadStep (ReadBlob name)) reply alone h

  abbrev left_world : World
  left_world = record (heard (formats_of s) (record (world_of s old) { blobs = blobs_in h.image (world_of s old).blobs }) moment) { entries = with_entry (world_of s old).entries moment.entry }

  pub fetch_world : world_of s new ≡ left_world
  fetch_world =
      world_is s old new (ReadStep (ReadBlob name)) reply alone h
      ∙ ap (λ (v : World). record (heard (formats_of s) (record v { blobs = blobs_in h.image (world_of s old).blobs }) moment) { entries = with_entry (world_of s old).entries moment.entry })
      (answered_fetch (formats_of s) (world_of s old) name reply h.image)

  pub fetch_blobs : SameBlobs (world_of s old) h.image
  fetch_blobs = left_by (formats_of s) s.part_size (world_of s old) moment (allowed_at s old new (ReadStep (ReadBlob name)) reply alone h)

  pub fetch_goes : Goes (caller_of s old) (caller_of s new) name
  fetch_goes = subst (λ (w : World). Goes (caller_of s old) w.caller name) (sym fetch_world) (read_goes (formats_of s) (caller_of s old) name reply h.image)

  pub fetch_same : IsSame (world_of s old) (world_of s new)
  fetch_same = record {
    blobs = ap (λ (w : World). w.blobs) fetch_world ∙ blobs_stay (world_of s old) h.image fetch_blobs;
    root = ap (λ (w : World). w.root) fetch_world;
    safe = ap (λ (w : World). w.safe) fetch_world;
    deposed = ap (λ (w : World). w.deposed) fetch_world;
    looked = fetch_goes.looked;
    drawn = fetch_goes.drawn;
    spent = fetch_goes.spent;
  }

-- ---- what was read is there

told_read : (f : Formats) (w : World) (name : BlobName) (told : Option Bytes) → ((b : Bytes) → told ≡ Some b → At f w.blobs name b) → (n : BlobName) (bytes : Bytes) → WasRead (caller_told w.caller name told).read n bytes
    → WasRead w.caller.read n bytes ⊎ At f w.blobs n bytes
told_read f w name None is_at n bytes has = inl has
told_read f w name (Some b) is_at n bytes (inl same) = inr (subst (λ (p : BlobName × Bytes). At f w.blobs p.0 p.1) same (is_at b refl))
told_read f w name (Some b) is_at n bytes (inr before) = inl before

told_there : (f : Formats) (w : World) (image : Option Image) (name : BlobName) → IsStored f name → SameBlobs w image → (n : BlobName) (bytes : Bytes) → WasRead (caller_told w.caller name (told_blob f image name)).read n bytes
    → WasRead w.caller.read n bytes ⊎ At f w.blobs n bytes
told_there f w None name stored same n bytes has = inl has
told_there f w (Some image) name stored same n bytes has =
    told_read f w name (fin.get image.blobs (f.names.text name)) (λ b is. (sym (ap (λ (blobs : Blobs). fin.get blobs (f.names.text name)) same) ∙ is, stored)) n bytes has

pub fetched_there : (s : Start) (old new : List Moment) (name : BlobName) → s.alone ≡ true → Stepped s old new 0 (ReadStep (ReadBlob name)) WasFetched → (n : BlobName) (bytes : Bytes)
    → WasRead (caller_of s new).read n bytes → WasRead (caller_of s old).read n bytes ⊎ At (formats_of s) (world_of s old).blobs n bytes
fetched_there s old new name alone h n bytes has =
    let f = formats_of s in
    let w = world_of s old in
    let told = told_by f s.part_size w (moment_of s old new (ReadStep (ReadBlob name)) WasFetched alone h) (λ place e. cc) (allowed_at s old new (ReadStep (ReadBlob name)) WasFetched alone h) in
    told_there f w h.image name told.1 (fetch_blobs s old new name WasFetched alone h) n bytes
    (subst (λ (v : World). WasRead v.caller.read n bytes) (fetch_world s old new name WasFetched alone h) has)

-- ---- a look

-- who 0 has looked, and done nothing else
abbrev pub looked_caller : Caller
looked_caller = record no_caller { looked = true }

module _ (s : Start) (old new : List Moment) (snapshots : List RootSnap) (safe : ℕ) (alone : s.alone ≡ true) (h : Stepped s old new 0 LookStep (Looked snapshots safe)) where
  abbrev look_entry : Entry
  look_entry = record { who = 0; step = LookStep; reply = Looked snapshots safe }

  look_world : world_of s new ≡ record (record (record (world_of s old) { blobs = blobs_in h.image (world_of s old).blobs }) { caller = looked_caller }) { entries = look_entry ∷ (world_of s old).entries }
  look_world = world_is s old new LookStep (Looked snapshots safe) alone h

  look_told : ((world_of s old).deposed ≡ false) × ((snapshots ≡ (world_of s old).root.snapshots) × (safe ≡ (world_of s old).safe))
  look_told = told_by (formats_of s) s.part_size (world_of s old) (moment_of s old new LookStep (Looked snapshots safe) alone h) (λ place e. cc) (allowed_at s old new LookStep (Looked snapshots safe) alone h)

  pub look_caller : caller_of s new ≡ looked_caller
  look_caller = ap (λ (w : World). w.caller) look_world

  -- it began anew
  pub look_made : made_of s new 0 ≡ []
  look_made = ap (λ (w : World). entries_by w.entries 0) look_world

  pub look_alive : (world_of s new).deposed ≡ false
  look_alive = ap (λ (w : World). w.deposed) look_world ∙ look_told.0

  pub look_root : (world_of s new).root ≡ (world_of s old).root
  look_root = ap (λ (w : World). w.root) look_world

  pub look_snapshots : snapshots ≡ (world_of s old).root.snapshots
  look_snapshots = look_told.1.0

  pub look_safe : safe ≡ (world_of s old).safe
  look_safe = look_told.1.1

  pub look_same_safe : (world_of s new).safe ≡ (world_of s old).safe
  look_same_safe = ap (λ (w : World). w.safe) look_world

-- ---- the end of a check

module _ (s : Start) (old new : List Moment) (snapshots blobs : ℕ) (alone : s.alone ≡ true) (h : Stepped s old new 0 (ReadStep (CheckedAll snapshots blobs)) HasEnded) where
  end_world :
      world_of s new
      ≡ record (record (record (world_of s old) { blobs = blobs_in h.image (world_of s old).blobs }) { caller = no_caller }) {
        entries = record { who = 0; step = ReadStep (CheckedAll snapshots blobs); reply = HasEnded } ∷ (world_of s old).entries;
      }
  end_world = world_is s old new (ReadStep (CheckedAll snapshots blobs)) HasEnded alone h

  pub end_blobs : (world_of s new).blobs ≡ (world_of s old).blobs
  end_blobs =
      ap (λ (w : World). w.blobs) end_world
      ∙ blobs_stay (world_of s old) h.image
      (left_by (formats_of s) s.part_size (world_of s old) (moment_of s old new (ReadStep (CheckedAll snapshots blobs)) HasEnded alone h) (allowed_at s old new (ReadStep (CheckedAll snapshots blobs)) HasEnded alone h))

  pub end_safe : (world_of s new).safe ≡ (world_of s old).safe
  end_safe = ap (λ (w : World). w.safe) end_world

-- ---- reach is of the blobs and the safe root alone

abbrev ReachBy : Formats → Blobs → ℕ → BlobName → Type 0
ReachBy f blobs safe name = (n : ℕ) × (safe ≡ suc n) × ((name ≡ Root n) ⊎ ((root : RootData) × Reads (At f blobs) (Root n) f.root root × Reached f (At f blobs) root name))

pub in_reach_as : (f : Formats) (w v : World) (name : BlobName) → v.blobs ≡ w.blobs → v.safe ≡ w.safe → InReach f w name → InReach f v name
in_reach_as f w v name blobs safe h =
    subst (λ (b : Blobs). ReachBy f b v.safe name) (sym blobs) (subst (λ (n : ℕ). ReachBy f w.blobs n name) (sym safe) h)
