-- What who 0 wrote as a test blob is the text of the id that it drew, and what it read of one is what it wrote.
use Rattle.std.proofs.Common.{◌≡◌, ℕ, zero, suc, Bool, true, false, List, [], ◌∷◌, ◌++◌, append-nil, append_assoc, Option, Some, None, refl, sym, ap, ◌∙◌, subst, inl, inr}
use Rattle.std.specs.Prelude.{if◌then◌else◌}
use Rattle.std.specs.FinMap as fin
use Rattle.std.proofs.lemmas.Option.{same_Some}
use Rattle.esr_model.specs.Names.{BlobName, File, Part}
use Rattle.esr_model.specs.Values.{Bytes, Has, FileEntry, RootData, Formats}
use Rattle.esr_model.specs.Parts.{part_names}
use Rattle.esr_model.specs.Reach.{Reached, ReachPart}
use Rattle.esr_model.specs.Image.{Blobs, Image, At}
use Rattle.esr_core.specs.World.{World, Reader, Caller, no_caller, Opened, OpenedEmpty, OpenedRecord}
use Rattle.esr_core.specs.Restores.{IsTestOf, IsPiece}
use Rattle.esr_core.specs.Entry.{Why, Read, ReadBlob, RestoredShard, CommitTest, ReadFails, Step, AskStep, LookStep, ReadStep, Reply, WasDone, WasFetched, WasAbsent, HasEnded, DepotFault, Refused, Moment}
use Rattle.esr_core.specs.After.{is_heard, caller_told, caller_wrote, caller_read, caller_by, caller_after}
use Rattle.esr_core.specs.Allowed as allowed
use Rattle.esr_core.specs.Allowed.{MayRead, MayVerify, InReach, Fetcher, ByReader, ByCheck, ByVerify, SameBlobs, IsOwnTest, ReadAllows, ReadFound, ReadMissing, ReadFault, RestoringShard, ReaderFailing, VerifyAllows, DrawingTest, CommittingTest, VerifyingAll, VerifyFailing, Allows}
use Rattle.esr_core.specs.Laws.Asides.{blocked_stays}
use Rattle.esr_core.specs.Laws.PartNames.{in_parts}
use Rattle.esr_names.specs.IdText.{id_text}
use Rattle.esr_desk.specs.Start.{Start, formats_of, world_of, told_bytes}
use Rattle.esr_desk.specs.Own.{caller_of}
use Rattle.esr_quiet.specs.Free.{Free}
use Rattle.esr_quiet.specs.Smooth.{IsSmooth}
use Rattle.esr_quiet.specs.Prefixes.{Prefixes}
use Rattle.esr_core.specs.Laws.NumberMaps.{some_none}
use Rattle.esr_core.specs.Laws.Histories.{world_parts}
use Rattle.esr_quiet.specs.PrefixLaws.{has_at, legal_at}
use Rattle.esr_quiet.proofs.Prefixes.{told_at}
use Rattle.esr_quiet.specs.CallerSteps.{caller_one}

-- ---- who fetches a test blob

part_no_test : (i k : ℕ) (e : FileEntry) (name : BlobName) (v : ℕ) → Has (part_names i k e) name → IsTestOf v name → ⊥
part_no_test i k e name v part test = elim (in_parts i k e name part) [ inl is ↦ subst (IsTestOf v) is test | inr is ↦ subst (IsTestOf v) is.1 test ]

reached_no_test : (f : Formats) (has : BlobName → Bytes → Type 0) (root : RootData) (v : ℕ) (name : BlobName) → Reached f has root name → IsTestOf v name → ⊥
reached_no_test f has root v name (ReachPart i k g held e piece gen reads listed part) test = part_no_test i k e piece v part test
reached_no_test f has root v name other test = test

piece_no_test : (i n v : ℕ) (name : BlobName) → IsPiece i n name → IsTestOf v name → ⊥
piece_no_test i n v (File j k x) piece test = test
piece_no_test i n v (Part j k x p) piece test = test
piece_no_test i n v name piece test = piece

reader_no_test : (f : Formats) (q : Reader) (name : BlobName) (image : Image) (v : ℕ) → MayRead f q name (Some image) → IsTestOf v name → ⊥
reader_no_test f q name image v may test = elim may [ inl is ↦ subst (IsTestOf v) is test | inr piece ↦ piece_no_test q.index q.number v name piece.0 test ]

reach_no_test : (f : Formats) (w : World) (name : BlobName) (v : ℕ) → InReach f w name → IsTestOf v name → ⊥
reach_no_test f w name v reach test = elim reach.2 [ inl root ↦ subst (IsTestOf v) root test | inr reached ↦ reached_no_test f (At f w.blobs) reached.0 v name reached.2 test ]

-- a verification alone does
pub by_verify : (f : Formats) (w : World) (name : BlobName) (image : Image) (v who : ℕ) → IsTestOf v name → Fetcher f w name (Some image) who → MayVerify w name
by_verify f w name image v who test (ByReader k q reading may) = absurd (reader_no_test f q name image v may test)
by_verify f w name image v who test (ByCheck may) = absurd (reach_no_test f w name v may.reached test)
by_verify f w name image v who test (ByVerify may) = may

-- ---- what who 0 wrote and read

-- What was written are the texts of the id that was drawn, of test blobs under it; each that was committed was written; and what was
-- read of a test blob is what was written.
pub record Texted (drawn : Option ℕ) (committed : List BlobName) (wrote read : List (BlobName × Bytes)) : Type 0 where
  pub texts : (name : BlobName) (bytes : Bytes) → Has wrote (name, bytes) → (id : ℕ) × (drawn ≡ Some id) × IsTestOf id name × (bytes ≡ id_text id)
  pub written : (name : BlobName) → Has committed name → (bytes : Bytes) × Has wrote (name, bytes)
  pub same : (name : BlobName) (bytes : Bytes) (v : ℕ) → IsTestOf v name → Has read (name, bytes) → Has wrote (name, bytes)

abbrev pub IsTexted : Caller → Type 0
IsTexted c = Texted c.drawn c.committed c.wrote c.read

-- nothing was
none_texted : (drawn : Option ℕ) → Texted drawn [] [] []
none_texted drawn = record { texts = λ name bytes h. absurd h; written = λ name h. absurd h; same = λ name bytes v test h. absurd h }

-- who 0 is then this caller, where the text of the id that it drew was added as a test blob
abbrev AddsText : World → Step → Reply → Caller → Type 0
AddsText w step reply c = (name : BlobName) → step ≡ ReadStep (CommitTest name) → reply ≡ WasDone → (id : ℕ) × (w.caller.drawn ≡ Some id) × (c ≡ caller_wrote w.caller name (Some (id_text id)))

module _ (f : Formats) (size : ℕ) (w : World) (free : Free f w) (h : IsTexted w.caller) where
  -- what is told of a blob that was fetched is what was written, where it is a test blob
  told_texted : (name : BlobName) (found : Option Bytes) → ((v : ℕ) (bytes : Bytes) → IsTestOf v name → found ≡ Some bytes → Has w.caller.wrote (name, bytes)) → IsTexted (caller_told w.caller name found)
  told_texted name None own = h
  told_texted name (Some b) own = record {
    texts = h.texts;
    written = h.written;
    same = λ m bytes v test there. elim there [
      | inl e ↦ subst (Has w.caller.wrote) e (own v b (subst (IsTestOf v) (sym (ap (λ (p : BlobName × Bytes). p.0) e)) test) refl)
      | inr old ↦ h.same m bytes v test old
    ];
  }

  fetched_same : (name : BlobName) (image : Image) → image.blobs ≡ w.blobs → (v who : ℕ) (bytes : Bytes) → Fetcher f w name (Some image) who → IsTestOf v name → fin.get image.blobs (f.names.text name) ≡ Some bytes
      → Has w.caller.wrote (name, bytes)
  fetched_same name image same v who bytes by test is =
      let may : MayVerify w name = by_verify f w name image v who test by in
      let (b, wrote) = h.written name may.committed in
      let there = free.wrote name b wrote may.unremoved in
      let equal : bytes ≡ b = same_Some bytes b (sym is ∙ ap (λ (blobs : Blobs). fin.get blobs (f.names.text name)) same ∙ there.0) in
      subst (λ (x : Bytes). Has w.caller.wrote (name, x)) (sym equal) wrote

  found_texted : (k : ℕ) (name : BlobName) (image : Option Image) (i : Image) → image ≡ Some i → SameBlobs w image → Fetcher f w name image k → IsTexted (caller_by f w.caller k (ReadBlob name) WasFetched image)
  found_texted zero name None i told same by = absurd (some_none i (sym told))
  found_texted zero name (Some x) i told same by = told_texted name (fin.get x.blobs (f.names.text name)) (λ v bytes test is. fetched_same name x same v 0 bytes by test is)
  found_texted (suc k) name image i told same by = h

  missing_texted : (k : ℕ) (name : BlobName) (image : Option Image) → IsTexted (caller_by f w.caller k (ReadBlob name) WasAbsent image)
  missing_texted zero name image = h
  missing_texted (suc k) name image = h

  fault_texted : (k : ℕ) (name : BlobName) (image : Option Image) → IsTexted (caller_by f w.caller k (ReadBlob name) (Refused DepotFault) image)
  fault_texted zero name image = h
  fault_texted (suc k) name image = h

  restored_texted : (k files bytes : ℕ) (image : Option Image) → IsTexted (caller_by f w.caller k (RestoredShard files bytes) HasEnded image)
  restored_texted zero files bytes image = h
  restored_texted (suc k) files bytes image = h

  failed_texted : (k : ℕ) (why : Why) (image : Option Image) → IsTexted (caller_by f w.caller k (ReadFails why) HasEnded image)
  failed_texted zero why image = none_texted None
  failed_texted (suc k) why image = h

  reads_texted : (k : ℕ) (read : Read) (reply : Reply) (image : Option Image) (i : Image) → image ≡ Some i → SameBlobs w image → ReadAllows f w k read reply image → IsTexted (caller_by f w.caller k read reply image)
  reads_texted k read reply image i told same (ReadFound j name im stored by there) = found_texted j name im i told same by
  reads_texted k read reply image i told same (ReadMissing j name im stored by none) = missing_texted j name im
  reads_texted k read reply image i told same (ReadFault j name im stored by) = fault_texted j name im
  reads_texted k read reply image i told same (RestoringShard j files bytes im q out done) = restored_texted j files bytes im
  reads_texted k read reply image i told same (ReaderFailing j why im q out) = failed_texted j why im
  reads_texted k read reply image i told same other = none_texted None

  -- an id is drawn where nothing was written yet
  drawn_texted : (id : ℕ) → w.caller.drawn ≡ None → Texted (Some id) w.caller.committed w.caller.wrote w.caller.read
  drawn_texted id undrawn = record {
    texts = λ name bytes there. let x = h.texts name bytes there in absurd (some_none x.0 (sym x.1 ∙ undrawn));
    written = h.written;
    same = h.same;
  }

  wrote_texted : (name : BlobName) (id : ℕ) → w.caller.drawn ≡ Some id → IsTestOf id name → IsTexted (caller_wrote w.caller name (Some (id_text id)))
  wrote_texted name id drawn test = record {
    texts = λ m bytes there. elim there [
      | inl e ↦ (id, drawn, subst (λ (p : BlobName × Bytes). IsTestOf id p.0) e test, ap (λ (p : BlobName × Bytes). p.1) (sym e))
      | inr old ↦ h.texts m bytes old
    ];
    written = λ m there. elim there [
      | inl e ↦ (id_text id, subst (λ (n : BlobName). Has ((name, id_text id) ∷ w.caller.wrote) (n, id_text id)) e (inl refl))
      | inr old ↦ let x = h.written m old in (x.0, inr x.1)
    ];
    same = λ m bytes v test there. inr (h.same m bytes v test there);
  }

  commits_texted : (name : BlobName) (image : Option Image) → IsOwnTest f w name → AddsText w (ReadStep (CommitTest name)) WasDone (caller_read f w.caller (CommitTest name) WasDone image)
      → IsTexted (caller_read f w.caller (CommitTest name) WasDone image)
  commits_texted name image own adds =
      let (id, drawn, is) = adds name refl refl in
      let one : own.id ≡ id = same_Some own.id id (sym own.drawn ∙ drawn) in
      subst IsTexted (sym is) (wrote_texted name id drawn (subst (λ (n : ℕ). IsTestOf n name) one own.test))

  verifies_texted : (read : Read) (reply : Reply) (image : Option Image) → AddsText w (ReadStep read) reply (caller_read f w.caller read reply image) → VerifyAllows f w read reply image → IsTexted (caller_read f w.caller read reply image)
  verifies_texted read reply image adds (DrawingTest im idle fits same) = drawn_texted w.next_id idle.undrawn
  verifies_texted read reply image adds (CommittingTest name bytes im own new told) = commits_texted name im own adds
  verifies_texted read reply image adds (VerifyingAll im done same) = none_texted None
  verifies_texted read reply image adds (VerifyFailing why im begun same) = none_texted None
  verifies_texted read reply image adds other = h

  by_read : (who : ℕ) (read : Read) (reply : Reply) (image : Option Image) (i : Image) → image ≡ Some i → AddsText w (ReadStep read) reply (caller_by f w.caller who read reply image) → Allows f size w who (ReadStep read) reply image
      → IsTexted (caller_by f w.caller who read reply image)
  by_read who read reply image i told adds (allowed.Reading k r rep im a same) = reads_texted k r rep im i told same a
  by_read who read reply image i told adds (allowed.Verifying r rep im a) = verifies_texted r rep im adds a

  -- where it is heard what was done is forgotten
  asked_texted : (b : Bool) → IsTexted (if b then no_caller else w.caller)
  asked_texted true = none_texted None
  asked_texted false = h

  looked_texted : (b : Bool) → IsTexted (if b then record no_caller { looked = true } else w.caller)
  looked_texted true = none_texted None
  looked_texted false = h

  step_texted : (who : ℕ) (step : Step) (reply : Reply) (image : Option Image) (i : Image) → image ≡ Some i → AddsText w step reply (caller_after f w.caller who step reply image) → Allows f size w who step reply image
      → IsTexted (caller_after f w.caller who step reply image)
  step_texted who (AskStep command) reply image i told adds a = asked_texted (is_heard reply)
  step_texted who LookStep reply image i told adds a = looked_texted (is_heard reply)
  step_texted who (ReadStep read) reply image i told adds a = by_read who read reply image i told adds a
  step_texted who step reply image i told adds a = h

-- ---- over a history

opened_texted : (f : Formats) (image : Image) (w : World) → Opened f image w → IsTexted w.caller
opened_texted f image w (OpenedEmpty none) = none_texted None
opened_texted f image w (OpenedRecord cluster text root there reads is) = none_texted None

module _ (s : Start) (log : List Moment) (smooth : IsSmooth s log) (prefixes : Prefixes s log) where
  all_told : (bytes : Bytes) → told_bytes s bytes ≡ Some bytes
  all_told bytes = ap (λ (b : Bool). if b then Some bytes else None) smooth.tells

  texted_one : (front back : List Moment) (m : Moment) → log ≡ front ++ m ∷ back → IsTexted (caller_of s front) → IsTexted (caller_of s (front ++ m ∷ []))
  texted_one front back m is h =
      let told = told_at log m smooth.told (subst (λ (l : List Moment). Has l m) (sym is) (has_at front back m)) in
      let adds : AddsText (world_of s front) m.entry.step m.entry.reply (caller_after (formats_of s) (caller_of s front) m.entry.who m.entry.step m.entry.reply m.image) =
      λ name step reply. let t = smooth.tested front back m name is step in (t.id, t.drawn, sym (caller_one s front m) ∙ t.wrote reply ∙ ap (caller_wrote (caller_of s front) name) (all_told (id_text t.id))) in
      elim (legal_at s log smooth front back m is).answered [
        | inl alive ↦
            subst IsTexted (sym (caller_one s front m))
            (step_texted (formats_of s) s.part_size (world_of s front) (prefixes.free front (m ∷ back) is) h m.entry.who m.entry.step m.entry.reply m.image told.0 told.1 adds alive.1)
        | inr dead ↦
            subst IsTexted
            (sym (ap (λ (w : World). w.caller) (world_parts (formats_of s) front (m ∷ []) s.world) ∙ ap (λ (w : World). w.caller) (blocked_stays (formats_of s) (world_of s front) m dead)))
            h
      ]

  texted_on : (done rest back : List Moment) → log ≡ done ++ (rest ++ back) → IsTexted (caller_of s done) → IsTexted (caller_of s (done ++ rest))
  texted_on done [] back is h = subst (λ (l : List Moment). IsTexted (caller_of s l)) (sym (append-nil done)) h
  texted_on done (m ∷ rest) back is h =
      subst (λ (l : List Moment). IsTexted (caller_of s l)) (append_assoc done (m ∷ []) rest)
      (texted_on (done ++ m ∷ []) rest back (is ∙ sym (append_assoc done (m ∷ []) (rest ++ back))) (texted_one done (rest ++ back) m is h))

  -- at each of its worlds
  pub texted_at : (front back : List Moment) → log ≡ front ++ back → IsTexted (caller_of s front)
  texted_at front back is = texted_on [] front back is (opened_texted (formats_of s) smooth.image s.world smooth.opened)
