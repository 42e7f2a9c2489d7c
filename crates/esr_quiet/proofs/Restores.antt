-- No shard of a restore fails for damage where each world of the history is lawful and serves the tickets of restores; nor at all where
-- no call fails.
use Rattle.std.proofs.Common.{◌≡◌, ℕ, ◌≤◌, true, false, true≢false, List, [], ◌∷◌, ◌++◌, append-nil, append_assoc, Option, Some, None, refl, sym, ap, ◌∙◌, subst, inl, inr, arith}
use Rattle.std.specs.Prelude.{length}
use Rattle.std.specs.List.{concat}
use Rattle.std.specs.FinMap as fin
use Rattle.esr_model.specs.Names.{BlobName, ShardSnap}
use Rattle.esr_model.specs.Values.{Bytes, Has, FileEntry, ShardSnapshot, RootData, ClusterRecord, Formats}
use Rattle.esr_model.specs.Shelf.{Shelved}
use Rattle.esr_model.specs.Parts.{part_names}
use Rattle.esr_model.specs.Image.{Blobs, Image, Reads, FileStands}
use Rattle.esr_core.specs.World.{World, Reader, HeldIn, Opened, OpenedEmpty, OpenedRecord, opened, no_record, no_root}
use Rattle.esr_core.specs.Restores.{IsReading, WasRead}
use Rattle.esr_core.specs.Entry.{Reason, Why, OfDepot, OfAbsence, OfUnreadable, OfTarget, OfPrint, OfDisagreement, Read, ReadBlob, ReadFails, Step, ReadStep, Reply, WasAbsent, HasEnded, Moment, Refusal, Refused}
use Rattle.esr_core.specs.Allowed as allowed
use Rattle.esr_core.specs.Allowed.{Told, MayRead, Fetcher, ByReader, ByCheck, ByVerify, ReadAllows, ReadMissing, ReaderFailing, CheckFailing, VerifyAllows, VerifyFailing, Allows, Allowed}
use Rattle.esr_core.specs.History.{world_from, IsLegal, AreTold}
use Rattle.esr_core.specs.Ids.{Law}
use Rattle.esr_core.specs.ReadLaw.{ReadLaw}
use Rattle.esr_core.specs.Restored.{IsServed}
use Rattle.esr_core.specs.Laws.OneValue.{reads_one, held_one}
use Rattle.esr_model.specs.Lists.{pairs_has, AllPairs-map}
use Rattle.esr_formats.specs.Reasons.{unreadable, unreadable_reads_not}
use Rattle.esr_desk.specs.declared.fault.FailedObject.TheVariants as objects
use Rattle.esr_desk.specs.declared.hand.Hand.TheVariants as hands
use Rattle.esr_desk.specs.declared.fault.Fault.{Fault}
use Rattle.esr_desk.specs.declared.fault.By.{By}
use Rattle.esr_desk.specs.declared.fault.By.TheVariants as by
use Rattle.esr_desk.specs.Start.{Start, formats_of, world_of}
use Rattle.esr_desk.specs.Own.{or_no_reader, reader_of}
use Rattle.esr_desk.specs.Restore.Parts.{sized_parts, IsFront, AreFronts, AreExact}
use Rattle.esr_desk.specs.Evidence.{Evidence, HadFetch, HadFetchFault, WasUnreadable}
use Rattle.esr_desk.specs.Restore.Shown.{TargetShown, HasReadFile, IsMisprinted, IsMiscut, IsSnap, IsRestoreShown}
use Rattle.esr_quiet.specs.Caused.{AreCaused}
use Rattle.esr_quiet.specs.Smooth.{IsSmooth, NoneUnrestored}
use Rattle.esr_quiet.specs.OverKept.{OverKept, IsLawful}
use Rattle.esr_quiet.specs.Undamaged.{IsDamage, NoRestoreFindsDamage}
use Rattle.esr_core.specs.Laws.NumberMaps.{some_none}
use Rattle.esr_quiet.specs.PrefixLaws.{place_of, has_at, quiet_at, legal_at}
use Rattle.esr_quiet.proofs.Prefixes.{told_at}
use Rattle.esr_quiet.proofs.OverKept.{IsAlive, kept_front, lawful_front, step_at, smooth_alive, alive_before}
use Rattle.esr_quiet.proofs.Fronts.{file_whole}
use Rattle.esr_quiet.proofs.Failures.{read_shown, no_fetch_fault}

-- ---- what a step tells

-- of a fetch that found nothing, and of a report
abbrev Tells : Formats → World → ℕ → Step → Reply → Option Image → Type 0
Tells f w who (ReadStep (ReadBlob name)) WasAbsent image = Fetcher f w name image who × Told image (λ blobs. fin.get w.blobs (f.names.text name) ≡ None)
Tells f w who (ReadStep (ReadFails why)) HasEnded image = 1 ≤ who → (q : Reader) × IsReading w who q
Tells f w who step reply image = Unit {0}

read_tells : (f : Formats) (w : World) (who : ℕ) (read : Read) (reply : Reply) (image : Option Image) → ReadAllows f w who read reply image → Tells f w who (ReadStep read) reply image
read_tells f w who read reply image (ReadMissing k name im stored by none) = (by, none)
read_tells f w who read reply image (ReaderFailing k why im q out) = λ some. (q, out)
read_tells f w who read reply image (CheckFailing why im looked) = λ some. absurd (omega (arith, some))
read_tells f w who read reply image a = tt

verify_tells : (f : Formats) (w : World) (read : Read) (reply : Reply) (image : Option Image) → VerifyAllows f w read reply image → Tells f w 0 (ReadStep read) reply image
verify_tells f w read reply image (VerifyFailing why im begun same) = λ some. absurd (omega (arith, some))
verify_tells f w read reply image a = tt

tells : (f : Formats) (size : ℕ) (w : World) (who : ℕ) (step : Step) (reply : Reply) (image : Option Image) → Allows f size w who step reply image → Tells f w who step reply image
tells f size w who step reply image (allowed.Reading k read rep im a same) = read_tells f w k read rep im a
tells f size w who step reply image (allowed.Verifying read rep im a) = verify_tells f w read rep im a
tells f size w who step reply image a = tt

-- a refusal tells nothing
refused_tells : (f : Formats) (w : World) (who : ℕ) (step : Step) (refusal : Refusal) (image : Option Image) → Tells f w who step (Refused refusal) image
refused_tells f w who (ReadStep (ReadBlob name)) refusal image = tt
refused_tells f w who step refusal image = tt

told_by : (f : Formats) (size : ℕ) (w : World) (m : Moment) → w.deposed ≡ false → Allowed f size w m → Tells f w m.entry.who m.entry.step m.entry.reply m.image
told_by f size w m present a = elim a.answered [
  | inl alive ↦ tells f size w m.entry.who m.entry.step m.entry.reply m.image alive.1
  | inr dead ↦ subst (λ (r : Reply). Tells f w m.entry.who m.entry.step r m.image) (sym dead.refused) (refused_tells f w m.entry.who m.entry.step dead.refusal m.image)
]

-- a report is that of a ticket that is out
pub reading_at : (f : Formats) (size : ℕ) (w : World) (m : Moment) (why : Why) → w.deposed ≡ false → Allowed f size w m → m.entry.step ≡ ReadStep (ReadFails why) → m.entry.reply ≡ HasEnded → 1 ≤ m.entry.who
    → (q : Reader) × IsReading w m.entry.who q
reading_at f size w m why present a step reply = subst (λ st. Tells f w m.entry.who st HasEnded m.image) step (subst (λ r. Tells f w m.entry.who m.entry.step r m.image) reply (told_by f size w m present a))

-- what a ticket may read that found nothing
record Misses (f : Formats) (w : World) (who : ℕ) (name : BlobName) (image : Option Image) : Type 0 where
  q : Reader
  reading : IsReading w who q
  may : MayRead f q name image
  none : fin.get w.blobs (f.names.text name) ≡ None

by_reader : (f : Formats) (w : World) (name : BlobName) (image : Option Image) (who : ℕ) → 1 ≤ who → fin.get w.blobs (f.names.text name) ≡ None → Fetcher f w name image who → Misses f w who name image
by_reader f w name image who some none (ByReader k q reading may) = record { q = q; reading = reading; may = may; none = none }
by_reader f w name image who some none (ByCheck may) = absurd (omega (arith, some))
by_reader f w name image who some none (ByVerify may) = absurd (omega (arith, some))

-- a fetch that found nothing
pub missed_at : (f : Formats) (size : ℕ) (w : World) (m : Moment) (name : BlobName) → w.deposed ≡ false → Allowed f size w m → m.entry.step ≡ ReadStep (ReadBlob name) → m.entry.reply ≡ WasAbsent → (image : Image)
    → m.image ≡ Some image
    → Fetcher f w name (Some image) m.entry.who × (fin.get w.blobs (f.names.text name) ≡ None)
missed_at f size w m name present a step reply image is =
    subst (λ im. Tells f w m.entry.who (ReadStep (ReadBlob name)) WasAbsent im) is
    (subst (λ st. Tells f w m.entry.who st WasAbsent m.image) step (subst (λ r. Tells f w m.entry.who m.entry.step r m.image) reply (told_by f size w m present a)))

misses_at : (f : Formats) (size : ℕ) (w : World) (m : Moment) (name : BlobName) → w.deposed ≡ false → Allowed f size w m → m.entry.step ≡ ReadStep (ReadBlob name) → m.entry.reply ≡ WasAbsent → (image : Image)
    → m.image ≡ Some image → 1 ≤ m.entry.who
    → Misses f w m.entry.who name (Some image)
misses_at f size w m name present a step reply image is some =
    let h = missed_at f size w m name present a step reply image is in
    by_reader f w name (Some image) m.entry.who some h.1 h.0

-- ---- what a ticket may read stands

-- a world is lawful of restores, and serves each ticket that is out
pub record IsServing (f : Formats) (w : World) : Type 0 where
  pub law : ReadLaw f w
  pub served : (k : ℕ) (q : Reader) → IsReading w k q → IsServed f w q

module _ (f : Formats) (w : World) (serving : IsServing f w) (k : ℕ) (q : Reader) (reading : IsReading w k q) where
  served : IsServed f w q
  served = serving.served k q reading

  held : (name : BlobName) (bytes : Bytes) → WasRead q.read name bytes → HeldIn f w name bytes
  held = (serving.law.readers k q reading.there reading.out).held

  -- the snapshot that was read is the one that stands
  snap_one : (snap : ShardSnapshot) → Reads (WasRead q.read) (ShardSnap q.index q.number q.uuid) f.shard_snap snap → served.snap ≡ snap
  snap_one snap r =
      reads_one (HeldIn f w) (held_one f w) (ShardSnap q.index q.number q.uuid) f.shard_snap served.snap snap served.snap_reads
      (record { bytes = r.bytes; there = held (ShardSnap q.index q.number q.uuid) r.bytes r.there; reads = r.reads })

  -- so each file that it lists stands
  file_stands : (snap : ShardSnapshot) → Reads (WasRead q.read) (ShardSnap q.index q.number q.uuid) f.shard_snap snap → (e : FileEntry) → Has snap.files e → (bytes : Bytes) × FileStands f (HeldIn f w) q.index q.number e bytes
  file_stands snap r e listed =
      pairs_has (FileStands f (HeldIn f w) q.index q.number) served.snap.files served.contents e served.stand (subst (λ (z : ShardSnapshot). Has z.files e) (sym (snap_one snap r)) listed)

  -- what it may read is there
  pub is_there : (name : BlobName) (image : Image) → MayRead f q name (Some image) → fin.get w.blobs (f.names.text name) ≡ None → ⊥
  is_there name image (inl is) none =
      some_none served.snap_reads.bytes (sym served.snap_reads.there.0.0 ∙ ap (λ (n : BlobName). fin.get w.blobs (f.names.text n)) (sym is) ∙ none)
  is_there name image (inr (piece, lists)) none =
      let stands = file_stands lists.snap lists.snap_read lists.e lists.listed in
      let part = pairs_has (HeldIn f w) (part_names q.index q.number lists.e) stands.1.parts name stands.1.there lists.part in
      some_none part.0 (sym part.1.0.0 ∙ none)

  -- and what was read as the snapshot reads
  does_read : (bytes : Bytes) → WasRead q.read (ShardSnap q.index q.number q.uuid) bytes → f.shard_snap.read bytes ≡ None → ⊥
  does_read bytes read none =
      let same : bytes ≡ served.snap_reads.bytes = held_one f w (ShardSnap q.index q.number q.uuid) bytes served.snap_reads.bytes (held (ShardSnap q.index q.number q.uuid) bytes read) served.snap_reads.there in
      some_none served.snap (sym served.snap_reads.reads ∙ ap f.shard_snap.read (sym same) ∙ none)

  -- what was read of a file is the file
  reads_whole : (snap : ShardSnapshot) → Reads (WasRead q.read) (ShardSnap q.index q.number q.uuid) f.shard_snap snap → (e : FileEntry) → Has snap.files e → (fronts : List Bytes) → AreFronts (WasRead q.read) q.index q.number e fronts
      → (length (concat fronts) ≡ e.len) × (f.digest (concat fronts) ≡ e.digest) × AreExact q.index q.number e fronts
  reads_whole snap r e listed fronts read =
      let stands = file_stands snap r e listed in
      let there : AreFronts (HeldIn f w) q.index q.number e fronts =
      AllPairs-map {R = IsFront (WasRead q.read)} {S = IsFront (HeldIn f w)} (λ part front h. (h.0, held part.0 h.0 h.1, h.2)) (sized_parts q.index q.number e) fronts read in
      let h = file_whole (HeldIn f w) (held_one f w) f q.index q.number e stands.0 fronts stands.1 there in
      (ap (λ (l : Bytes). length l) h.0 ∙ stands.1.len, ap f.digest h.0 ∙ stands.1.digest, h.1)

-- ---- each world serves

-- what the laws of the core say of restores
pub record ReadCoreLaws : Type 0 where
  pub opened : (f : Formats) (blobs : Blobs) (cluster : ClusterRecord) (root : RootData) → ReadLaw f (opened blobs cluster root)
  pub kept : (f : Formats) (part_size : ℕ) (shelf : List Shelved) (w : World) (log : List Moment) → Law f w shelf → ReadLaw f w → IsLegal f part_size w log → AreTold log → ReadLaw f (world_from f w log)
  pub served : (f : Formats) (w : World) (shelf : List Shelved) (k : ℕ) (q : Reader) → Law f w shelf → ReadLaw f w → IsReading w k q → IsServed f w q

module _ (laws : ReadCoreLaws) where
  opened_law : (f : Formats) (image : Image) (w : World) → Opened f image w → ReadLaw f w
  opened_law f image w (OpenedEmpty none) = laws.opened f image.blobs no_record no_root
  opened_law f image w (OpenedRecord cluster text root there reads is) = laws.opened f image.blobs cluster root

  pub serves : (s : Start) (log : List Moment) → IsLawful s log → (front back : List Moment) → log ≡ front ++ back → IsServing (formats_of s) (world_of s front)
  serves s log lawful front back is =
      let h = kept_front s log lawful.over front back is in
      let first = lawful.lawful [] log refl in
      let here = lawful.lawful front back is in
      let law : ReadLaw (formats_of s) (world_of s front) = laws.kept (formats_of s) s.part_size first.0 s.world front first.1 (opened_law (formats_of s) h.image s.world h.opened) h.legal h.told in
      record { law = law; served = λ k q reading. laws.served (formats_of s) (world_of s front) here.0 k q here.1 law reading }

-- ---- each cause

-- what a ticket may read stands in each world up to the last, in none of which a record swap has failed
module _ (s : Start) (log : List Moment) (lawful : IsLawful s log) (alive : IsAlive s log) (all_serve : (front back : List Moment) → log ≡ front ++ back → IsServing (formats_of s) (world_of s front)) where
  -- each blob is there
  found : (front rest : List Moment) (m : Moment) → log ≡ front ++ m ∷ rest → (name : BlobName) → m.entry.step ≡ ReadStep (ReadBlob name) → m.entry.reply ≡ WasAbsent → 1 ≤ m.entry.who → ⊥
  found front rest m is name step reply some =
      let told = told_at log m lawful.over.told (subst (λ (l : List Moment). Has l m) (sym is) (has_at front rest m)) in
      let at = misses_at (formats_of s) s.part_size (world_of s front) m name (alive front (m ∷ rest) is) (step_at s log lawful.over front rest m is) step reply told.0 told.1 some in
      is_there (formats_of s) (world_of s front) (all_serve front (m ∷ rest) is) m.entry.who at.q at.reading name told.0 at.may at.none

  missing : (front back : List Moment) → log ≡ front ++ back → (who : ℕ) → 1 ≤ who → (name : BlobName) → HadFetch hands.Restore front who name WasAbsent → ⊥
  missing front back is who some name h =
      let m : Moment = record { entry = record { who = who; step = ReadStep (ReadBlob name); reply = WasAbsent }; image = h.image } in
      let p = place_of front m h.there in
      found p.front (p.back ++ back) m (is ∙ ap (λ (l : List Moment). l ++ back) p.is ∙ append_assoc p.front (m ∷ p.back) back) name refl refl some

  -- and reads
  unread : (front back : List Moment) → log ≡ front ++ back → (who : ℕ) → IsReading (world_of s front) who (reader_of s front who) → (name : BlobName) (reason : Reason) → IsSnap (reader_of s front who) name
      → WasUnreadable hands.Restore s front who name reason → ⊥
  unread front back is who reading name reason name_is (bytes, read, refuses) =
      let q : Reader = reader_of s front who in
      let snap : BlobName = ShardSnap q.index q.number q.uuid in
      does_read (formats_of s) (world_of s front) (all_serve front back is) who q reading bytes
      (subst (λ (n : BlobName). WasRead q.read n bytes) name_is (read.read lawful.over.tells))
      (unreadable_reads_not s.known s.told snap bytes reason (subst (λ (n : BlobName). unreadable n bytes ≡ Some reason) name_is refuses))

  -- of each file all was read
  file_of : (front back : List Moment) → log ≡ front ++ back → (who : ℕ) → IsReading (world_of s front) who (reader_of s front who) → (name : BlobName) (fronts : List Bytes) (h : HasReadFile s (reader_of s front who) name fronts)
      → (length (concat fronts) ≡ h.e.len) × ((formats_of s).digest (concat fronts) ≡ h.e.digest) × AreExact (reader_of s front who).index (reader_of s front who).number h.e fronts
  file_of front back is who reading name fronts h =
      reads_whole (formats_of s) (world_of s front) (all_serve front back is) who (reader_of s front who) reading h.snap (h.snap_read lawful.over.tells) h.e h.listed fronts (h.read lawful.over.tells)

  -- with the stated print
  printed : (front back : List Moment) → log ≡ front ++ back → (who : ℕ) → IsReading (world_of s front) who (reader_of s front who) → (name : BlobName) (stated_len : ℕ) (stated_digest : Bytes) (found_len : ℕ) (found_digest : Bytes)
      → IsMisprinted s (reader_of s front who) name stated_len stated_digest found_len found_digest → ⊥
  printed front back is who reading name stated_len stated_digest found_len found_digest h =
      let x = file_of front back is who reading name h.fronts h.file in
      h.differ (h.stated_len_is ∙ sym x.0 ∙ sym h.found_len_is) (h.stated_digest_is ∙ sym x.1 ∙ sym h.found_digest_is)

  -- and cut as stated
  uncut : (front back : List Moment) → log ≡ front ++ back → (who : ℕ) → IsReading (world_of s front) who (reader_of s front who) → (name other : BlobName) → IsMiscut s (reader_of s front who) name other → ⊥
  uncut front back is who reading name other h = let x = file_of front back is who reading name h.fronts h.file in h.cut x.2

  -- no damage is shown
  undamaged : {S F H T : Type 0} (e : Evidence S F H T) (front back : List Moment) → log ≡ front ++ back → (who : ℕ) → 1 ≤ who → IsReading (world_of s front) who (reader_of s front who) → (why : Why) (b : By S F H T) → IsDamage why
      → IsRestoreShown e s front who why b → ⊥
  undamaged e front back is who some reading (OfAbsence name) b damage h = missing front back is who some name (read_shown b _ h)
  undamaged e front back is who some reading (OfUnreadable name reason) b damage h = let x = read_shown b _ h in unread front back is who reading name reason x.0 x.1
  undamaged e front back is who some reading (OfPrint name stated_len stated_digest found_len found_digest) b damage h = printed front back is who reading name stated_len stated_digest found_len found_digest (read_shown b _ h)
  undamaged e front back is who some reading (OfDisagreement name other) b damage h = uncut front back is who reading name other (read_shown b _ h)
  undamaged e front back is who some reading why b damage h = damage

-- a report, and what its ticket is
record ReportOf (s : Start) (log : List Moment) (m : Moment) (why : Why) : Type 0 where
  front : List Moment
  back : List Moment
  is : log ≡ front ++ m ∷ back
  reading : IsReading (world_of s front) m.entry.who (reader_of s front m.entry.who)

report_of : (s : Start) (log : List Moment) (over : OverKept s log) (m : Moment) (why : Why) → Has log m → 1 ≤ m.entry.who → m.entry.step ≡ ReadStep (ReadFails why) → m.entry.reply ≡ HasEnded → ReportOf s log m why
report_of s log over m why has some step reply =
    let p = place_of log m has in
    let alive = alive_before s log over p.front p.back m p.is reply p.front [] (sym (append-nil p.front)) in
    let at = reading_at (formats_of s) s.part_size (world_of s p.front) m why alive (step_at s log over p.front p.back m p.is) step reply some in
    record { front = p.front; back = p.back; is = p.is; reading = subst (IsReading (world_of s p.front) m.entry.who) (sym (ap or_no_reader at.1.there)) at.1 }

-- so none is reported
pub none_damaged : {S F H T : Type 0} (laws : ReadCoreLaws) (s : Start) (log : List Moment) → IsLawful s log → (e : Evidence S F H T) (faults : List (Fault S F H T)) → AreCaused hands.Restore e s log faults → NoRestoreFindsDamage log
none_damaged laws s log lawful e faults shown m why has some step reply damage =
    let r = report_of s log lawful.over m why has some step reply in
    let up = lawful_front s log lawful r.front (m ∷ r.back) r.is in
    let x = shown (length r.front) m.entry.who why (record { front = r.front; moment = m; back = r.back; is = r.is; place_is = refl; teller = some; of = refl; step = step; reply = reply }) in
    undamaged s r.front up (alive_before s log lawful.over r.front r.back m r.is reply) (serves laws s r.front up) e r.front [] (sym (append-nil r.front)) m.entry.who some r.reading why x.by damage x.shown

-- ---- where no call fails

module _ (s : Start) (log : List Moment) (smooth : IsSmooth s log) (lawful : IsLawful s log) (all_serve : (front back : List Moment) → log ≡ front ++ back → IsServing (formats_of s) (world_of s front)) (sure : s.sure_targets ≡ true) where
  -- no target fails
  target_of : {S F H T : Type 0} (e : Evidence S F H T) (q : Reader) (b : By S F H T) → TargetShown e s q b → ⊥
  target_of e q (by.Object (objects.Target target)) h = true≢false (sym sure ∙ h.unsure)
  target_of e q b h = h

  -- no cause is shown
  shows : {S F H T : Type 0} (e : Evidence S F H T) (front back : List Moment) → log ≡ front ++ back → (who : ℕ) → 1 ≤ who → IsReading (world_of s front) who (reader_of s front who) → (why : Why) (b : By S F H T)
      → IsRestoreShown e s front who why b → ⊥
  shows e front back is who some reading OfDepot b h = no_fetch_fault e s smooth.quiet (HadFetchFault hands.Restore front who) b h
  shows e front back is who some reading OfTarget b h = target_of e (reader_of s front who) b h
  shows e front back is who some reading (OfAbsence name) b h = undamaged s log lawful (smooth_alive s log smooth) all_serve e front back is who some reading (OfAbsence name) b tt h
  shows e front back is who some reading (OfUnreadable name reason) b h = undamaged s log lawful (smooth_alive s log smooth) all_serve e front back is who some reading (OfUnreadable name reason) b tt h
  shows e front back is who some reading (OfPrint name stated_len stated_digest found_len found_digest) b h =
      undamaged s log lawful (smooth_alive s log smooth) all_serve e front back is who some reading (OfPrint name stated_len stated_digest found_len found_digest) b tt h
  shows e front back is who some reading (OfDisagreement name other) b h = undamaged s log lawful (smooth_alive s log smooth) all_serve e front back is who some reading (OfDisagreement name other) b tt h
  shows e front back is who some reading why b h = h

  pub none_unrestored : {S F H T : Type 0} (e : Evidence S F H T) (faults : List (Fault S F H T)) → AreCaused hands.Restore e s log faults → NoneUnrestored log
  none_unrestored e faults shown m why has some step reply =
      let p = place_of log m has in
      let w : World = world_of s p.front in
      let at = reading_at (formats_of s) s.part_size w m why (quiet_at s log smooth p.front (m ∷ p.back) p.is).present (legal_at s log smooth p.front p.back m p.is) step reply some in
      let same : at.0 ≡ reader_of s p.front m.entry.who = sym (ap or_no_reader at.1.there) in
      let x = shown (length p.front) m.entry.who why (record { front = p.front; moment = m; back = p.back; is = p.is; place_is = refl; teller = some; of = refl; step = step; reply = reply }) in
      shows e p.front (m ∷ p.back) p.is m.entry.who some (subst (IsReading w m.entry.who) same at.1) why x.by x.shown
