-- The steps of a restore's ticket.
use Rattle.std.proofs.Common.{◌≡◌, ◌≢◌, ℕ, zero, suc, ◌≤◌, true, false, List, Option, Some, None, Result, Ok, Err, IfOk, refl, sym, ap, ◌∙◌, subst, inl, inr, arith}
use Rattle.std.specs.FinMap as fin
use Rattle.esr_model.specs.Names.{BlobName, Latest, ShardSnap}
use Rattle.esr_model.specs.Values.{Bytes, Formats}
use Rattle.esr_model.specs.Image.{Image}
use Rattle.esr_core.specs.World.{World, ReadState, Restored, NotRestored, Restoring, Reader}
use Rattle.esr_core.specs.Restores.{IsPiece, IsReading, waits}
use Rattle.esr_core.specs.Entry.{Why, ReadBlob, RestoredShard, ReadFails, Step, ReadStep, WasFetched, WasAbsent, HasEnded, Refused, DepotFault, Moment}
use Rattle.esr_core.specs.After.{told_blob, read_told, shard_over, read_over, faulted, answered}
use Rattle.esr_core.specs.Allowed.{Told, SameBlobs, MayRead, Fetcher, ByReader, ReadFound, ReadMissing, ReadFault, RestoringShard, ReaderFailing, Reading}
use Rattle.esr_core.specs.ReadTracked.{ReadTracked}
use Rattle.esr_ops.specs.Plan.{Plan, IsPlanOf}
use Rattle.esr_desk.specs.Own.{or_no_reader, reader_of}
use Rattle.esr_desk.specs.Readers.{with_read, read_by}
use Rattle.esr_desk.specs.Refusals.{refusal_of}
use Rattle.esr_desk.specs.declared.refusal.StepRefusal.{StepRefusal}
use Rattle.esr_desk.specs.declared.refusal.StepRefusal.TheVariants as steps
use Rattle.esr_desk.specs.declared.refusal.EntryRefusal.TheVariants as code
use Rattle.esr_desk.specs.Start.{Start, formats_of, world_of}
use Rattle.esr_desk.specs.Restore.Conditions.{CanRead, CanEndRestore}
use Rattle.esr_repo.specs.Next.{Added, AddedOr}
use Rattle.esr_repo.specs.May.{IsFound, MayNote, MayFetch}
use Rattle.esr_repo.specs.Calls.{FetchDid}
use Rattle.esr_repo.specs.Grown.{added_reader, reading_is, reader_there}
use Rattle.esr_repo.specs.Stepping.{told_if}
use Rattle.esr_steps.proofs.Stepping.{added_from}
use Rattle.esr_steps.proofs.Written.{fetch_from}

-- ---- what leaves it

-- a refusal, where a failed call of the container leaves the world
pub reader_kept_by : (s : Start) (old new : List Moment) (who : ℕ) (step : Step) (e : StepRefusal) → ((image : Option Image) → faulted (formats_of s) (world_of s old) who step image ≡ world_of s old) → AddedOr s old new who step e
    → (k : ℕ) → reader_of s new k ≡ reader_of s old k
reader_kept_by s old new who step steps.Memory still same k = ap (λ (log : List Moment). reader_of s log k) same
reader_kept_by s old new who step steps.TurnsSpent still never k = absurd never
reader_kept_by s old new who step (steps.Refused code.DepotFault) still a k =
    added_reader s old new who step (Refused DepotFault) a k ∙ ap (λ (w : World). or_no_reader (fin.get w.readers k)) (still a.image)
reader_kept_by s old new who step (steps.Refused x) still a k = added_reader s old new who step (Refused (refusal_of x)) a k

-- who 0 has none
pub no_zero : (w : World) (q : Reader) → ReadTracked w → IsReading w 0 q → ⊥
no_zero w q r is = never (r.tracked.tickets 0 q is.there).0
  where
    never : 1 ≤ 0 → ⊥
    never h = omega arith

-- ---- a blob is read

-- what it may read is stored
stored_is : (s : Start) (q : Reader) (name : BlobName) → CanRead s q name → name ≢ Latest
stored_is s q name can is = elim can.may [
  | inl e ↦ differ (sym e ∙ is)
  | inr h ↦ subst (IsPiece q.index q.number) is h.0
]
  where
    differ : ShardSnap q.index q.number q.uuid ≡ Latest → ⊥
    differ e = cc

may_read_by : (s : Start) (q : Reader) (name : BlobName) (image : Option Image) → CanRead s q name → ((i : Image) → image ≡ Some i → s.tells ≡ true) → MayRead (formats_of s) q name image
may_read_by s q name image can tells = elim can.may [
  | inl e ↦ inl e
  | inr h ↦ inr (h.0, told_if s image _ tells h.1)
]

fetcher : (s : Start) (log : List Moment) (k : ℕ) (name : BlobName) (image : Option Image) → CanRead s (reader_of s log k) name → ((i : Image) → image ≡ Some i → s.tells ≡ true) → Fetcher (formats_of s) (world_of s log) name image k
fetcher s log k name image can tells = ByReader k (reader_of s log k) (reading_is s log k can.out) (may_read_by s (reader_of s log k) name image can tells)

pub found_there : (s : Start) (log : List Moment) (name : BlobName) (image : Option Image) → Told image (λ blobs. (bytes : Bytes) × IsFound s log name (Some bytes) blobs)
    → Told image (λ blobs. (bytes : Bytes) × (fin.get (world_of s log).blobs ((formats_of s).names.text name) ≡ Some bytes)) × SameBlobs (world_of s log) image
found_there s log name None h = (tt, tt)
found_there s log name (Some image) h = ((h.0, h.1.0), h.1.1)

pub found_none : (s : Start) (log : List Moment) (name : BlobName) (image : Option Image) → Told image (IsFound s log name None)
    → Told image (λ blobs. fin.get (world_of s log).blobs ((formats_of s).names.text name) ≡ None) × SameBlobs (world_of s log) image
found_none s log name None h = (tt, tt)
found_none s log name (Some image) h = (h.0, h.1)

pub may_read : (s : Start) (old log : List Moment) (k : ℕ) (name : BlobName) → log ≡ old → CanRead s (reader_of s old k) name → MayFetch s log k (ReadStep (ReadBlob name)) name
may_read s old log k name e before =
    let can : CanRead s (reader_of s log k) name = subst (λ (l : List Moment). CanRead s (reader_of s l k) name) (sym e) before in
    let stored : name ≢ Latest = stored_is s (reader_of s log k) name can in
    record {
      is = refl;
      fetches = λ named image tells found. let h = found_there s log name image found in Reading k (ReadBlob name) WasFetched image (ReadFound k name image (named, stored) (fetcher s log k name image can tells) h.0) h.1;
      misses = λ named image tells found. let h = found_none s log name image found in Reading k (ReadBlob name) WasAbsent image (ReadMissing k name image (named, stored) (fetcher s log k name image can tells) h.0) h.1;
      fails = λ named image tells same. Reading k (ReadBlob name) (Refused DepotFault) image (ReadFault k name image (named, stored) (fetcher s log k name image can tells)) same;
    }

-- what it makes of the ticket
absent_is : (f : Formats) (w : World) (k : ℕ) (name : BlobName) (image : Option Image) → answered f w k (ReadStep (ReadBlob name)) WasAbsent image ≡ w
absent_is f w zero name image = refl
absent_is f w (suc k) name image = refl

fetched_is : (f : Formats) (w : World) (k : ℕ) (name : BlobName) (image : Option Image) (q : Reader) → ReadTracked w → IsReading w k q
    → answered f w k (ReadStep (ReadBlob name)) WasFetched image ≡ read_told w k name (told_blob f image name) (Some q)
fetched_is f w zero name image q tracked is = absurd (no_zero w q tracked is)
fetched_is f w (suc k) name image q tracked is = ap (read_told w (suc k) name (told_blob f image name)) is.there

told_reader : (w : World) (k : ℕ) (name : BlobName) (bytes : Option Bytes) → or_no_reader (fin.get (read_told w k name bytes (Some (or_no_reader (fin.get w.readers k)))).readers k) ≡ with_read name bytes (or_no_reader (fin.get w.readers k))
told_reader w k name None = refl
told_reader w k name (Some bytes) = ap or_no_reader (reader_there w.readers k _)

read_so : {F : Type 0} (left : F → Option Bytes) (s : Start) (old new : List Moment) (k : ℕ) (name : BlobName) (r : Result (Option F) StepRefusal) → ReadTracked (world_of s old) → (reader_of s old k).out ≡ true
    → FetchDid left s old new k (ReadStep (ReadBlob name)) name r → IfOk r (λ o. reader_of s new k ≡ read_by left name o (reader_of s old k))
read_so left s old new k name (Ok None) tracked out did =
    added_reader s old new k (ReadStep (ReadBlob name)) WasAbsent did k ∙ ap (λ (w : World). or_no_reader (fin.get w.readers k)) (absent_is (formats_of s) (world_of s old) k name did.image)
read_so left s old new k name (Ok (Some f)) tracked out did =
    added_reader s old new k (ReadStep (ReadBlob name)) WasFetched did.0 k
    ∙ ap (λ (w : World). or_no_reader (fin.get w.readers k)) (fetched_is (formats_of s) (world_of s old) k name did.0.image (reader_of s old k) tracked (reading_is s old k out))
    ∙ told_reader (world_of s old) k name (told_blob (formats_of s) did.0.image name)
    ∙ ap (λ (bytes : Option Bytes). with_read name bytes (reader_of s old k)) did.1
read_so left s old new k name (Err e) tracked out did = tt

pub read_reader : {F : Type 0} (left : F → Option Bytes) (s : Start) (old mid new : List Moment) (k : ℕ) (name : BlobName) (r : Result (Option F) StepRefusal) → mid ≡ old → ReadTracked (world_of s mid) → CanRead s (reader_of s old k) name
    → FetchDid left s mid new k (ReadStep (ReadBlob name)) name r → IfOk r (λ o. reader_of s new k ≡ read_by left name o (reader_of s old k))
read_reader left s old mid new k name r e tracked can did =
    read_so left s old new k name r (subst (λ (l : List Moment). ReadTracked (world_of s l)) e tracked) can.out (fetch_from left s old mid new k (ReadStep (ReadBlob name)) name r e did)

-- ---- it ends

next_over : (w : World) (k : ℕ) (state : ReadState) (o : Option Reader) → (read_over w k state o).next_id ≡ w.next_id
next_over w k state None = refl
next_over w k state (Some q) = go (fin.get w.restores q.op)
  where
    go : (r : Option Restoring) → (shard_over w k state q r).next_id ≡ w.next_id
    go None = refl
    go (Some r) = refl

restored_is : (f : Formats) (w : World) (k files bytes : ℕ) (image : Option Image) (q : Reader) → ReadTracked w → IsReading w k q
    → answered f w k (ReadStep (RestoredShard files bytes)) HasEnded image ≡ read_over w k (Restored files bytes) (fin.get w.readers k)
restored_is f w zero files bytes image q tracked is = absurd (no_zero w q tracked is)
restored_is f w (suc k) files bytes image q tracked is = refl

unrestored_is : (f : Formats) (w : World) (k : ℕ) (why : Why) (image : Option Image) (q : Reader) → ReadTracked w → IsReading w k q
    → answered f w k (ReadStep (ReadFails why)) HasEnded image ≡ read_over w k (NotRestored why) (fin.get w.readers k)
unrestored_is f w zero why image q tracked is = absurd (no_zero w q tracked is)
unrestored_is f w (suc k) why image q tracked is = refl

-- the list of ops after its end
abbrev Ends : ℕ → Plan → Plan → Type 0
Ends k plan p = (w : World) (state : ReadState) → waits state ≡ false → IsPlanOf w plan → IsPlanOf (read_over w k state (fin.get w.readers k)) p

pub may_note_restored : (s : Start) (old log : List Moment) (k files bytes : ℕ) (plan p : Plan) (next : ℕ) → log ≡ old → ReadTracked (world_of s log) → CanEndRestore s (reader_of s old k) files bytes → IsPlanOf (world_of s log) plan
    → Ends k plan p → next ≡ (world_of s log).next_id → MayNote s log k (ReadStep (RestoredShard files bytes)) HasEnded (Some p) next
may_note_restored s old log k files bytes plan p next e tracked before plan_is goes next_is =
    let can : CanEndRestore s (reader_of s log k) files bytes = subst (λ (l : List Moment). CanEndRestore s (reader_of s l k) files bytes) (sym e) before in
    let reading = reading_is s log k can.out in
    record {
      plain = refl;
      allows = λ image tells same. Reading k (RestoredShard files bytes) HasEnded image (RestoringShard k files bytes image (reader_of s log k) reading (told_if s image _ tells can.done)) same;
      plan_is = λ image q h. subst (λ (w : World). IsPlanOf w p) (sym (restored_is (formats_of s) (world_of s log) k files bytes image (reader_of s log k) tracked reading)) (goes (world_of s log) (Restored files bytes) refl plan_is);
      next_is = λ image. next_is ∙ sym (next_over (world_of s log) k (Restored files bytes) (fin.get (world_of s log).readers k))
          ∙ ap (λ (w : World). w.next_id) (sym (restored_is (formats_of s) (world_of s log) k files bytes image (reader_of s log k) tracked reading));
    }

pub may_note_unrestored : (s : Start) (old log : List Moment) (k : ℕ) (why : Why) (p : Plan) (next : ℕ) → log ≡ old → ReadTracked (world_of s log) → (reader_of s old k).out ≡ true
    → ((state : ReadState) → waits state ≡ false → IsPlanOf (read_over (world_of s log) k state (fin.get (world_of s log).readers k)) p) → next ≡ (world_of s log).next_id
    → MayNote s log k (ReadStep (ReadFails why)) HasEnded (Some p) next
may_note_unrestored s old log k why p next e tracked before goes next_is =
    let out : (reader_of s log k).out ≡ true = subst (λ (l : List Moment). (reader_of s l k).out ≡ true) (sym e) before in
    let reading = reading_is s log k out in
    record {
      plain = refl;
      allows = λ image tells same. Reading k (ReadFails why) HasEnded image (ReaderFailing k why image (reader_of s log k) reading) same;
      plan_is = λ image q h. subst (λ (w : World). IsPlanOf w p) (sym (unrestored_is (formats_of s) (world_of s log) k why image (reader_of s log k) tracked reading)) (goes (NotRestored why) refl);
      next_is = λ image. next_is ∙ sym (next_over (world_of s log) k (NotRestored why) (fin.get (world_of s log).readers k))
          ∙ ap (λ (w : World). w.next_id) (sym (unrestored_is (formats_of s) (world_of s log) k why image (reader_of s log k) tracked reading));
    }

over_reader : (w : World) (k : ℕ) (state : ReadState) (q : Reader) → ReadTracked w → IsReading w k q → or_no_reader (fin.get (read_over w k state (fin.get w.readers k)).readers k) ≡ record q { out = false }
over_reader w k state q tracked is =
    ap (λ (o : Option Reader). or_no_reader (fin.get (read_over w k state o).readers k)) is.there
    ∙ ap (λ (o : Option Restoring). or_no_reader (fin.get (shard_over w k state q o).readers k)) (tracked.tracked.readers k q is.there is.out).there
    ∙ ap or_no_reader (reader_there w.readers k (record q { out = false }))

pub restored_reader : (s : Start) (old mid new : List Moment) (k files bytes : ℕ) → mid ≡ old → ReadTracked (world_of s mid) → CanEndRestore s (reader_of s old k) files bytes
    → Added s mid new k (ReadStep (RestoredShard files bytes)) HasEnded → reader_of s new k ≡ record (reader_of s old k) { out = false }
restored_reader s old mid new k files bytes e before can added =
    let tracked : ReadTracked (world_of s old) = subst (λ (l : List Moment). ReadTracked (world_of s l)) e before in
    let a = added_from s old mid new k (ReadStep (RestoredShard files bytes)) HasEnded e added in
    added_reader s old new k (ReadStep (RestoredShard files bytes)) HasEnded a k
    ∙ ap (λ (w : World). or_no_reader (fin.get w.readers k)) (restored_is (formats_of s) (world_of s old) k files bytes a.image (reader_of s old k) tracked (reading_is s old k can.out))
    ∙ over_reader (world_of s old) k (Restored files bytes) (reader_of s old k) tracked (reading_is s old k can.out)

pub unrestored_reader : (s : Start) (old mid new : List Moment) (k : ℕ) (why : Why) → mid ≡ old → ReadTracked (world_of s mid) → (reader_of s old k).out ≡ true → Added s mid new k (ReadStep (ReadFails why)) HasEnded
    → reader_of s new k ≡ record (reader_of s old k) { out = false }
unrestored_reader s old mid new k why e before out added =
    let tracked : ReadTracked (world_of s old) = subst (λ (l : List Moment). ReadTracked (world_of s l)) e before in
    let a = added_from s old mid new k (ReadStep (ReadFails why)) HasEnded e added in
    added_reader s old new k (ReadStep (ReadFails why)) HasEnded a k
    ∙ ap (λ (w : World). or_no_reader (fin.get w.readers k)) (unrestored_is (formats_of s) (world_of s old) k why a.image (reader_of s old k) tracked (reading_is s old k out))
    ∙ over_reader (world_of s old) k (NotRestored why) (reader_of s old k) tracked (reading_is s old k out)
