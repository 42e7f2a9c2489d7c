-- What a restore's ticket reads of its shard's snapshot.
use Rattle.std.proofs.Common.{◌≡◌, ◌<◌, inl, ℕ, Bool, true, false, List, Option, Some, None, refl, sym, ap, ◌∙◌, subst}
use Rattle.std.specs.Prelude.{if◌then◌else◌, IfSome, IsTrue}
use Rattle.esr_names.specs.declared.ids.Id.{Id}
use Rattle.esr_names.specs.declared.blob.ShardId.{ShardId}
use Rattle.esr_names.specs.declared.blob.BlobName.TheVariants as names
use Rattle.esr_names.specs.Layout.{IsName}
use Rattle.esr_model.specs.Names.{BlobName, ShardSnap}
use Rattle.esr_model.specs.Values.{Bytes, ShardSnapshot, Kind}
use Rattle.esr_model.specs.Image.{Reads}
use Rattle.esr_core.specs.World.{Reader}
use Rattle.esr_core.specs.Restores.{WasRead}
use Rattle.esr_core.specs.Entry.{OfUnreadable, ReadStep, ReadBlob, WasFetched, WasAbsent, Moment}
use Rattle.esr_json.specs.declared.refusal.Reason.{Reason as CodeReason}
use Rattle.esr_json.specs.declared.refusal.ReadRefusal.{ReadRefusal}
use Rattle.esr_json.specs.declared.refusal.ReadRefusal.TheVariants as reads
use Rattle.esr_json.specs.Steps.{Fails}
use Rattle.esr_shardidx.specs.declared.entry.FileEntry.{FileEntry as CodeEntry}
use Rattle.esr_shardidx.specs.Snapshots.{SnapValue, shard_snap_from}
use Rattle.esr_formats.specs.Formats.{formats}
use Rattle.esr_formats.specs.Reasons.{reason_of, refused, unreadable, refused_for}
use Rattle.esr_formats.specs.Shards.{shard_snap_of, shard_snap_kind}
use Rattle.esr_desk.specs.Start.{Start, formats_of, told_bytes}
use Rattle.esr_desk.specs.Outcome.{fetch_reply, Stepped}
use Rattle.esr_desk.specs.declared.hand.Hand.TheVariants as hands
use Rattle.esr_desk.specs.declared.fault.By.TheVariants as shows
use Rattle.esr_desk.specs.Own.{Own, own_of, reader_of}
use Rattle.esr_desk.specs.Readers.{with_read, read_by}
use Rattle.esr_desk.specs.Hands.{own_fetched}
use Rattle.esr_desk.specs.Conditions.{Holds}
use Rattle.esr_desk.specs.Evidence.{Evidence, HadFetch}
use Rattle.esr_desk.specs.Restore.Conditions.{CanRead}
use Rattle.esr_desk.specs.Restore.Shown.{IsRestoreShown}
use Rattle.esr_unit.specs.declared.trouble.Trouble.{Trouble}
use Rattle.esr_unit.specs.Ending.{unread_as}
use Rattle.esr_unit.specs.Refusals.{stepped_had}
use Rattle.esr_restore.specs.Parts.{Came}
use Rattle.esr_restore.specs.Trouble.{IsTrouble}
use Rattle.esr_restore.specs.Worked.{Worked}
use Rattle.esr_restore.specs.Snapped.{IsAt, ReadAs, HasSnap, IsListed}
use Rattle.esr_restore.proofs.Going.{worked_at, with_read_worked}

-- ---- the snapshot

-- its name is one of the layout
pub snap_name : (shard : ShardId) (uuid : Id) → shard.number < 1024 → IsName (names.ShardSnap shard uuid)
unfolding IsName
snap_name shard uuid few = few

-- the name of the snapshot of the ticket's shard
pub snap_is : (q : Reader) (index number uuid : ℕ) → IsAt q index number uuid → ShardSnap index number uuid ≡ ShardSnap q.index q.number q.uuid
snap_is q index number uuid at =
    ap (λ (i : ℕ). ShardSnap i number uuid) (sym at.index_is) ∙ ap (λ (k : ℕ). ShardSnap q.index k uuid) (sym at.number_is) ∙ ap (λ (u : ℕ). ShardSnap q.index q.number u) (sym at.uuid_is)

-- it may be fetched
pub can_snap : (s : Start) (q : Reader) (index number uuid : ℕ) → IsAt q index number uuid → CanRead s q (ShardSnap index number uuid)
can_snap s q index number uuid at = record { out = at.out; may = inl (snap_is q index number uuid at) }

-- what was read is noted where the container tells
was_read : (tells : Bool) (old new : Reader) (name : BlobName) (b : Bytes) → new ≡ with_read name (if tells then Some b else None) old → tells ≡ true → WasRead new.read name b
was_read true old new name b is yes_is = subst (λ (q : Reader). WasRead q.read name b) (sym is) (inl refl)
was_read false old new name b is yes_is = absurd cc

pub told_read : (s : Start) (old new : Reader) (name : BlobName) (b : Bytes) → new ≡ with_read name (told_bytes s b) old → s.tells ≡ true → WasRead new.read name b
told_read s old new name b is tells = was_read s.tells old new name b is tells

read_at : (s : Start) (old new : Reader) (name : BlobName) (b : Bytes) (index number uuid : ℕ) → new ≡ with_read name (told_bytes s b) old → IsAt old index number uuid → IsAt new index number uuid
read_at s old new name b index number uuid is at = subst (λ (q : Reader). IsAt q index number uuid) (sym is) (worked_at old (with_read name (told_bytes s b) old) index number uuid (with_read_worked old name (told_bytes s b)) at)

-- it reads
pub has_snap : (s : Start) (old new : Reader) (index number uuid : ℕ) (b : Bytes) (value : SnapValue) → IsAt old index number uuid → new ≡ with_read (ShardSnap index number uuid) (told_bytes s b) old
    → shard_snap_kind.read b ≡ Some (shard_snap_of value) → HasSnap s new value
unfolding formats
has_snap s old new index number uuid b value at is reads =
    let name = snap_is new index number uuid (read_at s old new (ShardSnap index number uuid) b index number uuid is at) in
    λ tells. subst (λ (n : BlobName). Reads (WasRead new.read) n shard_snap_kind (shard_snap_of value)) name (record { bytes = b; there = told_read s old new (ShardSnap index number uuid) b is tells; reads = reads })

-- ---- a fetch that was answered

-- the blob was absent, or there
pub was_absent : {F : Type 0} (o : Option F) (s : Start) (old new : List Moment) (who : ℕ) (name : BlobName) → o ≡ None → Stepped s old new who (ReadStep (ReadBlob name)) (fetch_reply o) → HadFetch hands.Restore new who name WasAbsent
was_absent None s old new who name is h = stepped_had s old new who (ReadStep (ReadBlob name)) WasAbsent h
was_absent (Some f) s old new who name is h = absurd cc

pub was_fetched : {F : Type 0} (o : Option F) (f : F) (s : Start) (old new : List Moment) (who : ℕ) (name : BlobName) → o ≡ Some f → Stepped s old new who (ReadStep (ReadBlob name)) (fetch_reply o)
    → HadFetch hands.Restore new who name WasFetched
was_fetched None f s old new who name is h = absurd cc
was_fetched (Some g) f s old new who name is h = stepped_had s old new who (ReadStep (ReadBlob name)) WasFetched h

-- one came, of which nothing is read yet
pub has_come : {F : Type 0} (left : F → Option Bytes) (sure : F → Bool) (o : Option F) (f : F) (s : Start) (old new : List Moment) (who : ℕ) (name : BlobName) → o ≡ Some f → IfSome o (λ x. (bytes : Bytes) × Holds s (left x) bytes)
    → IfSome o (λ x. s.quiet ≡ true → IsTrue (sure x)) → own_of s new who ≡ own_fetched hands.Restore left name o (own_of s old who) → Came s (reader_of s old who) (reader_of s new who) name (left f) (sure f)
has_come left sure None f s old new who name is told served own = absurd cc
has_come {F} left sure (Some g) f s old new who name is told served own =
    let same : g ≡ f = cc in
    subst (λ (x : F). Came s (reader_of s old who) (reader_of s new who) name (left x) (sure x)) same (record {
      bytes = told.0;
      holds = told.1;
      is = ap (λ (o : Own). o.reader) own ∙ ap (λ (l : Option Bytes). with_read name l (reader_of s old who)) told.1;
      served = served;
    })

-- it was read to its end
pub read_whole : (o : Option Bytes) (bytes : Bytes) (s : Start) (old new : List Moment) (who : ℕ) (name : BlobName) → o ≡ Some bytes → own_of s new who ≡ own_fetched hands.Restore (told_bytes s) name o (own_of s old who)
    → reader_of s new who ≡ with_read name (told_bytes s bytes) (reader_of s old who)
read_whole o bytes s old new who name is own =
    ap (λ (o : Own). o.reader) own ∙ ap (λ (o : Option Bytes). read_by (told_bytes s) name o (reader_of s old who)) is

-- the snapshot was there, and doesn't read: the reader's reason is the first there is
module _ {S F H T : Type 0} (e : Evidence S F H T) (s : Start) (old new : List Moment) (who : ℕ) (at : ShardId) (uuid : Id) (b read : Bytes) (is_at : IsAt (reader_of s old who) at.index.number at.number uuid.number)
    (is : reader_of s new who ≡ with_read (ShardSnap at.index.number at.number uuid.number) (told_bytes s b) (reader_of s old who)) (had : HadFetch hands.Restore new who (ShardSnap at.index.number at.number uuid.number) WasFetched)
    (same : read ≡ b) where
  no_snap : (why : CodeReason) → Fails (reads.Damaged why) (shard_snap_from read) → IsRestoreShown e s new who (OfUnreadable (ShardSnap at.index.number at.number uuid.number) (reason_of why)) shows.Nothing
  unfolding unreadable
  no_snap why fails =
      let q = reader_of s old who in
      let now = reader_of s new who in
      let snap = ShardSnap at.index.number at.number uuid.number in
      let name = snap_is now at.index.number at.number uuid.number (read_at s q now snap b at.index.number at.number uuid.number is is_at) in
      let first = subst (λ (x : Bytes). refused (shard_snap_from x) ≡ Some (reason_of why)) same (refused_for (shard_snap_from read) (reads.Damaged why) why refl fails) in
      (name, (b, record { had = had; read = told_read s q now snap b is }, first))

  pub snap_unread : (refusal : ReadRefusal) (trouble : Trouble S F) → trouble ≡ unread_as (names.ShardSnap at uuid) refusal → Fails refusal (shard_snap_from read) → (n : ℕ) (sure : Bool) → IsTrouble e n sure s new who trouble
  snap_unread reads.Memory trouble made fails n sure = subst (λ (x : Trouble S F). IsTrouble e n sure s new who x) (sym made) tt
  snap_unread (reads.Damaged why) trouble made fails n sure = subst (λ (x : Trouble S F). IsTrouble e n sure s new who x) (sym made) (no_snap why fails)

-- ---- while more is read

pub reads_more : {V : Type 0} (a b : Reader) (name : BlobName) (kind : Kind V) (v : V) → Worked a b → Reads (WasRead a.read) name kind v → Reads (WasRead b.read) name kind v
reads_more a b name kind v worked h = record { bytes = h.bytes; there = worked.more (name, h.bytes) h.there; reads = h.reads }

same_shard : (a b : Reader) → Worked a b → ShardSnap a.index a.number a.uuid ≡ ShardSnap b.index b.number b.uuid
same_shard a b worked = sym (ap (λ (q : Reader). ShardSnap q.index q.number q.uuid) worked.same)

pub read_as_more : (s : Start) (a b : Reader) (snap : ShardSnapshot) → Worked a b → ReadAs s a snap → ReadAs s b snap
read_as_more s a b snap worked read =
    λ tells. subst (λ (n : BlobName). Reads (WasRead b.read) n (formats_of s).shard_snap snap) (same_shard a b worked) (reads_more a b (ShardSnap a.index a.number a.uuid) (formats_of s).shard_snap snap worked (read tells))

pub listed_more : (s : Start) (a b : Reader) (e : CodeEntry) → Worked a b → IsListed s a e → IsListed s b e
listed_more s a b e worked h = record { snap = h.snap; snap_read = read_as_more s a b h.snap worked h.snap_read; listed = h.listed }

pub snap_more : (s : Start) (a b : Reader) (snap : SnapValue) → Worked a b → HasSnap s a snap → HasSnap s b snap
snap_more s a b snap worked read = read_as_more s a b (shard_snap_of snap) worked read
