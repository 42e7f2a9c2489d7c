-- In a lawful world a restore's ticket can read its whole shard: step by step, to its end.
use Rattle.std.proofs.Common.{◌≡◌, ◌⊎◌, ℕ, zero, suc, ◌≤◌, List, [], ◌∷◌, ◌++◌, false, true≢false, Some, map, refl, sym, ap, ◌∙◌, subst, inl, inr, arith}
use Rattle.std.specs.Prelude.{length, sum_by, min, ◌-◌, ◌^◌}
use Rattle.std.specs.FinMap as fin
use Rattle.std.proofs.lemmas.Option.{same_Some}
use Rattle.esr_core.specs.Laws.NumberMaps.{same_in}
use Rattle.esr_model.specs.Names.{BlobName, ShardSnap}
use Rattle.esr_model.specs.Values.{Bytes, Has, FileEntry, ShardSnapshot, ReadsBack, Formats}
use Rattle.esr_model.specs.Shelf.{Shelved}
use Rattle.esr_model.specs.Parts.{part_names}
use Rattle.esr_model.specs.Image.{Image, Blobs, AllPairs, At, Reads, FileStands}
use Rattle.esr_core.specs.World.{World, Ticket, Reader, HeldIn, record_of, image_of}
use Rattle.esr_core.specs.Restores.{IsReading, WasRead, IsPiece, read_more, more_read}
use Rattle.esr_core.specs.Past.{Repeats, IsNewStep}
use Rattle.esr_core.specs.Entry.{ReadBlob, RestoredShard, Step, ReadStep, Read, Reply, WasFetched, HasEnded, Entry, Moment}
use Rattle.esr_core.specs.After.{read_told, after}
use Rattle.esr_core.specs.Ids.{Law}
use Rattle.esr_core.specs.Allowed as allowed
use Rattle.esr_core.specs.Allowed.{MayRead, ByReader, ReadAllows, ReadFound, RestoringShard, Allowed}
use Rattle.esr_core.specs.History.{IsLegal}
use Rattle.esr_core.specs.ReadLaw.{ReadLaw}
use Rattle.esr_core.specs.ReadTracked.{ReadTracked}
use Rattle.esr_core.specs.ReadEnds.{NoFetchFailed, CanEnd}
use Rattle.esr_model.specs.Lists.{Has-left, Has-right, Has-either, AllPairs-map}
use Rattle.esr_core.specs.Laws.BlobFrames.{file_kept, text_one}
use Rattle.esr_core.proofs.Recording.{record_stays}
use Rattle.esr_core.specs.Laws.PartNames.{in_parts}
use Rattle.esr_core.specs.Laws.Tests.{same_one, same_true}
use Rattle.esr_core.proofs.Past.{entry_or_before}
use Rattle.esr_core.proofs.ReadLaws.{Serves, serves_now, serves_snap}

-- a part of a file of the shard is a piece of it
part_piece : (index number : ℕ) (e : FileEntry) (name : BlobName) → Has (part_names index number e) name → IsPiece index number name
part_piece index number e name part = elim (in_parts index number e name part) [
  | inl h ↦ subst (IsPiece index number) (sym h) (refl, refl)
  | inr h ↦ subst (IsPiece index number) (sym h.1) (refl, refl)
]

-- ---- what is to be read

zipped : List BlobName → List Bytes → List (BlobName × Bytes)
zipped [] parts = []
zipped (n ∷ names) [] = []
zipped (n ∷ names) (b ∷ parts) = (n, b) ∷ zipped names parts

zipped_is : (has : BlobName → Bytes → Type 0) (names : List BlobName) (parts : List Bytes) → AllPairs has names parts → (n : BlobName) (b : Bytes) → Has (zipped names parts) (n, b) → has n b × Has names n
unfolding zipped
zipped_is has (x ∷ names) (y ∷ parts) h n b (inl e) = (subst (λ (p : BlobName × Bytes). has p.0 p.1) e h.0, inl (ap (λ (p : BlobName × Bytes). p.0) e))
zipped_is has (x ∷ names) (y ∷ parts) h n b (inr m) = let r = zipped_is has names parts h.1 n b m in (r.0, inr r.1)
zipped_is has names parts h n b m = absurd m

zipped_all : (has : BlobName → Bytes → Type 0) (names : List BlobName) (parts : List Bytes) → AllPairs has names parts → AllPairs (λ (n : BlobName) (b : Bytes). Has (zipped names parts) (n, b)) names parts
unfolding zipped
zipped_all has [] [] h = tt
zipped_all has (x ∷ names) (y ∷ parts) h = (inl refl, AllPairs-map (λ n b m. inr m) names parts (zipped_all has names parts h.1))
zipped_all has names parts h = h

module _ (f : Formats) (has : BlobName → Bytes → Type 0) (index number : ℕ) where
  -- the parts of these files
  needed : (es : List FileEntry) (files : List (Bytes × Bytes)) → AllPairs (λ (e : FileEntry) (file : Bytes × Bytes). (e.physical ≡ file.0) × FileStands f has index number e file.1) es files → List (BlobName × Bytes)
  needed [] files h = []
  needed (e ∷ es) [] h = []
  needed (e ∷ es) (y ∷ files) h = zipped (part_names index number e) h.0.1.parts ++ needed es files h.1

  needed_is : (es : List FileEntry) (files : List (Bytes × Bytes)) (h : AllPairs (λ (e : FileEntry) (file : Bytes × Bytes). (e.physical ≡ file.0) × FileStands f has index number e file.1) es files) (n : BlobName) (b : Bytes)
      → Has (needed es files h) (n, b) → has n b × ((e : FileEntry) × Has es e × Has (part_names index number e) n)
  unfolding needed
  needed_is (e ∷ es) (y ∷ files) h n b m = elim (Has-either (zipped (part_names index number e) h.0.1.parts) (needed es files h.1) (n, b) m) [
    | inl z ↦ let r = zipped_is has (part_names index number e) h.0.1.parts h.0.1.there n b z in (r.0, (e, inl refl, r.1))
    | inr z ↦ let (there, (x, xm, part)) = needed_is es files h.1 n b z in (there, (x, inr xm, part))
  ]
  needed_is es files h n b m = absurd m

  needed_all : (es : List FileEntry) (files : List (Bytes × Bytes)) (h : AllPairs (λ (e : FileEntry) (file : Bytes × Bytes). (e.physical ≡ file.0) × FileStands f has index number e file.1) es files)
      → AllPairs (FileStands f (λ n b. Has (needed es files h) (n, b)) index number) es (map (λ (file : Bytes × Bytes). file.1) files)
  unfolding needed
  needed_all [] [] h = tt
  needed_all (e ∷ es) (y ∷ files) h =
      let mine = zipped (part_names index number e) h.0.1.parts in
      let rest = needed es files h.1 in (
        record {
          parts = h.0.1.parts;
          there = AllPairs-map (λ n b m. Has-left mine rest (n, b) m) (part_names index number e) h.0.1.parts (zipped_all has (part_names index number e) h.0.1.parts h.0.1.there);
          full = h.0.1.full;
          joined = h.0.1.joined;
          len = h.0.1.len;
          digest = h.0.1.digest;
        },
        AllPairs-map (λ x b s. file_kept f (λ n c. Has rest (n, c)) (λ n c. Has (mine ++ rest) (n, c)) (λ n c m. Has-right mine rest (n, c) m) index number x b s) es (map (λ (file : Bytes × Bytes). file.1) files) (needed_all es files h.1),
      )
  needed_all es files h = h

-- ---- the steps

abbrev shown : Formats → World → ℕ → Read → Reply → Moment
shown f w k read reply = record { entry = record { who = k; step = ReadStep read; reply = reply }; image = Some (image_of f w) }

-- a restore's ticket is none of another op
abbrev IsNoTicket : World → ℕ → Type 0
IsNoTicket w k = (t : Ticket) → fin.get w.tickets k ≡ Some t → ⊥

-- a step that reads leaves the record, and so its text
legal_one : (f : Formats) (size : ℕ) (w : World) (k : ℕ) (read : Read) (reply : Reply) → IsNewStep w k (ReadStep read) → IsNoTicket w k → w.deposed ≡ false → ReadsBack f.cluster (record_of w)
    → ReadAllows f w k read reply (Some (image_of f w)) → Allowed f size w (shown f w k read reply)
legal_one f size w k read reply new none alive back allows =
    let m : Moment = shown f w k read reply in
    record {
      answered = inl (alive, allowed.Reading k read reply (Some (image_of f w)) allows refl);
      aborted = λ by d a. absurd (none a.t a.out.there);
      once = λ d. new;
      record_back = subst (ReadsBack f.cluster) (sym (record_stays f w m refl)) back;
      text = λ image same. ap (λ (x : Image). x.text) (sym (same_Some _ _ same)) ∙ ap (λ r. Some (f.cluster.text r)) (sym (record_stays f w m refl));
    }

-- what the ticket has before each step: its reader has read the snapshot of its shard, and of what is needed some is still to be read
record Going (f : Formats) (w : World) (k : ℕ) (q : Reader) (snap : ShardSnapshot) (todo need : List (BlobName × Bytes)) (contents : List Bytes) : Type 0 where
  apart : IsNoTicket w k
  fetched : NoFetchFailed w k q
  were : (n : BlobName) (b : Bytes) → Has q.read (n, b) → At f w.blobs n b
  alive : w.deposed ≡ false
  back : ReadsBack f.cluster (record_of w)
  reading : IsReading w k q
  snap_read : Reads (WasRead q.read) (ShardSnap q.index q.number q.uuid) f.shard_snap snap
  there : (n : BlobName) (b : Bytes) → Has todo (n, b) → At f w.blobs n b
  listed : (n : BlobName) (b : Bytes) → Has todo (n, b) → (e : FileEntry) × Has snap.files e × Has (part_names q.index q.number e) n
  covered : (n : BlobName) (b : Bytes) → Has need (n, b) → Has todo (n, b) ⊎ Has q.read (n, b)
  stand : AllPairs (FileStands f (λ n b. Has need (n, b)) q.index q.number) snap.files contents

-- the world after a fetch
abbrev read_now : Formats → World → ℕ → Reader → BlobName → Bytes → World
read_now f w j q name bytes = record (more_read w (suc j) q name bytes) { entries = (shown f w (suc j) (ReadBlob name) WasFetched).entry ∷ w.entries }

fetched_is : (f : Formats) (w : World) (j : ℕ) (q : Reader) (name : BlobName) (bytes : Bytes) → fin.get w.readers (suc j) ≡ Some q → fin.get w.blobs (f.names.text name) ≡ Some bytes
    → after f w (shown f w (suc j) (ReadBlob name) WasFetched) ≡ read_now f w j q name bytes
fetched_is f w j q name bytes there at = λ i. record (read_told w (suc j) name (at i) (there i)) { blobs = w.blobs; entries = (shown f w (suc j) (ReadBlob name) WasFetched).entry ∷ w.entries }

-- one more is fetched
fetch : (f : Formats) (size : ℕ) (w : World) (j : ℕ) (q : Reader) (name : BlobName) (bytes : Bytes) → IsNewStep w (suc j) (ReadStep (ReadBlob name)) → IsNoTicket w (suc j) → w.deposed ≡ false → ReadsBack f.cluster (record_of w)
    → IsReading w (suc j) q → At f w.blobs name bytes → MayRead f q name (Some (image_of f w)) → CanEnd f size (read_now f w j q name bytes) (suc j) → CanEnd f size w (suc j)
fetch f size w j q name bytes new apart alive back reading at may rest =
    let m : Moment = shown f w (suc j) (ReadBlob name) WasFetched in
    record {
      front = m ∷ rest.front;
      last = rest.last;
      legal = (
        legal_one f size w (suc j) (ReadBlob name) WasFetched new apart alive back (ReadFound (suc j) name (Some (image_of f w)) at.1 (ByReader (suc j) q reading may) (bytes, at.0)),
        subst (λ v. IsLegal f size v (rest.front ++ rest.last ∷ [])) (sym (fetched_is f w j q name bytes reading.there at.0)) rest.legal,
      );
      told = ((image_of f w, refl), rest.told);
      files = rest.files;
      bytes = rest.bytes;
      ends = rest.ends;
    }

-- ---- what it has read

-- it has read the blob, or not
read_or_not : (f : Formats) (read : List (BlobName × Bytes)) (name : BlobName) → ReadsBack f.names name → ((n : BlobName) (b : Bytes) → Has read (n, b) → ReadsBack f.names n)
    → ((b : Bytes) × Has read (name, b)) ⊎ ((b : Bytes) → Has read (name, b) → ⊥)
read_or_not f [] name back backs = inr (λ b m. m)
read_or_not f ((n, b) ∷ read) name back backs = elim (same_one (f.names.text n) (f.names.text name)) [
  | inl same ↦ inl (b, inl (λ j. (text_one f n name (backs n b (inl refl)) back same.1 j, b)))
  | inr apart ↦ elim (read_or_not f read name back (λ m c h. backs m c (inr h))) [
    | inl found ↦ inl (found.0, inr found.1)
    | inr none ↦ inr (λ c m. elim m [
      | inl same ↦ true≢false (sym (same_true (f.names.text n) (f.names.text name) (ap (λ (p : BlobName × Bytes). f.names.text p.0) same)) ∙ apart)
      | inr more ↦ none c more
    ])
  ]
]

one_content : (f : Formats) (blobs : Blobs) (name : BlobName) (a b : Bytes) → At f blobs name a → At f blobs name b → a ≡ b
one_content f blobs name a b p q = same_Some a b (sym p.0 ∙ q.0)

-- a fetch of a blob that it has not read is new
new_blob : (w : World) (k : ℕ) (q : Reader) (name : BlobName) → NoFetchFailed w k q → ((b : Bytes) → Has q.read (name, b) → ⊥) → IsNewStep w k (ReadStep (ReadBlob name))
new_blob w k q name fetched none e m r =
    let (n, b, is, has) = fetched e m in
    let same : n ≡ name = subst (λ (s : Step). Repeats s (ReadStep (ReadBlob name))) is r in
    none b (subst (λ (x : BlobName). Has q.read (x, b)) same has)

fetched_more : (f : Formats) (w : World) (j : ℕ) (q : Reader) (name : BlobName) (bytes : Bytes) → NoFetchFailed w (suc j) q → NoFetchFailed (read_now f w j q name bytes) (suc j) (read_more q name bytes)
fetched_more f w j q name bytes fetched e m = elim (entry_or_before (shown f w (suc j) (ReadBlob name) WasFetched).entry w.entries (suc j) e m) [
  | inl same ↦ (name, bytes, ap (λ (x : Entry). x.step) (sym same), inl refl)
  | inr before ↦ let (n, b, is, has) = fetched e before in (n, b, is, inr has)
]

were_more : (f : Formats) (w : World) (q : Reader) (name : BlobName) (bytes : Bytes) → At f w.blobs name bytes → ((n : BlobName) (b : Bytes) → Has q.read (n, b) → At f w.blobs n b) → (n : BlobName) (b : Bytes)
    → Has ((name, bytes) ∷ q.read) (n, b) → At f w.blobs n b
were_more f w q name bytes at were n b (inl same) = subst (λ (p : BlobName × Bytes). At f w.blobs p.0 p.1) same at
were_more f w q name bytes at were n b (inr has) = were n b has

finish : (f : Formats) (size : ℕ) (j : ℕ) (snap : ShardSnapshot) (todo need : List (BlobName × Bytes)) (contents : List Bytes) (w : World) (q : Reader) → Going f w (suc j) q snap todo need contents → CanEnd f size w (suc j)
finish f size j snap [] need contents w q g =
    record {
      front = [];
      last = shown f w (suc j) (RestoredShard (length snap.files) (min (sum_by (λ (b : Bytes). length b) contents) (2 ^ 64 - 1))) HasEnded;
      legal = (
        legal_one f size w (suc j) _ HasEnded (λ e m r. let (n, b, is, has) = g.fetched e m in subst (λ (s : Step). Repeats s (ReadStep (RestoredShard (length snap.files) (min (sum_by (λ (b : Bytes). length b) contents) (2 ^ 64 - 1))))) is r)
            g.apart g.alive g.back (RestoringShard (suc j) (length snap.files) (min (sum_by (λ (b : Bytes). length b) contents) (2 ^ 64 - 1)) (Some (image_of f w)) q g.reading (record {
              snap = snap;
              snap_read = g.snap_read;
              contents = contents;
              stand = AllPairs-map (λ e b s. file_kept f (λ n c. Has need (n, c)) (WasRead q.read) (λ n c m. elim (g.covered n c m) [ inl none ↦ absurd none | inr has ↦ has ]) q.index q.number e b s) snap.files contents g.stand;
              count = refl;
              sum = refl;
            })),
        tt,
      );
      told = ((image_of f w, refl), tt);
      files = length snap.files;
      bytes = min (sum_by (λ (b : Bytes). length b) contents) (2 ^ 64 - 1);
      ends = refl;
    }
finish f size j snap ((name, bytes) ∷ todo) need contents w q g =
    elim (read_or_not f q.read name (g.there name bytes (inl refl)).1.0 (λ n b m. (g.were n b m).1.0)) [
      | inl found ↦
          finish f size j snap todo need contents w q (record {
            apart = g.apart;
            fetched = g.fetched;
            were = g.were;
            alive = g.alive;
            back = g.back;
            reading = g.reading;
            snap_read = g.snap_read;
            there = λ n b m. g.there n b (inr m);
            listed = λ n b m. g.listed n b (inr m);
            covered = λ n b m. elim (g.covered n b m) [
              | inl (inl same) ↦ inr (subst (Has q.read) same (subst (λ (c : Bytes). Has q.read (name, c)) (one_content f w.blobs name found.0 bytes (g.were name found.0 found.1) (g.there name bytes (inl refl))) found.1))
              | inl (inr has) ↦ inl has
              | inr has ↦ inr has
            ];
            stand = g.stand;
          })
      | inr none ↦
          let (e, em, part) = g.listed name bytes (inl refl) in
          fetch f size w j q name bytes (new_blob w (suc j) q name g.fetched none) g.apart g.alive g.back g.reading (g.there name bytes (inl refl))
          (inr (part_piece q.index q.number e name part, record { snap = snap; snap_read = g.snap_read; e = e; listed = em; part = part }))
          (finish f size j snap todo need contents (read_now f w j q name bytes) (read_more q name bytes) (record {
            apart = g.apart;
            fetched = fetched_more f w j q name bytes g.fetched;
            were = were_more f w q name bytes (g.there name bytes (inl refl)) g.were;
            alive = g.alive;
            back = g.back;
            reading = record { there = same_in w.readers (suc j) (read_more q name bytes); out = g.reading.out };
            snap_read = record { bytes = g.snap_read.bytes; there = inr g.snap_read.there; reads = g.snap_read.reads };
            there = λ n b m. g.there n b (inr m);
            listed = λ n b m. g.listed n b (inr m);
            covered = λ n b m. elim (g.covered n b m) [ inl (inl same) ↦ inr (inl same) | inl (inr has) ↦ inl has | inr has ↦ inr (inr has) ];
            stand = g.stand;
          }))
    ]

-- the snapshot of the shard first, then each part
begin : (f : Formats) (size : ℕ) (w : World) (shelf : List Shelved) (j : ℕ) (q : Reader) → Law f w shelf → ReadLaw f w → IsNoTicket w (suc j) → w.deposed ≡ false → ReadsBack f.cluster (record_of w) → IsReading w (suc j) q
    → NoFetchFailed w (suc j) q → CanEnd f size w (suc j)
begin f size w shelf j q l r apart alive back reading fetched =
    elim (read_or_not f q.read name now.there.0.1.0 (λ n b m. (were n b m).1.0)) [
      | inl found ↦
          finish f size j snap need need (map (λ (file : Bytes × Bytes). file.1) s.found.shard.files) w q (record {
            apart = apart;
            fetched = fetched;
            were = were;
            alive = alive;
            back = back;
            reading = reading;
            snap_read = record { bytes = found.0; there = found.1; reads = ap f.shard_snap.read (one_content f w.blobs name found.0 now.bytes (were name found.0 found.1) now.there.0) ∙ now.reads };
            there = λ n b m. (needed_is f (HeldIn f w) q.index q.number snap.files s.found.shard.files files n b m).0.0;
            listed = λ n b m. (needed_is f (HeldIn f w) q.index q.number snap.files s.found.shard.files files n b m).1;
            covered = λ n b m. inl m;
            stand = needed_all f (HeldIn f w) q.index q.number snap.files s.found.shard.files files;
          })
      | inr none ↦
          fetch f size w j q name now.bytes (new_blob w (suc j) q name fetched none) apart alive back reading now.there.0 (inl refl)
          (finish f size j snap need need (map (λ (file : Bytes × Bytes). file.1) s.found.shard.files) (read_now f w j q name now.bytes) (read_more q name now.bytes) (record {
            apart = apart;
            fetched = fetched_more f w j q name now.bytes fetched;
            were = were_more f w q name now.bytes now.there.0 were;
            alive = alive;
            back = back;
            reading = record { there = same_in w.readers (suc j) (read_more q name now.bytes); out = reading.out };
            snap_read = record { bytes = now.bytes; there = inl refl; reads = now.reads };
            there = λ n b m. (needed_is f (HeldIn f w) q.index q.number snap.files s.found.shard.files files n b m).0.0;
            listed = λ n b m. (needed_is f (HeldIn f w) q.index q.number snap.files s.found.shard.files files n b m).1;
            covered = λ n b m. inl m;
            stand = needed_all f (HeldIn f w) q.index q.number snap.files s.found.shard.files files;
          }))
    ]
  where
    s : Serves f w shelf q
    s = serves_now f w shelf l r (suc j) q reading.there reading.out

    now : Reads (HeldIn f w) (ShardSnap q.index q.number q.uuid) f.shard_snap s.found.stands.snap
    now = serves_snap f w shelf q s

    name : BlobName
    name = ShardSnap q.index q.number q.uuid

    snap : ShardSnapshot
    snap = s.found.stands.snap

    were : (n : BlobName) (b : Bytes) → Has q.read (n, b) → At f w.blobs n b
    were n b m = ((r.readers (suc j) q reading.there reading.out).held n b m).0

    files : AllPairs (λ (e : FileEntry) (file : Bytes × Bytes). (e.physical ≡ file.0) × FileStands f (HeldIn f w) q.index q.number e file.1) snap.files s.found.shard.files
    files =
        subst (λ i. AllPairs (λ (e : FileEntry) (file : Bytes × Bytes). (e.physical ≡ file.0) × FileStands f (HeldIn f w) i q.number e file.1) snap.files s.found.shard.files) s.index_is
        (subst (λ n. AllPairs (λ (e : FileEntry) (file : Bytes × Bytes). (e.physical ≡ file.0) × FileStands f (HeldIn f w) s.place.0.id n e file.1) snap.files s.found.shard.files) s.number_is s.found.stands.files)

    need : List (BlobName × Bytes)
    need = needed f (HeldIn f w) q.index q.number snap.files s.found.shard.files files

pub can_end : (f : Formats) (size : ℕ) (w : World) (shelf : List Shelved) (k : ℕ) (q : Reader) → Law f w shelf → ReadLaw f w → ReadTracked w → w.deposed ≡ false → ReadsBack f.cluster (record_of w) → IsReading w k q
    → NoFetchFailed w k q → CanEnd f size w k
can_end f size w shelf zero q l r apart alive back reading fetched = absurd (let b : 1 ≤ 0 = (r.tracked.tickets 0 q reading.there).0 in omega (arith, b))
can_end f size w shelf (suc j) q l r apart alive back reading fetched = begin f size w shelf j q l r (λ t there. apart.apart.tickets (suc j) q t reading.there there) alive back reading fetched
