-- What a shard's ticket has done when its last two blobs are written.
use Rattle.std.proofs.Common.{◌≡◌, inl, inr, ℕ, suc, ◌+◌, ◌-◌, ◌^◌, ◌<◌, ◌≤◌, min, length, true, false, List, [], ◌∷◌, ◌++◌, map, find, Option, Some, None, IsSome, option_map, refl, sym, ap, ◌∙◌, subst, arith}
use Rattle.std.proofs.lemmas.Bool.{cases_Bool, leb-true, leb-false}
use Rattle.std.specs.List.{AllByRecursion}
use Rattle.esr_names.specs.declared.ids.Id.{Id}
use Rattle.esr_names.specs.declared.blob.ShardId.{ShardId}
use Rattle.esr_model.specs.Names.{BlobName, ShardSnap, ShardIndex}
use Rattle.esr_model.specs.Values.{Bytes, Has, FileEntry, ShardFiles, ReadsBack}
use Rattle.esr_model.specs.Uploads.{entries_from, id_after, shard_blobs, with_snap}
use Rattle.esr_core.specs.World.{Ticket}
use Rattle.esr_core.specs.Steps.{Drew}
use Rattle.esr_core.specs.Entry.{WasFetched, Moment}
use Rattle.esr_core.specs.Allowed.{Based, DoneBy, DoneAs}
use Rattle.esr_source.specs.declared.files.ListedFile.{ListedFile}
use Rattle.esr_shardidx.specs.declared.entry.FileEntry.{FileEntry as CodeEntry}
use Rattle.esr_shardidx.specs.Snapshots.{SnapValue, are_snap_files}
use Rattle.esr_shardidx.specs.Indices.{IndexValue, IsShardIndex, has_uuid, with_snap_of}
use Rattle.esr_model.specs.Lists.{Has-map}
use Rattle.esr_formats.specs.Ids.{id_of, number_of}
use Rattle.esr_formats.specs.Formats.{formats}
use Rattle.esr_formats.specs.Shards.{entry_of, shard_snap_of, shard_snap_kind, shard_index_of, shard_index_kind}
use Rattle.esr_results.specs.Results.{result_of}
use Rattle.esr_reuse.specs.declared.reuse.Planned.{Planned}
use Rattle.esr_reuse.specs.Plans.{file_planned, Reuses}
use Rattle.esr_desk.specs.Start.{Start, formats_of, ticket_of}
use Rattle.esr_desk.specs.Conditions.{CanEnd}
use Rattle.esr_desk.specs.Taken.{after_writes}
use Rattle.esr_upload.specs.Surveyed.{printed, TellsAll}
use Rattle.esr_upload.specs.Stored.{IsAt}
use Rattle.esr_desk.specs.declared.hand.Hand.TheVariants as hands
use Rattle.esr_desk.specs.Evidence.{HadFetch}
use Rattle.esr_desk.specs.Unit.Shown.{HasDrawn as HasDrawnId, WasAhead}
use Rattle.esr_upload.specs.Base.{is_from, HasFetched, IsBaseAhead}
use Rattle.esr_upload.specs.Entries.{new_count, entries_at, all_blobs, StoredAll}
use Rattle.esr_upload.specs.Published.{HasDrawn, snap_blob, index_blob, last_blobs, sum_planned, outcome_of}
use Rattle.esr_upload.specs.Commits.{writes_keep, writes_at, all_wrote, wrote_only, all_noted}
use Rattle.esr_upload.specs.BaseReads.{based_on}
use Rattle.esr_upload.proofs.Writing.{writes_on}
use Rattle.esr_upload.proofs.Modelled.{entries_model, id_model, blobs_model, as_many, sum_model}
use Rattle.esr_upload.specs.SnapAdds.{with_snap_is}
use Rattle.esr_upload.proofs.Snapped.{snap_ahead}
use Rattle.esr_upload.proofs.Faults.{was_ahead}

-- the first entry from an id on
some_from : (first : ℕ) (es : List CodeEntry) (e : CodeEntry) → Has es e → first ≤ e.name.number → IsSome (find (is_from first) es)
some_from first [] e has late = absurd has
some_from first (x ∷ es) e (inl same) late = elim (cases_Bool (is_from first x)) [
  | inl here ↦ rw here refl
  | inr other ↦
      let low : x.name.number < first = leb-false first x.name.number other in
      let name : x.name.number ≡ e.name.number = ap (λ (y : CodeEntry). y.name.number) same in
      absurd (omega (arith, low, name, late))
]
some_from first (x ∷ es) e (inr has) late = elim (cases_Bool (is_from first x)) [
  | inl here ↦ rw here refl
  | inr other ↦ rw other (some_from first es e has late)
]

found_from : (first : ℕ) (es : List CodeEntry) (e : CodeEntry) → find (is_from first) es ≡ Some e → Has es e × (first ≤ e.name.number)
found_from first [] e is = absurd cc
found_from first (x ∷ es) e is = elim (cases_Bool (is_from first x)) [
  | inl here ↦
      let some : ◌≡◌ {A = Option CodeEntry} (Some x) (Some e) = rw here at is in
      let same : x ≡ e = cc in
      (inl same, subst (λ (y : CodeEntry). first ≤ y.name.number) same (leb-true first x.name.number here))
  | inr other ↦ let later = found_from first es e (rw other at is) in (inr later.0, later.1)
]

given : (g h : Id) → ◌≡◌ {A = Option Id} (Some g) (Some h) → g ≡ h
given g h same = cc

abbrev snap_with : List CodeEntry → Id → SnapValue
snap_with es uuid = record { files = es; uuid = uuid }

-- what the unit writes, as the definitions have it
module _ (s : Start) (at : ShardId) (uuid : Id) (base : IndexValue) (ps : List Planned) (size first : ℕ) (es : List CodeEntry) (files : List (Bytes × Bytes))
    (named : map file_planned ps ≡ map printed files) (each : AllByRecursion (Reuses (shard_index_of base).files) ps) (entries : es ≡ entries_at size first ps)
    (whole : IsShardIndex base) (unlisted : find (has_uuid uuid) base.snapshots ≡ None) where
  made : entries_from (formats_of s) size (shard_index_of base) first files ≡ map entry_of es
  made = entries_model s size first (shard_index_of base) ps files named each ∙ ap (λ (l : List CodeEntry). map entry_of l) (sym entries)

  grown : with_snap (shard_index_of base) uuid.number (entries_from (formats_of s) size (shard_index_of base) first files) ≡ shard_index_of (with_snap_of base (snap_with es uuid))
  grown = ap (λ (l : List FileEntry). with_snap (shard_index_of base) uuid.number l) made ∙ sym (with_snap_is base (snap_with es uuid) whole unlisted)

  blobs_are : shard_blobs (formats_of s) size (shard_index_of base) at.index.number at.number uuid.number first files
      ≡ all_blobs at.index.number at.number size first ps files ++ last_blobs at (id_of (first + new_count ps)) (snap_with es uuid) (with_snap_of base (snap_with es uuid))
  unfolding formats
  blobs_are =
      let i = at.index.number in
      let k = at.number in
      let f = formats_of s in
      let v = shard_index_of base in
      let ent : List FileEntry = entries_from f size v first files in
      let all : List (BlobName × Bytes) = all_blobs i k size first ps files in
      ap (λ (ws : List (BlobName × Bytes)). ws ++ (ShardSnap i k uuid.number, shard_snap_kind.text (record { uuid = uuid.number; files = ent })) ∷ (
        ShardIndex i k (id_after f v first files),
        shard_index_kind.text (with_snap v uuid.number ent),
      ) ∷ [])
      (blobs_model s i k size first v ps files named each)
      ∙ ap
      (λ (l : List FileEntry). all ++ (ShardSnap i k uuid.number, shard_snap_kind.text (record { uuid = uuid.number; files = l })) ∷ (ShardIndex i k (id_after f v first files), shard_index_kind.text (with_snap v uuid.number ent)) ∷ []) made
      ∙ ap (λ (n : ℕ). all ++ snap_blob at (snap_with es uuid) ∷ (ShardIndex i k n, shard_index_kind.text (with_snap v uuid.number ent)) ∷ []) (id_model s first v ps files named each)
      ∙ ap (λ (w : ShardFiles). all ++ snap_blob at (snap_with es uuid) ∷ (ShardIndex i k (first + new_count ps), shard_index_kind.text w) ∷ []) grown

pub tells_some : (told : Option (List (Bytes × Bytes))) (x files : List (Bytes × Bytes)) → told ≡ Some x → TellsAll told files → files ≡ x
tells_some None x files is tells = cc
tells_some (Some y) x files is tells = let same : y ≡ x = cc in tells ∙ same

module _ (s : Start) (told : Option (List (Bytes × Bytes))) (listed : Option (List ListedFile)) (at : ShardId) (uuid : Id) (base : IndexValue) (ps : List Planned) (size first : ℕ) (es : List CodeEntry) (old up : Ticket)
    (drawn : HasDrawn s told listed at.index.number at.number uuid base ps first old) (size_is : size ≡ s.part_size) (least : 1 ≤ size) (stored : StoredAll s told at.index.number at.number size first ps es old up) where
  abbrev last : List (BlobName × Bytes)
  last = last_blobs at (id_of (first + new_count ps)) (snap_with es uuid) (with_snap_of base (snap_with es uuid))

  abbrev written : List (BlobName × Bytes)
  written = all_blobs at.index.number at.number size first ps stored.files ++ last

  abbrev new : Ticket
  new = after_writes s last up

  new_is : new ≡ after_writes s written old
  new_is = ap (λ (t : Ticket). after_writes s last t) stored.is ∙ sym (writes_on s (all_blobs at.index.number at.number size first ps stored.files) last old)

  new_at : IsAt new at.index.number at.number
  new_at = writes_at s written old new at.index.number at.number new_is drawn.at

  new_uuid : new.uuid ≡ uuid.number
  new_uuid = writes_keep (λ (t : Ticket). t.uuid) (λ t n w. refl) s written old new new_is ∙ drawn.uuid_is

  new_first : new.first ≡ first
  new_first = writes_keep (λ (t : Ticket). t.first) (λ t n w. refl) s written old new new_is ∙ drawn.from

  new_drawn : new.drawn ≡ new_count ps + 1
  new_drawn = writes_keep (λ (t : Ticket). t.drawn) (λ t n w. refl) s written old new new_is ∙ drawn.drawn

  new_base : new.base ≡ old.base
  new_base = writes_keep (λ (t : Ticket). t.base) (λ t n w. refl) s written old new new_is

  new_read : new.read ≡ old.read
  new_read = writes_keep (λ (t : Ticket). t.read) (λ t n w. refl) s written old new new_is

  new_source : new.source ≡ None
  new_source = writes_keep (λ (t : Ticket). t.source) (λ t n w. refl) s written old new new_is ∙ drawn.source_is

  new_place : new.place ≡ old.place
  new_place = writes_keep (λ (t : Ticket). t.place) (λ t n w. refl) s written old new new_is

  new_name : new.name ≡ old.name
  new_name = writes_keep (λ (t : Ticket). t.name) (λ t n w. refl) s written old new new_is

  new_based : s.tells ≡ true → Based (formats_of s) new at.index.number at.number new.base (shard_index_of base)
  new_based tells =
      subst (λ (b : Option ℕ). Based (formats_of s) new at.index.number at.number b (shard_index_of base)) (sym new_base) (based_on (formats_of s) old new at.index.number at.number old.base (shard_index_of base) new_read (drawn.based tells))

  told_files : s.known new.place new.name at.number ≡ true → s.told new.place new.name at.number ≡ Some stored.files
  told_files known =
      let known_old = subst (λ (n : Bytes). s.known old.place n at.number ≡ true) new_name (subst (λ (p : Bytes). s.known p new.name at.number ≡ true) new_place known) in
      let same = drawn.tells known_old in
      let is : stored.files ≡ same.0 = tells_some told same.0 stored.files same.1 stored.tells in
      ap (λ (n : Bytes). s.told new.place n at.number) new_name ∙ ap (λ (p : Bytes). s.told p old.name at.number) new_place ∙ same.2 ∙ ap (λ (l : List (Bytes × Bytes)). Some l) (sym is)

  made_is : entries_from (formats_of s) size (shard_index_of base) first stored.files ≡ map entry_of es
  made_is = made s at uuid base ps size first es stored.files stored.named drawn.planned.each stored.entries drawn.whole drawn.unlisted

  grown_is : with_snap (shard_index_of base) uuid.number (entries_from (formats_of s) size (shard_index_of base) first stored.files) ≡ shard_index_of (with_snap_of base (snap_with es uuid))
  grown_is = grown s at uuid base ps size first es stored.files stored.named drawn.planned.each stored.entries drawn.whole drawn.unlisted

  written_is : shard_blobs (formats_of s) s.part_size (shard_index_of base) at.index.number at.number new.uuid new.first stored.files ≡ written
  written_is =
      ap (λ (n : ℕ). shard_blobs (formats_of s) n (shard_index_of base) at.index.number at.number new.uuid new.first stored.files) (sym size_is)
      ∙ ap (λ (n : ℕ). shard_blobs (formats_of s) size (shard_index_of base) at.index.number at.number n new.first stored.files) new_uuid
      ∙ ap (λ (n : ℕ). shard_blobs (formats_of s) size (shard_index_of base) at.index.number at.number uuid.number n stored.files) new_first
      ∙ blobs_are s at uuid base ps size first es stored.files stored.named drawn.planned.each stored.entries drawn.whole drawn.unlisted

  all_written : s.tells ≡ true → (name : BlobName) (bytes : Bytes) → Has (shard_blobs (formats_of s) s.part_size (shard_index_of base) at.index.number at.number new.uuid new.first stored.files) (name, bytes) → Has new.wrote (name, bytes)
  all_written tells name bytes has =
      subst (λ (t : Ticket). Has t.wrote (name, bytes)) (sym new_is)
      (all_wrote s written old (name, bytes) tells (subst (λ (ws : List (BlobName × Bytes)). Has ws (name, bytes)) written_is has))

  -- and nothing else
  only_written : (name : BlobName) (bytes : Bytes) → Has new.wrote (name, bytes) → Has (shard_blobs (formats_of s) s.part_size (shard_index_of base) at.index.number at.number new.uuid new.first stored.files) (name, bytes)
  only_written name bytes has =
      let w : BlobName × Bytes = (name, bytes) in
      let among : Has written w = elim (wrote_only s written old w (subst (λ (t : Ticket). Has t.wrote w) new_is has)) [
        | inl here ↦ here
        | inr before ↦ absurd (subst (λ (ws : List (BlobName × Bytes)). Has ws w) drawn.unwritten before)
      ] in
      subst (λ (ws : List (BlobName × Bytes)). Has ws w) (sym written_is) among

  snap_reads : ReadsBack shard_snap_kind (shard_snap_of (snap_with es uuid)) → ReadsBack shard_snap_kind (record { uuid = new.uuid; files = entries_from (formats_of s) s.part_size (shard_index_of base) new.first stored.files })
  snap_reads back =
      subst (λ (u : ℕ). ReadsBack shard_snap_kind (record { uuid = u; files = entries_from (formats_of s) s.part_size (shard_index_of base) new.first stored.files })) (sym new_uuid)
      (subst (λ (n : ℕ). ReadsBack shard_snap_kind (record { uuid = uuid.number; files = entries_from (formats_of s) s.part_size (shard_index_of base) n stored.files })) (sym new_first)
      (subst (λ (n : ℕ). ReadsBack shard_snap_kind (record { uuid = uuid.number; files = entries_from (formats_of s) n (shard_index_of base) first stored.files })) size_is
      (subst (λ (l : List FileEntry). ReadsBack shard_snap_kind (record { uuid = uuid.number; files = l })) (sym made_is) back)))

  index_reads : ReadsBack shard_index_kind (shard_index_of (with_snap_of base (snap_with es uuid)))
      → ReadsBack shard_index_kind (with_snap (shard_index_of base) new.uuid (entries_from (formats_of s) s.part_size (shard_index_of base) new.first stored.files))
  index_reads back =
      subst (λ (u : ℕ). ReadsBack shard_index_kind (with_snap (shard_index_of base) u (entries_from (formats_of s) s.part_size (shard_index_of base) new.first stored.files))) (sym new_uuid)
      (subst (λ (n : ℕ). ReadsBack shard_index_kind (with_snap (shard_index_of base) uuid.number (entries_from (formats_of s) s.part_size (shard_index_of base) n stored.files))) (sym new_first)
      (subst (λ (n : ℕ). ReadsBack shard_index_kind (with_snap (shard_index_of base) uuid.number (entries_from (formats_of s) n (shard_index_of base) first stored.files))) size_is
      (subst (λ (v : ShardFiles). ReadsBack shard_index_kind v) (sym grown_is) back)))

  new_last : new.first + new.drawn ≡ suc (first + new_count ps)
  new_last = let a = new_first in let b = new_drawn in omega (arith, a, b)

  new_drew : Drew new (first + new_count ps)
  new_drew = let a = new_first in let b = new_drawn in record { from = omega (arith, a); below = omega (arith, a, b) }

  done_by : s.tells ≡ true → ReadsBack shard_snap_kind (shard_snap_of (snap_with es uuid)) → ReadsBack shard_index_kind (shard_index_of (with_snap_of base (snap_with es uuid)))
      → DoneBy (formats_of s) s.part_size new (result_of (outcome_of at first ps))
  unfolding formats
  done_by tells snap index = record {
    size = subst (λ (n : ℕ). 0 < n) size_is least;
    base = shard_index_of base;
    based = new_based tells;
    files = stored.files;
    told = told_files;
    generation = sym (ap (λ (n : ℕ). id_after (formats_of s) (shard_index_of base) n stored.files) new_first ∙ id_model s first (shard_index_of base) ps stored.files stored.named drawn.planned.each);
    drew = new_last;
    wrote = all_written tells;
    only = only_written;
    snap_back = snap_reads snap;
    index_back = index_reads index;
    count = as_many ps stored.files stored.named;
    bytes = ap (λ (n : ℕ). min n (2 ^ 64 - 1)) (sum_model ps stored.files stored.named);
  }

  pub can_end : ReadsBack shard_snap_kind (shard_snap_of (snap_with es uuid)) → ReadsBack shard_index_kind (shard_index_of (with_snap_of base (snap_with es uuid))) → CanEnd s new (result_of (outcome_of at first ps))
  can_end snap index = record {
    out = new_at.out;
    is = new_at.work;
    drew = new_drew;
    last = new_last;
    snap_noted = subst (λ (u : ℕ). Has new.noted (ShardSnap at.index.number at.number u)) (sym new_uuid) (all_noted s last up (snap_blob at (snap_with es uuid)) (inl refl));
    index_noted = all_noted s last up (index_blob at (id_of (first + new_count ps)) (with_snap_of base (snap_with es uuid))) (inr (inl refl));
    done = λ tells. subst (λ (o : Option ℕ). DoneAs (formats_of s) s.part_size new (result_of (outcome_of at first ps)) o) (sym new_source) (done_by tells snap index);
  }

  -- the same of what the code reports
  pub ready : (n bytes : ℕ) → n ≡ first + new_count ps → bytes ≡ sum_planned ps → ReadsBack shard_snap_kind (shard_snap_of (snap_with es uuid)) → ReadsBack shard_index_kind (shard_index_of (with_snap_of base (snap_with es uuid)))
      → CanEnd s (after_writes s (last_blobs at (id_of n) (snap_with es uuid) (with_snap_of base (snap_with es uuid))) up) (result_of (record { shard = at; generation = id_of n; files = length ps; bytes = bytes }))
  ready n bytes count sum snap index =
      subst (λ (b : ℕ). CanEnd s (after_writes s (last_blobs at (id_of n) (snap_with es uuid) (with_snap_of base (snap_with es uuid))) up) (result_of (record { shard = at; generation = id_of n; files = length ps; bytes = b }))) (sym sum)
      (subst (λ (g : ℕ). CanEnd s (after_writes s (last_blobs at (id_of g) (snap_with es uuid) (with_snap_of base (snap_with es uuid))) up) (result_of (record { shard = at; generation = id_of g; files = length ps; bytes = sum_planned ps })))
      (sym count)
      (can_end snap index))

  up_first : up.first ≡ first
  up_first = writes_keep (λ (t : Ticket). t.first) (λ t n w. refl) s (all_blobs at.index.number at.number size first ps stored.files) old up stored.is ∙ drawn.from

  up_drawn : up.drawn ≡ new_count ps + 1
  up_drawn = writes_keep (λ (t : Ticket). t.drawn) (λ t n w. refl) s (all_blobs at.index.number at.number size first ps stored.files) old up stored.is ∙ drawn.drawn

  up_base : up.base ≡ old.base
  up_base = writes_keep (λ (t : Ticket). t.base) (λ t n w. refl) s (all_blobs at.index.number at.number size first ps stored.files) old up stored.is

  up_read : up.read ≡ old.read
  up_read = writes_keep (λ (t : Ticket). t.read) (λ t n w. refl) s (all_blobs at.index.number at.number size first ps stored.files) old up stored.is

  up_based : s.tells ≡ true → Based (formats_of s) up at.index.number at.number up.base (shard_index_of base)
  up_based tells =
      subst (λ (b : Option ℕ). Based (formats_of s) up at.index.number at.number b (shard_index_of base)) (sym up_base) (based_on (formats_of s) old up at.index.number at.number old.base (shard_index_of base) up_read (drawn.based tells))

  pub drew_last : (n : ℕ) → n ≡ first + new_count ps → Drew up n
  drew_last n count = let a = up_first in let b = up_drawn in record { from = omega (arith, a, count); below = omega (arith, a, b, count) }

  -- entries that are no snapshot show that the base is ahead
  module _ (log : List Moment) (who : ℕ) (is : up ≡ ticket_of s log who) (most : size ≤ 2 ^ 30) (refused : are_snap_files [] es ≡ false) where
    late : (e : CodeEntry) × Has base.files e × (first ≤ e.name.number)
    late = snap_ahead base size first ps drawn.planned.files drawn.whole least most drawn.planned.named drawn.planned.short drawn.planned.each drawn.planned.rising
        (subst (λ (l : List CodeEntry). are_snap_files [] l ≡ false) stored.entries refused)

    at_up : IsAt (ticket_of s log who) at.index.number at.number
    at_up = subst (λ (t : Ticket). IsAt t at.index.number at.number) is (writes_at s (all_blobs at.index.number at.number size first ps stored.files) old up at.index.number at.number stored.is drawn.at)

    drawn_id : (e : CodeEntry) → Has base.files e → first ≤ e.name.number → HasDrawnId (ticket_of s log who) (shard_index_of base) e.name.number
    drawn_id e has over =
        let a = up_first in
        let b = up_drawn in
        subst (λ (t : Ticket). HasDrawnId t (shard_index_of base) e.name.number) is (entry_of e, Has-map entry_of base.files e has, refl, omega (arith, b), omega (arith, a, over))

    one_ahead : (g : Id) → old.base ≡ Some g.number → HadFetch hands.Unit log who (ShardIndex at.index.number at.number g.number) WasFetched → (e : CodeEntry) → find (is_from first) base.files ≡ Some e
        → WasAhead s log who (ShardIndex at.index.number at.number g.number) e.name.number
    one_ahead g some had e found =
        let has = found_from first base.files e found in
        was_ahead s log who at.index.number at.number g.number e.name.number base at_up (ap (λ (t : Ticket). t.base) (sym is) ∙ up_base ∙ some) had
        (subst (λ (t : Ticket). s.tells ≡ true → Based (formats_of s) t at.index.number at.number t.base (shard_index_of base)) is up_based) drawn.whole (inr (drawn_id e has.0 has.1))

    pub base_ahead : (generation : Option Id) → old.base ≡ option_map number_of generation → HasFetched log who at.index.number at.number generation → IsBaseAhead s log who at generation base first
    base_ahead None none fetched = absurd (subst (λ (v : IndexValue). Has v.files late.0) (drawn.none none) late.1)
    base_ahead (Some g) some fetched = record {
      some = refl;
      there = some_from first base.files late.0 late.1 late.2;
      shown = λ h e same found.
          let one : g ≡ h = given g h same in
          subst (λ (x : Id). WasAhead s log who (ShardIndex at.index.number at.number x.number) e.name.number) one (one_ahead g some fetched e found);
    }
