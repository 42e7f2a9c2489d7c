-- What the ticket of a clone's shard has done when its two blobs are written.
use Rattle.std.proofs.Common.{◌≡◌, inl, inr, ℕ, suc, ◌+◌, ◌-◌, ◌^◌, ◌<◌, ◌≤◌, min, sum_by, length, true, List, [], ◌∷◌, map, Option, Some, option_map, refl, sym, ap, ◌∙◌, subst, arith}
use Rattle.std.proofs.lemmas.List.{length-map}
use Rattle.std.proofs.lemmas.List.Sums.{sum_by-cons}
use Rattle.esr_names.specs.declared.ids.Id.{Id}
use Rattle.esr_names.specs.declared.blob.ShardId.{ShardId}
use Rattle.esr_model.specs.Names.{BlobName, ShardSnap, ShardIndex}
use Rattle.esr_model.specs.Values.{Bytes, Has, FileEntry, ShardFiles, ReadsBack}
use Rattle.esr_model.specs.Uploads.{clone_blobs, with_snap}
use Rattle.esr_model.specs.Image.{Reads}
use Rattle.esr_core.specs.World.{Ticket, Shard, Deleting}
use Rattle.esr_core.specs.Ready.{IsShard}
use Rattle.esr_core.specs.Restores.{WasRead}
use Rattle.esr_core.specs.Steps.{Drew, MostDrawn}
use Rattle.esr_core.specs.Allowed.{Based, ClonedBy, DoneAs}
use Rattle.esr_root.specs.Root.{Root}
use Rattle.esr_shardidx.specs.declared.entry.FileEntry.{FileEntry as CodeEntry}
use Rattle.esr_shardidx.specs.Snapshots.{SnapValue}
use Rattle.esr_shardidx.specs.Indices.{IndexValue, with_snap_of}
use Rattle.esr_formats.specs.Ids.{number_of}
use Rattle.esr_formats.specs.Formats.{formats}
use Rattle.esr_formats.specs.Shards.{entry_of, shard_snap_of, shard_snap_kind, shard_index_of, shard_index_kind}
use Rattle.esr_results.specs.declared.result.ShardResult.{ShardResult as CodeResult}
use Rattle.esr_results.specs.Results.{result_of}
use Rattle.esr_ops.specs.declared.unit.Work.{Work as CodeWork}
use Rattle.esr_ops.specs.declared.unit.Work.TheVariants as works
use Rattle.esr_ops.specs.declared.unit.Copied.{Copied}
use Rattle.esr_desk.specs.Start.{Start, formats_of}
use Rattle.esr_desk.specs.Conditions.{CanDraw, CanEnd, CanFail}
use Rattle.esr_desk.specs.Taken.{TookWork, after_writes}
use Rattle.esr_upload.specs.Published.{HasIndex, snap_blob, index_blob, last_blobs}
use Rattle.esr_upload.specs.Stored.{IsAt}
use Rattle.esr_upload.specs.Worked.{Worked}
use Rattle.esr_upload.specs.SnapAdds.{with_snap_is}
use Rattle.esr_upload.specs.BaseReads.{based_on}
use Rattle.esr_upload.specs.Commits.{writes_keep, writes_at, all_wrote, wrote_only, all_noted}
use Rattle.esr_clone.specs.Copied.{IsCopy, IsOn, ReadAs, HasSource, HasRead, len_of, sum_entries}

-- ---- a unit that was taken

pub took_copy : (work : CodeWork) (root : Option Root) (op : ℕ) (copy : Copied) (t : Ticket) (source uuid : Id) (at : ShardId) (name : Bytes) → work ≡ works.CloneShard source uuid at name → TookWork work root op copy t
    → IsCopy at.index.number at.number uuid.number source.number (option_map number_of copy.base) t
took_copy work root op copy t source uuid at name is took =
    let took_it = subst (λ (w : CodeWork). TookWork w root op copy t) is took in
    subst (λ (x : Ticket). IsCopy at.index.number at.number uuid.number source.number (option_map number_of copy.base) x) (sym took_it.2) (record {
      at = record { out = refl; unsettled = refl; work = refl };
      undrawn = refl;
      unnoted = refl;
      unwritten = refl;
      uuid_is = refl;
      source_is = refl;
      base_is = refl;
    })

pub took_few : (work : CodeWork) (root : Option Root) (op : ℕ) (copy : Copied) (t : Ticket) (source uuid : Id) (at : ShardId) (name : Bytes) → work ≡ works.CloneShard source uuid at name → TookWork work root op copy t → at.number < 1024
took_few work root op copy t source uuid at name is took = let took_it = subst (λ (w : CodeWork). TookWork w root op copy t) is took in took_it.3

-- however far it went
pub still_on : (index number uuid source : ℕ) (base : Option ℕ) (old new : Ticket) → IsCopy index number uuid source base old → Worked old new → IsOn index number base new
still_on index number uuid source base old new unit worked = record {
  at = record {
    out = ap (λ (t : Ticket). t.out) worked.is ∙ unit.at.out;
    unsettled = ap (λ (t : Ticket). t.settled) worked.is ∙ unit.at.unsettled;
    work = ap (λ (t : Ticket). t.work) worked.is ∙ unit.at.work;
  };
  base_is = ap (λ (t : Ticket). t.base) worked.is ∙ unit.base_is;
}

-- it may fail
pub can_fail : (index number : ℕ) (base : Option ℕ) (t : Ticket) → IsOn index number base t → CanFail t
can_fail index number base t on = record {
  out = on.at.out;
  unsettled = on.at.unsettled;
  unit = inl (subst IsShard (sym on.at.work) tt);
  unpruned = λ uuids plan deletes. let same : Shard index number ≡ Deleting uuids plan = sym on.at.work ∙ deletes in cc;
}

-- ---- what is read

read_copy : (index number uuid source : ℕ) (base : Option ℕ) (old new : Ticket) (read : List (BlobName × Bytes)) → IsCopy index number uuid source base old → new ≡ record old { read = read } → IsCopy index number uuid source base new
read_copy index number uuid source base old new read unit is = subst (λ (t : Ticket). IsCopy index number uuid source base t) (sym is) (record {
  at = record { out = unit.at.out; unsettled = unit.at.unsettled; work = unit.at.work };
  undrawn = unit.undrawn;
  unnoted = unit.unnoted;
  unwritten = unit.unwritten;
  uuid_is = unit.uuid_is;
  source_is = unit.source_is;
  base_is = unit.base_is;
})

-- after what the source has
pub snap_copy : (s : Start) (index number uuid source : ℕ) (base : Option ℕ) (old new : Ticket) (snap : SnapValue) → IsCopy index number uuid source base old → HasSource s old new index number source (shard_snap_of snap)
    → IsCopy index number uuid source base new
snap_copy s index number uuid source base old new snap unit was = read_copy index number uuid source base old new was.read unit was.is

module _ (s : Start) (index number : ℕ) (uuid : Id) (source : ℕ) (b : Option ℕ) (base : IndexValue) (snap : SnapValue) (old one two : Ticket)
    (unit : IsCopy index number uuid.number source b old) (was : HasSource s old one index number source (shard_snap_of snap)) (has : HasIndex s index number uuid one two base) where
  -- and after the base
  based_copy : IsCopy index number uuid.number source b two
  based_copy = read_copy index number uuid.number source b one two has.has_base.read (read_copy index number uuid.number source b old one was.read unit was.is) has.has_base.is

  one_drawn : 1 ≤ 1
  one_drawn = omega arith

  pub undrawn : two.drawn ≡ 0
  undrawn = based_copy.undrawn

  pub can_draw : CanDraw s two 1
  can_draw = record {
    out = based_copy.at.out;
    shard = subst IsShard (sym based_copy.at.work) tt;
    once = based_copy.undrawn;
    some = omega arith;
    most = λ i k work. subst (λ (o : Option ℕ). MostDrawn (formats_of s) two k 1 o) (sym based_copy.source_is) one_drawn;
    few = omega arith;
  }

  -- what was read of the source is still read
  still_read : ReadAs s two index number source (shard_snap_of snap)
  still_read tells =
      let r = was.read_as tells in record {
        bytes = r.bytes;
        there = subst (λ (t : Ticket). Has t.read (ShardSnap index number source, r.bytes)) (sym has.has_base.is) (has.has_base.kept (ShardSnap index number source, r.bytes) r.there);
        reads = r.reads;
      }

  pub has_read : (first : ℕ) (new : Ticket) → new ≡ record two { first = first; drawn = 1 } → HasRead s index number uuid base snap first new
  has_read first new is = subst (λ (t : Ticket). HasRead s index number uuid base snap first t) (sym is) (record {
    at = record { out = based_copy.at.out; unsettled = based_copy.at.unsettled; work = based_copy.at.work };
    uuid_is = based_copy.uuid_is;
    source = source;
    source_is = based_copy.source_is;
    from = refl;
    drawn = refl;
    unnoted = based_copy.unnoted;
    unwritten = based_copy.unwritten;
    read_as = still_read;
    based = λ tells. based_on (formats_of s) two (record two { first = first; drawn = 1 }) index number two.base (shard_index_of base) refl (has.has_base.based tells);
    whole = has.whole;
    unlisted = has.unlisted;
  })

-- ---- what is written

sum_model : (es : List CodeEntry) → sum_by len_of es ≡ sum_by (λ (e : FileEntry). e.len) (map entry_of es)
sum_model [] = refl
sum_model (e ∷ es) =
    sum_by-cons len_of e es ∙ ap (λ (n : ℕ). e.print.len + n) (sum_model es) ∙ sym (sum_by-cons (λ (x : FileEntry). x.len) (entry_of e) (map entry_of es))

module _ (s : Start) (at : ShardId) (uuid : Id) (base : IndexValue) (snap : SnapValue) (first : Id) (old : Ticket) (has : HasRead s at.index.number at.number uuid base snap first.number old) where
  -- the same files under the clone's uuid
  abbrev own : SnapValue
  own = record { files = snap.files; uuid = uuid }

  abbrev files : List FileEntry
  files = map entry_of snap.files

  abbrev last : List (BlobName × Bytes)
  last = last_blobs at first own (with_snap_of base own)

  abbrev new : Ticket
  new = after_writes s last old

  new_at : IsAt new at.index.number at.number
  new_at = writes_at s last old new at.index.number at.number refl has.at

  new_uuid : new.uuid ≡ uuid.number
  new_uuid = writes_keep (λ (t : Ticket). t.uuid) (λ t n w. refl) s last old new refl ∙ has.uuid_is

  new_source : new.source ≡ Some has.source
  new_source = writes_keep (λ (t : Ticket). t.source) (λ t n w. refl) s last old new refl ∙ has.source_is

  new_first : new.first ≡ first.number
  new_first = writes_keep (λ (t : Ticket). t.first) (λ t n w. refl) s last old new refl ∙ has.from

  new_drawn : new.drawn ≡ 1
  new_drawn = writes_keep (λ (t : Ticket). t.drawn) (λ t n w. refl) s last old new refl ∙ has.drawn

  new_base : new.base ≡ old.base
  new_base = writes_keep (λ (t : Ticket). t.base) (λ t n w. refl) s last old new refl

  new_read : new.read ≡ old.read
  new_read = writes_keep (λ (t : Ticket). t.read) (λ t n w. refl) s last old new refl

  new_based : s.tells ≡ true → Based (formats_of s) new at.index.number at.number new.base (shard_index_of base)
  new_based tells =
      subst (λ (b : Option ℕ). Based (formats_of s) new at.index.number at.number b (shard_index_of base)) (sym new_base) (based_on (formats_of s) old new at.index.number at.number old.base (shard_index_of base) new_read (has.based tells))

  was_read : s.tells ≡ true → Reads (WasRead new.read) (ShardSnap at.index.number at.number has.source) (formats_of s).shard_snap (shard_snap_of snap)
  was_read tells =
      let r = has.read_as tells in record {
        bytes = r.bytes;
        there = subst (λ (l : List (BlobName × Bytes)). Has l (ShardSnap at.index.number at.number has.source, r.bytes)) (sym new_read) r.there;
        reads = r.reads;
      }

  grown : with_snap (shard_index_of base) uuid.number files ≡ shard_index_of (with_snap_of base own)
  grown = sym (with_snap_is base own has.whole has.unlisted)

  blobs_are : clone_blobs (formats_of s) (shard_index_of base) at.index.number at.number uuid.number first.number files ≡ last
  unfolding formats
  blobs_are =
      ap (λ (v : ShardFiles). (ShardSnap at.index.number at.number uuid.number, shard_snap_kind.text (shard_snap_of own)) ∷ (ShardIndex at.index.number at.number first.number, shard_index_kind.text v) ∷ []) grown

  written_is : clone_blobs (formats_of s) (shard_index_of base) at.index.number at.number new.uuid new.first files ≡ last
  written_is =
      ap (λ (n : ℕ). clone_blobs (formats_of s) (shard_index_of base) at.index.number at.number n new.first files) new_uuid
      ∙ ap (λ (n : ℕ). clone_blobs (formats_of s) (shard_index_of base) at.index.number at.number uuid.number n files) new_first ∙ blobs_are

  all_written : s.tells ≡ true → (name : BlobName) (bytes : Bytes) → Has (clone_blobs (formats_of s) (shard_index_of base) at.index.number at.number new.uuid new.first files) (name, bytes) → Has new.wrote (name, bytes)
  all_written tells name bytes h = all_wrote s last old (name, bytes) tells (subst (λ (ws : List (BlobName × Bytes)). Has ws (name, bytes)) written_is h)

  -- and nothing else
  only_written : (name : BlobName) (bytes : Bytes) → Has new.wrote (name, bytes) → Has (clone_blobs (formats_of s) (shard_index_of base) at.index.number at.number new.uuid new.first files) (name, bytes)
  only_written name bytes h =
      let w : BlobName × Bytes = (name, bytes) in
      let among : Has last w = elim (wrote_only s last old w h) [
        | inl here ↦ here
        | inr before ↦ absurd (subst (λ (ws : List (BlobName × Bytes)). Has ws w) has.unwritten before)
      ] in
      subst (λ (ws : List (BlobName × Bytes)). Has ws w) (sym written_is) among

  snap_reads : ReadsBack shard_snap_kind (shard_snap_of own) → ReadsBack shard_snap_kind (record { uuid = new.uuid; files = files })
  snap_reads back = subst (λ (u : ℕ). ReadsBack shard_snap_kind (record { uuid = u; files = files })) (sym new_uuid) back

  index_reads : ReadsBack shard_index_kind (shard_index_of (with_snap_of base own)) → ReadsBack shard_index_kind (with_snap (shard_index_of base) new.uuid files)
  index_reads back =
      subst (λ (u : ℕ). ReadsBack shard_index_kind (with_snap (shard_index_of base) u files)) (sym new_uuid) (subst (λ (v : ShardFiles). ReadsBack shard_index_kind v) (sym grown) back)

  abbrev outcome : CodeResult
  outcome = record { shard = at; generation = first; files = length snap.files; bytes = sum_entries snap.files }

  new_last : new.first + new.drawn ≡ suc first.number
  new_last = let a = new_first in let b = new_drawn in omega (arith, a, b)

  new_drew : Drew new first.number
  new_drew = let a = new_first in let b = new_drawn in record { from = omega (arith, a); below = omega (arith, a, b) }

  cloned : s.tells ≡ true → ReadsBack shard_snap_kind (shard_snap_of own) → ReadsBack shard_index_kind (shard_index_of (with_snap_of base own)) → ClonedBy (formats_of s) new has.source (result_of outcome)
  unfolding formats
  cloned tells snap_back index_back = record {
    base = shard_index_of base;
    based = new_based tells;
    was = shard_snap_of snap;
    was_read = was_read tells;
    generation = sym new_first;
    drew = new_last;
    wrote = all_written tells;
    only = only_written;
    snap_back = snap_reads snap_back;
    index_back = index_reads index_back;
    count = sym (length-map snap.files entry_of);
    bytes = ap (λ (n : ℕ). min n (2 ^ 64 - 1)) (sum_model snap.files);
  }

  can_end : ReadsBack shard_snap_kind (shard_snap_of own) → ReadsBack shard_index_kind (shard_index_of (with_snap_of base own)) → CanEnd s new (result_of outcome)
  can_end snap_back index_back = record {
    out = new_at.out;
    is = new_at.work;
    drew = new_drew;
    last = new_last;
    snap_noted = subst (λ (u : ℕ). Has new.noted (ShardSnap at.index.number at.number u)) (sym new_uuid) (all_noted s last old (snap_blob at own) (inl refl));
    index_noted = all_noted s last old (index_blob at first (with_snap_of base own)) (inr (inl refl));
    done = λ tells. subst (λ (o : Option ℕ). DoneAs (formats_of s) s.part_size new (result_of outcome) o) (sym new_source) (cloned tells snap_back index_back);
  }

  -- the end with such a snapshot, index, count and sum
  abbrev Ends : SnapValue → IndexValue → ℕ → ℕ → Type 0
  Ends v w n sum = CanEnd s (after_writes s (last_blobs at first v w) old) (result_of (record { shard = at; generation = first; files = n; bytes = sum }))

  -- the same of what the code makes
  pub ready : (v : SnapValue) (w : IndexValue) (n sum : ℕ) → v ≡ own → w ≡ with_snap_of base v → n ≡ length snap.files → sum ≡ sum_entries snap.files
      → ReadsBack shard_snap_kind (shard_snap_of v) → ReadsBack shard_index_kind (shard_index_of w)
      → CanEnd s (after_writes s (last_blobs at first v w) old) (result_of (record { shard = at; generation = first; files = n; bytes = sum }))
  ready v w n sum is_own is_next count all snap_back index_back =
      let next : w ≡ with_snap_of base own = is_next ∙ ap (λ (x : SnapValue). with_snap_of base x) is_own in
      let end : Ends own (with_snap_of base own) (length snap.files) (sum_entries snap.files) =
      can_end (subst (λ (x : SnapValue). ReadsBack shard_snap_kind (shard_snap_of x)) is_own snap_back) (subst (λ (x : IndexValue). ReadsBack shard_index_kind (shard_index_of x)) next index_back) in
      subst (λ (x : SnapValue). Ends x w n sum) (sym is_own) (subst (λ (x : IndexValue). Ends own x n sum) (sym next)
      (subst (λ (k : ℕ). Ends own (with_snap_of base own) k sum) (sym count) (subst (λ (k : ℕ). Ends own (with_snap_of base own) (length snap.files) k) (sym all) end)))

  -- before it
  pub drew_first : Drew old first.number
  drew_first = let a = has.from in let b = has.drawn in record { from = omega (arith, a); below = omega (arith, a, b) }
