-- How the unit of a restore's shard ends well.
use Rattle.std.proofs.Common.{◌≡◌, ℕ, ◌+◌, ◌-◌, ◌^◌, ◌<◌, min, sum_by, Bool, true, false, List, [], ◌∷◌, length, map, Option, Some, None, IfSome, IsSome, option_map, refl, sym, ap, ◌∙◌, subst}
use Rattle.std.proofs.lemmas.List.{length-map}
use Rattle.std.proofs.lemmas.List.Sums.{sum_by-cons}
use Rattle.esr_names.specs.declared.ids.Id.{Id}
use Rattle.esr_names.specs.declared.blob.ShardId.{ShardId}
use Rattle.esr_model.specs.Values.{Bytes, FileEntry}
use Rattle.esr_model.specs.Image.{AllPairs, FileStands}
use Rattle.esr_core.specs.World.{Reader}
use Rattle.esr_core.specs.Restores.{WasRead}
use Rattle.esr_core.specs.Entry.{ReadStep, RestoredShard, HasEnded, Moment}
use Rattle.esr_source.specs.Address.{address}
use Rattle.esr_source.specs.Begun.{new_files}
use Rattle.esr_source.specs.declared.address.Address.{Address}
use Rattle.esr_shardidx.specs.declared.entry.FileEntry.{FileEntry as CodeEntry}
use Rattle.esr_shardidx.specs.Snapshots.{SnapValue}
use Rattle.esr_model.specs.Lists.{pairs_length}
use Rattle.esr_formats.specs.Shards.{entry_of, shard_snap_of}
use Rattle.esr_ops.specs.declared.unit.Work.{Work}
use Rattle.esr_ops.specs.declared.unit.Work.TheVariants as works
use Rattle.esr_desk.specs.Start.{Start, formats_of}
use Rattle.esr_desk.specs.Own.{reader_of}
use Rattle.esr_desk.specs.Readers.{fresh_reader, TookWork}
use Rattle.esr_desk.specs.Outcome.{Stepped}
use Rattle.esr_desk.specs.Evidence.{Evidence}
use Rattle.esr_desk.specs.Restore.Shown.{IsFor}
use Rattle.esr_desk.specs.Restore.Targets.{AreRestored, IsFilled}
use Rattle.esr_restore.specs.Worked.{Worked}
use Rattle.esr_restore.specs.Snapped.{IsAt, HasSnap}
use Rattle.esr_restore.specs.Files.{len_of, sum_files, IsFile, RestoredAll, HasFiles}
use Rattle.esr_restore.specs.Restored.{HasRestored}
use Rattle.esr_restore.specs.Pairs.{pairs_map}
use Rattle.esr_restore.proofs.Pairs.{pairs_of_map, pairs_to_map}

-- ---- what the files are

module _ (s : Start) (q : Reader) (at : ShardId) (uuid : ℕ) (is_at : IsAt q at.index.number at.number uuid) (tells : s.tells ≡ true) where
  pub stands_own : (e : FileEntry) (bytes : Bytes) → FileStands (formats_of s) (WasRead q.read) at.index.number at.number e bytes → FileStands (formats_of s) (WasRead q.read) q.index q.number e bytes
  stands_own e bytes h =
      subst (λ (i : ℕ). FileStands (formats_of s) (WasRead q.read) i q.number e bytes) (sym is_at.index_is) (subst (λ (n : ℕ). FileStands (formats_of s) (WasRead q.read) at.index.number n e bytes) (sym is_at.number_is) h)

  -- with their names
  named : (es : List CodeEntry) (held : List (Bytes × Bytes)) → AllPairs (IsFile s q at) es held
      → AllPairs (λ (e : FileEntry) (file : Bytes × Bytes). (e.physical ≡ file.0) × FileStands (formats_of s) (WasRead q.read) q.index q.number e file.1) (map entry_of es) held
  named es held each =
      pairs_of_map entry_of (λ (e : FileEntry) (file : Bytes × Bytes). (e.physical ≡ file.0) × FileStands (formats_of s) (WasRead q.read) q.index q.number e file.1) es held
      (pairs_map (IsFile s q at) (λ (e : CodeEntry) (file : Bytes × Bytes). (e.physical ≡ file.0) × FileStands (formats_of s) (WasRead q.read) q.index q.number (entry_of e) file.1)
      (λ e file h. (h.0, stands_own (entry_of e) file.1 (h.1 tells))) es held each)

  -- their contents alone
  contents : (es : List CodeEntry) (held : List (Bytes × Bytes)) → AllPairs (IsFile s q at) es held → AllPairs (FileStands (formats_of s) (WasRead q.read) q.index q.number) (map entry_of es) (map (λ (file : Bytes × Bytes). file.1) held)
  contents es held each =
      pairs_to_map (λ (file : Bytes × Bytes). file.1) (FileStands (formats_of s) (WasRead q.read) q.index q.number) (map entry_of es) held
      (pairs_map (λ (e : FileEntry) (file : Bytes × Bytes). (e.physical ≡ file.0) × FileStands (formats_of s) (WasRead q.read) q.index q.number e file.1)
      (λ (e : FileEntry) (file : Bytes × Bytes). FileStands (formats_of s) (WasRead q.read) q.index q.number e file.1)
      (λ e file h. h.1) (map entry_of es) held (named es held each))

  same_sum : (es : List CodeEntry) (held : List (Bytes × Bytes)) → AllPairs (IsFile s q at) es held → sum_by len_of es ≡ sum_by (λ (file : Bytes × Bytes). length file.1) held
  same_sum [] [] each = refl
  same_sum (e ∷ es) (h ∷ held) each =
      let len : length h.1 ≡ e.print.len = (each.0.1 tells).len in
      sum_by-cons len_of e es
      ∙ ap (λ (n : ℕ). n + sum_by len_of es) (sym len)
      ∙ ap (λ (n : ℕ). length h.1 + n) (same_sum es held each.1)
      ∙ sym (sum_by-cons (λ (file : Bytes × Bytes). length file.1) h held)
  same_sum es held each = absurd each

sum_contents : (held : List (Bytes × Bytes)) → sum_by (λ (file : Bytes × Bytes). length file.1) held ≡ sum_by (λ (b : Bytes). length b) (map (λ (file : Bytes × Bytes). file.1) held)
sum_contents [] = refl
sum_contents (h ∷ held) =
    sum_by-cons (λ (file : Bytes × Bytes). length file.1) h held
    ∙ ap (λ (n : ℕ). length h.1 + n) (sum_contents held)
    ∙ sym (sum_by-cons (λ (b : Bytes). length b) h.1 (map (λ (file : Bytes × Bytes). file.1) held))

-- the files that the snapshot has of the shard were read
pub has_files : (s : Start) (q : Reader) (at : ShardId) (uuid : ℕ) (snap : SnapValue) (files_old files_new : Option (List (Bytes × Bytes))) → IsAt q at.index.number at.number uuid → HasSnap s q snap
    → RestoredAll s q at snap.files files_old files_new → HasFiles s q snap
has_files s q at uuid snap files_old files_new is_at read all = λ tells. record {
  snap = shard_snap_of snap;
  snap_read = read tells;
  contents = map (λ (file : Bytes × Bytes). file.1) all.held;
  stand = contents s q at uuid is_at tells snap.files all.held all.each;
  count = sym (length-map snap.files entry_of);
  sum = ap (λ (n : ℕ). min n (2 ^ 64 - 1)) (same_sum s q at uuid is_at tells snap.files all.held all.each ∙ sum_contents all.held);
}

held_is : (all held : List (Bytes × Bytes)) (told : Option (List (Bytes × Bytes))) → option_map (λ _. all) told ≡ Some held → all ≡ held
held_is all held None is = cc
held_is all held (Some fs) is = cc

are_restored : (s : Start) (q : Reader) (at : ShardId) (uuid : ℕ) (snap : SnapValue) (files_old files_new : Option (List (Bytes × Bytes))) → IsAt q at.index.number at.number uuid → HasSnap s q snap
    → RestoredAll s q at snap.files files_old files_new
    → (held : List (Bytes × Bytes)) → files_new ≡ Some held → s.tells ≡ true → AreRestored (formats_of s) q held (length snap.files) (sum_files snap.files)
are_restored s q at uuid snap files_old files_new is_at read all held is tells =
    let same = held_is all.held held files_old (sym all.are ∙ is) in
    subst (λ (fs : List (Bytes × Bytes)). AreRestored (formats_of s) q fs (length snap.files) (sum_files snap.files)) same (record {
      snap = shard_snap_of snap;
      snap_read = read tells;
      stand = named s q at uuid is_at tells snap.files all.held all.each;
      count_is = pairs_length (IsFile s q at) snap.files all.held all.each;
      bytes_is = ap (λ (n : ℕ). min n (2 ^ 64 - 1)) (same_sum s q at uuid is_at tells snap.files all.held all.each);
    })

-- the ticket has ended
pub has_restored : (s : Start) (old mid new : List Moment) (who count bytes : ℕ) → Worked (reader_of s old who) (reader_of s mid who) → Stepped s mid new who (ReadStep (RestoredShard count bytes)) HasEnded
    → reader_of s new who ≡ record (reader_of s mid who) { out = false } → HasRestored s old new who
has_restored s old mid new who count bytes worked step ended = record {
  count = count;
  bytes = bytes;
  last = record { front = step.front; image = step.image; is = step.is };
  q = reader_of s mid who;
  worked = worked;
  ended = ended;
}

-- ---- the ticket as it was taken

pub took_fresh : (w : Work) (op : ℕ) (q : Reader) (uuid : Id) (at : ShardId) (index place : Bytes) → w ≡ works.RestoreShard uuid at index place → TookWork w op q
    → (q ≡ fresh_reader op uuid.number at.index.number at.number index place) × (at.number < 1024)
took_fresh w op q uuid at index place is took = subst (λ (x : Work). TookWork x op q) is took

fresh_at : (op uuid index number : ℕ) (name place : Bytes) → IsAt (fresh_reader op uuid index number name place) index number uuid
fresh_at op uuid index number name place = record { out = refl; index_is = refl; number_is = refl; uuid_is = refl }

pub took_at : (w : Work) (op : ℕ) (q : Reader) (uuid : Id) (at : ShardId) (index place : Bytes) → w ≡ works.RestoreShard uuid at index place → TookWork w op q → IsAt q at.index.number at.number uuid.number
took_at w op q uuid at index place is took =
    subst (λ (r : Reader). IsAt r at.index.number at.number uuid.number) (sym (took_fresh w op q uuid at index place is took).0) (fresh_at op uuid.number at.index.number at.number index place)

-- the target is that of its shard
fresh_of : (op uuid index number : ℕ) (name place : Bytes) → IsFor (fresh_reader op uuid index number name place) (address place name number)
fresh_of op uuid index number name place = record { place = refl; index = refl; number = refl }

pub took_of : (w : Work) (op : ℕ) (old new : Reader) (uuid : Id) (at : ShardId) (index place : Bytes) (made_for : Address) → w ≡ works.RestoreShard uuid at index place → TookWork w op old → made_for ≡ address place index at.number
    → Worked old new → IsFor new made_for
took_of w op old new uuid at index place made_for is took made worked =
    let fresh = (took_fresh w op old uuid at index place is took).0 in
    let of = subst (λ (r : Reader). IsFor r (address place index at.number)) (sym fresh) (fresh_of op uuid.number at.index.number at.number index place) in
    subst (λ (a : Address). IsFor new a) (sym made) (record {
      place = of.place ∙ sym (ap (λ (r : Reader). r.place) worked.same);
      index = of.index ∙ sym (ap (λ (r : Reader). r.name) worked.same);
      number = of.number ∙ sym (ap (λ (r : Reader). r.number) worked.same);
    })

-- ---- a new target

pub none_yet : (told : Bool) (files : Option (List (Bytes × Bytes))) → files ≡ new_files told → IfSome files (λ fs. fs ≡ [])
none_yet true files is = subst (λ (o : Option (List (Bytes × Bytes))). IfSome o (λ fs. fs ≡ [])) (sym is) refl
none_yet false files is = subst (λ (o : Option (List (Bytes × Bytes))). IfSome o (λ fs. fs ≡ [])) (sym is) tt

pub are_told : (told : Bool) (held : List (Bytes × Bytes)) (files_old files_new : Option (List (Bytes × Bytes))) → files_old ≡ new_files told → files_new ≡ option_map (λ _. held) files_old → told ≡ true → IsSome files_new
are_told true held files_old files_new new are yes_is = subst (λ (o : Option (List (Bytes × Bytes))). IsSome o) (sym (are ∙ ap (λ (o : Option (List (Bytes × Bytes))). option_map (λ _. held) o) new)) refl
are_told false held files_old files_new new are yes_is = absurd cc

-- ---- the target that is handed over

-- it is the shard's own, listed under the op, the name of the index and the number, and has the files
pub filled : {S F H T : Type 0} (e : Evidence S F H T) (s : Start) (old q : Reader) (op : ℕ) (uuid : Id) (at : ShardId) (index place : Bytes) (snap : SnapValue) (target : T) (files_old : Option (List (Bytes × Bytes))) (told : Bool)
    → old ≡ fresh_reader op uuid.number at.index.number at.number index place → Worked old q → IsAt q at.index.number at.number uuid.number → HasSnap s q snap → RestoredAll s q at snap.files files_old (e.target target).files
    → IsFor q (e.target target).made_for → files_old ≡ new_files told → s.targets_tell ≡ told → (s.sure_targets ≡ true → (e.target target).is_sure ≡ true) → (e.target target).begun ≡ None → e.target_faults target ≡ 0
    → IsFilled e s q (length snap.files) (sum_files snap.files) (record { op = op; index = index; shard = at.number; target = target })
filled e s old q op uuid at index place snap target files_old told fresh worked is_at read all of new tells sure begun count =
    let same : record q { read = [] } ≡ fresh_reader op uuid.number at.index.number at.number index place = ap (λ (r : Reader). record r { read = [] }) worked.same ∙ ap (λ (r : Reader). record r { read = [] }) fresh in
    record {
      op_is = sym (ap (λ (r : Reader). r.op) same);
      index_is = sym (ap (λ (r : Reader). r.name) same);
      shard_is = sym (ap (λ (r : Reader). r.number) same);
      for_it = of;
      restored = are_restored s q at uuid.number snap files_old (e.target target).files is_at read all;
      told = λ yes_is. are_told told all.held files_old (e.target target).files new all.are (sym tells ∙ yes_is);
      sure = sure;
      none_begun = begun;
      none_failed = count;
    }
