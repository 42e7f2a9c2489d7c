-- What a ticket restored for a line is on the shelf as it was when the line was asked.
use Rattle.std.proofs.Common.{◌≡◌, ℕ, suc, ◌-◌, ◌^◌, ◌+◌, List, [], ◌∷◌, ◌++◌, map, length, min, refl, sym, ap, ◌∙◌, subst}
use Rattle.std.specs.Prelude.{sum_by}
use Rattle.std.specs.List.{fold}
use Rattle.esr_model.specs.Values.{Bytes, FileEntry, Formats}
use Rattle.esr_model.specs.Shelf.{Shelved}
use Rattle.esr_model.specs.Image.{Image, AllPairs, FileStands}
use Rattle.esr_core.specs.World.{World, Reader, no_record, no_root, Opened, OpenedEmpty, OpenedRecord}
use Rattle.esr_core.specs.Restores.{IsReading, WasRead}
use Rattle.esr_core.specs.Entry.{Moment}
use Rattle.esr_core.specs.Allowed.{RestoredBy}
use Rattle.esr_core.specs.History.{AreTold}
use Rattle.esr_core.specs.Ids.{Law}
use Rattle.esr_core.specs.Tracked.{Tracked}
use Rattle.esr_core.specs.ReadTracked.{ReadTracked}
use Rattle.esr_core.specs.ReadLaw.{ReadLaw, IsOnShelf}
use Rattle.esr_core.specs.Restored.{IsShelvedAs}
use Rattle.esr_core.specs.Laws.Histories.{told_parts}
use Rattle.esr_script.specs.declared.item.ScriptLine.{ScriptLine}
use Rattle.esr_desk.specs.Start.{Start, formats_of, world_of, Legal}
use Rattle.esr_desk.specs.Restore.Targets.{AreRestored}
use Rattle.esr_targets.specs.Lines.{AcceptedLine}
use Rattle.esr_targets.specs.Targets.{HasShelf, shelf_at, IsOnShelfAs}
use Rattle.esr_targets.proofs.Splits.{heads, IsBefore}
use Rattle.esr_targets.proofs.Laws.{ReaderLaws, ShelfLaws}
use Rattle.esr_targets.proofs.Histories.{legal_front, allowed_ask, asked_before, reader_is}

-- ---- files

abbrev contents : List (Bytes × Bytes) → List Bytes
contents files = map (λ (file : Bytes × Bytes). file.1) files

-- each entry is of a file of its name, with such bytes
abbrev AreNamed : (FileEntry → Bytes → Type 0) → List FileEntry → List (Bytes × Bytes) → Type 0
AreNamed P es files = AllPairs (λ (e : FileEntry) (file : Bytes × Bytes). (e.physical ≡ file.0) × P e file.1) es files

contents_are : (P : FileEntry → Bytes → Type 0) (es : List FileEntry) (files : List (Bytes × Bytes)) → AreNamed P es files → AllPairs P es (contents files)
contents_are P [] [] h = tt
contents_are P [] (y ∷ files) h = h
contents_are P (e ∷ es) [] h = h
contents_are P (e ∷ es) (y ∷ files) h = (h.0.1, contents_are P es files h.1)

count_same : (P : FileEntry → Bytes → Type 0) (es : List FileEntry) (files : List (Bytes × Bytes)) → AreNamed P es files → length files ≡ length es
count_same P [] [] h = refl
count_same P [] (y ∷ files) h = absurd h
count_same P (e ∷ es) [] h = absurd h
count_same P (e ∷ es) (y ∷ files) h = ap suc (count_same P es files h.1)

sum_from : (n : ℕ) (files : List (Bytes × Bytes)) → fold (λ (a : ℕ) (file : Bytes × Bytes). a + length file.1) n files ≡ fold (λ (a : ℕ) (b : Bytes). a + length b) n (contents files)
sum_from n [] = refl
sum_from n (y ∷ files) = sum_from (n + length y.1) files

sum_same : (files : List (Bytes × Bytes)) → sum_by (λ (file : Bytes × Bytes). length file.1) files ≡ sum_by (λ (b : Bytes). length b) (contents files)
sum_same files = sum_from 0 files

same_files : (P : FileEntry → Bytes → Type 0) (es : List FileEntry) (held files : List (Bytes × Bytes)) → AreNamed P es held → AllPairs (λ (e : FileEntry) (file : Bytes × Bytes). e.physical ≡ file.0) es files
    → contents held ≡ contents files → held ≡ files
same_files P [] [] [] a b c = refl
same_files P [] [] (y ∷ files) a b c = absurd b
same_files P [] (x ∷ held) files a b c = absurd a
same_files P (e ∷ es) [] files a b c = absurd a
same_files P (e ∷ es) (x ∷ held) [] a b c = absurd b
same_files P (e ∷ es) (x ∷ held) (y ∷ files) a b c =
    let h = heads x.1 y.1 (contents held) (contents files) c in
    let name : x.0 ≡ y.0 = sym a.0.0 ∙ b.0 in
    λ i. (name i, h.0 i) ∷ same_files P es held files a.1 b.1 h.1 i

pub restored_by : (f : Formats) (q : Reader) (held : List (Bytes × Bytes)) (files bytes : ℕ) → AreRestored f q held files bytes → RestoredBy f q files bytes
restored_by f q held files bytes r =
    let P : FileEntry → Bytes → Type 0 = FileStands f (WasRead q.read) q.index q.number in
    record {
      snap = r.snap;
      snap_read = r.snap_read;
      contents = contents held;
      stand = contents_are P r.snap.files held r.stand;
      count = r.count_is ∙ count_same P r.snap.files held r.stand;
      sum = r.bytes_is ∙ ap (λ (n : ℕ). min n (2 ^ 64 - 1)) (sum_same held);
    }

-- ---- the shelf at the ask

-- no restore is open in the opened world
opened_reads : (laws : ShelfLaws) (f : Formats) (image : Image) (w : World) → Opened f image w → ReadLaw f w
opened_reads laws f image w (OpenedEmpty none) = laws.opened_reads f image.blobs no_record no_root
opened_reads laws f image w (OpenedRecord cluster text root there reads is) = laws.opened_reads f image.blobs cluster root

module _ (laws : ReaderLaws) (shelf_laws : ShelfLaws) (s : Start) (t : Tracked s.world) (l : ReadTracked s.world) (log : List Moment)
    (legal : Legal s log) (moment : ℕ) (lines : List ScriptLine) (a : AcceptedLine moment lines log) (shelf : List Shelved) (h : HasShelf s log shelf) where
  told_in : (front back : List Moment) → log ≡ front ++ back → AreTold front × AreTold back
  told_in front back is = told_parts front back (subst AreTold is h.told)

  law_at_ask : Law (formats_of s) (world_of s a.at.before) (shelf_at s shelf a.at.before)
  law_at_ask =
      let rest : List Moment = a.at.answer ∷ a.at.after in
      shelf_laws.lawful (formats_of s) s.part_size h.image shelf s.world a.at.before h.kept h.opened (legal_front laws s t l log legal a.at.before rest a.at.log_is) (told_in a.at.before rest a.at.log_is).0

  pub shelved_as : IsShelvedAs (shelf_at s shelf a.at.before) a.name a.uuid a.indices
  shelved_as =
      let told = (told_in a.at.before (a.at.answer ∷ a.at.after) a.at.log_is).1.0 in
      shelf_laws.asked (formats_of s) s.part_size (world_of s a.at.before) (shelf_at s shelf a.at.before) a.at.answer a.name a.place a.op a.uuid a.indices told.0 law_at_ask (allowed_ask laws s t l log legal moment lines a) told.1 a.step_is a.accepted

  module _ (front back : List Moment) (m : Moment) (is : log ≡ front ++ m ∷ back) (k : ℕ) (q : Reader) (reading : IsReading (world_of s front) k q)
      (op : q.op ≡ a.op) (held : List (Bytes × Bytes)) (files bytes : ℕ) (restored : AreRestored (formats_of s) q held files bytes) where
    on_shelf : IsOnShelf (formats_of s) (shelf_at s shelf a.at.before) q files bytes (restored_by (formats_of s) q held files bytes restored)
    on_shelf =
        let b : IsBefore a.at.before a.at.answer front = asked_before laws s t l log legal moment lines a front back m is k q reading op in
        let f : Formats = formats_of s in
        shelf_laws.gives f s.part_size shelf s.world a.at.before b.between a.at.answer a.name a.place a.op a.uuid a.indices k q files bytes
        (shelf_laws.opening f h.image shelf s.world h.kept h.opened) (opened_reads shelf_laws f h.image s.world h.opened)
        (subst (Legal s) b.is (legal_front laws s t l log legal front (m ∷ back) is)) (subst AreTold b.is (told_in front (m ∷ back) is).0) a.step_is a.accepted (subst (λ (x : List Moment). IsReading (world_of s x) k q) b.is reading) op
        (restored_by f q held files bytes restored)

    pub on_shelf_as : (index : Bytes) (number : ℕ) → q.name ≡ index → q.number ≡ number → IsOnShelfAs (shelf_at s shelf a.at.before) a.name a.uuid index number held
    unfolding restored_by
    on_shelf_as index number name_is number_is =
        let on = on_shelf in
        let uuid : q.uuid ≡ a.uuid = (reader_is laws s t l log legal moment lines a front back m is k q reading op).uuid_is in
        let one : on.shelved ≡ shelved_as.shelved = shelved_as.only on.shelved on.there (on.uuid_is ∙ uuid) in
        record {
          shelved = on.shelved;
          there = on.there;
          name_is = ap (λ (x : Shelved). x.name) one ∙ shelved_as.name_is;
          uuid_is = on.uuid_is ∙ uuid;
          shard = on.shard;
          shard_there = on.shard_there;
          index_is = on.index_is ∙ name_is;
          number_is = on.number_is ∙ number_is;
          files_are = same_files (FileStands (formats_of s) (WasRead q.read) q.index q.number) restored.snap.files held on.shard.files restored.stand on.names on.contents;
        }
