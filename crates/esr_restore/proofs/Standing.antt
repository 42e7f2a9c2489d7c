-- A file as it was read: whether it is as the snapshot states.
use Rattle.std.proofs.Common.{◌≡◌, ◌⊎◌, inl, inr, ℕ, Bool, true, false, List, [], ◌∷◌, ◌++◌, Option, Some, None, option_map, refl, sym, ap, ◌∙◌, subst}
use Rattle.std.specs.List.{concat}
use Rattle.esr_names.specs.declared.ids.Id.{Id}
use Rattle.esr_names.specs.declared.blob.ShardId.{ShardId}
use Rattle.esr_model.specs.Names.{File, ShardSnap}
use Rattle.esr_model.specs.Values.{Bytes}
use Rattle.esr_model.specs.Parts.{part_names}
use Rattle.esr_model.specs.Image.{FileStands}
use Rattle.esr_core.specs.World.{Reader}
use Rattle.esr_core.specs.Restores.{WasRead}
use Rattle.esr_core.specs.Entry.{Moment}
use Rattle.esr_hash.specs.declared.hasher.Hasher.{Hasher}
use Rattle.esr_hash.specs.declared.print.Print.{Print}
use Rattle.esr_hash.specs.Fed.{HasFed}
use Rattle.esr_hash.specs.Prints.{print_of}
use Rattle.esr_source.specs.Begun.{Begun, begun_file, more, with_ended}
use Rattle.esr_shardidx.specs.declared.entry.FileEntry.{FileEntry as CodeEntry}
use Rattle.esr_formats.specs.Formats.{formats}
use Rattle.esr_formats.specs.Shards.{entry_of}
use Rattle.esr_desk.specs.declared.entry.Why.{Why}
use Rattle.esr_desk.specs.Start.{Start, formats_of}
use Rattle.esr_desk.specs.Own.{reader_of}
use Rattle.esr_desk.specs.Restore.Parts.{AreFronts, AreExact}
use Rattle.esr_desk.specs.Restore.Shown.{HasReadFile, IsMisprinted, IsMiscut, IsRestoreShown}
use Rattle.esr_restore.specs.Snapped.{IsAt, IsListed}
use Rattle.esr_restore.specs.Parts.{ReadParts}
use Rattle.esr_restore.specs.Files.{RestoredFile}
use Rattle.esr_desk.specs.declared.fault.By.TheVariants as shows
use Rattle.esr_desk.specs.Entries.{why_of}
use Rattle.esr_desk.specs.Evidence.{Evidence}
use Rattle.esr_restore.specs.Trouble.{IsOther, IsCutOtherwise, Judged}
use Rattle.esr_restore.specs.PartReads.{there_sized, full_sized, same_concat}
use Rattle.esr_restore.proofs.Reading.{snap_is}

-- ---- parts that have their sizes

-- the file stands as it was read
stands : (s : Start) (q : Reader) (at : ShardId) (e : CodeEntry) (fronts : List Bytes) → AreFronts (WasRead q.read) at.index.number at.number (entry_of e) fronts → AreExact at.index.number at.number (entry_of e) fronts
    → e.print ≡ print_of (concat fronts) → FileStands (formats_of s) (WasRead q.read) at.index.number at.number (entry_of e) (concat fronts)
unfolding formats
stands s q at e fronts read exact print = record {
  parts = fronts;
  there = there_sized (WasRead q.read) e.print.len e.part_size (part_names at.index.number at.number (entry_of e)) fronts read exact;
  full = full_sized e.print.len e.part_size (part_names at.index.number at.number (entry_of e)) fronts exact;
  joined = same_concat fronts;
  len = sym (ap (λ (p : Print). p.len) print);
  digest = sym (ap (λ (p : Print). p.sha256) print);
}

-- ---- the file joins the target

ended : (files : Option (List (Bytes × Bytes))) (name bytes : Bytes) (room : ℕ) → with_ended files (option_map (more bytes) (Some (begun_file name files room))) ≡ option_map (λ fs. fs ++ (name, bytes) ∷ []) files
ended None name bytes room = refl
ended (Some fs) name bytes room = refl

pub restored_file : (s : Start) (q : Reader) (hasher : Hasher) (begun_old begun_new : Option Begun) (at : ShardId) (e : CodeEntry) (found : Print) (exact : Bool) (files mid files_new : Option (List (Bytes × Bytes)))
    → ReadParts s q hasher begun_old begun_new at e exact → ((m : List ℕ) → HasFed hasher m → found ≡ print_of m) → e.print ≡ found → exact ≡ true
    → begun_old ≡ Some (begun_file e.physical files e.print.len) → mid ≡ files → files_new ≡ with_ended mid begun_new → RestoredFile s q at e files files_new
restored_file s q hasher begun_old begun_new at e found exact files mid files_new read hashed same whole was kept added =
    let bytes = concat read.fronts in
    record {
      bytes = bytes;
      stands = (refl, λ tells. stands s q at e read.fronts (read.read tells) (read.whole whole) (same ∙ hashed bytes read.fed));
      added =
          added
          ∙ ap (λ (o : Option (List (Bytes × Bytes))). with_ended o begun_new) kept
          ∙ ap (λ (o : Option Begun). with_ended files o) (read.grew whole ∙ ap (λ (o : Option Begun). option_map (more bytes) o) was)
          ∙ ended files e.physical bytes e.print.len;
    }

-- ---- what is wrong with it

module _ {S F H T : Type 0} (ev : Evidence S F H T) (s : Start) (log : List Moment) (who : ℕ) (hasher : Hasher) (begun_old begun_new : Option Begun) (at : ShardId) (uuid : Id) (e : CodeEntry) (found : Print) (exact : Bool)
    (is_at : IsAt (reader_of s log who) at.index.number at.number uuid.number) (listed : IsListed s (reader_of s log who) e) (read : ReadParts s (reader_of s log who) hasher begun_old begun_new at e exact)
    (hashed : (m : List ℕ) → HasFed hasher m → found ≡ print_of m) where
  fronts_own : s.tells ≡ true → AreFronts (WasRead (reader_of s log who).read) (reader_of s log who).index (reader_of s log who).number (entry_of e) read.fronts
  fronts_own tells =
      subst (λ (i : ℕ). AreFronts (WasRead (reader_of s log who).read) i (reader_of s log who).number (entry_of e) read.fronts) (sym is_at.index_is)
      (subst (λ (n : ℕ). AreFronts (WasRead (reader_of s log who).read) at.index.number n (entry_of e) read.fronts) (sym is_at.number_is) (read.read tells))

  has_read : HasReadFile s (reader_of s log who) (File at.index.number at.number e.name.number) read.fronts
  has_read = record {
    snap = listed.snap;
    snap_read = listed.snap_read;
    e = entry_of e;
    listed = listed.listed;
    name_is = ap (λ (i : ℕ). File i at.number e.name.number) (sym is_at.index_is) ∙ ap (λ (n : ℕ). File (reader_of s log who).index n e.name.number) (sym is_at.number_is);
    read = fronts_own;
  }

  same_print : (a b : Print) → a.len ≡ b.len → a.sha256 ≡ b.sha256 → a ≡ b
  same_print a b len digest =
      let made : ℕ → List ℕ → Print = λ len sha256. record { len = len; sha256 = sha256 } in
      ap (λ (n : ℕ). made n a.sha256) len ∙ ap (λ (d : List ℕ). made b.len d) digest

  misprinted : (e.print ≡ found → ⊥) → IsMisprinted s (reader_of s log who) (File at.index.number at.number e.name.number) e.print.len e.print.sha256 found.len found.sha256
  unfolding formats has_read
  misprinted differ = record {
    fronts = read.fronts;
    file = has_read;
    stated_len_is = refl;
    stated_digest_is = refl;
    found_len_is = ap (λ (p : Print). p.len) (hashed (concat read.fronts) read.fed);
    found_digest_is = ap (λ (p : Print). p.sha256) (hashed (concat read.fronts) read.fed);
    differ = λ len digest. differ (same_print e.print found len digest);
  }

  miscut : e.print ≡ found → exact ≡ false → IsMiscut s (reader_of s log who) (File at.index.number at.number e.name.number) (ShardSnap at.index.number at.number uuid.number)
  unfolding formats has_read
  miscut same short = record {
    fronts = read.fronts;
    file = has_read;
    other_is = snap_is (reader_of s log who) at.index.number at.number uuid.number is_at;
    len_is = ap (λ (p : Print). p.len) (sym (same ∙ hashed (concat read.fronts) read.fed));
    digest_is = ap (λ (p : Print). p.sha256) (sym (same ∙ hashed (concat read.fronts) read.fed));
    cut = λ exactly. read.other short
        (subst (λ (n : ℕ). AreExact at.index.number n (entry_of e) read.fronts) is_at.number_is (subst (λ (i : ℕ). AreExact i (reader_of s log who).number (entry_of e) read.fronts) is_at.index_is exactly));
  }

  found_by : (why : Why) → IsOther at e found why ⊎ IsCutOtherwise at uuid e found exact why → IsRestoreShown ev s log who (why_of why) shows.Nothing
  found_by why (inl other) = subst (λ (w : Why). IsRestoreShown ev s log who (why_of w) shows.Nothing) (sym other.0) (misprinted other.1)
  found_by why (inr cut) = subst (λ (w : Why). IsRestoreShown ev s log who (why_of w) shows.Nothing) (sym cut.0) (miscut cut.1 cut.2)

  pub judged_so : (judged : Option Why) (why : Why) → Judged at uuid e found exact judged → judged ≡ Some why → IsRestoreShown ev s log who (why_of why) shows.Nothing
  judged_so None why h is = absurd cc
  judged_so (Some other) why h is = let same : other ≡ why = cc in subst (λ (w : Why). IsRestoreShown ev s log who (why_of w) shows.Nothing) same (found_by other h)

pub judged_well : (at : ShardId) (uuid : Id) (e : CodeEntry) (found : Print) (exact : Bool) (judged : Option Why) → Judged at uuid e found exact judged → judged ≡ None → (e.print ≡ found) × (exact ≡ true)
judged_well at uuid e found exact None h is = h
judged_well at uuid e found exact (Some why) h is = absurd cc
