-- What was read of a file and of a list of it: whether it is as it was stated.
use Rattle.std.proofs.Common.{◌≡◌, ◌⊎◌, inl, inr, ℕ, Bool, true, false, List, Option, Some, None, refl, sym, ap, ◌∙◌, subst}
use Rattle.std.specs.List.{concat}
use Rattle.esr_names.specs.declared.ids.Id.{Id}
use Rattle.esr_names.specs.declared.blob.ShardId.{ShardId}
use Rattle.esr_model.specs.Names.{File, ShardIndex}
use Rattle.esr_model.specs.Values.{Bytes, Has, ShardFiles}
use Rattle.esr_model.specs.Parts.{part_names}
use Rattle.esr_model.specs.Image.{FileStands}
use Rattle.esr_core.specs.World.{Caller}
use Rattle.esr_core.specs.Restores.{WasRead}
use Rattle.esr_core.specs.Entry.{Moment}
use Rattle.esr_hash.specs.declared.hasher.Hasher.{Hasher}
use Rattle.esr_hash.specs.declared.print.Print.{Print}
use Rattle.esr_hash.specs.Fed.{HasFed}
use Rattle.esr_hash.specs.Prints.{print_of}
use Rattle.esr_shardidx.specs.declared.entry.FileEntry.{FileEntry as CodeEntry}
use Rattle.esr_formats.specs.Formats.{formats}
use Rattle.esr_formats.specs.Shards.{entry_of}
use Rattle.esr_desk.specs.declared.entry.Why.{Why}
use Rattle.esr_desk.specs.Start.{Start, formats_of}
use Rattle.esr_desk.specs.Own.{caller_of}
use Rattle.esr_desk.specs.Check.Shown.{HasReadFile, IsMisprinted, Disagree, FileBeside}
use Rattle.esr_desk.specs.Restore.Parts.{AreFronts, AreExact}
use Rattle.esr_restore.specs.PartReads.{there_sized, full_sized, same_concat}
use Rattle.esr_check.specs.Parts.{ReadParts}
use Rattle.esr_check.specs.Pieces.{HasHeld, HasFile}
use Rattle.esr_check.specs.Trouble.{IsFound, IsOther, IsCutOtherwise, Judged}

-- ---- it stands

stands : (s : Start) (c : Caller) (at : ShardId) (e : CodeEntry) (fronts : List Bytes) → AreFronts (WasRead c.read) at.index.number at.number (entry_of e) fronts → AreExact at.index.number at.number (entry_of e) fronts
    → e.print ≡ print_of (concat fronts) → FileStands (formats_of s) (WasRead c.read) at.index.number at.number (entry_of e) (concat fronts)
unfolding formats
stands s c at e fronts read exact print = record {
  parts = fronts;
  there = there_sized (WasRead c.read) e.print.len e.part_size (part_names at.index.number at.number (entry_of e)) fronts read exact;
  full = full_sized e.print.len e.part_size (part_names at.index.number at.number (entry_of e)) fronts exact;
  joined = same_concat fronts;
  len = sym (ap (λ (p : Print). p.len) print);
  digest = sym (ap (λ (p : Print). p.sha256) print);
}

pub judged_well : (at : ShardId) (generation : Id) (e : CodeEntry) (found : Print) (exact : Bool) (judged : Option Why) → Judged at generation e found exact judged → judged ≡ None → (e.print ≡ found) × (exact ≡ true)
judged_well at generation e found exact None h is = h
judged_well at generation e found exact (Some why) h is = absurd cc

pub has_file : (s : Start) (c : Caller) (hasher : Hasher) (at : ShardId) (e : CodeEntry) (found : Print) (exact : Bool) → ReadParts s c hasher at e exact → ((m : List ℕ) → HasFed hasher m → found ≡ print_of m)
    → (e.print ≡ found) × (exact ≡ true)
    → HasFile s c at.index.number at.number (entry_of e)
has_file s c hasher at e found exact read hashed well = record {
  found = read.found;
  stands = λ tells. (concat read.fronts, stands s c at e read.fronts (read.read tells) (read.whole well.1) (well.0 ∙ hashed (concat read.fronts) read.fed));
}

-- ---- it doesn't

module _ (s : Start) (log : List Moment) (hasher : Hasher) (at : ShardId) (generation : Id) (held : ShardFiles) (e : CodeEntry) (found : Print) (exact : Bool) (read_held : HasHeld s (caller_of s log) at.index.number at.number generation.number held)
    (listed : Has held.files (entry_of e)) (read : ReadParts s (caller_of s log) hasher at e exact) (hashed : (m : List ℕ) → HasFed hasher m → found ≡ print_of m) where
  abbrev has_read : HasReadFile s (caller_of s log) (File at.index.number at.number e.name.number) read.fronts
  has_read = record {
    index = at.index.number;
    shard = at.number;
    generation = generation.number;
    held = held;
    held_read = read_held;
    e = entry_of e;
    listed = listed;
    name_is = refl;
    found = read.found;
    read = read.read;
  }

  same_print : (a b : Print) → a.len ≡ b.len → a.sha256 ≡ b.sha256 → a ≡ b
  same_print a b len digest =
      let made : ℕ → List ℕ → Print = λ len sha256. record { len = len; sha256 = sha256 } in
      ap (λ (n : ℕ). made n a.sha256) len ∙ ap (λ (d : List ℕ). made b.len d) digest

  misprinted : (e.print ≡ found → ⊥) → IsMisprinted s (caller_of s log) (File at.index.number at.number e.name.number) e.print.len e.print.sha256 found.len found.sha256
  unfolding formats
  misprinted differ = record {
    fronts = read.fronts;
    file = has_read;
    stated_len_is = refl;
    stated_digest_is = refl;
    found_len_is = ap (λ (p : Print). p.len) (hashed (concat read.fronts) read.fed);
    found_digest_is = ap (λ (p : Print). p.sha256) (hashed (concat read.fronts) read.fed);
    differ = λ len digest. differ (same_print e.print found len digest);
  }

  cut_otherwise : e.print ≡ found → exact ≡ false → Disagree s (caller_of s log) (File at.index.number at.number e.name.number) (ShardIndex at.index.number at.number generation.number)
  unfolding formats
  cut_otherwise same short =
      let print : print_of (concat read.fronts) ≡ e.print = sym (same ∙ hashed (concat read.fronts) read.fed) in
      FileBeside (File at.index.number at.number e.name.number) read.fronts has_read (ap (λ (p : Print). p.len) print) (ap (λ (p : Print). p.sha256) print) (read.other short)

  found_by : (why : Why) → IsOther at e found why ⊎ IsCutOtherwise at generation e found exact why → IsFound s log why
  found_by why (inl other) = subst (λ (w : Why). IsFound s log w) (sym other.0) (misprinted other.1)
  found_by why (inr cut) = subst (λ (w : Why). IsFound s log w) (sym cut.0) (cut_otherwise cut.1 cut.2)

  pub judged_so : (judged : Option Why) (why : Why) → Judged at generation e found exact judged → judged ≡ Some why → IsFound s log why
  judged_so None why h is = absurd cc
  judged_so (Some other) why h is = let same : other ≡ why = cc in subst (λ (w : Why). IsFound s log w) same (found_by other h)
