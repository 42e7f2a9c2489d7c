-- Files that are stored, one more at a time.
use Rattle.std.proofs.Common.{◌≡◌, ℕ, zero, suc, ◌+◌, ◌<◌, ◌≤◌, ◌^◌, List, [], ◌∷◌, ◌++◌, length, take, map, slice_get, slice_index_or, Option, Some, None, refl, sym, ◌∙◌, ap, subst, arith}
use Rattle.std.specs.List.{AllByRecursion}
use Rattle.std.proofs.lemmas.List.{map-append, take_all}
use Rattle.esr_hash.specs.declared.print.Print.{Print}
use Rattle.esr_hash.specs.Prints.{print_of}
use Rattle.esr_model.specs.Names.{BlobName}
use Rattle.esr_model.specs.Values.{Bytes}
use Rattle.esr_core.specs.World.{Ticket}
use Rattle.esr_source.specs.declared.files.ListedFile.{ListedFile}
use Rattle.esr_source.specs.Files.{bytes_at}
use Rattle.esr_shardidx.specs.declared.entry.FileEntry.{FileEntry as CodeEntry}
use Rattle.esr_parts.specs.Reads.{Tells}
use Rattle.esr_reuse.specs.declared.reuse.Planned.{Planned}
use Rattle.esr_reuse.specs.Plans.{file_planned}
use Rattle.esr_desk.specs.Start.{Start}
use Rattle.esr_desk.specs.Taken.{after_writes}
use Rattle.esr_upload.specs.Surveyed.{printed, TellsAll, IsShort}
use Rattle.esr_upload.specs.Stored.{HasPrint, Stored}
use Rattle.esr_upload.specs.Entries.{new_count, entry_at, entries_at, blobs_at, all_blobs, ReadOnce, Reads, StoredOne, StoredAll}
use Rattle.esr_upload.proofs.Planning.{take_next, entries_more, blobs_more}
use Rattle.esr_upload.proofs.Modelled.{as_many}
use Rattle.esr_upload.proofs.Writing.{writes_on}

-- ---- one file

pub has_print : (told : Option Bytes) (print : Print) (e : CodeEntry) → e.print ≡ print → ReadOnce told print → HasPrint told e
has_print None print e same read = tt
has_print (Some bytes) print e same read = ap print_of read.tells ∙ read.print_is ∙ sym same

-- a file that reuses nothing
pub stored_new : (s : Start) (told : Option Bytes) (index number : ℕ) (p : Planned) (e : CodeEntry) (old new : Ticket) → p.reused ≡ None → e.print ≡ p.print → Stored s told index number e old new
    → StoredOne s told index number p e old new
stored_new s told index number p e old new none same stored = record {
  bytes = stored.bytes;
  tells = stored.tells;
  print_is = stored.print ∙ same;
  is = stored.is ∙ ap (λ (o : Option CodeEntry). after_writes s (blobs_at index number e stored.bytes o) old) (sym none);
}

-- a file that is reused
pub stored_reused : (s : Start) (told : Option Bytes) (index number : ℕ) (p : Planned) (reused e : CodeEntry) (t : Ticket) → p.reused ≡ Some reused → ReadOnce told p.print → StoredOne s told index number p e t t
stored_reused s told index number p reused e t some read = record {
  bytes = read.bytes;
  tells = read.tells;
  print_is = read.print_is;
  is = ap (λ (o : Option CodeEntry). after_writes s (blobs_at index number e read.bytes o) t) (sym some);
}

-- ---- one file more

-- the file at a place, for which this was planned
pub record NextFile (fs : List (Bytes × Bytes)) (i : ℕ) (p : Planned) : Type 0 where
  pub file : Bytes × Bytes
  pub there : slice_get fs i ≡ Some file
  pub named : file_planned p ≡ printed file
  pub front : take (i + 1) fs ≡ take i fs ++ file ∷ []

pub next_file : (ps : List Planned) (fs : List (Bytes × Bytes)) (i : ℕ) (p : Planned) → map file_planned ps ≡ map printed fs → i < length ps → p ≡ slice_index_or ps i p → NextFile fs i p
next_file [] fs i p named lt is = absurd (omega arith)
next_file (q ∷ ps) [] i p named lt is = cc
next_file (q ∷ ps) (f ∷ fs) zero p named lt is =
    let here : file_planned q ≡ printed f = cc in
    record { file = f; there = refl; named = ap file_planned is ∙ here; front = refl }
next_file (q ∷ ps) (f ∷ fs) (suc i) p named lt is =
    let rest : map file_planned ps ≡ map printed fs = cc in
    let n = next_file ps fs i p rest (omega arith) is in
    let one : suc i + 1 ≡ suc (i + 1) = omega arith in
    record { file = n.file; there = n.there; named = n.named; front = rw one (ap (λ (l : List (Bytes × Bytes)). f ∷ l) n.front) }

short_at : (fs : List (Bytes × Bytes)) (i : ℕ) (f : Bytes × Bytes) → AllByRecursion IsShort fs → slice_get fs i ≡ Some f → IsShort f
short_at [] i f all there = cc
short_at (g ∷ fs) zero f all there = let same : g ≡ f = cc in subst IsShort same all.0
short_at (g ∷ fs) (suc i) f all there = short_at fs i f all.1 there

tells_at : (told : Option (List (Bytes × Bytes))) (fs : List (Bytes × Bytes)) (i : ℕ) (f : Bytes × Bytes) → TellsAll told fs → slice_get fs i ≡ Some f → Tells (bytes_at told i) f.1
tells_at None fs i f tells there = tt
tells_at (Some told) fs i f tells there =
    let at : slice_get told i ≡ Some f = ap (λ (l : List (Bytes × Bytes)). slice_get l i) (sym tells) ∙ there in
    rw at refl

module _ (told : Option (List (Bytes × Bytes))) (listed : Option (List ListedFile)) (ps : List Planned) (i : ℕ) (p : Planned) (reads : Reads told listed ps) (lt : i < length ps) (is : p ≡ slice_index_or ps i p) where
  at_next : NextFile reads.files i p
  at_next = next_file ps reads.files i p reads.named lt is

  pub next_short : p.print.len < 2 ^ 60
  next_short =
      let short : IsShort at_next.file = short_at reads.files i at_next.file reads.short at_next.there in
      let len : p.print.len ≡ length at_next.file.1 = ap (λ (x : Bytes × Print). x.1.len) at_next.named in
      omega (arith, short, len)

  pub next_read : ReadOnce (bytes_at told i) p.print
  next_read = record {
    bytes = at_next.file.1;
    tells = tells_at told reads.files i at_next.file reads.tells at_next.there;
    print_is = ap (λ (x : Bytes × Print). x.1) (sym at_next.named);
  }

-- the first files that are told are these
abbrev pub TellsFirst : Option (List (Bytes × Bytes)) → ℕ → List (Bytes × Bytes) → Type 0
TellsFirst None i fs = Unit {0}
TellsFirst (Some told) i fs = fs ≡ take i told

-- so many of the files are stored
pub record StoredFirst (s : Start) (told : Option (List (Bytes × Bytes))) (index number size first i : ℕ) (ps : List Planned) (es : List CodeEntry) (old new : Ticket) : Type 0 where
  pub files : List (Bytes × Bytes)
  pub named : map file_planned (take i ps) ≡ map printed files
  pub tells : TellsFirst told i files
  pub entries : es ≡ entries_at size first (take i ps)
  pub is : new ≡ after_writes s (all_blobs index number size first (take i ps) files) old

pub tells_none : (told : Option (List (Bytes × Bytes))) → TellsFirst told 0 []
tells_none None = tt
tells_none (Some told) = refl

pub stored_none : (s : Start) (told : Option (List (Bytes × Bytes))) (index number size first : ℕ) (ps : List Planned) (t : Ticket) → StoredFirst s told index number size first 0 ps [] t t
stored_none s told index number size first ps t = record { files = []; named = refl; tells = tells_none told; entries = refl; is = refl }

tells_next : (told : Option (List (Bytes × Bytes))) (all fs : List (Bytes × Bytes)) (i : ℕ) (p : Planned) (bytes : Bytes) → TellsAll told all → NextFile all i p → TellsFirst told i fs → Tells (bytes_at told i) bytes
    → TellsFirst told (i + 1) (fs ++ (p.physical, bytes) ∷ [])
tells_next None all fs i p bytes tells next first one = tt
tells_next (Some told) all fs i p bytes tells next first one =
    let at : slice_get told i ≡ Some next.file = ap (λ (l : List (Bytes × Bytes)). slice_get l i) (sym tells) ∙ next.there in
    let same : next.file.1 ≡ bytes = rw at at one in
    let name : p.physical ≡ next.file.0 = ap (λ (x : Bytes × Print). x.0) next.named in
    let file : (p.physical, bytes) ≡ next.file = ap (λ (n : Bytes). (n, bytes)) name ∙ ap (λ (b : Bytes). (next.file.0, b)) (sym same) in
    let front : take (i + 1) told ≡ take i told ++ next.file ∷ [] = subst (λ (l : List (Bytes × Bytes)). take (i + 1) l ≡ take i l ++ next.file ∷ []) tells next.front in
    ap (λ (l : List (Bytes × Bytes)). l ++ (p.physical, bytes) ∷ []) first ∙ ap (λ (f : Bytes × Bytes). take i told ++ f ∷ []) file ∙ sym front

-- one more
pub stored_next : (s : Start) (told : Option (List (Bytes × Bytes))) (listed : Option (List ListedFile)) (index number size first i next : ℕ) (ps : List Planned) (p : Planned) (es : List CodeEntry) (e : CodeEntry) (old mid new : Ticket)
    → Reads told listed ps → i < length ps → p ≡ slice_index_or ps i p → next ≡ first + new_count (take i ps) → StoredFirst s told index number size first i ps es old mid
    → e ≡ entry_at size next p p.reused → StoredOne s (bytes_at told i) index number p e mid new → StoredFirst s told index number size first (i + 1) ps (es ++ e ∷ []) old new
stored_next s told listed index number size first i next ps p es e old mid new reads lt is at front entry one =
    let more : take (i + 1) ps ≡ take i ps ++ p ∷ [] = take_next ps i p lt is in
    let file : file_planned p ≡ printed (p.physical, one.bytes) = ap (λ (x : Print). (p.physical, x)) (sym one.print_is) in
    let entry_is : e ≡ entry_at size (first + new_count (take i ps)) p p.reused = entry ∙ ap (λ (n : ℕ). entry_at size n p p.reused) at in
    let many : length (take i ps) ≡ length front.files = as_many (take i ps) front.files front.named in
    let fs : List (Bytes × Bytes) = front.files ++ (p.physical, one.bytes) ∷ [] in
    let blobs : all_blobs index number size first (take (i + 1) ps) fs ≡ all_blobs index number size first (take i ps) front.files ++ blobs_at index number e one.bytes p.reused =
    ap (λ (l : List Planned). all_blobs index number size first l fs) more ∙ blobs_more index number size first (take i ps) p front.files (p.physical, one.bytes) many
    ∙ ap (λ (x : CodeEntry). all_blobs index number size first (take i ps) front.files ++ blobs_at index number x one.bytes p.reused) (sym entry_is) in
    record {
      files = fs;
      named = ap (λ (l : List Planned). map file_planned l) more ∙ map-append file_planned (take i ps) (p ∷ []) ∙ ap (λ (l : List (Bytes × Print)). l ++ file_planned p ∷ []) front.named
          ∙ ap (λ (x : Bytes × Print). map printed front.files ++ x ∷ []) file ∙ sym (map-append printed front.files ((p.physical, one.bytes) ∷ []));
      tells = tells_next told reads.files front.files i p one.bytes reads.tells (next_file ps reads.files i p reads.named lt is) front.tells one.tells;
      entries = ap (λ (l : List CodeEntry). l ++ e ∷ []) front.entries ∙ ap (λ (x : CodeEntry). entries_at size first (take i ps) ++ x ∷ []) entry_is
          ∙ sym (entries_more size first (take i ps) p) ∙ ap (λ (l : List Planned). entries_at size first l) (sym more);
      is = one.is ∙ ap (λ (t : Ticket). after_writes s (blobs_at index number e one.bytes p.reused) t) front.is
          ∙ sym (writes_on s (all_blobs index number size first (take i ps) front.files) (blobs_at index number e one.bytes p.reused) old) ∙ ap (λ (ws : List (BlobName × Bytes)). after_writes s ws old) (sym blobs);
    }

tells_whole : (told : Option (List (Bytes × Bytes))) (all fs : List (Bytes × Bytes)) (i : ℕ) → TellsAll told all → length all ≤ i → TellsFirst told i fs → TellsAll told fs
tells_whole None all fs i tells le first = tt
tells_whole (Some told) all fs i tells le first =
    let n : length told ≤ i = subst (λ (l : List (Bytes × Bytes)). length l ≤ i) tells le in
    first ∙ take_all i told n

pub stored_all : (s : Start) (told : Option (List (Bytes × Bytes))) (listed : Option (List ListedFile)) (index number size first i : ℕ) (ps : List Planned) (es : List CodeEntry) (old new : Ticket)
    → Reads told listed ps → length ps ≤ i → StoredFirst s told index number size first i ps es old new → StoredAll s told index number size first ps es old new
stored_all s told listed index number size first i ps es old new reads le front =
    let all : take i ps ≡ ps = take_all i ps le in
    let many : length ps ≡ length reads.files = as_many ps reads.files reads.named in
    record {
      files = front.files;
      named = subst (λ (l : List Planned). map file_planned l ≡ map printed front.files) all front.named;
      tells = tells_whole told reads.files front.files i reads.tells (omega (arith, le, many)) front.tells;
      entries = subst (λ (l : List Planned). es ≡ entries_at size first l) all front.entries;
      is = subst (λ (l : List Planned). new ≡ after_writes s (all_blobs index number size first l front.files) old) all front.is;
    }
