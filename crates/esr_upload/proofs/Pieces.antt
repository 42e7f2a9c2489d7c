-- The parts of a file, one after another.
use Rattle.std.proofs.Common.{◌≡◌, ◌≢◌, ◌⊎◌, inl, inr, ℕ, zero, suc, ◌+◌, ◌-◌, ◌*◌, ◌/◌, ◌%◌, ◌<◌, ◌≤◌, ◌^◌, min, nat_le, Bool, true, false, List, [], ◌∷◌, ◌++◌, length, take, drop, Option, Some, None, option_map, slice_get, IfSome, refl, sym, ap, ◌∙◌, subst, arith, add-one, append_assoc, length-append, if◌then◌else◌}
use Rattle.std.proofs.lemmas.Bool.{cases_Bool, leb-true, leb-false}
use Rattle.std.proofs.lemmas.List.{length-drop, take_all, take-append-le, drop-append-le}
use Rattle.std.proofs.Math.Nat.{le-mul_of_pos_right}
use Rattle.std.specs.List.{AllByRecursion}
use Rattle.std.specs.Io.KnownBytes.{Consumes, IsAtEnd}
use Rattle.esr_names.specs.declared.blob.ShardId.{ShardId}
use Rattle.esr_names.specs.declared.blob.BlobName.{BlobName as CodeName}
use Rattle.esr_names.specs.declared.blob.BlobName.TheVariants as code
use Rattle.esr_names.specs.Layout.{IsName}
use Rattle.esr_model.specs.Names.{BlobName, Latest, File, Part}
use Rattle.esr_model.specs.Values.{Bytes, Has, Formats, files_told, or_no_files}
use Rattle.esr_model.specs.Parts.{part_count, parts_from}
use Rattle.esr_model.specs.Uploads.{pieces, pairs, file_blobs}
use Rattle.esr_core.specs.World.{Ticket, Work, Shard, Deleting, Swap, swap_of}
use Rattle.esr_core.specs.Steps.{Drew, ShardCommits}
use Rattle.esr_core.specs.Ready.{IsShard}
use Rattle.esr_core.specs.After.{committing}
use Rattle.esr_core.specs.Texts.{IsMetaOf}
use Rattle.esr_core.specs.Allowed.{IsNumbered, IsPartOfOne}
use Rattle.esr_hash.specs.declared.hasher.Hasher.{Hasher}
use Rattle.esr_hash.specs.declared.print.Print.{Print}
use Rattle.esr_source.specs.Files.{bytes_at}
use Rattle.esr_hash.specs.Fed.{HasFed}
use Rattle.esr_shardidx.specs.declared.entry.FileEntry.{FileEntry as CodeEntry}
use Rattle.esr_shardidx.specs.Parts.{part_name, part_count as code_count}
use Rattle.esr_formats.specs.Names.{name_of}
use Rattle.esr_formats.specs.Formats.{formats}
use Rattle.esr_formats.specs.Shards.{entry_of}
use Rattle.esr_desk.specs.Start.{Start, formats_of, told_bytes}
use Rattle.esr_desk.specs.Sources.{TellSame}
use Rattle.esr_desk.specs.Conditions.{CanCommit}
use Rattle.esr_desk.specs.Taken.{after_writes}
use Rattle.esr_upload.specs.Stored.{MayStore, IsAt, IsToldBy, HasPrint, IsFileBelow, AreBelow}
use Rattle.esr_upload.specs.Pieces.{CanStore, AreNumbered, blob_name, cut, PutParts}
use Rattle.esr_upload.specs.Commits.{writes_keep, writes_at}
use Rattle.esr_upload.proofs.Writing.{writes_on}
use Rattle.esr_upload.proofs.Noting.{noted_all}

-- ---- which parts may be stored

no_file_meta : (i k x u : ℕ) → IsMetaOf u (File i k x) → ⊥
no_file_meta i k x u (inl is) = cc
no_file_meta i k x u (inr (inl is)) = cc
no_file_meta i k x u (inr (inr is)) = let e = is.1 in cc

no_part_meta : (i k x p u : ℕ) → IsMetaOf u (Part i k x p) → ⊥
no_part_meta i k x p u (inl is) = cc
no_part_meta i k x p u (inr (inl is)) = cc
no_part_meta i k x p u (inr (inr is)) = let e = is.1 in cc

-- the unit of a shard swaps nothing
no_swap : (s : Start) (t : Ticket) (i k : ℕ) → t.work ≡ Shard i k → ◌≡◌ {A = Option Swap} (swap_of (formats_of s) t.work t.root) None
no_swap s t i k is = subst (λ (w : Work). ◌≡◌ {A = Option Swap} (swap_of (formats_of s) w t.root) None) (sym is) refl

-- nor is it of a delete or cleanup
no_deletion : (t : Ticket) (i k : ℕ) (uuids : List ℕ) (plan : Option Swap) → t.work ≡ Shard i k → t.work ≡ Deleting uuids plan → ⊥
no_deletion t i k uuids plan is deletes = let same : Shard i k ≡ Deleting uuids plan = sym is ∙ deletes in cc

of_shard : (t : Ticket) (i k : ℕ) → t.work ≡ Shard i k → IsShard t.work
of_shard t i k is = subst IsShard (sym is) tt

-- the name of the next part of a file isn't noted
abbrev IsFresh : Ticket → CodeName → Type 0
IsFresh t name = Has t.noted (name_of name) → ⊥

-- a part has the number that it is to have
abbrev HasNumber : Start → Ticket → ShardId → CodeName → Type 0
HasNumber s t at name = IsNumbered (formats_of s) s.part_size t at.number (name_of name) t.source

own_number : (s : Start) (t : Ticket) (at : ShardId) (name : CodeName) → t.work ≡ Shard at.index.number at.number → HasNumber s t at name → (i k : ℕ) → t.work ≡ Shard i k
    → IsNumbered (formats_of s) s.part_size t k (name_of name) t.source
own_number s t at name work has i k is =
    let both : Shard at.index.number at.number ≡ Shard i k = sym work ∙ is in
    let same : at.number ≡ k = cc in
    subst (λ (n : ℕ). IsNumbered (formats_of s) s.part_size t n (name_of name) t.source) same has

-- a blob of the shard's ticket may be committed
pub own_can : (s : Start) (t : Ticket) (index number : ℕ) (name : BlobName) (bytes : Bytes) → IsAt t index number → name ≢ Latest → ShardCommits t name
    → ((i k : ℕ) → t.work ≡ Shard i k → IsNumbered (formats_of s) s.part_size t k name t.source)
    → (Has t.noted name → ⊥) → CanCommit s t name bytes
own_can s t index number name bytes is other own numbered unnoted = record {
  out = is.out;
  unsettled = is.unsettled;
  may = inr (no_swap s t index number is.work, own, of_shard t index number is.work);
  stored = other;
  once = λ meta noted. unnoted noted;
  numbered = numbered;
  late = λ uuids plan deletes clean. absurd (no_deletion t index number uuids plan is.work deletes);
}

whole_can : (s : Start) (t : Ticket) (at : ShardId) (e : CodeEntry) → IsAt t at.index.number at.number → Drew t e.name.number → at.number < 1024 → HasNumber s t at (code.Whole at e.name) → IsFresh t (code.Whole at e.name)
    → CanStore s t (code.Whole at e.name)
unfolding IsName
whole_can s t at e is drew few part fresh = record {
  index = at.index.number;
  number = at.number;
  work = is.work;
  layout = few;
  own = λ meta. no_file_meta at.index.number at.number e.name.number meta.0 meta.1;
  may = λ bytes. own_can s t at.index.number at.number (name_of (code.Whole at e.name)) bytes is (λ same. cc) (is.work, drew) (own_number s t at (code.Whole at e.name) is.work part) fresh;
}

part_can : (s : Start) (t : Ticket) (at : ShardId) (e : CodeEntry) (k : ℕ) → IsAt t at.index.number at.number → Drew t e.name.number → at.number < 1024 → k < 2 ^ 61 → HasNumber s t at (code.Part at e.name k)
    → IsFresh t (code.Part at e.name k) → CanStore s t (code.Part at e.name k)
unfolding IsName
part_can s t at e k is drew few low part fresh = record {
  index = at.index.number;
  number = at.number;
  work = is.work;
  layout = (few, low);
  own = λ meta. no_part_meta at.index.number at.number e.name.number k meta.0 meta.1;
  may = λ bytes. own_can s t at.index.number at.number (name_of (code.Part at e.name k)) bytes is (λ same. cc) (is.work, drew) (own_number s t at (code.Part at e.name k) is.work part) fresh;
}

can_store : (s : Start) (t : Ticket) (at : ShardId) (e : CodeEntry) (k : ℕ) → IsAt t at.index.number at.number → Drew t e.name.number → at.number < 1024 → k < 2 ^ 61 → HasNumber s t at (part_name at e k) → IsFresh t (part_name at e k)
    → CanStore s t (part_name at e k)
can_store s t at e k is drew few low =
    elim (nat_le e.print.len e.part_size) as (λ b. HasNumber s t at (if b then code.Whole at e.name else code.Part at e.name k)
    → IsFresh t (if b then code.Whole at e.name else code.Part at e.name k) → CanStore s t (if b then code.Whole at e.name else code.Part at e.name k)) [
      | true ↦ whole_can s t at e is drew few
      | false ↦ part_can s t at e k is drew few low
    ]

-- ---- each part once

cut_all : (P : BlobName → Type 0) (name : ℕ → BlobName) (size j k end : ℕ) (bytes : Bytes) → ((i : ℕ) → i < end → P (name i)) → j + k ≤ end → AllByRecursion (λ (w : BlobName × Bytes). P w.0) (cut name size j k bytes)
unfolding cut
cut_all P name size j zero end bytes each le = tt
cut_all P name size j (suc k) end bytes each le =
    let here : j < end = omega (arith, le) in
    let rest : suc j + k ≤ end = omega (arith, le) in
    (each j here, cut_all P name size (suc j) k end (drop size bytes) each rest)

-- of a file with an id below, or a part of this file before this one
abbrev IsBefore : ShardId → CodeEntry → ℕ → BlobName → Type 0
IsBefore at e k name = IsFileBelow e.name.number name ⊎ ((i : ℕ) × (i < k) × (blob_name at e i ≡ name))

not_below : (at : ShardId) (e : CodeEntry) (k : ℕ) → IsFileBelow e.name.number (blob_name at e k) → ⊥
not_below at e k =
    elim (nat_le e.print.len e.part_size) as (λ b. IsFileBelow e.name.number (name_of (if b then code.Whole at e.name else code.Part at e.name k)) → ⊥) [
      | true ↦ λ (low : e.name.number < e.name.number). omega (arith, low)
      | false ↦ λ (low : e.name.number < e.name.number). omega (arith, low)
    ]

number_is : (index number file i k : ℕ) → Part index number file i ≡ Part index number file k → i ≡ k
number_is index number file i k same = cc

-- the parts of a file have different names
parts_differ : (at : ShardId) (e : CodeEntry) (i k : ℕ) → i < k → k < code_count e.print.len e.part_size → blob_name at e i ≡ blob_name at e k → ⊥
parts_differ at e i k less =
    let parts : ℕ = (e.print.len + e.part_size - 1) / e.part_size in
    elim (nat_le e.print.len e.part_size) as (λ b. k < (if b then 1 else parts) → name_of (if b then code.Whole at e.name else code.Part at e.name i) ≡ name_of (if b then code.Whole at e.name else code.Part at e.name k) → ⊥) [
      | true ↦ λ (one : k < 1) same. omega (arith, less, one)
      | false ↦ λ within same. let number : i ≡ k = number_is at.index.number at.number e.name.number i k same in omega (arith, less, number)
    ]

next_fresh : (s : Start) (old : Ticket) (bytes : Bytes) (at : ShardId) (e : CodeEntry) (k : ℕ) → AreBelow old e.name.number → k < code_count e.print.len e.part_size
    → Has (after_writes s (cut (blob_name at e) e.part_size 0 k bytes) old).noted (blob_name at e k) → ⊥
next_fresh s old bytes at e k below within noted =
    let all : 0 + k ≤ k = omega arith in
    let before : IsBefore at e k (blob_name at e k) =
    noted_all (IsBefore at e k) s (cut (blob_name at e) e.part_size 0 k bytes) old
    (cut_all (IsBefore at e k) (blob_name at e) e.part_size 0 k k bytes (λ i less. inr (i, less, refl)) all) (λ name has. inl (below name has)) (blob_name at e k) noted in
    elim before [
      | inl low ↦ not_below at e k low
      | inr part ↦ parts_differ at e part.0 k part.1 within part.2
    ]

-- what the blobs of the ticket leave of its address
number_on : (f : Formats) (size : ℕ) (a b : Ticket) (n : ℕ) (name : BlobName) → b.place ≡ a.place → b.name ≡ a.name → (o : Option ℕ) → IsNumbered f size a n name o → IsNumbered f size b n name o
number_on f size a b n name place same None has = λ known.
    let of_place : f.known a.place b.name n ≡ true = subst (λ (p : Bytes). f.known p b.name n ≡ true) place known in
    let of_name : f.known a.place a.name n ≡ true = subst (λ (x : Bytes). f.known a.place x n ≡ true) same of_place in
    subst (λ (p : Bytes). IsPartOfOne size (files_told f p b.name n) name) (sym place) (subst (λ (x : Bytes). IsPartOfOne size (files_told f a.place x n) name) (sym same) (has of_name))
number_on f size a b n name place same (Some source) has = has

-- the next part may be stored
pub can_store_next : (s : Start) (old now : Ticket) (bytes : Bytes) (at : ShardId) (e : CodeEntry) (k : ℕ) (name : CodeName) → MayStore old at.index.number at.number e.name.number → at.number < 1024 → AreNumbered s old at e
    → 1 ≤ e.part_size → k * e.part_size < 2 ^ 61
    → k < code_count e.print.len e.part_size → now ≡ after_writes s (cut (blob_name at e) e.part_size 0 k bytes) old → name ≡ part_name at e k → CanStore s now name
can_store_next s old now bytes at e k name may few numbered some low within is named =
    let ws : List (BlobName × Bytes) = cut (blob_name at e) e.part_size 0 k bytes in
    let less : k ≤ k * e.part_size = le-mul_of_pos_right k some in
    let number : k < 2 ^ 61 = omega (arith, less, low) in
    let first : now.first ≡ old.first = writes_keep (λ (t : Ticket). t.first) (λ t n w. refl) s ws old now is in
    let drawn : now.drawn ≡ old.drawn = writes_keep (λ (t : Ticket). t.drawn) (λ t n w. refl) s ws old now is in
    let from : old.first ≤ e.name.number = may.drew.from in
    let end : e.name.number < old.first + old.drawn = may.drew.below in
    let out = writes_at s ws old now at.index.number at.number is (record { out = may.out; unsettled = may.unsettled; work = may.work }) in
    let drew : Drew now e.name.number = record { from = omega (arith, first, from); below = omega (arith, first, drawn, end) } in
    let fresh : IsFresh now (part_name at e k) = subst (λ (t : Ticket). IsFresh t (part_name at e k)) (sym is) (next_fresh s old bytes at e k may.below within) in
    let place : now.place ≡ old.place = writes_keep (λ (t : Ticket). t.place) (λ t n w. refl) s ws old now is in
    let same : now.name ≡ old.name = writes_keep (λ (t : Ticket). t.name) (λ t n w. refl) s ws old now is in
    let source : now.source ≡ old.source = writes_keep (λ (t : Ticket). t.source) (λ t n w. refl) s ws old now is in
    let has : HasNumber s now at (part_name at e k) =
    subst (λ (o : Option ℕ). IsNumbered (formats_of s) s.part_size now at.number (blob_name at e k) o) (sym source) (number_on (formats_of s) s.part_size old now at.number (blob_name at e k) place same old.source (numbered k within)) in
    subst (λ (n : CodeName). CanStore s now n) (sym named) (can_store s now at e k out drew few number has fresh)

-- ---- one part more

pub cut_none : (s : Start) (name : ℕ → BlobName) (size : ℕ) (t : Ticket) → t ≡ after_writes s (cut name size 0 0 []) t
unfolding cut
cut_none s name size t = refl

empty : (bytes : Bytes) → length bytes ≡ 0 → bytes ≡ []
empty [] h = refl
empty (b ∷ bytes) h = absurd (omega (arith, h))

cut_more : (name : ℕ → BlobName) (size j k : ℕ) (bytes piece : Bytes) → length bytes ≡ k * size → length piece ≤ size → cut name size j (suc k) (bytes ++ piece) ≡ cut name size j k bytes ++ (name (j + k), piece) ∷ []
unfolding cut
cut_more name size j zero bytes piece len le =
    let none : bytes ≡ [] = empty bytes (omega (arith, len)) in
    let number : j + 0 ≡ j = omega arith in
    rw (none, number) (ap (λ (x : Bytes). (name j, x) ∷ []) (take_all size piece le))
cut_more name size j (suc k) bytes piece len le =
    let sum : suc k * size ≡ size + k * size = omega arith in
    let fits : size ≤ length bytes = omega (arith, len, sum) in
    let rest : length (drop size bytes) ≡ k * size = omega (arith, length-drop size bytes, len, sum) in
    let front = take-append-le size bytes piece fits in
    let back = drop-append-le size bytes piece fits in
    let number : suc j + k ≡ j + suc k = omega arith in
    let more : cut name size (suc j) (suc k) (drop size bytes ++ piece) ≡ cut name size (suc j) k (drop size bytes) ++ (name (j + suc k), piece) ∷ [] = rw number at (cut_more name size (suc j) k (drop size bytes) piece rest le) in
    rw (front, back) (ap (λ (ws : List (BlobName × Bytes)). (name j, take size bytes) ∷ ws) more)

pub cut_put : (s : Start) (at : ShardId) (e : CodeEntry) (k : ℕ) (bytes piece : Bytes) (name : CodeName) (a b c : Ticket) → length bytes ≡ k * e.part_size → length piece ≤ e.part_size
    → b ≡ after_writes s (cut (blob_name at e) e.part_size 0 k bytes) a → c ≡ committing (name_of name) (told_bytes s piece) b → name ≡ part_name at e k
    → c ≡ after_writes s (cut (blob_name at e) e.part_size 0 (k + 1) (bytes ++ piece)) a
cut_put s at e k bytes piece name a b c len le before now named =
    let front : List (BlobName × Bytes) = cut (blob_name at e) e.part_size 0 k bytes in
    let more : cut (blob_name at e) e.part_size 0 (k + 1) (bytes ++ piece) ≡ front ++ (blob_name at e k, piece) ∷ [] =
    let start : 0 + k ≡ k = omega arith in
    rw add-one (rw start at (cut_more (blob_name at e) e.part_size 0 k bytes piece len le)) in
    now
    ∙ ap (λ (n : CodeName). committing (name_of n) (told_bytes s piece) b) named
    ∙ ap (λ (t : Ticket). committing (blob_name at e k) (told_bytes s piece) t) before
    ∙ sym (writes_on s front ((blob_name at e k, piece) ∷ []) a)
    ∙ ap (λ (ws : List (BlobName × Bytes)). after_writes s ws a) (sym more)

-- ---- all parts

pairs_cut : (i n x size j k : ℕ) (bytes : Bytes) → length bytes ≤ suc k * size → pairs (parts_from i n x j (suc k)) (pieces size (suc k) bytes) ≡ cut (λ p. Part i n x p) size j (suc k) bytes
unfolding cut
pairs_cut i n x size j zero bytes le =
    let fits : length bytes ≤ size = omega (arith, le) in
    ap (λ (b : Bytes). (Part i n x j, b) ∷ []) (sym (take_all size bytes fits))
pairs_cut i n x size j (suc k) bytes le =
    let sum : suc (suc k) * size ≡ size + suc k * size = omega arith in
    let rest : length (drop size bytes) ≤ suc k * size = omega (arith, length-drop size bytes, le, sum) in
    ap (λ (ws : List (BlobName × Bytes)). (Part i n x j, take size bytes) ∷ ws) (pairs_cut i n x size (suc j) k (drop size bytes) rest)

-- a file of more parts than one
quotient : (len size q r : ℕ) → size * q + r ≡ len + (size - 1) → r < size → size < len → (m : ℕ) × (q ≡ suc m) × (len ≤ suc m * size)
quotient len size zero r is small long = absurd (omega arith)
quotient len size (suc m) r is small long = (m, refl, omega arith)

several : (len size : ℕ) → 1 ≤ size → size < len → (m : ℕ) × ((len + (size - 1)) / size ≡ suc m) × (len ≤ suc m * size)
several len size some long =
    let small : (len + (size - 1)) % size < size = omega (arith, some) in
    let all : size * ((len + (size - 1)) / size) + (len + (size - 1)) % size ≡ len + (size - 1) = omega (arith, some) in
    quotient len size ((len + (size - 1)) / size) ((len + (size - 1)) % size) all small long

-- the blobs of a file, by whether it fits into one
abbrev AreCut : ShardId → CodeEntry → Bytes → ℕ → Bool → Type 0
AreCut at e bytes q b =
    pairs (if b then File at.index.number at.number e.name.number ∷ [] else parts_from at.index.number at.number e.name.number 0 (if b then 1 else q)) (pieces e.part_size (if b then 1 else q) bytes)
    ≡ cut (λ k. name_of (if b then code.Whole at e.name else code.Part at e.name k)) e.part_size 0 (if b then 1 else q) bytes

one_cut : (at : ShardId) (e : CodeEntry) (bytes : Bytes) (q : ℕ) → length bytes ≤ e.part_size → AreCut at e bytes q true
unfolding cut
one_cut at e bytes q short = ap (λ (b : Bytes). (File at.index.number at.number e.name.number, b) ∷ []) (sym (take_all e.part_size bytes short))

more_cut : (at : ShardId) (e : CodeEntry) (bytes : Bytes) (q m : ℕ) → q ≡ suc m → length bytes ≤ suc m * e.part_size → AreCut at e bytes q false
more_cut at e bytes q m is within = subst (λ (n : ℕ). AreCut at e bytes n false) (sym is) (pairs_cut at.index.number at.number e.name.number e.part_size 0 m bytes within)

blobs_cut : (at : ShardId) (e : CodeEntry) (bytes : Bytes) → 1 ≤ e.part_size → length bytes ≡ e.print.len
    → file_blobs at.index.number at.number (entry_of e) bytes ≡ cut (blob_name at e) e.part_size 0 (part_count e.print.len e.part_size) bytes
blobs_cut at e bytes some len = elim (cases_Bool (nat_le e.print.len e.part_size)) [
  | inl fits ↦
      let short : length bytes ≤ e.part_size = omega (arith, len, leb-true e.print.len e.part_size fits) in
      subst (AreCut at e bytes ((e.print.len + (e.part_size - 1)) / e.part_size)) (sym fits) (one_cut at e bytes ((e.print.len + (e.part_size - 1)) / e.part_size) short)
  | inr longer ↦
      let m = several e.print.len e.part_size some (leb-false e.print.len e.part_size longer) in
      let within : length bytes ≤ suc m.0 * e.part_size = omega (arith, len, m.2) in
      subst (AreCut at e bytes ((e.print.len + (e.part_size - 1)) / e.part_size)) (sym longer) (more_cut at e bytes ((e.print.len + (e.part_size - 1)) / e.part_size) m.0 m.1 within)
]

covers : (len size : ℕ) → 1 ≤ size → len ≤ part_count len size * size
covers len size some = elim (cases_Bool (nat_le len size)) [
  | inl fits ↦ let short : len ≤ size = leb-true len size fits in rw fits (omega (arith, short))
  | inr longer ↦ let m = several len size some (leb-false len size longer) in rw (longer, m.1) m.2
]

-- both count alike
same_count : (len size : ℕ) → 1 ≤ size → code_count len size ≡ part_count len size
same_count len size some =
    let sum : len + size - 1 ≡ len + (size - 1) = omega (arith, some) in
    ap (λ (n : ℕ). if nat_le len size then 1 else n / size) sum

-- ---- the numbers of a told file's parts

-- the file at a place within the list has the length of its entry
told_length : (fs : List (Bytes × Bytes)) (i : ℕ) (e : CodeEntry) → i < length fs → HasPrint (option_map (λ (f : Bytes × Bytes). f.1) (slice_get fs i)) e → (f : Bytes × Bytes) × Has fs f × (length f.1 ≡ e.print.len)
told_length [] i e within print = absurd (omega (arith, within))
told_length (f ∷ fs) zero e within print = (f, inl refl, ap (λ (p : Print). p.len) print)
told_length (f ∷ fs) (suc i) e within print = let rest = told_length fs i e (omega (arith, within)) print in (rest.0, inr rest.1, rest.2)

one_of : (at : ShardId) (e : CodeEntry) (k size : ℕ) (files : List (Bytes × Bytes)) (f : Bytes × Bytes) → Has files f → length f.1 ≡ e.print.len → e.part_size ≡ size → 1 ≤ e.part_size → k < code_count e.print.len e.part_size
    → IsPartOfOne size files (blob_name at e k)
one_of at e k size files f has len cut some less = by_fit (nat_le e.print.len e.part_size) refl
  where
    by_fit : (b : Bool) → nat_le e.print.len e.part_size ≡ b → IsPartOfOne size files (name_of (if b then code.Whole at e.name else code.Part at e.name k))
    by_fit true fits =
        let short : e.print.len ≤ e.part_size = leb-true e.print.len e.part_size fits in
        let within : length f.1 ≤ size = omega (arith, short, len, cut) in
        (f, has, within)
    by_fit false longer =
        let long : e.part_size < e.print.len = leb-false e.print.len e.part_size longer in
        let over : size < length f.1 = omega (arith, long, len, cut) in
        let number : k < part_count e.print.len e.part_size = subst (λ (n : ℕ). k < n) (same_count e.print.len e.part_size some) less in
        let of_size : k < part_count e.print.len size = subst (λ (n : ℕ). k < part_count e.print.len n) cut number in
        (f, has, over, subst (λ (n : ℕ). k < part_count n size) (sym len) of_size)

none_told : (fs : List (Bytes × Bytes)) → ◌≡◌ {A = Option (List (Bytes × Bytes))} None (Some fs) → ⊥
none_told fs is = cc

-- the parts of a file of the list have the numbers of its parts
pub all_numbered : (s : Start) (told : Option (List (Bytes × Bytes))) (file : ℕ) (at : ShardId) (e : CodeEntry) (t : Ticket) → IsToldBy s told at.number t → IfSome told (λ fs. file < length fs) → HasPrint (bytes_at told file) e
    → e.part_size ≡ s.part_size → 1 ≤ e.part_size
    → AreNumbered s t at e
unfolding formats
all_numbered s told file at e t by within print whole some = λ k less.
    subst (λ (o : Option ℕ). IsNumbered (formats_of s) s.part_size t at.number (blob_name at e k) o) (sym by.source_is) (λ known. by_told told within print k less (by.tells known))
  where
    by_told : (o : Option (List (Bytes × Bytes))) → IfSome o (λ fs. file < length fs) → HasPrint (bytes_at o file) e → (k : ℕ) → k < code_count e.print.len e.part_size → TellSame o (s.told t.place t.name at.number)
        → IsPartOfOne s.part_size (or_no_files (s.told t.place t.name at.number)) (blob_name at e k)
    by_told None within print k less same = absurd (none_told same.0 same.1)
    by_told (Some fs) within print k less same =
        let one = told_length fs file e within print in
        let here : ◌≡◌ {A = Option (List (Bytes × Bytes))} (s.told t.place t.name at.number) (Some fs) = same.2 ∙ sym same.1 in
        subst (λ (o : Option (List (Bytes × Bytes))). IsPartOfOne s.part_size (or_no_files o) (blob_name at e k)) (sym here) (one_of at e k s.part_size fs one.0 one.1 one.2 whole some less)

pub all_put : (s : Start) (left_old left_new : Option Bytes) (hasher : Hasher) (at : ShardId) (e : CodeEntry) (old new : Ticket) (n end : ℕ) (bytes : Bytes) → 1 ≤ e.part_size → n ≡ end → end ≡ code_count e.print.len e.part_size
    → Consumes left_old left_new bytes → HasFed hasher bytes → length bytes ≡ min (n * e.part_size) e.print.len → new ≡ after_writes s (cut (blob_name at e) e.part_size 0 n bytes) old
    → PutParts s left_old left_new hasher at e old new
all_put s left_old left_new hasher at e old new n end bytes some last count took fed len is =
    let number : n ≡ part_count e.print.len e.part_size = last ∙ count ∙ same_count e.print.len e.part_size some in
    let enough : e.print.len ≤ n * e.part_size = rw number (covers e.print.len e.part_size some) in
    let all : length bytes ≡ e.print.len = omega (arith, len, enough) in
    record {
      bytes = bytes;
      took = took;
      fed = fed;
      ends = inr all;
      is = λ whole.
          is
          ∙ ap (λ (k : ℕ). after_writes s (cut (blob_name at e) e.part_size 0 k bytes) old) number
          ∙ ap (λ (ws : List (BlobName × Bytes)). after_writes s ws old) (sym (blobs_cut at e bytes some whole));
    }

pub consumes_more : (a b c : Option Bytes) (xs ys : Bytes) → Consumes a b xs → Consumes b c ys → Consumes a c (xs ++ ys)
consumes_more None b c xs ys h k = tt
consumes_more (Some a) None c xs ys h k = absurd h
consumes_more (Some a) (Some b) None xs ys h k = absurd k
consumes_more (Some a) (Some b) (Some c) xs ys h k = h ∙ ap (λ (l : Bytes). xs ++ l) k ∙ sym (append_assoc xs ys c)

pub consumes_none : (a : Option Bytes) → Consumes a a []
consumes_none None = tt
consumes_none (Some a) = refl

-- the file was at its end before its entry's length
pub short_put : (s : Start) (left_old left_mid left_new : Option Bytes) (hasher : Hasher) (at : ShardId) (e : CodeEntry) (old new : Ticket) (bytes piece : Bytes)
    → Consumes left_old left_mid bytes → Consumes left_mid left_new piece → HasFed hasher (bytes ++ piece) → IsAtEnd left_new → length bytes + length piece < e.print.len
    → PutParts s left_old left_new hasher at e old new
short_put s left_old left_mid left_new hasher at e old new bytes piece took more fed ended less =
    let sum : length (bytes ++ piece) ≡ length bytes + length piece = length-append bytes piece in
    record {
      bytes = bytes ++ piece;
      took = consumes_more left_old left_mid left_new bytes piece took more;
      fed = fed;
      ends = inl ended;
      is = λ whole. absurd (omega (arith, whole, sum, less));
    }
