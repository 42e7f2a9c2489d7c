-- Planned files as the definitions see them.
use Rattle.std.proofs.Common.{◌≡◌, ℕ, ◌+◌, ◌<◌, IfSome, IsSomeAnd, List, [], ◌∷◌, ◌++◌, length, map, sum_by, Option, Some, None, option_map, refl, sym, ◌∙◌, ap, subst, arith}
use Rattle.std.specs.List.{AllByRecursion}
use Rattle.std.proofs.lemmas.List.{length-map}
use Rattle.std.proofs.lemmas.List.Sums.{sum_by-cons}
use Rattle.esr_hash.specs.declared.print.Print.{Print}
use Rattle.esr_model.specs.Names.{BlobName}
use Rattle.esr_model.specs.Values.{Bytes, FileEntry, ShardFiles}
use Rattle.esr_model.specs.Uploads.{reused, reused_file, entry_by, next_by, entries_from, id_after, blobs_by, new_blobs}
use Rattle.esr_source.specs.declared.files.ListedFile.{ListedFile}
use Rattle.esr_shardidx.specs.declared.entry.FileEntry.{FileEntry as CodeEntry}
use Rattle.esr_formats.specs.Shards.{entry_of}
use Rattle.esr_formats.specs.Formats.{formats}
use Rattle.esr_reuse.specs.declared.reuse.Planned.{Planned}
use Rattle.esr_reuse.specs.Plans.{file_planned, Reuses}
use Rattle.esr_desk.specs.Start.{Start, formats_of}
use Rattle.esr_upload.specs.Surveyed.{printed}
use Rattle.esr_upload.specs.Entries.{is_new, new_count, len_planned, entry_at, entries_at, blobs_at, all_blobs, Reads}

reused_is : (s : Start) (base : ShardFiles) (p : Planned) (f : Bytes × Bytes) → file_planned p ≡ printed f → Reuses base.files p → reused_file (formats_of s) base f ≡ option_map entry_of p.reused
unfolding formats
reused_is s base p f named reuses = ap (λ (x : Bytes × Print). reused base.files x.0 x.1.len x.1.sha256) (sym named) ∙ sym reuses

entry_is : (s : Start) (size next : ℕ) (p : Planned) (f : Bytes × Bytes) (r : Option CodeEntry) → file_planned p ≡ printed f → entry_by (formats_of s) size next f (option_map entry_of r) ≡ entry_of (entry_at size next p r)
unfolding formats
entry_is s size next p f None named = ap (λ (x : Bytes × Print). record { name = next; physical = x.0; len = x.1.len; digest = x.1.sha256; part_size = size }) (sym named)
entry_is s size next p f (Some e) named = refl

next_is : (next : ℕ) (r : Option CodeEntry) → next_by (option_map entry_of r) next ≡ next + is_new r
next_is next None = omega arith
next_is next (Some e) = omega arith

pub entries_model : (s : Start) (size next : ℕ) (base : ShardFiles) (ps : List Planned) (fs : List (Bytes × Bytes)) → map file_planned ps ≡ map printed fs → AllByRecursion (Reuses base.files) ps
    → entries_from (formats_of s) size base next fs ≡ map entry_of (entries_at size next ps)
entries_model s size next base [] [] named each = refl
entries_model s size next base [] (f ∷ fs) named each = cc
entries_model s size next base (p ∷ ps) [] named each = cc
entries_model s size next base (p ∷ ps) (f ∷ fs) named each =
    let here : file_planned p ≡ printed f = cc in
    let rest : map file_planned ps ≡ map printed fs = cc in
    let more : entries_from (formats_of s) size base (next_by (option_map entry_of p.reused) next) fs ≡ map entry_of (entries_at size (next + is_new p.reused) ps) =
    ap (λ (n : ℕ). entries_from (formats_of s) size base n fs) (next_is next p.reused) ∙ entries_model s size (next + is_new p.reused) base ps fs rest each.1 in
    subst (λ (o : Option FileEntry). entry_by (formats_of s) size next f o ∷ entries_from (formats_of s) size base (next_by o next) fs ≡ map entry_of (entries_at size next (p ∷ ps))) (sym (reused_is s base p f here each.0))
    (ap (λ (e : FileEntry). e ∷ entries_from (formats_of s) size base (next_by (option_map entry_of p.reused) next) fs) (entry_is s size next p f p.reused here)
    ∙ ap (λ (es : List FileEntry). entry_of (entry_at size next p p.reused) ∷ es) more)

pub id_model : (s : Start) (next : ℕ) (base : ShardFiles) (ps : List Planned) (fs : List (Bytes × Bytes)) → map file_planned ps ≡ map printed fs → AllByRecursion (Reuses base.files) ps
    → id_after (formats_of s) base next fs ≡ next + new_count ps
id_model s next base [] [] named each = omega arith
id_model s next base [] (f ∷ fs) named each = cc
id_model s next base (p ∷ ps) [] named each = cc
id_model s next base (p ∷ ps) (f ∷ fs) named each =
    let here : file_planned p ≡ printed f = cc in
    let rest : map file_planned ps ≡ map printed fs = cc in
    let more : id_after (formats_of s) base (next + is_new p.reused) fs ≡ next + is_new p.reused + new_count ps = id_model s (next + is_new p.reused) base ps fs rest each.1 in
    let sum : next + is_new p.reused + new_count ps ≡ next + (is_new p.reused + new_count ps) = omega arith in
    subst (λ (o : Option FileEntry). id_after (formats_of s) base (next_by o next) fs ≡ next + (is_new p.reused + new_count ps)) (sym (reused_is s base p f here each.0))
    (ap (λ (n : ℕ). id_after (formats_of s) base n fs) (next_is next p.reused) ∙ more ∙ sum)

pub blobs_model : (s : Start) (index number size next : ℕ) (base : ShardFiles) (ps : List Planned) (fs : List (Bytes × Bytes)) → map file_planned ps ≡ map printed fs → AllByRecursion (Reuses base.files) ps
    → new_blobs (formats_of s) size base index number next fs ≡ all_blobs index number size next ps fs
blobs_model s index number size next base [] [] named each = refl
blobs_model s index number size next base [] (f ∷ fs) named each = cc
blobs_model s index number size next base (p ∷ ps) [] named each = cc
blobs_model s index number size next base (p ∷ ps) (f ∷ fs) named each =
    let here : file_planned p ≡ printed f = cc in
    let rest : map file_planned ps ≡ map printed fs = cc in
    let r : Option FileEntry = option_map entry_of p.reused in
    let more : new_blobs (formats_of s) size base index number (next_by r next) fs ≡ all_blobs index number size (next + is_new p.reused) ps fs =
    ap (λ (n : ℕ). new_blobs (formats_of s) size base index number n fs) (next_is next p.reused) ∙ blobs_model s index number size (next + is_new p.reused) base ps fs rest each.1 in
    subst (λ (o : Option FileEntry). blobs_by index number (entry_by (formats_of s) size next f o) f.1 o ++ new_blobs (formats_of s) size base index number (next_by o next) fs ≡ all_blobs index number size next (p ∷ ps) (f ∷ fs))
    (sym (reused_is s base p f here each.0))
    (ap (λ (e : FileEntry). blobs_by index number e f.1 r ++ new_blobs (formats_of s) size base index number (next_by r next) fs) (entry_is s size next p f p.reused here)
    ∙ ap (λ (ws : List (BlobName × Bytes)). blobs_at index number (entry_at size next p p.reused) f.1 p.reused ++ ws) more)

-- ---- sums and counts

pub as_many : (ps : List Planned) (fs : List (Bytes × Bytes)) → map file_planned ps ≡ map printed fs → length ps ≡ length fs
as_many ps fs named = sym (length-map ps file_planned) ∙ ap (λ (l : List (Bytes × Print)). length l) named ∙ length-map fs printed

-- a planned file is one of those that are told
pub reads_listed : (told : Option (List (Bytes × Bytes))) (listed : Option (List ListedFile)) (ps : List Planned) (i : ℕ) → Reads told listed ps → i < length ps → IsSomeAnd listed (λ fs. i < length fs)
reads_listed told None ps i reads less = absurd reads.many
reads_listed told (Some fs) ps i reads less =
    let many : length fs ≡ length reads.files = reads.many in
    let all : length ps ≡ length reads.files = as_many ps reads.files reads.named in
    omega (arith, many, all, less)

pub reads_place : (told : Option (List (Bytes × Bytes))) (listed : Option (List ListedFile)) (ps : List Planned) (i : ℕ) → Reads told listed ps → i < length ps → IfSome told (λ fs. i < length fs)
reads_place None listed ps i reads lt = tt
reads_place (Some fs) listed ps i reads lt =
    let planned = as_many ps reads.files reads.named in
    let all : length reads.files ≡ length fs = ap (λ (xs : List (Bytes × Bytes)). length xs) reads.tells in
    omega (arith, planned, all, lt)

pub sum_model : (ps : List Planned) (fs : List (Bytes × Bytes)) → map file_planned ps ≡ map printed fs → sum_by len_planned ps ≡ sum_by (λ (f : Bytes × Bytes). length f.1) fs
sum_model [] [] named = refl
sum_model [] (f ∷ fs) named = cc
sum_model (p ∷ ps) [] named = cc
sum_model (p ∷ ps) (f ∷ fs) named =
    let here : file_planned p ≡ printed f = cc in
    let rest : map file_planned ps ≡ map printed fs = cc in
    let len : p.print.len ≡ length f.1 = ap (λ (x : Bytes × Print). x.1.len) here in
    sum_by-cons len_planned p ps ∙ ap (λ (n : ℕ). n + sum_by len_planned ps) len ∙ ap (λ (n : ℕ). length f.1 + n) (sum_model ps fs rest)
    ∙ sym (sum_by-cons (λ (x : Bytes × Bytes). length x.1) f fs)
