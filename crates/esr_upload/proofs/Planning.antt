-- Planned files, one more at a time.
use Rattle.std.proofs.Common.{◌≡◌, ℕ, zero, suc, ◌+◌, ◌<◌, ◌≤◌, List, [], ◌∷◌, ◌++◌, length, take, slice_index_or, Option, Some, None, refl, sym, ◌∙◌, ap, arith, append_assoc, append-nil}
use Rattle.std.proofs.lemmas.List.{take_more}
use Rattle.esr_model.specs.Names.{BlobName}
use Rattle.esr_model.specs.Values.{Bytes}
use Rattle.esr_shardidx.specs.declared.entry.FileEntry.{FileEntry as CodeEntry}
use Rattle.esr_reuse.specs.declared.reuse.Planned.{Planned}
use Rattle.esr_upload.specs.Entries.{is_new, new_count, entry_at, entries_at, blobs_at, all_blobs}

pub new_le : (r : Option CodeEntry) → is_new r ≤ 1
new_le None = omega arith
new_le (Some e) = omega arith

pub count_more : (ps : List Planned) (p : Planned) → new_count (ps ++ p ∷ []) ≡ new_count ps + is_new p.reused
count_more [] p = omega arith
count_more (q ∷ ps) p = omega (arith, count_more ps p)

pub count_le : (ps : List Planned) → new_count ps ≤ length ps
count_le [] = omega arith
count_le (p ∷ ps) = omega (arith, new_le p.reused, count_le ps)

-- the next of the files, at this place
pub take_next : (ps : List Planned) (i : ℕ) (p : Planned) → i < length ps → p ≡ slice_index_or ps i p → take (i + 1) ps ≡ take i ps ++ p ∷ []
take_next ps i p lt is = take_more ps i p lt ∙ ap (λ (q : Planned). take i ps ++ q ∷ []) (sym is)

pub count_next : (ps : List Planned) (i : ℕ) (p : Planned) → i < length ps → p ≡ slice_index_or ps i p → new_count (take (i + 1) ps) ≡ new_count (take i ps) + is_new p.reused
count_next ps i p lt is = ap new_count (take_next ps i p lt is) ∙ count_more (take i ps) p

pub count_front : (ps : List Planned) (i : ℕ) (p : Planned) → i < length ps → p ≡ slice_index_or ps i p → new_count (take i ps) + is_new p.reused ≤ new_count ps
count_front [] i d lt is = absurd (omega arith)
count_front (p ∷ ps) zero d lt is = let same = ap (λ (q : Planned). is_new q.reused) is in omega (arith, same)
count_front (p ∷ ps) (suc i) d lt is = omega (arith, count_front ps i d (omega arith) is)

pub entries_more : (size next : ℕ) (ps : List Planned) (p : Planned) → entries_at size next (ps ++ p ∷ []) ≡ entries_at size next ps ++ entry_at size (next + new_count ps) p p.reused ∷ []
entries_more size next [] p =
    let z : next + 0 ≡ next = omega arith in
    rw z refl
entries_more size next (q ∷ ps) p =
    let a : next + is_new q.reused + new_count ps ≡ next + (is_new q.reused + new_count ps) = omega arith in
    ap (λ (l : List CodeEntry). entry_at size next q q.reused ∷ l) (rw a at (entries_more size (next + is_new q.reused) ps p))

pub blobs_more : (index number size next : ℕ) (ps : List Planned) (p : Planned) (fs : List (Bytes × Bytes)) (f : Bytes × Bytes) → length ps ≡ length fs
    → all_blobs index number size next (ps ++ p ∷ []) (fs ++ f ∷ []) ≡ all_blobs index number size next ps fs ++ blobs_at index number (entry_at size (next + new_count ps) p p.reused) f.1 p.reused
blobs_more index number size next [] p [] f h =
    let z : next + 0 ≡ next = omega arith in
    rw z (append-nil _)
blobs_more index number size next [] p (g ∷ fs) f h = absurd (omega (arith, h))
blobs_more index number size next (q ∷ ps) p [] f h = absurd (omega (arith, h))
blobs_more index number size next (q ∷ ps) p (g ∷ fs) f h =
    let a : next + is_new q.reused + new_count ps ≡ next + (is_new q.reused + new_count ps) = omega arith in
    let here = blobs_at index number (entry_at size next q q.reused) g.1 q.reused in
    let h' : length ps ≡ length fs = omega (arith, h) in
    let more = rw a at (blobs_more index number size (next + is_new q.reused) ps p fs f h') in
    ap (λ (l : List (BlobName × Bytes)). here ++ l) more
    ∙ sym (append_assoc here (all_blobs index number size (next + is_new q.reused) ps fs) (blobs_at index number (entry_at size (next + (is_new q.reused + new_count ps)) p p.reused) f.1 p.reused))
