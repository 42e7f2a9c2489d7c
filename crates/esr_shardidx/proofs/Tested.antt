-- Entries that were tested one after another.
use Rattle.std.proofs.Common.{◌≡◌, ℕ, ◌+◌, ◌<◌, ◌^◌, nat_lt, nat_le, not, true, List, [], ◌∷◌, ◌++◌, length, take, drop, get_or, refl, sym, ap, ◌∙◌, subst}
use Rattle.std.specs.List.{list_any}
use Rattle.std.proofs.lemmas.Bool.{ltb-true, leb-true, not-true, and_parts}
use Rattle.std.proofs.lemmas.List.{take_more, drop_more}
use Rattle.esr_shardidx.specs.declared.entry.FileEntry.{FileEntry}
use Rattle.esr_shardidx.specs.Entries.{last_of, name_stays, IsTyped, is_sized}
use Rattle.esr_shardidx.specs.Snapshots.{has_name, follows, are_snap_files, AreSnapFiles}
use Rattle.esr_shardidx.proofs.SnapTexts.{AreSnapFiles-push}

follows-is : (before : List FileEntry) (e : FileEntry) → follows before e ≡ true → IsTyped e → AreSnapFiles before (e ∷ [])
follows-is before e h typed =
    let parts = and_parts (is_sized e) _ h in
    let order = and_parts (not (name_stays (last_of before) e.physical)) _ parts.1 in
    let short = and_parts (nat_lt e.print.len (2 ^ 60)) _ parts.0 in
    let sized = and_parts (nat_le 1 e.part_size) _ short.1 in (
      record { typed = typed; short = ltb-true e.print.len (2 ^ 60) short.0; least = leb-true 1 e.part_size sized.0; most = leb-true e.part_size (2 ^ 30) sized.1 },
      not-true (name_stays (last_of before) e.physical) order.0,
      not-true (list_any (has_name e.name) before) order.1,
      tt,
    )

-- one more entry that was tested
pub tested_more : (files : List FileEntry) (i : ℕ) (e : FileEntry) → i < length files → e ≡ get_or files i e → follows (take i files) e ≡ true → IsTyped e
    → are_snap_files [] files ≡ are_snap_files (take i files) (drop i files) → AreSnapFiles [] (take i files)
    → (are_snap_files [] files ≡ are_snap_files (take (i + 1) files) (drop (i + 1) files)) × AreSnapFiles [] (take (i + 1) files)
tested_more files i e within is test typed same whole =
    let front : take (i + 1) files ≡ take i files ++ e ∷ [] = take_more files i e within ∙ ap (λ (x : FileEntry). take i files ++ x ∷ []) (sym is) in
    let back : drop i files ≡ e ∷ drop (i + 1) files = drop_more files i e within ∙ ap (λ (x : FileEntry). x ∷ drop (i + 1) files) (sym is) in
    let step : are_snap_files (take i files) (e ∷ drop (i + 1) files) ≡ are_snap_files (take i files ++ e ∷ []) (drop (i + 1) files) = rw test refl in (
      same ∙ ap (are_snap_files (take i files)) back ∙ step ∙ ap (λ (xs : List FileEntry). are_snap_files xs (drop (i + 1) files)) (sym front),
      subst (λ (xs : List FileEntry). AreSnapFiles [] xs) (sym front) (AreSnapFiles-push [] (take i files) e whole (follows-is (take i files) e test typed)),
    )
