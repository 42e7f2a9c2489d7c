-- The first entry that fits, as the definitions find it.
use Rattle.std.proofs.Common.{◌≡◌, ℕ, Bool, true, false, ◌&&◌, ◌==◌, List, [], ◌∷◌, ◌++◌, find, map, Option, Some, None, option_map, if◌then◌else◌, refl, sym, ◌∙◌, ap, subst, inl, inr}
use Rattle.std.specs.List.{AllByRecursion}
use Rattle.std.specs.Str.{bytes_eq}
use Rattle.std.proofs.lemmas.Bool.{cases_Bool}
use Rattle.std.proofs.lemmas.List.{map-append}
use Rattle.std.proofs.lemmas.Map.Text.{is_eq-slice_cmp}
use Rattle.esr_hash.specs.declared.print.Print.{Print}
use Rattle.esr_shardidx.specs.declared.entry.FileEntry.{FileEntry as CodeEntry}
use Rattle.esr_shardidx.specs.Indices.{is_same}
use Rattle.esr_model.specs.Values.{Bytes, FileEntry}
use Rattle.esr_model.specs.Uploads.{same_bytes, matches, reused}
use Rattle.esr_formats.specs.Shards.{entry_of}
use Rattle.esr_reuse.specs.declared.reuse.ReadFile.{ReadFile}
use Rattle.esr_reuse.specs.declared.reuse.Planned.{Planned}
use Rattle.esr_reuse.specs.Plans.{file_read, file_planned, Reuses, IsPlan}

same_bytes-is : (a b : Bytes) → same_bytes a b ≡ bytes_eq a b
same_bytes-is a b = is_eq-slice_cmp a b

matches-is : (e : CodeEntry) (physical : Bytes) (p : Print) → matches (entry_of e) physical p.len p.sha256 ≡ is_same physical p e
matches-is e physical p = rw (same_bytes-is e.physical physical, same_bytes-is e.print.sha256 p.sha256) refl

pub reused-is : (es : List CodeEntry) (physical : Bytes) (p : Print) → option_map entry_of (find (is_same physical p) es) ≡ reused (map entry_of es) physical p.len p.sha256
reused-is [] physical p = refl
reused-is (e ∷ es) physical p =
    let m = matches-is e physical p in
    elim (cases_Bool (is_same physical p e)) [
      | inl same ↦ (let t = m ∙ same in rw (t, same) refl)
      | inr other ↦ (let t = m ∙ other in rw (t, other) (reused-is es physical p))
    ]

-- one more file and its plan
pub plan_more : (base : List FileEntry) (files : List ReadFile) (plans : List Planned) (f : ReadFile) (p : Planned) → IsPlan base files plans → p.physical ≡ f.physical → p.print ≡ f.print
    → option_map entry_of p.reused ≡ reused base f.physical f.print.len f.print.sha256
    → IsPlan base (files ++ f ∷ []) (plans ++ p ∷ [])
plan_more base files plans f p was name print reuses =
    let own : Reuses base p = reuses ∙ sym (ap (λ (n : Bytes). reused base n f.print.len f.print.sha256) name) ∙ sym (ap (λ (q : Print). reused base p.physical q.len q.sha256) print) in
    record {
      named = map-append file_planned plans (p ∷ []) ∙ ap (λ (l : List (Bytes × Print)). l ++ file_planned p ∷ []) was.named
          ∙ ap (λ (n : Bytes). map file_read files ++ (n, p.print) ∷ []) name ∙ ap (λ (q : Print). map file_read files ++ (f.physical, q) ∷ []) print ∙ sym (map-append file_read files (f ∷ []));
      each = push own plans was.each;
    }
  where
    push : Reuses base p → (ps : List Planned) → AllByRecursion (Reuses base) ps → AllByRecursion (Reuses base) (ps ++ p ∷ [])
    push own [] h = (own, tt)
    push own (q ∷ ps) h = (h.0, push own ps h.1)
