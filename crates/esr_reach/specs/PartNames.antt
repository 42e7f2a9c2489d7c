-- The names of the parts of a file, one by one.
use Rattle.std.specs.Prelude.{◌≡◌, ℕ, zero, suc, ◌+◌, ◌-◌, ◌/◌, ◌<◌, ◌≤◌, Bool, true, false, leb, List, [], ◌∷◌, ◌++◌, length, take, if◌then◌else◌}
use Rattle.std.proofs.Common.{refl, sym, ap, ◌∙◌, subst, inl, inr, arith}
use Rattle.std.proofs.lemmas.Bool.{cases_Bool}
use Rattle.esr_names.specs.declared.blob.ShardId.{ShardId}
use Rattle.esr_names.specs.declared.blob.BlobName.TheVariants as code
use Rattle.esr_shardidx.specs.declared.entry.FileEntry.{FileEntry as CodeEntry}
use Rattle.esr_shardidx.specs.Parts.{part_name as code_part_name, part_count as code_part_count}
use Rattle.esr_formats.specs.Names.{name_of}
use Rattle.esr_formats.specs.Shards.{entry_of}
use Rattle.esr_model.specs.Names.{BlobName, File, Part}
use Rattle.esr_model.specs.Parts.{part_count, parts_from, part_names}

chosen : {A : Type 0} {b : Bool} (x y : A) → b ≡ true → (if b then x else y) ≡ x
chosen x y e = ap (λ (c : Bool). if c then x else y) e

passed : {A : Type 0} {b : Bool} (x y : A) → b ≡ false → (if b then x else y) ≡ y
passed x y e = ap (λ (c : Bool). if c then x else y) e

length-parts_from : (index shard file first n : ℕ) → length (parts_from index shard file first n) ≡ n
length-parts_from index shard file first zero = refl
length-parts_from index shard file first (suc n) = ap suc (length-parts_from index shard file (suc first) n)

from_next : (index shard file first n k : ℕ) → k < n → take (suc k) (parts_from index shard file first n) ≡ take k (parts_from index shard file first n) ++ Part index shard file (first + k) ∷ []
from_next index shard file first zero k less = absurd (omega arith)
from_next index shard file first (suc n) zero less = let same : first ≡ first + 0 = omega arith in ap (λ (m : ℕ). Part index shard file m ∷ []) same
from_next index shard file first (suc n) (suc k) less =
    let same : suc first + k ≡ first + suc k = omega arith in
    ap (λ (names : List BlobName). Part index shard file first ∷ names)
    (from_next index shard file (suc first) n k (omega arith) ∙ ap (λ (m : ℕ). take k (parts_from index shard file (suc first) n) ++ Part index shard file m ∷ []) same)

count_same : (len size : ℕ) → 1 ≤ size → code_part_count len size ≡ part_count len size
count_same len size some = let same : len + size - 1 ≡ len + (size - 1) = omega arith in ap (λ (n : ℕ). if leb len size then 1 else n / size) same

module _ (shard : ShardId) (e : CodeEntry) (some : 1 ≤ e.part_size) where
  abbrev names : List BlobName
  names = part_names shard.index.number shard.number (entry_of e)

  pub length-names : length (part_names shard.index.number shard.number (entry_of e)) ≡ code_part_count e.print.len e.part_size
  length-names = elim (cases_Bool (leb e.print.len e.part_size)) [
    | inl whole ↦ ap (λ (xs : List BlobName). length xs) (chosen _ _ whole) ∙ sym (chosen _ _ whole)
    | inr cut ↦
        ap (λ (xs : List BlobName). length xs) (passed (File shard.index.number shard.number e.name.number ∷ []) (parts_from shard.index.number shard.number e.name.number 0 (part_count e.print.len e.part_size)) cut)
        ∙ length-parts_from shard.index.number shard.number e.name.number 0 (part_count e.print.len e.part_size) ∙ sym (count_same e.print.len e.part_size some)
  ]

  -- the names up to the next part
  pub names_next : (k : ℕ) → k < code_part_count e.print.len e.part_size
      → take (k + 1) (part_names shard.index.number shard.number (entry_of e)) ≡ take k (part_names shard.index.number shard.number (entry_of e)) ++ name_of (code_part_name shard e k) ∷ []
  names_next k less = elim (cases_Bool (leb e.print.len e.part_size)) [
    | inl whole ↦ one k whole (subst (λ (n : ℕ). k < n) (chosen 1 ((e.print.len + e.part_size - 1) / e.part_size) whole) less)
    | inr cut ↦ many k cut (subst (λ (n : ℕ). k < n) (count_same e.print.len e.part_size some) less)
  ]
    where
      one : (k : ℕ) → leb e.print.len e.part_size ≡ true → k < 1
          → take (k + 1) (part_names shard.index.number shard.number (entry_of e)) ≡ take k (part_names shard.index.number shard.number (entry_of e)) ++ name_of (code_part_name shard e k) ∷ []
      one zero whole below = rw whole refl
      one (suc k) whole below = absurd (omega arith)

      many : (k : ℕ) → leb e.print.len e.part_size ≡ false → k < part_count e.print.len e.part_size
          → take (k + 1) (part_names shard.index.number shard.number (entry_of e)) ≡ take k (part_names shard.index.number shard.number (entry_of e)) ++ name_of (code_part_name shard e k) ∷ []
      many k cut below =
          let n = part_count e.print.len e.part_size in
          let all : part_names shard.index.number shard.number (entry_of e) ≡ parts_from shard.index.number shard.number e.name.number 0 n =
          passed (File shard.index.number shard.number e.name.number ∷ []) (parts_from shard.index.number shard.number e.name.number 0 n) cut in
          let name : name_of (code_part_name shard e k) ≡ Part shard.index.number shard.number e.name.number k = ap name_of (passed (code.Whole shard e.name) (code.Part shard e.name k) cut) in
          let number : 0 + k ≡ k = omega arith in
          let more : suc k ≡ k + 1 = omega arith in
          ap (take (k + 1)) all
          ∙ ap (λ (m : ℕ). take m (parts_from shard.index.number shard.number e.name.number 0 n)) (sym more)
          ∙ from_next shard.index.number shard.number e.name.number 0 n k below
          ∙ ap (λ (m : ℕ). take k (parts_from shard.index.number shard.number e.name.number 0 n) ++ Part shard.index.number shard.number e.name.number m ∷ []) number
          ∙ ap (λ (xs : List BlobName). take k xs ++ Part shard.index.number shard.number e.name.number k ∷ []) (sym all)
          ∙ ap (λ (x : BlobName). take k (part_names shard.index.number shard.number (entry_of e)) ++ x ∷ []) (sym name)
