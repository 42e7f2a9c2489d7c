-- The parts of a file by their numbers, each with its stated length.
use Rattle.std.proofs.Common.{◌≡◌, inl, inr, ℕ, zero, suc, ◌+◌, ◌-◌, ◌*◌, ◌/◌, ◌%◌, ◌<◌, ◌≤◌, ◌^◌, min, nat_le, Bool, true, false, List, [], ◌∷◌, ◌++◌, refl, sym, ap, ◌∙◌, subst, arith, add-one, if◌then◌else◌}
use Rattle.std.proofs.lemmas.Bool.{cases_Bool, leb-true, leb-false}
use Rattle.std.proofs.Math.Nat.{le-mul_of_pos_right}
use Rattle.esr_names.specs.declared.blob.BlobName.TheVariants as code
use Rattle.esr_names.specs.declared.blob.ShardId.{ShardId}
use Rattle.esr_names.specs.Layout.{IsName}
use Rattle.esr_model.specs.Names.{BlobName, File, Part}
use Rattle.esr_model.specs.Values.{Has}
use Rattle.esr_model.specs.Parts.{part_count, parts_from, part_names}
use Rattle.esr_core.specs.Restores.{IsPiece}
use Rattle.esr_shardidx.specs.declared.entry.FileEntry.{FileEntry as CodeEntry}
use Rattle.esr_shardidx.specs.Parts.{part_name, part_count as code_count}
use Rattle.esr_formats.specs.Names.{name_of}
use Rattle.esr_formats.specs.Shards.{entry_of}
use Rattle.esr_desk.specs.Restore.Parts.{sized, sized_parts}

-- the name of the part of that number
abbrev pub blob_name : ShardId → CodeEntry → ℕ → BlobName
blob_name at e k = name_of (part_name at e k)

-- the length of the part of that number
abbrev pub size_of : ℕ → ℕ → ℕ → ℕ
size_of len size k = min size (len - k * size)

-- n parts from number j on
unfoldable pub sizes : (ℕ → BlobName) → ℕ → ℕ → ℕ → ℕ → List (BlobName × ℕ)
sizes name len size j zero = []
sizes name len size j (suc n) = (name j, size_of len size j) ∷ sizes name len size (suc j) n

-- ---- one part more

sizes_more : (name : ℕ → BlobName) (len size j n : ℕ) → sizes name len size j (suc n) ≡ sizes name len size j n ++ (name (j + n), size_of len size (j + n)) ∷ []
unfolding sizes
sizes_more name len size j zero = let number : j + 0 ≡ j = omega arith in rw number refl
sizes_more name len size j (suc n) =
    let number : suc j + n ≡ j + suc n = omega arith in
    let more : sizes name len size (suc j) (suc n) ≡ sizes name len size (suc j) n ++ (name (j + suc n), size_of len size (j + suc n)) ∷ [] = rw number at (sizes_more name len size (suc j) n) in
    ap (λ (l : List (BlobName × ℕ)). (name j, size_of len size j) ∷ l) more

pub sizes_next : (name : ℕ → BlobName) (len size k : ℕ) → sizes name len size 0 (k + 1) ≡ sizes name len size 0 k ++ (name k, size_of len size k) ∷ []
sizes_next name len size k =
    let start : 0 + k ≡ k = omega arith in
    rw add-one (rw start at (sizes_more name len size 0 k))

-- ---- all parts

sized_from : (i n x len size j m : ℕ) → (j + m) * size < len → len ≤ (j + suc m) * size → sized (len - j * size) size (parts_from i n x j (suc m)) ≡ sizes (λ p. Part i n x p) len size j (suc m)
unfolding sizes
sized_from i n x len size j zero low within =
    let one : (j + suc zero) * size ≡ j * size + size = omega arith in
    let last : len - j * size ≡ size_of len size j = omega (arith, one, within) in
    ap (λ (l : ℕ). (Part i n x j, l) ∷ []) last
sized_from i n x len size j (suc m) low within =
    let front : (j + suc m) * size ≡ j * size + suc m * size = omega arith in
    let some : suc m * size ≡ m * size + size = omega arith in
    let full : size ≡ size_of len size j = omega (arith, front, some, low) in
    let number : suc j + m ≡ j + suc m = omega arith in
    let number_next : suc j + suc m ≡ j + suc (suc m) = omega arith in
    let next : suc j * size ≡ j * size + size = omega arith in
    let left : len - j * size - size ≡ len - suc j * size = omega (arith, next) in
    let low_next : (suc j + m) * size < len = rw number low in
    let within_next : len ≤ (suc j + suc m) * size = rw number_next within in
    let rest : sized (len - j * size - size) size (parts_from i n x (suc j) (suc m)) ≡ sizes (λ p. Part i n x p) len size (suc j) (suc m) = rw left (sized_from i n x len size (suc j) m low_next within_next) in
    ap (λ (l : ℕ). (Part i n x j, l) ∷ sized (len - j * size - size) size (parts_from i n x (suc j) (suc m))) full
    ∙ ap (λ (l : List (BlobName × ℕ)). (Part i n x j, size_of len size j) ∷ l) rest

-- a file of more parts than one
quotient : (len size q r : ℕ) → size * q + r ≡ len + (size - 1) → r < size → size < len → (m : ℕ) × (q ≡ suc m) × (len ≤ suc m * size) × (m * size < len)
quotient len size zero r is small long = absurd (omega arith)
quotient len size (suc m) r is small long = (m, refl, omega arith, omega arith)

several : (len size : ℕ) → 1 ≤ size → size < len → (m : ℕ) × ((len + (size - 1)) / size ≡ suc m) × (len ≤ suc m * size) × (m * size < len)
several len size some long =
    let small : (len + (size - 1)) % size < size = omega (arith, some) in
    let all : size * ((len + (size - 1)) / size) + (len + (size - 1)) % size ≡ len + (size - 1) = omega (arith, some) in
    quotient len size ((len + (size - 1)) / size) ((len + (size - 1)) % size) all small long

-- both count alike
pub same_count : (len size : ℕ) → 1 ≤ size → code_count len size ≡ part_count len size
same_count len size some =
    let sum : len + size - 1 ≡ len + (size - 1) = omega (arith, some) in
    ap (λ (n : ℕ). if nat_le len size then 1 else n / size) sum

-- the parts of a file, by whether it fits into one
abbrev AreSized : ShardId → CodeEntry → ℕ → Bool → Type 0
AreSized at e q b =
    sized e.print.len e.part_size (if b then File at.index.number at.number e.name.number ∷ [] else parts_from at.index.number at.number e.name.number 0 (if b then 1 else q))
    ≡ sizes (λ k. name_of (if b then code.Whole at e.name else code.Part at e.name k)) e.print.len e.part_size 0 (if b then 1 else q)

one_sized : (at : ShardId) (e : CodeEntry) (q : ℕ) → e.print.len ≤ e.part_size → AreSized at e q true
unfolding sizes
one_sized at e q short =
    let all : e.print.len ≡ size_of e.print.len e.part_size 0 = omega (arith, short) in
    ap (λ (l : ℕ). (File at.index.number at.number e.name.number, l) ∷ []) all

more_sized : (at : ShardId) (e : CodeEntry) (q m : ℕ) → q ≡ suc m → m * e.part_size < e.print.len → e.print.len ≤ suc m * e.part_size → AreSized at e q false
more_sized at e q m is low within =
    let none : e.print.len - 0 * e.part_size ≡ e.print.len = omega arith in
    let first : (0 + m) * e.part_size < e.print.len = omega (arith, low) in
    let last : e.print.len ≤ (0 + suc m) * e.part_size = omega (arith, within) in
    let all : sized e.print.len e.part_size (parts_from at.index.number at.number e.name.number 0 (suc m)) ≡ sizes (λ p. Part at.index.number at.number e.name.number p) e.print.len e.part_size 0 (suc m) =
    subst (λ (l : ℕ). sized l e.part_size (parts_from at.index.number at.number e.name.number 0 (suc m)) ≡ sizes (λ p. Part at.index.number at.number e.name.number p) e.print.len e.part_size 0 (suc m)) none
    (sized_from at.index.number at.number e.name.number e.print.len e.part_size 0 m first last) in
    subst (λ (n : ℕ). AreSized at e n false) (sym is) all

sizes_model : (at : ShardId) (e : CodeEntry) → 1 ≤ e.part_size → sized_parts at.index.number at.number (entry_of e) ≡ sizes (blob_name at e) e.print.len e.part_size 0 (part_count e.print.len e.part_size)
sizes_model at e some = elim (cases_Bool (nat_le e.print.len e.part_size)) [
  | inl fits ↦ subst (AreSized at e ((e.print.len + (e.part_size - 1)) / e.part_size)) (sym fits) (one_sized at e ((e.print.len + (e.part_size - 1)) / e.part_size) (leb-true e.print.len e.part_size fits))
  | inr longer ↦
      let m = several e.print.len e.part_size some (leb-false e.print.len e.part_size longer) in
      subst (AreSized at e ((e.print.len + (e.part_size - 1)) / e.part_size)) (sym longer) (more_sized at e ((e.print.len + (e.part_size - 1)) / e.part_size) m.0 m.1 m.3 m.2)
]

pub sizes_all : (at : ShardId) (e : CodeEntry) (n : ℕ) → 1 ≤ e.part_size → n ≡ code_count e.print.len e.part_size → sized_parts at.index.number at.number (entry_of e) ≡ sizes (blob_name at e) e.print.len e.part_size 0 n
sizes_all at e n some is = sizes_model at e some ∙ ap (λ (k : ℕ). sizes (blob_name at e) e.print.len e.part_size 0 k) (sym (is ∙ same_count e.print.len e.part_size some))

-- ---- the names

parts_has : (i n x j m d : ℕ) → d < m → Has (parts_from i n x j m) (Part i n x (j + d))
parts_has i n x j zero d less = absurd (omega (arith, less))
parts_has i n x j (suc m) zero less = let number : j ≡ j + 0 = omega arith in inl (ap (λ (p : ℕ). Part i n x p) number)
parts_has i n x j (suc m) (suc d) less =
    let number : suc j + d ≡ j + suc d = omega arith in
    let fewer : d < m = omega (arith, less) in
    inr (subst (λ (p : ℕ). Has (parts_from i n x (suc j) m) (Part i n x p)) number (parts_has i n x (suc j) m d fewer))

pub part_listed : (at : ShardId) (e : CodeEntry) (k : ℕ) → k < part_count e.print.len e.part_size → Has (part_names at.index.number at.number (entry_of e)) (blob_name at e k)
part_listed at e k =
    let q : ℕ = (e.print.len + (e.part_size - 1)) / e.part_size in
    elim (nat_le e.print.len e.part_size) as
    (λ b. k < (if b then 1 else q) → Has (if b then File at.index.number at.number e.name.number ∷ [] else parts_from at.index.number at.number e.name.number 0 (if b then 1 else q))
    (name_of (if b then code.Whole at e.name else code.Part at e.name k))) [
      | true ↦ λ (one : k < 1). inl refl
      | false ↦ λ within. let start : 0 + k ≡ k = omega arith in
          subst (λ (p : ℕ). Has (parts_from at.index.number at.number e.name.number 0 q) (Part at.index.number at.number e.name.number p)) start (parts_has at.index.number at.number e.name.number 0 q k within)
    ]

pub part_piece : (at : ShardId) (e : CodeEntry) (k : ℕ) → IsPiece at.index.number at.number (blob_name at e k)
part_piece at e k = elim (nat_le e.print.len e.part_size) as (λ b. IsPiece at.index.number at.number (name_of (if b then code.Whole at e.name else code.Part at e.name k))) [
  | true ↦ (refl, refl)
  | false ↦ (refl, refl)
]

pub part_layout : (at : ShardId) (e : CodeEntry) (k : ℕ) → at.number < 1024 → k < 2 ^ 61 → IsName (part_name at e k)
unfolding IsName
part_layout at e k few low = elim (nat_le e.print.len e.part_size) as (λ b. IsName (if b then code.Whole at e.name else code.Part at e.name k)) [
  | true ↦ few
  | false ↦ (few, low)
]

-- there are at most as many parts as bytes, and one of none
many : (len size m q : ℕ) → q ≡ suc m → 1 ≤ size → m * size < len → q ≤ len
many len size m q is some low =
    let less : m ≤ m * size = le-mul_of_pos_right m some in
    omega (arith, is, low, less)

pub few_parts : (len size : ℕ) → 1 ≤ size → code_count len size ≤ len + 1
few_parts len size some = rw (same_count len size some) (elim (cases_Bool (nat_le len size)) [
  | inl fits ↦ rw fits (omega arith)
  | inr longer ↦
      let m = several len size some (leb-false len size longer) in
      let le : (len + (size - 1)) / size ≤ len = many len size m.0 ((len + (size - 1)) / size) m.1 some m.3 in
      rw longer (omega (arith, le))
])

-- with the length below 2^60 what is fed stays below 2^61
pub fed_bound : (len size k n fed here : ℕ) → 1 ≤ size → len < 2 ^ 60 → n ≡ code_count len size → k < n → fed ≤ min (k * size) len + k → here ≡ size_of len size k → fed + here + 1 < 2 ^ 61
fed_bound len size k n fed here some short count less bound is =
    let most : n ≤ len + 1 = rw count (few_parts len size some) in
    omega (arith, most, short, less, bound, is)
