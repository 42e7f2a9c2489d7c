-- How many parts a file has, and what they are.
use Rattle.std.proofs.Common.{◌≡◌, ℕ, zero, suc, ◌+◌, ◌*◌, ◌-◌, ◌/◌, ◌%◌, ◌<◌, ◌≤◌, ◌^◌, nat_lt, nat_le, Bool, true, false, cond, List, length, take, drop, refl, sym, ap, ◌∙◌, arith, inl, inr}
use Rattle.std.proofs.lemmas.Bool.{cases_Bool, lt-ltb, le-ltb, ltb-true, ltb-false, leb-true, leb-false}
use Rattle.std.proofs.lemmas.List.{length-drop, length-take, take_all}
use Rattle.std.proofs.Math.Seq.{take-add}
use Rattle.std.proofs.Math.Nat.{mul-le-mul_left}
use Rattle.esr_names.specs.Layout.{IsName}
use Rattle.esr_names.specs.declared.blob.ShardId.{ShardId}
use Rattle.esr_names.specs.declared.blob.BlobName.TheVariants.{Whole, Part}
use Rattle.esr_names.specs.declared.ids.Id.{Id}
use Rattle.esr_shardidx.specs.declared.entry.FileEntry.{FileEntry}
use Rattle.esr_shardidx.specs.Entries.{IsEntry}
use Rattle.esr_shardidx.specs.Parts.{part_count, part_name, part_len, len_of_parts, pieces, parts_of, join, IsCut}

-- there are m + 1 parts, and the first m of them are full
pub record Counted (len size m : ℕ) : Type 0 where
  pub is : part_count len size ≡ suc m
  pub low : m * size ≤ len
  pub high : len ≤ m * size + size
  pub more : 0 < m → m * size < len

quotient : (len size q r : ℕ) → size * q + r ≡ len + size - 1 → r < size → size < len → (m : ℕ) × (q ≡ suc m) × (m * size < len) × (len ≤ m * size + size)
quotient len size zero r is small long = absurd (omega arith)
quotient len size (suc m) r is small long = (m, refl, omega arith, omega arith)

pub counted : (len size : ℕ) → 1 ≤ size → (m : ℕ) × Counted len size m
counted len size some = elim (cases_Bool (nat_le len size)) [
  | inl fits ↦
      let short : len ≤ size = leb-true len size fits in
      (0, record { is = rw fits refl; low = omega arith; high = omega (arith, short); more = λ none. absurd (omega arith) })
  | inr longer ↦
      let long : size < len = leb-false len size longer in
      let small : (len + size - 1) % size < size = omega (arith, some) in
      let whole : size * ((len + size - 1) / size) + (len + size - 1) % size ≡ len + size - 1 = omega (arith, some) in
      let q = quotient len size ((len + size - 1) / size) ((len + size - 1) % size) whole small long in
      (q.0, record { is = rw longer q.1; low = omega (arith, q.2); high = q.3; more = λ some. q.2 })
]

-- ---- lengths

part_len-full : (len size k : ℕ) → k * size + size < len → part_len len size k ≡ size
part_len-full len size k more = rw (lt-ltb (k * size + size) len more) refl

below_last : (len size m k : ℕ) → Counted len size m → k < m → k * size + size < len
below_last len size m k c less =
    let up : size * (k + 1) ≤ size * m = mul-le-mul_left size (omega arith) in
    omega (arith, up, c.more (omega arith))

pub all_full : (len size k : ℕ) → 1 ≤ size → k + 1 < part_count len size → part_len len size k ≡ size
all_full len size k some less =
    let c = counted len size some in
    part_len-full len size k (below_last len size c.0 k c.1 (omega (arith, c.1.is, less)))

front_len : (len size m n : ℕ) → Counted len size m → n ≤ m → len_of_parts len size n ≡ n * size
front_len len size m zero c within = let none : 0 * size ≡ 0 = omega arith in sym none
front_len len size m (suc n) c within =
    rw (front_len len size m n c (omega arith), part_len-full len size n (below_last len size m n c (omega arith))) (omega arith)

pub whole_len : (len size : ℕ) → 1 ≤ size → len_of_parts len size (part_count len size) ≡ len
whole_len len size some =
    let c = counted len size some in
    let last : nat_lt (c.0 * size + size) len ≡ false = le-ltb (c.0 * size + size) len c.1.high in
    rw (c.1.is, front_len len size c.0 c.0 c.1 (omega arith), last) (omega (arith, c.1.low))

-- ---- pieces

join-pieces : (size n : ℕ) (bytes : List ℕ) → join (pieces size n bytes) ≡ take (n * size) bytes
join-pieces size zero bytes = let none : 0 * size ≡ 0 = omega arith in rw none refl
join-pieces size (suc n) bytes =
    let sum : suc n * size ≡ size + n * size = omega arith in
    rw (join-pieces size n (drop size bytes), sum) (sym (take-add size (n * size) bytes))

pub joined : (size : ℕ) (bytes : List ℕ) → 1 ≤ size → join (parts_of size bytes) ≡ bytes
joined size bytes some =
    let c = counted (length bytes) size some in
    let all : length bytes ≤ suc c.0 * size = omega (arith, c.1.high) in
    rw c.1.is (join-pieces size (suc c.0) bytes ∙ take_all (suc c.0 * size) bytes all)

length-pieces : (size n : ℕ) (bytes : List ℕ) → length (pieces size n bytes) ≡ n
length-pieces size zero bytes = refl
length-pieces size (suc n) bytes = ap suc (length-pieces size n (drop size bytes))

pub length-parts_of : (size : ℕ) (bytes : List ℕ) → length (parts_of size bytes) ≡ part_count (length bytes) size
length-parts_of size bytes = length-pieces size (part_count (length bytes) size) bytes

is_cut : (size m : ℕ) (bytes : List ℕ) → (0 < m → m * size < length bytes) → IsCut size (pieces size (suc m) bytes)
is_cut size zero bytes more = omega (arith, length-take size bytes)
is_cut size (suc m) bytes more =
    let room : suc m * size < length bytes = more (omega arith) in
    let rest = length-drop size bytes in
    (omega (arith, length-take size bytes, room), is_cut size m (drop size bytes) (λ some. omega (arith, room, rest)))

pub cut : (size : ℕ) (bytes : List ℕ) → 1 ≤ size → IsCut size (parts_of size bytes)
cut size bytes some =
    let c = counted (length bytes) size some in
    rw c.1.is (is_cut size c.0 bytes c.1.more)

-- ---- names

same_number : (t : Bool) (s : ShardId) (u : Id) (j k n : ℕ) → (t ≡ true → n ≡ 1) → j < n → k < n → cond t (Whole s u) (Part s u j) ≡ cond t (Whole s u) (Part s u k) → j ≡ k
same_number true s u j k n one first second same = omega (arith, one refl)
same_number false s u j k n one first second same = cc

pub number_told : (s : ShardId) (e : FileEntry) (j k : ℕ) → j < part_count e.print.len e.part_size → k < part_count e.print.len e.part_size → part_name s e j ≡ part_name s e k → j ≡ k
number_told s e j k first second same =
    same_number (nat_le e.print.len e.part_size) s e.name j k (part_count e.print.len e.part_size) (λ fits. rw fits refl) first second same

same_file : (t u : Bool) (s r : ShardId) (x y : Id) (j k : ℕ) → cond t (Whole s x) (Part s x j) ≡ cond u (Whole r y) (Part r y k) → x ≡ y
same_file true true s r x y j k same = cc
same_file false true s r x y j k same = cc
same_file t u s r x y j k same = cc

pub file_told : (s r : ShardId) (e f : FileEntry) (j k : ℕ) → part_name s e j ≡ part_name r f k → e.name ≡ f.name
file_told s r e f j k same = same_file (nat_le e.print.len e.part_size) (nat_le f.print.len f.part_size) s r e.name f.name j k same

name_in : (t : Bool) (s : ShardId) (u : Id) (k : ℕ) → s.number < 1024 → k < 2 ^ 61 → IsName (cond t (Whole s u) (Part s u k))
unfolding IsName
name_in true s u k small few = small
name_in false s u k small few = (small, few)

few_parts : (len size : ℕ) → 1 ≤ size → len < 2 ^ 60 → part_count len size ≤ 2 ^ 60
few_parts len size some short =
    let c = counted len size some in
    let up : c.0 * 1 ≤ c.0 * size = mul-le-mul_left c.0 some in
    elim (cases_Bool (nat_lt 0 c.0)) [
      | inl more ↦ let low : c.0 * size < len = c.1.more (ltb-true 0 c.0 more) in omega (arith, c.1.is, up, low)
      | inr none ↦ let zero_is : c.0 ≤ 0 = ltb-false 0 c.0 none in omega (arith, c.1.is, zero_is)
    ]

pub name_is : (s : ShardId) (e : FileEntry) (k : ℕ) → s.number < 1024 → IsEntry e → k < part_count e.print.len e.part_size → IsName (part_name s e k)
name_is s e k small is less =
    let few : part_count e.print.len e.part_size ≤ 2 ^ 60 = few_parts e.print.len e.part_size is.least is.short in
    name_in (nat_le e.print.len e.part_size) s e.name k small (omega (arith, few))
