-- The parts of a file, one after another.
use Rattle.std.proofs.Common.{◌≡◌, ℕ, zero, suc, ◌+◌, ◌-◌, ◌/◌, ◌<◌, ◌≤◌, Bool, true, false, leb, List, [], ◌∷◌, ◌++◌, length, map, take, get_or, if◌then◌else◌, refl, sym, ap, ◌∙◌, subst, inl, inr, arith, append_assoc}
use Rattle.std.specs.List.{AllByRecursion}
use Rattle.std.proofs.lemmas.Bool.{cases_Bool}
use Rattle.std.proofs.lemmas.List.{append-nil, map-append, take_all, take_more, same_from_push}
use Rattle.esr_names.specs.declared.blob.ShardId.{ShardId}
use Rattle.esr_names.specs.declared.blob.BlobName.{BlobName as CodeName}
use Rattle.esr_names.specs.declared.blob.BlobName.TheVariants as code
use Rattle.esr_shardidx.specs.declared.entry.FileEntry.{FileEntry as CodeEntry}
use Rattle.esr_shardidx.specs.Parts.{part_name as code_part_name, part_count as code_part_count}
use Rattle.esr_formats.specs.Names.{name_of}
use Rattle.esr_formats.specs.Shards.{entry_of}
use Rattle.esr_model.specs.Names.{BlobName, File, Part}
use Rattle.esr_model.specs.Values.{Bytes, FileEntry}
use Rattle.esr_model.specs.Parts.{part_count, parts_from, part_names, AreFull}
use Rattle.esr_model.specs.Image.{AllPairs, IsOne, concat}
use Rattle.esr_model.specs.Lists.{AllPairs-snoc, pairs_length, pairs_one}
use Rattle.esr_plain.specs.Joined.{IsJoined}

-- ---- the names of parts, one by one

chosen : {A : Type 0} {b : Bool} (x y : A) → b ≡ true → (if b then x else y) ≡ x
chosen x y e = ap (λ (c : Bool). if c then x else y) e

passed : {A : Type 0} {b : Bool} (x y : A) → b ≡ false → (if b then x else y) ≡ y
passed x y e = ap (λ (c : Bool). if c then x else y) e

length-parts_from : (index shard file first n : ℕ) → length (parts_from index shard file first n) ≡ n
length-parts_from index shard file first zero = refl
length-parts_from index shard file first (suc n) = ap suc (length-parts_from index shard file (suc first) n)

from_next : (index shard file first n k : ℕ) → k < n → take (suc k) (parts_from index shard file first n) ≡ take k (parts_from index shard file first n) ++ Part index shard file (first + k) ∷ []
from_next index shard file first zero k less = absurd (omega arith)
from_next index shard file first (suc n) zero less = let same : first ≡ first + 0 = omega arith in ap (λ (m : ℕ). Part index shard file m ∷ []) same
from_next index shard file first (suc n) (suc k) less =
    let same : suc first + k ≡ first + suc k = omega arith in
    ap (λ (names : List BlobName). Part index shard file first ∷ names)
    (from_next index shard file (suc first) n k (omega arith) ∙ ap (λ (m : ℕ). take k (parts_from index shard file (suc first) n) ++ Part index shard file m ∷ []) same)

count_same : (len size : ℕ) → 1 ≤ size → code_part_count len size ≡ part_count len size
count_same len size some = let same : len + size - 1 ≡ len + (size - 1) = omega arith in ap (λ (n : ℕ). if leb len size then 1 else n / size) same

module _ (shard : ShardId) (e : CodeEntry) (some : 1 ≤ e.part_size) where
  abbrev names : List BlobName
  names = part_names shard.index.number shard.number (entry_of e)

  pub length-names : length (part_names shard.index.number shard.number (entry_of e)) ≡ code_part_count e.print.len e.part_size
  length-names = elim (cases_Bool (leb e.print.len e.part_size)) [
    | inl whole ↦ ap (λ (xs : List BlobName). length xs) (chosen _ _ whole) ∙ sym (chosen _ _ whole)
    | inr cut ↦
        ap (λ (xs : List BlobName). length xs) (passed (File shard.index.number shard.number e.name.number ∷ []) (parts_from shard.index.number shard.number e.name.number 0 (part_count e.print.len e.part_size)) cut)
        ∙ length-parts_from shard.index.number shard.number e.name.number 0 (part_count e.print.len e.part_size) ∙ sym (count_same e.print.len e.part_size some)
  ]

  -- the names up to the next part
  pub names_next : (k : ℕ) → k < code_part_count e.print.len e.part_size
      → take (k + 1) (part_names shard.index.number shard.number (entry_of e)) ≡ take k (part_names shard.index.number shard.number (entry_of e)) ++ name_of (code_part_name shard e k) ∷ []
  names_next k less = elim (cases_Bool (leb e.print.len e.part_size)) [
    | inl whole ↦ one k whole (subst (λ (n : ℕ). k < n) (chosen 1 ((e.print.len + e.part_size - 1) / e.part_size) whole) less)
    | inr cut ↦ many k cut (subst (λ (n : ℕ). k < n) (count_same e.print.len e.part_size some) less)
  ]
    where
      one : (k : ℕ) → leb e.print.len e.part_size ≡ true → k < 1
          → take (k + 1) (part_names shard.index.number shard.number (entry_of e)) ≡ take k (part_names shard.index.number shard.number (entry_of e)) ++ name_of (code_part_name shard e k) ∷ []
      one zero whole below = rw whole refl
      one (suc k) whole below = absurd (omega arith)

      many : (k : ℕ) → leb e.print.len e.part_size ≡ false → k < part_count e.print.len e.part_size
          → take (k + 1) (part_names shard.index.number shard.number (entry_of e)) ≡ take k (part_names shard.index.number shard.number (entry_of e)) ++ name_of (code_part_name shard e k) ∷ []
      many k cut below =
          let n = part_count e.print.len e.part_size in
          let all : part_names shard.index.number shard.number (entry_of e) ≡ parts_from shard.index.number shard.number e.name.number 0 n =
          passed (File shard.index.number shard.number e.name.number ∷ []) (parts_from shard.index.number shard.number e.name.number 0 n) cut in
          let name : name_of (code_part_name shard e k) ≡ Part shard.index.number shard.number e.name.number k = ap name_of (passed (code.Whole shard e.name) (code.Part shard e.name k) cut) in
          let number : 0 + k ≡ k = omega arith in
          let more : suc k ≡ k + 1 = omega arith in
          ap (take (k + 1)) all
          ∙ ap (λ (m : ℕ). take m (parts_from shard.index.number shard.number e.name.number 0 n)) (sym more)
          ∙ from_next shard.index.number shard.number e.name.number 0 n k below
          ∙ ap (λ (m : ℕ). take k (parts_from shard.index.number shard.number e.name.number 0 n) ++ Part shard.index.number shard.number e.name.number m ∷ []) number
          ∙ ap (λ (xs : List BlobName). take k xs ++ Part shard.index.number shard.number e.name.number k ∷ []) (sym all)
          ∙ ap (λ (x : BlobName). take k (part_names shard.index.number shard.number (entry_of e)) ++ x ∷ []) (sym name)

  -- all of them
  pub names_all : take (code_part_count e.print.len e.part_size) (part_names shard.index.number shard.number (entry_of e)) ≡ part_names shard.index.number shard.number (entry_of e)
  names_all = take_all (code_part_count e.print.len e.part_size) (part_names shard.index.number shard.number (entry_of e)) (omega (arith, length-names))

  -- the name of a part at its place
  pub name_at : (k : ℕ) (d : BlobName) → k < code_part_count e.print.len e.part_size → get_or (part_names shard.index.number shard.number (entry_of e)) k d ≡ name_of (code_part_name shard e k)
  name_at k d less =
      let within : k < length (part_names shard.index.number shard.number (entry_of e)) = omega (arith, length-names) in
      (same_from_push _ _ _ _ (sym (take_more (part_names shard.index.number shard.number (entry_of e)) k d within) ∙ names_next k less)).1

-- ---- pairs by their places

pairs_get : {A B : Type 0} (R : A → B → Type 0) (xs : List A) (ys : List B) (k : ℕ) (d : A) (e : B) → k < length xs → AllPairs R xs ys → R (get_or xs k d) (get_or ys k e)
pairs_get R [] ys k d e less pairs = absurd (omega arith)
pairs_get R (x ∷ xs) [] k d e less pairs = absurd pairs
pairs_get R (x ∷ xs) (y ∷ ys) zero d e less pairs = pairs.0
pairs_get R (x ∷ xs) (y ∷ ys) (suc k) d e less pairs = pairs_get R xs ys k d e (omega arith) pairs.1

-- ---- the part size

full_get : (size : ℕ) (parts : List Bytes) (k : ℕ) (d : Bytes) → k + 1 < length parts → AreFull size parts → length (get_or parts k d) ≡ size
full_get size [] k d less full = absurd (omega arith)
full_get size (p ∷ []) k d less full = absurd (omega arith)
full_get size (p ∷ q ∷ parts) zero d less full = full.0
full_get size (p ∷ q ∷ parts) (suc k) d less full = full_get size (q ∷ parts) k d (omega arith) full.1

pub full_push : (size : ℕ) (parts : List Bytes) (p : Bytes) → AllByRecursion (λ (q : Bytes). length q ≡ size) parts → AreFull size (parts ++ p ∷ [])
full_push size [] p each = tt
full_push size (q ∷ []) p each = (each.0, tt)
full_push size (q ∷ r ∷ parts) p each = (each.0, full_push size (r ∷ parts) p each.1)

pub each_push : (size : ℕ) (parts : List Bytes) (p : Bytes) → AllByRecursion (λ (q : Bytes). length q ≡ size) parts → length p ≡ size → AllByRecursion (λ (q : Bytes). length q ≡ size) (parts ++ p ∷ [])
each_push size [] p each one = (one, tt)
each_push size (q ∷ parts) p each one = (each.0, each_push size parts p each.1 one)

pub concat_push : (parts : List Bytes) (p : Bytes) → concat (parts ++ p ∷ []) ≡ concat parts ++ p
concat_push [] p = append-nil p
concat_push (q ∷ parts) p = ap (λ (b : Bytes). q ++ b) (concat_push parts p) ∙ sym (append_assoc q (concat parts) p)

-- ---- the first parts, joined

pub record Begun (shard : ShardId) (e : CodeEntry) (k : ℕ) (bytes : Bytes) : Type 0 where
  pub parts : List Bytes
  pub joined : concat parts ≡ bytes
  pub full : AreFull e.part_size parts
  pub each : k < code_part_count e.print.len e.part_size → AllByRecursion (λ (q : Bytes). length q ≡ e.part_size) parts

abbrev pub IsThere : (has : BlobName → Bytes → Type 0) (shard : ShardId) (e : CodeEntry) (k : ℕ) → List Bytes → Type 0
IsThere has shard e k parts = AllPairs has (take k (part_names shard.index.number shard.number (entry_of e))) parts

abbrev pub begun_none : (shard : ShardId) (e : CodeEntry) → Begun shard e 0 []
begun_none shard e = record { parts = []; joined = refl; full = tt; each = λ less. tt }

abbrev pub begun_more : (shard : ShardId) (e : CodeEntry) (k : ℕ) (bytes p : Bytes) → k < code_part_count e.print.len e.part_size → (k + 1 < code_part_count e.print.len e.part_size → length p ≡ e.part_size) → Begun shard e k bytes
    → Begun shard e (k + 1) (bytes ++ p)
begun_more shard e k bytes p less cut begun = record {
  parts = begun.parts ++ p ∷ [];
  joined = concat_push begun.parts p ∙ ap (λ (b : Bytes). b ++ p) begun.joined;
  full = full_push e.part_size begun.parts p (begun.each less);
  each = λ more. each_push e.part_size begun.parts p (begun.each less) (cut more);
}

pub there_more : (has : BlobName → Bytes → Type 0) (shard : ShardId) (e : CodeEntry) → 1 ≤ e.part_size → (k : ℕ) (parts : List Bytes) (p : Bytes) → k < code_part_count e.print.len e.part_size
    → has (name_of (code_part_name shard e k)) p
    → IsThere has shard e k parts → IsThere has shard e (k + 1) (parts ++ p ∷ [])
there_more has shard e some k parts p less one there =
    subst (λ (names : List BlobName). AllPairs has names (parts ++ p ∷ [])) (sym (names_next shard e some k less))
    (AllPairs-snoc has (take k (part_names shard.index.number shard.number (entry_of e))) parts (name_of (code_part_name shard e k)) p there one)

-- all parts are there
pub joined_all : (has : BlobName → Bytes → Type 0) (shard : ShardId) (e : CodeEntry) → 1 ≤ e.part_size → (k : ℕ) (bytes : Bytes) (begun : Begun shard e k bytes) → IsThere has shard e k begun.parts
    → k ≡ code_part_count e.print.len e.part_size
    → IsJoined has shard.index.number shard.number (entry_of e) bytes
joined_all has shard e some k bytes begun there done = record {
  parts = begun.parts;
  there = subst (λ (names : List BlobName). AllPairs has names begun.parts) (ap (λ (n : ℕ). take n (part_names shard.index.number shard.number (entry_of e))) done ∙ names_all shard e some) there;
  full = begun.full;
  joined = begun.joined;
}

-- a part isn't there
pub joined_absent : (has : BlobName → Bytes → Type 0) (shard : ShardId) (e : CodeEntry) → 1 ≤ e.part_size → (k : ℕ) → k < code_part_count e.print.len e.part_size → ((b : Bytes) → has (name_of (code_part_name shard e k)) b → ⊥)
    → (bytes : Bytes) → IsJoined has shard.index.number shard.number (entry_of e) bytes → ⊥
joined_absent has shard e some k less none bytes joined =
    let within : k < length (part_names shard.index.number shard.number (entry_of e)) = omega (arith, length-names shard e some) in
    let name = name_of (code_part_name shard e k) in
    none (get_or joined.parts k []) (subst (λ (n : BlobName). has n (get_or joined.parts k [])) (name_at shard e some k name less)
    (pairs_get has (part_names shard.index.number shard.number (entry_of e)) joined.parts k name [] within joined.there))

-- a part before the last hasn't the part size
pub joined_uncut : (has : BlobName → Bytes → Type 0) → IsOne has → (shard : ShardId) (e : CodeEntry) → 1 ≤ e.part_size → (k : ℕ) (p : Bytes) → k < code_part_count e.print.len e.part_size
    → has (name_of (code_part_name shard e k)) p
    → ((k + 1 < code_part_count e.print.len e.part_size → length p ≡ e.part_size) → ⊥) → (bytes : Bytes) → IsJoined has shard.index.number shard.number (entry_of e) bytes → ⊥
joined_uncut has one shard e some k p less there uncut bytes joined =
    let within : k < length (part_names shard.index.number shard.number (entry_of e)) = omega (arith, length-names shard e some) in
    let name = name_of (code_part_name shard e k) in
    let same : get_or joined.parts k [] ≡ p = one name (get_or joined.parts k []) p
    (subst (λ (n : BlobName). has n (get_or joined.parts k [])) (name_at shard e some k name less) (pairs_get has (part_names shard.index.number shard.number (entry_of e)) joined.parts k name [] within joined.there)) there in
    let lengths = pairs_length has (part_names shard.index.number shard.number (entry_of e)) joined.parts joined.there in
    uncut (λ more. sym (ap (λ (b : Bytes). length b) same) ∙ full_get e.part_size joined.parts k [] (omega (arith, more, lengths, length-names shard e some)) joined.full)

-- the parts are joined to one list of bytes
pub joined_one : (has : BlobName → Bytes → Type 0) → IsOne has → (index shard : ℕ) (e : FileEntry) (a b : Bytes) → IsJoined has index shard e a → IsJoined has index shard e b → a ≡ b
joined_one has one index shard e a b p q = sym p.joined ∙ ap concat (pairs_one has has one (part_names index shard e) p.parts q.parts p.there q.there) ∙ q.joined

-- ---- the names of parts, appended one by one

pub parts_pushed : (shard : ShardId) (e : CodeEntry) → 1 ≤ e.part_size → (k : ℕ) (first old new : List CodeName) (n : CodeName) → k < code_part_count e.print.len e.part_size → n ≡ code_part_name shard e k → new ≡ old ++ n ∷ []
    → map name_of old ≡ map name_of first ++ take k (part_names shard.index.number shard.number (entry_of e)) → map name_of new ≡ map name_of first ++ take (k + 1) (part_names shard.index.number shard.number (entry_of e))
parts_pushed shard e some k first old new n less is made so_far =
    let names = part_names shard.index.number shard.number (entry_of e) in
    ap (map name_of) made ∙ map-append name_of old (n ∷ []) ∙ ap (λ (l : List BlobName). l ++ name_of n ∷ []) so_far
    ∙ append_assoc (map name_of first) (take k names) (name_of n ∷ [])
    ∙ ap (λ (m : CodeName). map name_of first ++ (take k names ++ name_of m ∷ [])) is ∙ ap (λ (l : List BlobName). map name_of first ++ l) (sym (names_next shard e some k less))

pub parts_done : (shard : ShardId) (e : CodeEntry) → 1 ≤ e.part_size → (k : ℕ) → code_part_count e.print.len e.part_size ≤ k
    → take k (part_names shard.index.number shard.number (entry_of e)) ≡ part_names shard.index.number shard.number (entry_of e)
parts_done shard e some k past = take_all k (part_names shard.index.number shard.number (entry_of e)) (omega (arith, past, length-names shard e some))
