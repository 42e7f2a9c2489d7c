-- The parts of a file that are read one after another.
use Rattle.std.proofs.Common.{◌≡◌, inl, inr, ⊎_elim, ℕ, zero, suc, ◌+◌, ◌-◌, ◌*◌, ◌<◌, ◌≤◌, min, nat_le, if◌then◌else◌, Bool, true, false, ◌&&◌, List, [], ◌∷◌, ◌++◌, length, Option, refl, sym, ap, ◌∙◌, subst, arith, length-append}
use Rattle.std.specs.List.{concat}
use Rattle.std.specs.Io.KnownBytes.{Consumes}
use Rattle.std.proofs.lemmas.Bool.{and_parts}
use Rattle.esr_model.specs.Lists.{Has-append, AllPairs-snoc}
use Rattle.esr_names.specs.declared.blob.BlobName.TheVariants as codes
use Rattle.esr_names.specs.declared.blob.ShardId.{ShardId}
use Rattle.esr_model.specs.Names.{BlobName, File, Part}
use Rattle.esr_model.specs.Values.{Bytes, Has}
use Rattle.esr_model.specs.Parts.{part_count, part_names}
use Rattle.esr_model.specs.Image.{AllPairs}
use Rattle.esr_core.specs.World.{Caller}
use Rattle.esr_core.specs.Restores.{WasRead}
use Rattle.esr_core.specs.Entry.{Moment}
use Rattle.esr_hash.specs.declared.hasher.Hasher.{Hasher}
use Rattle.esr_hash.specs.Fed.{HasFed}
use Rattle.esr_parts.specs.Back.{HashedBack}
use Rattle.esr_parts.specs.declared.back.Extent.{Extent}
use Rattle.esr_shardidx.specs.declared.entry.FileEntry.{FileEntry as CodeEntry}
use Rattle.esr_shardidx.specs.Parts.{part_count as code_count}
use Rattle.esr_formats.specs.Names.{name_of}
use Rattle.esr_formats.specs.Shards.{entry_of}
use Rattle.esr_desk.specs.Start.{Start}
use Rattle.esr_desk.specs.Own.{caller_of}
use Rattle.esr_desk.specs.Restore.Parts.{sized, sized_parts, IsFront}
use Rattle.esr_restore.specs.Pairs.{pairs_pop, pairs_map}
use Rattle.esr_restore.specs.PartSizes.{blob_name, size_of, sizes, sizes_next, sizes_all, same_count, part_listed}
use Rattle.esr_restore.specs.PartReads.{IsExact, is_whole, front_read, told_some, extent_bound, extent_whole, extent_other, concat_push, one_false}
use Rattle.esr_check.specs.Went.{Grown, Came}
use Rattle.esr_check.specs.Parts.{ReadPart, ReadParts}
use Rattle.esr_check.specs.First.{FirstOfFile, AtPart}

-- ---- one part

pub part_read : (s : Start) (log : List Moment) (name : BlobName) (left left_new : Option Bytes) (sure : Bool) (hasher_old hasher_new : Hasher) (size : ℕ) (extent : Extent)
    → Came s log name left sure → HashedBack left left_new hasher_old hasher_new size extent → ReadPart s (caller_of s log) hasher_old hasher_new name size (is_whole extent)
part_read s log name left left_new sure hasher_old hasher_new size extent came back = record {
  front = back.piece;
  found = came.found;
  read = λ tells. (
    came.bytes,
    came.read tells,
    front_read left_new extent size came.bytes back.piece (subst (λ (l : Option Bytes). Consumes l left_new back.piece) (came.holds ∙ told_some s.tells came.bytes tells) back.taken.took) back.extent_is,
  );
  fed = back.taken.fed;
  bound = extent_bound extent size back.piece left_new back.extent_is;
  whole = extent_whole extent size back.piece left_new back.extent_is;
  other = extent_other extent size back.piece left_new back.extent_is;
}

-- ---- one part after another

-- each of these was found
abbrev pub AreFound : Caller → List (BlobName × ℕ) → Type 0
AreFound c parts = (part : BlobName × ℕ) → Has parts part → Has c.found part.0

-- the first k parts were read
pub record SoFar (s : Start) (c : Caller) (hasher : Hasher) (at : ShardId) (e : CodeEntry) (k : ℕ) (exact : Bool) : Type 0 where
  pub fronts : List Bytes
  pub found : AreFound c (sizes (blob_name at e) e.print.len e.part_size 0 k)
  pub read : s.tells ≡ true → AllPairs (IsFront (WasRead c.read)) (sizes (blob_name at e) e.print.len e.part_size 0 k) fronts
  pub fed : HasFed hasher (concat fronts)
  pub count : length (concat fronts) ≤ min (k * e.part_size) e.print.len + k
  pub whole : exact ≡ true → AllPairs IsExact (sizes (blob_name at e) e.print.len e.part_size 0 k) fronts
  pub other : exact ≡ false → AllPairs IsExact (sizes (blob_name at e) e.print.len e.part_size 0 k) fronts → ⊥

pub so_far_none : (s : Start) (c : Caller) (hasher : Hasher) (at : ShardId) (e : CodeEntry) → HasFed hasher [] → SoFar s c hasher at e 0 true
unfolding sizes
so_far_none s c hasher at e fed = record {
  fronts = [];
  found = λ part has. absurd has;
  read = λ tells. tt;
  fed = fed;
  count = omega arith;
  whole = λ exact. tt;
  other = λ exact. absurd cc;
}

front_more : (a b : Caller) → Grown a b → (part : BlobName × ℕ) (front : Bytes) → IsFront (WasRead a.read) part front → IsFront (WasRead b.read) part front
front_more a b grown part front h = (h.0, grown.read part.0 h.0 h.1, h.2)

module _ (s : Start) (a b : Caller) (hasher_old hasher_new : Hasher) (at : ShardId) (e : CodeEntry) (k size : ℕ) (exact whole : Bool)
    (grown : Grown a b) (so : SoFar s a hasher_old at e k exact) (part : ReadPart s b hasher_old hasher_new (blob_name at e k) size whole) (is : size ≡ size_of e.print.len e.part_size k) where
  next : sizes (blob_name at e) e.print.len e.part_size 0 (k + 1) ≡ sizes (blob_name at e) e.print.len e.part_size 0 k ++ (blob_name at e k, size_of e.print.len e.part_size k) ∷ []
  next = sizes_next (blob_name at e) e.print.len e.part_size k

  found_next : AreFound b (sizes (blob_name at e) e.print.len e.part_size 0 (k + 1))
  found_next p has =
      ⊎_elim
      (λ (before : Has (sizes (blob_name at e) e.print.len e.part_size 0 k) p). grown.found p.0 (so.found p before))
      (λ (last : (blob_name at e k, size_of e.print.len e.part_size k) ≡ p). subst (λ (q : BlobName × ℕ). Has b.found q.0) last part.found)
      (Has-append (sizes (blob_name at e) e.print.len e.part_size 0 k) (blob_name at e k, size_of e.print.len e.part_size k) p (subst (λ (l : List (BlobName × ℕ)). Has l p) next has))

  read_next : s.tells ≡ true → AllPairs (IsFront (WasRead b.read)) (sizes (blob_name at e) e.print.len e.part_size 0 (k + 1)) (so.fronts ++ part.front ∷ [])
  read_next tells =
      let before = pairs_map (IsFront (WasRead a.read)) (IsFront (WasRead b.read)) (front_more a b grown) (sizes (blob_name at e) e.print.len e.part_size 0 k) so.fronts (so.read tells) in
      let here : IsFront (WasRead b.read) (blob_name at e k, size_of e.print.len e.part_size k) part.front = subst (λ (n : ℕ). IsFront (WasRead b.read) (blob_name at e k, n) part.front) is (part.read tells) in
      subst (λ (l : List (BlobName × ℕ)). AllPairs (IsFront (WasRead b.read)) l (so.fronts ++ part.front ∷ [])) (sym next)
      (AllPairs-snoc (IsFront (WasRead b.read)) (sizes (blob_name at e) e.print.len e.part_size 0 k) so.fronts (blob_name at e k, size_of e.print.len e.part_size k) part.front before here)

  whole_next : exact ≡ true → whole ≡ true → AllPairs IsExact (sizes (blob_name at e) e.print.len e.part_size 0 (k + 1)) (so.fronts ++ part.front ∷ [])
  whole_next before here =
      subst (λ (l : List (BlobName × ℕ)). AllPairs IsExact l (so.fronts ++ part.front ∷ [])) (sym next)
      (AllPairs-snoc IsExact (sizes (blob_name at e) e.print.len e.part_size 0 k) so.fronts (blob_name at e k, size_of e.print.len e.part_size k) part.front (so.whole before) (part.whole here ∙ is))

  other_next : (exact ≡ true → whole ≡ true → ⊥) → AllPairs IsExact (sizes (blob_name at e) e.print.len e.part_size 0 (k + 1)) (so.fronts ++ part.front ∷ []) → ⊥
  other_next not_both all =
      let parted = pairs_pop IsExact (sizes (blob_name at e) e.print.len e.part_size 0 k) so.fronts (blob_name at e k, size_of e.print.len e.part_size k) part.front
      (subst (λ (l : List (BlobName × ℕ)). AllPairs IsExact l (so.fronts ++ part.front ∷ [])) next all) in
      by_flags exact whole not_both (λ no_is. so.other no_is parted.0) (λ no_is. part.other no_is (parted.1 ∙ sym is))
    where
      by_flags : (x y : Bool) → (x ≡ true → y ≡ true → ⊥) → (x ≡ false → ⊥) → (y ≡ false → ⊥) → ⊥
      by_flags true true both first second = both refl refl
      by_flags true false both first second = second refl
      by_flags false y both first second = first refl

  pub so_far_next : SoFar s b hasher_new at e (k + 1) (exact && whole)
  so_far_next =
      let step : (k + 1) * e.part_size ≡ k * e.part_size + e.part_size = omega arith in
      let sum : min (k * e.part_size) e.print.len + size ≡ min ((k + 1) * e.part_size) e.print.len = omega (arith, is, step) in
      let join : length (concat (so.fronts ++ part.front ∷ [])) ≡ length (concat so.fronts) + length part.front = ap (λ (l : Bytes). length l) (concat_push so.fronts part.front) ∙ length-append (concat so.fronts) part.front in
      record {
        fronts = so.fronts ++ part.front ∷ [];
        found = found_next;
        read = read_next;
        fed = subst (HasFed hasher_new) (sym (concat_push so.fronts part.front)) (part.fed.joined (concat so.fronts) so.fed);
        count = omega (arith, join, sum, so.count, part.bound);
        whole = λ flag. let both = and_parts exact whole flag in whole_next both.0 both.1;
        other = λ flag. other_next (one_false exact whole flag);
      }

  pub so_far_flag : (flag : Bool) → flag ≡ exact && whole → SoFar s b hasher_new at e (k + 1) flag
  so_far_flag flag same = subst (λ (x : Bool). SoFar s b hasher_new at e (k + 1) x) (sym same) so_far_next

-- ---- all of them

-- each name stands with its length
sized_has : (len size : ℕ) (parts : List BlobName) (name : BlobName) → Has parts name → (n : ℕ) × Has (sized len size parts) (name, n)
sized_has len size [] name has = absurd has
sized_has len size (p ∷ []) name (inl here) = (len, inl (ap (λ (x : BlobName). (x, len)) here))
sized_has len size (p ∷ []) name (inr none) = absurd none
sized_has len size (p ∷ q ∷ parts) name (inl here) = (size, inl (ap (λ (x : BlobName). (x, size)) here))
sized_has len size (p ∷ q ∷ parts) name (inr later) = let found = sized_has (len - size) size (q ∷ parts) name later in (found.0, inr found.1)

pub so_far_all : (s : Start) (c : Caller) (hasher : Hasher) (at : ShardId) (e : CodeEntry) (n : ℕ) (exact : Bool) → 1 ≤ e.part_size → n ≡ code_count e.print.len e.part_size → SoFar s c hasher at e n exact
    → ReadParts s c hasher at e exact
so_far_all s c hasher at e n exact some all so =
    let are = sizes_all at e n some all in
    let found : AreFound c (sized_parts at.index.number at.number (entry_of e)) = subst (λ (l : List (BlobName × ℕ)). AreFound c l) (sym are) so.found in
    record {
      fronts = so.fronts;
      found = λ name has. let there = sized_has e.print.len e.part_size (part_names at.index.number at.number (entry_of e)) name has in found (name, there.0) there.1;
      read = λ tells. subst (λ (l : List (BlobName × ℕ)). AllPairs (IsFront (WasRead c.read)) l so.fronts) (sym are) (so.read tells);
      fed = so.fed;
      whole = λ flag. subst (λ (l : List (BlobName × ℕ)). AllPairs IsExact l so.fronts) (sym are) (so.whole flag);
      other = λ flag exactly. so.other flag (subst (λ (l : List (BlobName × ℕ)). AllPairs IsExact l so.fronts) are exactly);
    }

-- ---- the first that is damaged

-- the parts before one were found
found_before : (c : Caller) (name : ℕ → BlobName) (len size j n d : ℕ) → AreFound c (sizes name len size j n) → d < n → Has c.found (name (j + d))
unfolding sizes
found_before c name len size j zero d found less = absurd (omega (arith, less))
found_before c name len size j (suc n) zero found less =
    let number : j ≡ j + 0 = omega arith in
    subst (λ (p : ℕ). Has c.found (name p)) number (found (name j, size_of len size j) (inl refl))
found_before c name len size j (suc n) (suc d) found less =
    let number : suc j + d ≡ j + suc d = omega arith in
    let fewer : d < n = omega (arith, less) in
    subst (λ (p : ℕ). Has c.found (name p)) number (found_before c name len size (suc j) n d (λ part has. found part (inr has)) fewer)

no_part : (i n x p : ℕ) → File i n x ≡ Part i n x p → ⊥
no_part i n x p e = cc

same_part : (i n x k p : ℕ) → Part i n x k ≡ Part i n x p → p ≡ k
same_part i n x k p e = cc

-- a name with a number is that of the part of this number
part_number : (at : ShardId) (e : CodeEntry) (k p : ℕ) → blob_name at e k ≡ Part at.index.number at.number e.name.number p → p ≡ k
part_number at e k p = elim (nat_le e.print.len e.part_size) as (λ b. name_of (if b then codes.Whole at e.name else codes.Part at e.name k) ≡ Part at.index.number at.number e.name.number p → p ≡ k) [
  | true ↦ λ is. absurd (no_part at.index.number at.number e.name.number p is)
  | false ↦ λ is. same_part at.index.number at.number e.name.number k p is
]

part_found : (c : Caller) (at : ShardId) (e : CodeEntry) (k p q : ℕ) → Has c.found (blob_name at e q) → blob_name at e k ≡ Part at.index.number at.number e.name.number p → Has c.found (Part at.index.number at.number e.name.number q)
part_found c at e k p q = elim (nat_le e.print.len e.part_size) as (λ b. Has c.found (name_of (if b then codes.Whole at e.name else codes.Part at e.name q))
    → name_of (if b then codes.Whole at e.name else codes.Part at e.name k) ≡ Part at.index.number at.number e.name.number p → Has c.found (Part at.index.number at.number e.name.number q)) [
      | true ↦ λ found is. absurd (no_part at.index.number at.number e.name.number p is)
      | false ↦ λ found is. found
    ]

-- the next part
pub at_part : (s : Start) (c : Caller) (at : ShardId) (e : CodeEntry) (k : ℕ) (name : BlobName) → AreFound c (sizes (blob_name at e) e.print.len e.part_size 0 k) → 1 ≤ e.part_size → k < code_count e.print.len e.part_size
    → name ≡ blob_name at e k
    → FirstOfFile s c at.index.number at.number (entry_of e) name
at_part s c at e k name found some less is =
    let within : k < part_count e.print.len e.part_size = subst (λ (n : ℕ). k < n) (same_count e.print.len e.part_size some) less in
    AtPart (subst (λ (n : BlobName). Has (part_names at.index.number at.number (entry_of e)) n) (sym is) (part_listed at e k within))
    (λ p q named lower.
    let number : p ≡ k = part_number at e k p (sym is ∙ named) in
    let fewer : q < k = omega (arith, number, lower) in
    let start : 0 + q ≡ q = omega arith in
    part_found c at e k p q (subst (λ (n : ℕ). Has c.found (blob_name at e n)) start (found_before c (blob_name at e) e.print.len e.part_size 0 k q found fewer)) (sym is ∙ named))
