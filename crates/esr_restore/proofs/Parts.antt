-- The parts of a file that are read one after another.
use Rattle.std.proofs.Common.{◌≡◌, inr, ℕ, ◌+◌, ◌-◌, ◌*◌, ◌<◌, ◌≤◌, min, Bool, true, false, ◌&&◌, List, [], ◌∷◌, ◌++◌, length, take, Option, Some, None, IsSomeAnd, option_map, refl, sym, ap, ◌∙◌, subst, arith, append-nil, append_assoc, length-append}
use Rattle.std.proofs.lemmas.List.{take_all, length-take}
use Rattle.std.specs.List.{concat}
use Rattle.std.specs.Io.KnownBytes.{append_known, Consumes}
use Rattle.std.proofs.lemmas.Bool.{and_parts}
use Rattle.esr_names.specs.declared.blob.ShardId.{ShardId}
use Rattle.esr_model.specs.Names.{BlobName}
use Rattle.esr_model.specs.Values.{Bytes, Has}
use Rattle.esr_model.specs.Parts.{part_names, part_count}
use Rattle.esr_model.specs.Image.{AllPairs}
use Rattle.esr_core.specs.World.{Reader}
use Rattle.esr_core.specs.Restores.{WasRead, IsPiece}
use Rattle.esr_hash.specs.declared.hasher.Hasher.{Hasher}
use Rattle.esr_hash.specs.Fed.{HasFed}
use Rattle.esr_parts.specs.Back.{ReadBack}
use Rattle.esr_parts.specs.declared.back.Extent.{Extent}
use Rattle.esr_source.specs.Begun.{Begun, more}
use Rattle.esr_shardidx.specs.declared.entry.FileEntry.{FileEntry as CodeEntry}
use Rattle.esr_shardidx.specs.Parts.{part_count as code_count}
use Rattle.esr_model.specs.Lists.{AllPairs-snoc}
use Rattle.esr_formats.specs.Shards.{entry_of}
use Rattle.esr_desk.specs.Start.{Start}
use Rattle.esr_desk.specs.Restore.Conditions.{CanRead}
use Rattle.esr_desk.specs.Restore.Parts.{IsFront}
use Rattle.esr_restore.specs.Worked.{Worked}
use Rattle.esr_restore.specs.Snapped.{IsAt, IsListed}
use Rattle.esr_restore.specs.Parts.{Came, ReadPart, ReadParts}
use Rattle.esr_restore.specs.Pairs.{pairs_pop, pairs_map}
use Rattle.esr_restore.specs.PartReads.{is_whole, front_read, told_some, extent_bound, extent_whole, extent_other, IsExact, concat_push, one_false}
use Rattle.esr_restore.proofs.Reading.{told_read}
use Rattle.esr_restore.specs.PartSizes.{blob_name, size_of, sizes, sizes_next, sizes_all, same_count, part_listed, part_piece}

-- ---- one part

pub part_read : (s : Start) (old new : Reader) (name : BlobName) (left left_new : Option Bytes) (sure : Bool) (hasher_old hasher_new : Hasher) (begun_old begun_new : Option Begun) (size : ℕ) (extent : Extent)
    → Came s old new name left sure → ReadBack left left_new hasher_old hasher_new begun_old begun_new size extent → ReadPart s new hasher_old hasher_new begun_old begun_new name size (is_whole extent)
part_read s old new name left left_new sure hasher_old hasher_new begun_old begun_new size extent came back = record {
  front = back.piece;
  read = λ tells. (
    came.bytes,
    told_read s old new name came.bytes came.is tells,
    front_read left_new extent size came.bytes back.piece (subst (λ (l : Option Bytes). Consumes l left_new back.piece) (came.holds ∙ told_some s.tells came.bytes tells) back.taken.took) back.extent_is,
  );
  fed = back.taken.fed;
  bound = extent_bound extent size back.piece left_new back.extent_is;
  grew = back.grew;
  whole = extent_whole extent size back.piece left_new back.extent_is;
  other = extent_other extent size back.piece left_new back.extent_is;
}

-- ---- which parts may be read

pub can_read_part : (s : Start) (q : Reader) (at : ShardId) (uuid : ℕ) (e : CodeEntry) (k : ℕ) → IsAt q at.index.number at.number uuid → IsListed s q e → 1 ≤ e.part_size → k < code_count e.print.len e.part_size
    → CanRead s q (blob_name at e k)
can_read_part s q at uuid e k is listed some less =
    let within : k < part_count e.print.len e.part_size = rw (sym (same_count e.print.len e.part_size some)) less in
    record {
      out = is.out;
      may = inr (
        subst (λ (i : ℕ). IsPiece i q.number (blob_name at e k)) (sym is.index_is) (subst (λ (n : ℕ). IsPiece at.index.number n (blob_name at e k)) (sym is.number_is) (part_piece at e k)),
        λ tells. record {
          snap = listed.snap;
          snap_read = listed.snap_read tells;
          e = entry_of e;
          listed = listed.listed;
          part = subst (λ (i : ℕ). Has (part_names i q.number (entry_of e)) (blob_name at e k)) (sym is.index_is)
              (subst (λ (n : ℕ). Has (part_names at.index.number n (entry_of e)) (blob_name at e k)) (sym is.number_is) (part_listed at e k within));
        },
      );
    }

-- ---- a begun file

more_none : (o : Option Begun) → o ≡ option_map (more []) o
more_none None = refl
more_none (Some b) = ap (λ (x : Begun). Some x) (more_nothing b)
  where
    none_known : (o : Option Bytes) → o ≡ append_known o []
    none_known None = refl
    none_known (Some bytes) = ap (λ (l : Bytes). Some l) (sym (append-nil bytes))

    more_nothing : (b : Begun) → b ≡ more [] b
    more_nothing b =
        let room : b.room ≡ b.room - 0 = omega arith in
        let made : Option Bytes → ℕ → Begun = λ bytes room. record { name = b.name; bytes = bytes; room = room } in
        ap (λ (o : Option Bytes). made o b.room) (none_known b.bytes) ∙ ap (λ (n : ℕ). made (append_known b.bytes []) n) room

more_twice : (x y : Bytes) (o : Option Begun) → option_map (more y) (option_map (more x) o) ≡ option_map (more (x ++ y)) o
more_twice x y None = refl
more_twice x y (Some b) = ap (λ (c : Begun). Some c) (more_both b)
  where
    both_known : (o : Option Bytes) → append_known (append_known o x) y ≡ append_known o (x ++ y)
    both_known None = refl
    both_known (Some bytes) = ap (λ (l : Bytes). Some l) (append_assoc bytes x y)

    more_both : (b : Begun) → more y (more x b) ≡ more (x ++ y) b
    more_both b =
        let room : b.room - length x - length y ≡ b.room - length (x ++ y) = omega (arith, length-append x y) in
        let made : Option Bytes → ℕ → Begun = λ bytes room. record { name = b.name; bytes = bytes; room = room } in
        ap (λ (o : Option Bytes). made o (b.room - length x - length y)) (both_known b.bytes) ∙ ap (λ (n : ℕ). made (append_known b.bytes (x ++ y)) n) room

room_next : (begun : Option Begun) (x : Bytes) (len before size after : ℕ) → IsSomeAnd begun (λ b. len ≤ b.room + before) → length x ≤ size → before + size ≡ after → after ≤ len
    → IsSomeAnd (option_map (more x) begun) (λ b. len ≤ b.room + after)
room_next None x len before size after room fits sum within = room
room_next (Some b) x len before size after room fits sum within = omega (arith, room, fits, sum, within)

-- ---- one part after another

-- the first k parts were read
pub record SoFar (s : Start) (q : Reader) (hasher : Hasher) (begun_old begun_new : Option Begun) (at : ShardId) (e : CodeEntry) (k : ℕ) (exact : Bool) : Type 0 where
  pub fronts : List Bytes
  pub read : s.tells ≡ true → AllPairs (IsFront (WasRead q.read)) (sizes (blob_name at e) e.print.len e.part_size 0 k) fronts
  pub fed : HasFed hasher (concat fronts)
  pub count : length (concat fronts) ≤ min (k * e.part_size) e.print.len + k
  pub whole : exact ≡ true → AllPairs IsExact (sizes (blob_name at e) e.print.len e.part_size 0 k) fronts
  pub grew : exact ≡ true → begun_new ≡ option_map (more (concat fronts)) begun_old
  pub other : exact ≡ false → AllPairs IsExact (sizes (blob_name at e) e.print.len e.part_size 0 k) fronts → ⊥
  pub room : IsSomeAnd begun_new (λ b. e.print.len ≤ b.room + min (k * e.part_size) e.print.len)

some_room : (begun : Option Begun) (len place : ℕ) → IsSomeAnd begun (λ b. b.room ≡ len) → IsSomeAnd begun (λ b. len ≤ b.room + min place len)
some_room None len place room = room
some_room (Some b) len place room = omega (arith, room)

pub so_far_none : (s : Start) (q : Reader) (hasher : Hasher) (begun : Option Begun) (at : ShardId) (e : CodeEntry) → HasFed hasher [] → IsSomeAnd begun (λ b. b.room ≡ e.print.len) → SoFar s q hasher begun begun at e 0 true
unfolding sizes
so_far_none s q hasher begun at e fed room = record {
  fronts = [];
  read = λ tells. tt;
  fed = fed;
  count = omega arith;
  whole = λ exact. tt;
  grew = λ exact. more_none begun;
  other = λ exact. absurd cc;
  room = some_room begun e.print.len (0 * e.part_size) room;
}

front_more : (a b : Reader) → Worked a b → (part : BlobName × ℕ) (front : Bytes) → IsFront (WasRead a.read) part front → IsFront (WasRead b.read) part front
front_more a b worked part front h = (h.0, worked.more (part.0, h.0) h.1, h.2)

module _ (s : Start) (a b : Reader) (hasher_old hasher_new : Hasher) (begun_old begun_mid begun_new : Option Begun) (at : ShardId) (e : CodeEntry) (k size : ℕ) (exact whole : Bool)
    (worked : Worked a b) (so : SoFar s a hasher_old begun_old begun_mid at e k exact) (part : ReadPart s b hasher_old hasher_new begun_mid begun_new (blob_name at e k) size whole) (is : size ≡ size_of e.print.len e.part_size k) where
  next : sizes (blob_name at e) e.print.len e.part_size 0 (k + 1) ≡ sizes (blob_name at e) e.print.len e.part_size 0 k ++ (blob_name at e k, size_of e.print.len e.part_size k) ∷ []
  next = sizes_next (blob_name at e) e.print.len e.part_size k

  read_next : s.tells ≡ true → AllPairs (IsFront (WasRead b.read)) (sizes (blob_name at e) e.print.len e.part_size 0 (k + 1)) (so.fronts ++ part.front ∷ [])
  read_next tells =
      let before = pairs_map (IsFront (WasRead a.read)) (IsFront (WasRead b.read)) (front_more a b worked) (sizes (blob_name at e) e.print.len e.part_size 0 k) so.fronts (so.read tells) in
      let here : IsFront (WasRead b.read) (blob_name at e k, size_of e.print.len e.part_size k) part.front = subst (λ (n : ℕ). IsFront (WasRead b.read) (blob_name at e k, n) part.front) is (part.read tells) in
      subst (λ (l : List (BlobName × ℕ)). AllPairs (IsFront (WasRead b.read)) l (so.fronts ++ part.front ∷ [])) (sym next)
      (AllPairs-snoc (IsFront (WasRead b.read)) (sizes (blob_name at e) e.print.len e.part_size 0 k) so.fronts (blob_name at e k, size_of e.print.len e.part_size k) part.front before here)

  grew_next : exact ≡ true → whole ≡ true → begun_new ≡ option_map (more (concat (so.fronts ++ part.front ∷ []))) begun_old
  grew_next before here =
      let len : length part.front ≤ size = omega (arith, part.whole here) in
      part.grew
      ∙ ap (λ (l : Bytes). option_map (more l) begun_mid) (take_all size part.front len)
      ∙ ap (λ (o : Option Begun). option_map (more part.front) o) (so.grew before)
      ∙ more_twice (concat so.fronts) part.front begun_old
      ∙ ap (λ (l : Bytes). option_map (more l) begun_old) (sym (concat_push so.fronts part.front))

  whole_next : exact ≡ true → whole ≡ true → AllPairs IsExact (sizes (blob_name at e) e.print.len e.part_size 0 (k + 1)) (so.fronts ++ part.front ∷ [])
  whole_next before here =
      subst (λ (l : List (BlobName × ℕ)). AllPairs IsExact l (so.fronts ++ part.front ∷ [])) (sym next)
      (AllPairs-snoc IsExact (sizes (blob_name at e) e.print.len e.part_size 0 k) so.fronts (blob_name at e k, size_of e.print.len e.part_size k) part.front (so.whole before) (part.whole here ∙ is))

  other_next : (exact ≡ true → whole ≡ true → ⊥) → AllPairs IsExact (sizes (blob_name at e) e.print.len e.part_size 0 (k + 1)) (so.fronts ++ part.front ∷ []) → ⊥
  other_next not_both all =
      let parted = pairs_pop IsExact (sizes (blob_name at e) e.print.len e.part_size 0 k) so.fronts (blob_name at e k, size_of e.print.len e.part_size k) part.front
      (subst (λ (l : List (BlobName × ℕ)). AllPairs IsExact l (so.fronts ++ part.front ∷ [])) next all) in
      by_flags exact whole not_both (λ no_is. so.other no_is parted.0) (λ no_is. part.other no_is (parted.1 ∙ sym is))
    where
      by_flags : (x y : Bool) → (x ≡ true → y ≡ true → ⊥) → (x ≡ false → ⊥) → (y ≡ false → ⊥) → ⊥
      by_flags true true both first second = both refl refl
      by_flags true false both first second = second refl
      by_flags false y both first second = first refl

  pub so_far_next : SoFar s b hasher_new begun_old begun_new at e (k + 1) (exact && whole)
  so_far_next =
      let step : (k + 1) * e.part_size ≡ k * e.part_size + e.part_size = omega arith in
      let sum : min (k * e.part_size) e.print.len + size ≡ min ((k + 1) * e.part_size) e.print.len = omega (arith, is, step) in
      let join : length (concat (so.fronts ++ part.front ∷ [])) ≡ length (concat so.fronts) + length part.front = ap (λ (l : Bytes). length l) (concat_push so.fronts part.front) ∙ length-append (concat so.fronts) part.front in
      let most : min ((k + 1) * e.part_size) e.print.len ≤ e.print.len = omega arith in
      let fits : length (take size part.front) ≤ size = omega (arith, length-take size part.front) in
      record {
        fronts = so.fronts ++ part.front ∷ [];
        read = read_next;
        fed = subst (HasFed hasher_new) (sym (concat_push so.fronts part.front)) (part.fed.joined (concat so.fronts) so.fed);
        count = omega (arith, join, sum, so.count, part.bound);
        whole = λ flag. let both = and_parts exact whole flag in whole_next both.0 both.1;
        grew = λ flag. let both = and_parts exact whole flag in grew_next both.0 both.1;
        other = λ flag. other_next (one_false exact whole flag);
        room = subst (λ (o : Option Begun). IsSomeAnd o (λ x. e.print.len ≤ x.room + min ((k + 1) * e.part_size) e.print.len)) (sym part.grew)
            (room_next begun_mid (take size part.front) e.print.len (min (k * e.part_size) e.print.len) size (min ((k + 1) * e.part_size) e.print.len) so.room fits sum most);
      }

  pub so_far_flag : (flag : Bool) → flag ≡ exact && whole → SoFar s b hasher_new begun_old begun_new at e (k + 1) flag
  so_far_flag flag same = subst (λ (x : Bool). SoFar s b hasher_new begun_old begun_new at e (k + 1) x) (sym same) so_far_next

-- all of them
pub so_far_all : (s : Start) (q : Reader) (hasher : Hasher) (begun_old begun_new : Option Begun) (at : ShardId) (e : CodeEntry) (n : ℕ) (exact : Bool) → 1 ≤ e.part_size → n ≡ code_count e.print.len e.part_size
    → SoFar s q hasher begun_old begun_new at e n exact → ReadParts s q hasher begun_old begun_new at e exact
so_far_all s q hasher begun_old begun_new at e n exact some all so =
    let are = sizes_all at e n some all in
    record {
      fronts = so.fronts;
      read = λ tells. subst (λ (l : List (BlobName × ℕ)). AllPairs (IsFront (WasRead q.read)) l so.fronts) (sym are) (so.read tells);
      fed = so.fed;
      whole = λ flag. subst (λ (l : List (BlobName × ℕ)). AllPairs IsExact l so.fronts) (sym are) (so.whole flag);
      grew = so.grew;
      other = λ flag exactly. so.other flag (subst (λ (l : List (BlobName × ℕ)). AllPairs IsExact l so.fronts) are exactly);
    }

-- there is room for the next part
pub room_for : (begun : Option Begun) (len place size here : ℕ) → IsSomeAnd begun (λ b. len ≤ b.room + min place len) → here ≡ min size (len - place) → IsSomeAnd begun (λ b. here ≤ b.room)
room_for None len place size here room is = room
room_for (Some b) len place size here room is = omega (arith, room, is)
