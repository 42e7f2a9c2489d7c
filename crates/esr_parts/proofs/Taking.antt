-- One piece after another: read and hashed, and written to a begun file.
use Rattle.std.proofs.Common.{◌≡◌, ℕ, zero, suc, ◌+◌, ◌-◌, ◌<◌, ◌≤◌, List, [], ◌∷◌, ◌++◌, length, take, Option, Some, None, option_map, refl, sym, ◌∙◌, ap, subst, arith, length-append}
use Rattle.std.proofs.lemmas.List.{append-nil, take_all, take-take, take_at, length-take-le}
use Rattle.std.specs.Io.KnownBytes.{IsAtEnd}
use Rattle.std.proofs.KnownBytes.{Consumes-trans}
use Rattle.esr_hash.specs.declared.hasher.Hasher.{Hasher}
use Rattle.esr_source.specs.Begun.{Begun, more}
use Rattle.esr_parts.specs.declared.back.Extent.{Extent}
use Rattle.esr_parts.specs.declared.back.Extent.TheVariants.{Whole, Short, Long}
use Rattle.esr_parts.specs.Back.{Taken, HasExtent, NextPiece, HashedBack, ReadBack, Broken}
use Rattle.esr_parts.proofs.Pieces.{fed_more, stage_more}

-- one piece after another was written
pub grown_more : (o p q : Option Begun) (xs ys : List ℕ) → p ≡ option_map (more xs) o → q ≡ option_map (more ys) p → q ≡ option_map (more (xs ++ ys)) o
grown_more None p q xs ys first second = second ∙ ap (option_map (more ys)) first
grown_more (Some b) p q xs ys first second =
    let room : b.room - length xs - length ys ≡ b.room - length (xs ++ ys) = omega (arith, length-append xs ys) in
    let bytes = stage_more b.bytes xs ys in
    second ∙ ap (option_map (more ys)) first ∙ cc

-- the front of a piece and one more
front_joined : (piece xs : List ℕ) (size missing : ℕ) → length piece + missing ≡ size → take size (piece ++ xs) ≡ piece ++ take missing xs
front_joined [] xs size missing count =
    let same : size ≡ missing = omega (arith, count) in
    ap (λ (n : ℕ). take n xs) same
front_joined (x ∷ piece) xs size missing count =
    let same : size ≡ suc (length piece + missing) = omega (arith, count) in
    ap (λ (n : ℕ). take n (x ∷ piece ++ xs)) same ∙ ap (λ (l : List ℕ). x ∷ l) (front_joined piece xs (length piece + missing) missing refl)

-- how a file is that ends where so many bytes are missing
pub record IsEnd (extent : Extent) (missing : ℕ) : Type 0 where
  pub whole : missing ≡ 0 → extent ≡ Whole
  pub short : 0 < missing → extent ≡ Short

-- what a file has that ends where so many bytes are missing
at_end : (extent : Extent) (size missing : ℕ) (piece : List ℕ) (left : Option (List ℕ)) → IsEnd extent missing → length piece + missing ≡ size → IsAtEnd left → HasExtent extent size piece left
at_end extent size zero piece left is count end =
    let whole : HasExtent Whole size piece left = (omega (arith, count), end) in
    subst (λ (e : Extent). HasExtent e size piece left) (sym (is.whole refl)) whole
at_end extent size (suc n) piece left is count end =
    let short : HasExtent Short size piece left = (omega (arith, count), end) in
    subst (λ (e : Extent). HasExtent e size piece left) (sym (is.short (omega arith))) short

module _ (a b c : Option (List ℕ)) (h k l : Hasher) (piece : List ℕ) (first : Taken a b h k piece) where
  -- one piece after another was read
  pub taken_more : (xs : List ℕ) → Taken b c k l xs → Taken a c h l (piece ++ xs)
  taken_more xs second = record {
    took = Consumes-trans a b c piece xs first.took second.took;
    fed = fed_more h k l piece xs first.fed second.fed;
  }

  taken_last : (missing got : ℕ) (buf : List ℕ) → NextPiece b c k l missing buf got → got ≡ 0 → Taken a c h l piece
  taken_last missing got buf next none =
      let rest : Taken b c k l [] = subst (λ (n : ℕ). Taken b c k l (take n buf)) none next.taken in
      subst (λ (xs : List ℕ). Taken a c h l xs) (append-nil piece) (taken_more [] rest)

  -- so much was read in all
  pub length_more : (missing got : ℕ) (buf : List ℕ) → NextPiece b c k l missing buf got → length (piece ++ take got buf) ≡ length piece + got
  length_more missing got buf next = omega (arith, length-append piece (take got buf), length-take-le got buf next.fits)

  module _ (size missing : ℕ) (count : length piece + missing ≡ size) where
    -- it went on past its size
    pub hashed_past : (got : ℕ) (buf : List ℕ) → NextPiece b c k l missing buf got → missing < got → HashedBack a c h l size Long
    hashed_past got buf next past = record {
      piece = piece ++ take got buf;
      taken = taken_more (take got buf) next.taken;
      extent_is = omega (arith, length_more missing got buf next, next.bound, past, count);
    }

    module _ (o p : Option Begun) (grew : p ≡ option_map (more piece) o) where
      pub read_to_end : (extent : Extent) (got : ℕ) (buf : List ℕ) → NextPiece b c k l missing buf got → got ≡ 0 → IsEnd extent missing → ReadBack a c h l o p size extent
      read_to_end extent got buf next none is =
          let all : take size piece ≡ piece = take_all size piece (omega (arith, count)) in
          record {
            piece = piece;
            taken = taken_last missing got buf next none;
            extent_is = at_end extent size missing piece c is count (next.end none);
            grew = grew ∙ ap (λ (xs : List ℕ). option_map (more xs) o) (sym all);
          }

      pub read_past : (q : Option Begun) (got within : ℕ) (buf : List ℕ) → NextPiece b c k l missing buf got → within ≡ missing → missing < got → q ≡ option_map (more (take within buf)) p → ReadBack a c h l o q size Long
      read_past q got within buf next is past wrote =
          let front : take size (piece ++ take got buf) ≡ piece ++ take within buf =
          front_joined piece (take got buf) size missing count
          ∙ ap (λ (xs : List ℕ). piece ++ xs) (take-take missing got buf (omega (arith, past)) ∙ ap (λ (n : ℕ). take n buf) (sym is)) in
          record {
            piece = piece ++ take got buf;
            taken = taken_more (take got buf) next.taken;
            extent_is = omega (arith, length_more missing got buf next, next.bound, past, count);
            grew = grown_more o p q piece (take within buf) grew wrote ∙ ap (λ (xs : List ℕ). option_map (more xs) o) (sym front);
          }

      -- a read or a write failed
      pub broke : (q : Option Begun) (xs : List ℕ) → Taken b c k l xs → length xs ≤ missing + 1 → q ≡ p → Broken a c h l o q size
      broke q xs rest short same = record {
        piece = piece ++ xs;
        taken = taken_more xs rest;
        bound = omega (arith, length-append piece xs, count, short);
        count = length piece;
        within = (omega (arith, length-append piece xs), omega (arith, count));
        grew = same ∙ grew ∙ ap (λ (ys : List ℕ). option_map (more ys) o) (sym (take_at piece xs (length piece) refl));
      }
