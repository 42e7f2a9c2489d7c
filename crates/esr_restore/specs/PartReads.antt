-- The parts of a file that are read one after another.
use Rattle.std.proofs.Common.{◌≡◌, ℕ, suc, ◌+◌, ◌-◌, ◌≤◌, min, Bool, true, false, ◌&&◌, List, [], ◌∷◌, ◌++◌, length, take, Option, Some, None, refl, sym, ap, ◌∙◌, arith, append-nil, if◌then◌else◌, subst}
use Rattle.std.proofs.lemmas.List.{take_all, take-append-le, length-take}
use Rattle.std.proofs.lemmas.List.Folds.{concat-append}
use Rattle.std.specs.List.{concat}
use Rattle.std.specs.Io.KnownBytes.{Consumes}
use Rattle.esr_model.specs.Image as image
use Rattle.esr_model.specs.Names.{BlobName}
use Rattle.esr_model.specs.Values.{Bytes}
use Rattle.esr_model.specs.Parts.{AreFull}
use Rattle.esr_model.specs.Image.{AllPairs}
use Rattle.esr_hash.specs.declared.hasher.Hasher.{Hasher}
use Rattle.esr_hash.specs.Fed.{fed_count, HasFed}
use Rattle.esr_parts.specs.Back.{HasExtent}
use Rattle.esr_parts.specs.declared.back.Extent.{Extent}
use Rattle.esr_parts.specs.declared.back.Extent.TheVariants.{Whole, Short, Long}
use Rattle.esr_desk.specs.Restore.Parts.{front_of, sized, IsFront}

-- the whole size
abbrev pub is_whole : Extent → Bool
is_whole Whole = true
is_whole Short = false
is_whole Long = false

front_is : (extent : Extent) (size : ℕ) (piece rest : Bytes) → HasExtent extent size piece (Some rest) → piece ≡ take (suc size) (piece ++ rest)
front_is Long size piece rest has =
    let len : length piece ≡ size + 1 = has in
    let within : suc size ≤ length piece = omega (arith, len) in
    let fits : length piece ≤ suc size = omega (arith, len) in
    sym (take-append-le (suc size) piece rest within ∙ take_all (suc size) piece fits)
front_is extent size piece rest has =
    let fits : length piece ≤ suc size = omega (arith, has.0) in
    sym (ap (λ (l : Bytes). take (suc size) (piece ++ l)) has.1 ∙ ap (λ (l : Bytes). take (suc size) l) (append-nil piece) ∙ take_all (suc size) piece fits)

-- this is what a fetch of these bytes gives
pub front_read : (left : Option Bytes) (extent : Extent) (size : ℕ) (bytes piece : Bytes) → Consumes (Some bytes) left piece → HasExtent extent size piece left → piece ≡ front_of size bytes
front_read None extent size bytes piece took has = absurd took
front_read (Some rest) extent size bytes piece took has = front_is extent size piece rest has ∙ ap (λ (l : Bytes). take (suc size) l) (sym took)

pub told_some : (tells : Bool) (bytes : Bytes) → tells ≡ true → (if tells then Some bytes else None) ≡ Some bytes
told_some true bytes yes_is = refl
told_some false bytes yes_is = absurd cc

pub extent_bound : (extent : Extent) (size : ℕ) (piece : Bytes) (left : Option Bytes) → HasExtent extent size piece left → length piece ≤ suc size
extent_bound Long size piece left has = let len : length piece ≡ size + 1 = has in omega (arith, len)
extent_bound extent size piece left has = omega (arith, has.0)

pub extent_whole : (extent : Extent) (size : ℕ) (piece : Bytes) (left : Option Bytes) → HasExtent extent size piece left → is_whole extent ≡ true → length piece ≡ size
extent_whole Whole size piece left has whole = has.0
extent_whole extent size piece left has whole = absurd cc

pub extent_other : (extent : Extent) (size : ℕ) (piece : Bytes) (left : Option Bytes) → HasExtent extent size piece left → is_whole extent ≡ false → length piece ≡ size → ⊥
extent_other Whole size piece left has other = absurd cc
extent_other Short size piece left has other = λ same. omega (arith, has.0, same)
extent_other Long size piece left has other = λ same. let len : length piece ≡ size + 1 = has in omega (arith, len, same)

abbrev pub IsExact : BlobName × ℕ → Bytes → Type 0
IsExact part front = length front ≡ part.1

pub concat_push : (xs : List Bytes) (x : Bytes) → concat (xs ++ x ∷ []) ≡ concat xs ++ x
concat_push xs x = concat-append xs (x ∷ []) ∙ ap (λ (l : Bytes). concat xs ++ l) (append-nil x)

pub one_false : (a b : Bool) → a && b ≡ false → (a ≡ true → b ≡ true → ⊥)
one_false true true h = absurd cc
one_false a b h = λ x y. absurd cc

pub and_then : (flag a b : Bool) → a ≡ true → flag ≡ b → flag ≡ a && b
and_then flag true b yes_is is = is
and_then flag false b yes_is is = absurd cc

pub and_else : (flag a b : Bool) → a ≡ false → flag ≡ a → flag ≡ a && b
and_else flag true b no_is is = absurd cc
and_else flag false b no_is is = is

pub fed_most : (hasher : Hasher) (fronts : List Bytes) (place len k : ℕ) → HasFed hasher (concat fronts) → length (concat fronts) ≤ min place len + k → fed_count hasher ≤ min place len + k
fed_most hasher fronts place len k fed count = omega (arith, fed.0, count)

-- such a front is the whole blob
whole_blob : (size : ℕ) (bytes front : Bytes) → front ≡ front_of size bytes → length front ≡ size → bytes ≡ front
whole_blob size bytes front is len =
    let cut : length front ≡ min (suc size) (length bytes) = ap (λ (l : Bytes). length l) is ∙ length-take (suc size) bytes in
    let fits : length bytes ≤ suc size = omega (arith, cut, len) in
    sym (is ∙ take_all (suc size) bytes fits)

module _ (has : BlobName → Bytes → Type 0) where
  has_front : (part : BlobName × ℕ) (front : Bytes) → IsFront has part front → IsExact part front → has part.0 front
  has_front part front h exact = subst (λ (b : Bytes). has part.0 b) (whole_blob part.1 h.0 front h.2 exact) h.1

  pub there_sized : (len size : ℕ) (parts : List BlobName) (fronts : List Bytes) → AllPairs (IsFront has) (sized len size parts) fronts → AllPairs IsExact (sized len size parts) fronts → AllPairs has parts fronts
  there_sized len size [] [] h k = tt
  there_sized len size (p ∷ []) (y ∷ []) h k = (has_front (p, len) y h.0 k.0, tt)
  there_sized len size (p ∷ []) (y ∷ z ∷ ys) h k = absurd h.1
  there_sized len size (p ∷ n ∷ ps) (y ∷ ys) h k = (has_front (p, size) y h.0 k.0, there_sized (len - size) size (n ∷ ps) ys h.1 k.1)
  there_sized len size parts fronts h k = absurd h

pub full_sized : (len size : ℕ) (parts : List BlobName) (fronts : List Bytes) → AllPairs IsExact (sized len size parts) fronts → AreFull size fronts
full_sized len size [] (y ∷ ys) k = absurd k
full_sized len size (p ∷ []) (y ∷ z ∷ ys) k = absurd k.1
full_sized len size (p ∷ other) [] k = absurd k
full_sized len size (p ∷ n ∷ ps) (y ∷ z ∷ ys) k = (k.0, full_sized (len - size) size (n ∷ ps) (z ∷ ys) k.1)
full_sized len size parts fronts k = tt

pub same_concat : (xs : List Bytes) → image.concat xs ≡ concat xs
same_concat [] = refl
same_concat (x ∷ xs) = ap (λ (l : Bytes). x ++ l) (same_concat xs)
