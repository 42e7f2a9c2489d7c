-- A script that is read piece by piece.
use Rattle.std.proofs.Common.{◌≡◌, ℕ, ◌+◌, ◌-◌, ◌≤◌, List, [], ◌∷◌, ◌++◌, length, take, drop, Option, Some, None, sym, ap, ◌∙◌, refl, subst, arith, append-nil}
use Rattle.std.proofs.lemmas.Grind.{common_steps}
use Rattle.std.proofs.lemmas.List.{take_all, length-append}
use Rattle.std.specs.Io.KnownBytes.{Consumes, IsAtEnd}
use Rattle.std.proofs.KnownBytes.{Consumes-trans}
use Rattle.esr_run.specs.Script.{AreBytes}
use Rattle.esr_run.specs.Causes.{IsReadInPart}
use Rattle.esr_run.specs.Stops.{IsKept}

-- at its end all bytes were read
pub read_whole : (old new : Option (List ℕ)) (whole : List ℕ) → Consumes old new whole → IsAtEnd new → AreBytes old whole
read_whole None new whole took end = tt
read_whole (Some xs) None whole took end = absurd took
read_whole (Some xs) (Some ys) whole took end = sym (took ∙ ap (λ (rest : List ℕ). whole ++ rest) end ∙ append-nil whole)

-- a script that was read to its end
pub read_end : (first mid new : Option (List ℕ)) (kept piece : List ℕ) → Consumes first mid kept → Consumes mid new piece → piece ≡ [] → IsAtEnd new → length kept ≤ 4194305 → IsKept first kept
read_end first mid new kept piece took more none end few =
    let same : kept ++ piece ≡ kept = ap (λ (l : List ℕ). kept ++ l) none ∙ append-nil kept in
    record {
      bytes = kept;
      bytes_are = read_whole first new kept (subst (λ (l : List ℕ). Consumes first new l) same (Consumes-trans first mid new kept piece took more)) end;
      kept_is = sym (take_all 4194305 kept few);
    }

front_is : (n : ℕ) (xs ys : List ℕ) → length xs ≡ n → take n (xs ++ ys) ≡ xs
front_is n xs ys is = grind (arith, common_steps)

-- a script of which as much was read as is read at most
pub read_full : (old new : Option (List ℕ)) (kept : List ℕ) → Consumes old new kept → length kept ≡ 4194305 → IsKept old kept
read_full None new kept took full = record { bytes = kept; bytes_are = tt; kept_is = sym (take_all 4194305 kept (omega (arith, full))) }
read_full (Some xs) None kept took full = absurd took
read_full (Some xs) (Some ys) kept took full = record { bytes = xs; bytes_are = refl; kept_is = sym (ap (λ (l : List ℕ). take 4194305 l) took ∙ front_is 4194305 kept ys full) }

pub in_part_more : (old mid new : Option (List ℕ)) (kept piece : List ℕ) → Consumes old mid kept → Consumes mid new piece → length kept + length piece ≤ 4194305 → IsReadInPart old new
in_part_more old mid new kept piece took more few = record { bytes = kept ++ piece; took = Consumes-trans old mid new kept piece took more; few = omega (arith, few, length-append kept piece) }

pub nil_of : (xs : List ℕ) → length xs ≡ 0 → xs ≡ []
nil_of [] e = refl
nil_of (x ∷ xs) e = absurd (cc)

-- what is left to be written
pub whole_more : (text front rest : List ℕ) (n : ℕ) → text ≡ front ++ rest → text ≡ (front ++ take n rest) ++ take (length rest - n) (drop n rest)
whole_more text front rest n is = grind (arith, common_steps)
