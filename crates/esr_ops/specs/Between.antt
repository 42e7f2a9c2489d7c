-- Laws of the deletes whose numbers lie between two others.
use Rattle.std.proofs.Common.{◌≡◌, ℕ, ◌+◌, ◌<◌, true, false, List, [], ◌∷◌, ◌++◌, length, get_or, drop, drop-cons, add-one, refl, sym, ap, ◌∙◌}
use Rattle.std.specs.Prelude.{nat_lt}
use Rattle.std.proofs.lemmas.Bool.{ltb-true, and_parts}
use Rattle.esr_record.specs.declared.op.RecordOp.{RecordOp}
use Rattle.esr_record.specs.Op.{last_from}
use Rattle.esr_core.specs.World.{Deletion}
use Rattle.esr_ops.specs.Deletes.{lies_between, between}

-- the last op is the one that was pushed
pub last_pushed : (n : ℕ) (os : List RecordOp) (o : RecordOp) → last_from n (os ++ o ∷ []) ≡ o.op
last_pushed n [] o = refl
last_pushed n (p ∷ os) o = last_pushed p.op os o

pub lies_after : (after before n : ℕ) → lies_between after before n ≡ true → after < n
lies_after after before n e = ltb-true after n (and_parts (nat_lt after n) (nat_lt n before) e).0

pub lies_before : (after before n : ℕ) → lies_between after before n ≡ true → n < before
lies_before after before n e = ltb-true n before (and_parts (nat_lt after n) (nat_lt n before) e).1

-- the first delete is kept, or left
pub between_kept : (after before : ℕ) (d : ℕ × Deletion) (ds : List (ℕ × Deletion)) → lies_between after before d.0 ≡ true → between after before (d ∷ ds) ≡ d ∷ between after before ds
between_kept after before d ds e = rw e refl

pub between_left : (after before : ℕ) (d : ℕ × Deletion) (ds : List (ℕ × Deletion)) → lies_between after before d.0 ≡ false → between after before (d ∷ ds) ≡ between after before ds
between_left after before d ds e = rw e refl

-- a list from a place on begins with what stands there
pub from_place : {A : Type 0} (xs : List A) (i : ℕ) (x : A) → i < length xs → x ≡ get_or xs i x → drop i xs ≡ x ∷ drop (i + 1) xs
from_place {A} xs i x lt is =
    let split : drop i xs ≡ get_or xs i x ∷ drop (i + 1) xs = rw add-one (drop-cons xs i x lt) in
    split ∙ ap (λ (z : A). z ∷ drop (i + 1) xs) (sym is)
