-- One piece after another.
use Rattle.std.proofs.Common.{◌≡◌, ℕ, true, false, Bool, List, ◌++◌, Option, Some, None, Result, Ok, Err, OnOk, OnErr, is_err, refl, sym, ◌∙◌, ap, subst, arith, append_assoc, length-append}
use Rattle.std.specs.Io.KnownBytes.{append_known}
use Rattle.esr_hash.specs.declared.hasher.Hasher.{Hasher}
use Rattle.esr_hash.specs.Fed.{HasFed}
use Rattle.esr_source.specs.Sure.{ServesAll}
use Rattle.esr_source.specs.Told.{ShardTold}
use Rattle.esr_parts.specs.Reads.{Fed, ReadOn}

pub fed_more : (a b c : Hasher) (xs ys : List ℕ) → Fed a b xs → Fed b c ys → Fed a c (xs ++ ys)
fed_more a b c xs ys h k =
    record {
      joined = λ m fed. subst (λ (bytes : List ℕ). HasFed c bytes) (append_assoc m xs ys) (k.joined (m ++ xs) (h.joined m fed));
      count = omega (arith, h.count, k.count, length-append xs ys);
    }

pub stage_more : (o : Option (List ℕ)) (xs ys : List ℕ) → append_known (append_known o xs) ys ≡ append_known o (xs ++ ys)
stage_more None xs ys = refl
stage_more (Some told) xs ys = ap (λ (bytes : List ℕ). Some bytes) (append_assoc told xs ys)

pub on_ok : {T E : Type 0} (P : Type 0) (r : Result T E) → is_err r ≡ false → OnOk r P → P
on_ok P (Ok x) is h = h
on_ok P (Err e) is h = absurd cc

pub on_err : {T E : Type 0} (P : Type 0) (r : Result T E) → is_err r ≡ true → OnErr r P → P
on_err P (Ok x) is h = absurd cc
on_err P (Err e) is h = h

-- a shard that was read, and once more
pub read_on : (a b c : ShardTold) → ReadOn a b → ReadOn b c → ReadOn a c
read_on a b c first second = second ∙ ap (λ (t : ShardTold). record t { left = c.left }) first

-- a start of a file reads on, whatever it is answered
pub read_start : {T E : Type 0} (r : Result T E) (a b : ShardTold) (o : Option (List ℕ)) → OnOk r (b ≡ record a { left = o }) → OnErr r (b ≡ a) → ReadOn a b
read_start (Ok x) a b o ok err = ok ∙ ap (λ (p : Option (List ℕ)). record a { left = p }) (sym (ap (λ (t : ShardTold). t.left) ok))
read_start (Err e) a b o ok err = err ∙ ap (λ (p : Option (List ℕ)). record a { left = p }) (sym (ap (λ (t : ShardTold). t.left) err))

-- an object that tells that no call fails has its count still, after one call more
pub steady_more : {failed : Bool} (a b : ShardTold) (x y z : ℕ) → ReadOn a b → (a.is_sure ≡ true → y ≡ x) → ServesAll b.is_sure y z failed → a.is_sure ≡ true → z ≡ x
steady_more a b x y z same so_far serves sure = serves.count (ap (λ (t : ShardTold). t.is_sure) same ∙ sure) ∙ so_far sure
