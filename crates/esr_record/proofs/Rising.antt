-- Ops whose numbers rise, with one more and with fewer.
use Rattle.std.proofs.Common.{◌≡◌, ℕ, ◌≤◌, Bool, if◌then◌else◌, true, false, List, [], ◌∷◌, ◌++◌, Ok, slice_get, length, ◌-◌, suc, Some, inl, inr, arith, refl}
use Rattle.std.specs.List.{filter, list_any}
use Rattle.std.proofs.lemmas.Bool.{cases_Bool}
use Rattle.serde_json.specs.Data.{Data}
use Rattle.esr_names.specs.declared.ids.Id.{Id}
use Rattle.esr_record.specs.declared.op.RecordOp.{RecordOp}
use Rattle.esr_record.specs.Op.{is_id, IsOp, AreOps, last_from, last_op}
use Rattle.esr_record.specs.Reading.{uuid_item, uuids_from, op_of, ops_from}

pub AreOps_push : (last : ℕ) (os : List RecordOp) (o : RecordOp) → AreOps last os → IsOp (last_from last os) o → AreOps last (os ++ o ∷ [])
AreOps_push last [] o h one = (one, tt)
AreOps_push last (p ∷ os) o h one = (h.0, AreOps_push p.op os o h.1 one)

-- a push that may have failed
pub AreOps_tried : (pushed : Bool) (os : List RecordOp) (o : RecordOp) → AreOps 0 os → IsOp (last_op os) o → AreOps 0 (if pushed then os ++ o ∷ [] else os)
AreOps_tried true os o h one = AreOps_push 0 os o h one
AreOps_tried false os o h one = h

pub last_from-push : (last : ℕ) (os : List RecordOp) (o : RecordOp) → last_from last (os ++ o ∷ []) ≡ o.op
last_from-push last [] o = refl
last_from-push last (p ∷ os) o = last_from-push p.op os o

IsOp_below : (low last : ℕ) (o : RecordOp) → low ≤ last → IsOp last o → IsOp low o
IsOp_below low last o less h = record { above = omega (arith, h.above); most = h.most; work = h.work }

AreOps_below : (low last : ℕ) (os : List RecordOp) → low ≤ last → AreOps last os → AreOps low os
AreOps_below low last [] less h = tt
AreOps_below low last (o ∷ os) less h = (IsOp_below low last o less h.0, h.1)

pub AreOps_filter : (last : ℕ) (os : List RecordOp) (test : RecordOp → Bool) → AreOps last os → AreOps last (filter test os)
AreOps_filter last [] test h = tt
AreOps_filter last (o ∷ os) test h =
    let rest = AreOps_filter o.op os test h.1 in
    let above = h.0.above in
    elim (cases_Bool (test o)) [
      | inl kept ↦ rw kept (h.0, rest)
      | inr gone ↦ rw gone (AreOps_below last o.op (filter test os) (omega arith) rest)
    ]

-- reading goes on after one more uuid
pub uuids_from_push : (us : List Id) (u : Id) (d : Data) (ds : List Data) → uuid_item d ≡ Ok u → list_any (is_id u) us ≡ false
    → uuids_from us (d ∷ ds) ≡ uuids_from (us ++ u ∷ []) ds
unfolding uuids_from
uuids_from_push us u d ds one fresh = rw (one, fresh) refl

-- reading goes on after one more op
pub ops_from_push : (last : ℕ) (os : List RecordOp) (o : RecordOp) (d : Data) (ds : List Data) → op_of last d ≡ Ok o
    → ops_from last os (d ∷ ds) ≡ ops_from o.op (os ++ o ∷ []) ds
unfolding ops_from
ops_from_push last os o d ds one = rw one refl

-- the last op's number, by its place
pub last_from-at : (last : ℕ) (os : List RecordOp) (o : RecordOp) → slice_get os (length os - 1) ≡ Some o → last_from last os ≡ o.op
last_from-at last [] o h = cc
last_from-at last (p ∷ []) o h = cc
last_from-at last (p ∷ q ∷ os) o h =
    let place : length (p ∷ q ∷ os) - 1 ≡ suc (length (q ∷ os) - 1) = omega arith in
    last_from-at p.op (q ∷ os) o (rw place at h)
