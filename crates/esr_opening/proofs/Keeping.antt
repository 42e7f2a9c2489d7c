-- The deletes among the ops of a record, numbered anew one after another.
use Rattle.std.proofs.Common.{◌≡◌, ℕ, suc, ◌+◌, ◌<◌, ◌≤◌, Bool, true, false, List, [], ◌∷◌, ◌++◌, length, get_or, drop, refl, sym, ap, ◌∙◌, subst, arith}
use Rattle.std.specs.Prelude.{if◌then◌else◌}
use Rattle.std.proofs.lemmas.List.{append-nil, append_assoc, drop_more, drop_all}
use Rattle.esr_record.specs.declared.op.RecordOp.{RecordOp}
use Rattle.esr_record.specs.Op.{IsWork, IsOp, AreOps, last_op}
use Rattle.esr_ops.specs.Between.{last_pushed}
use Rattle.esr_opening.specs.Terms.{is_delete, kept_ops}

-- so many of the ops were looked at: the rest is kept behind, and its numbers lie above the last that was given
pub record AreKept (ops : List RecordOp) (i : ℕ) (kept : List RecordOp) : Type 0 where
  pub told : kept_ops 1 ops ≡ kept ++ kept_ops (suc (last_op kept)) (drop i ops)
  pub above : AreOps (last_op kept) (drop i ops)

pub none_kept : (ops : List RecordOp) → AreOps 0 ops → AreKept ops 0 []
none_kept ops are = record { told = refl; above = are }

-- from a lower number on
from_lower : (low high : ℕ) (ops : List RecordOp) → low ≤ high → AreOps high ops → AreOps low ops
from_lower low high [] le are = tt
from_lower low high (o ∷ ops) le are = let above = are.0.above in (record { above = omega (arith, le, above); most = are.0.most; work = are.0.work }, are.1)

kept_if : (n : ℕ) (o : RecordOp) (ops : List RecordOp) (b : Bool) → is_delete o.work ≡ b → kept_ops n (o ∷ ops) ≡ (if b then record { op = n; work = o.work } ∷ kept_ops (suc n) ops else kept_ops n ops)
kept_if n o ops b is = ap (λ (c : Bool). if c then record { op = n; work = o.work } ∷ kept_ops (suc n) ops else kept_ops n ops) is

module _ (ops : List RecordOp) (i : ℕ) (kept : List RecordOp) (are : AreKept ops i kept) (o : RecordOp) (less : i < length ops) (is : o ≡ get_or ops i o) where
  here : drop i ops ≡ o ∷ drop (i + 1) ops
  here = drop_more ops i o less ∙ ap (λ (x : RecordOp). x ∷ drop (i + 1) ops) (sym is)

  above : AreOps (last_op kept) (o ∷ drop (i + 1) ops)
  above = subst (AreOps (last_op kept)) here are.above

  -- a delete may get the next number
  pub may_keep : (new : RecordOp) → new.op ≡ last_op kept + 1 → new.work ≡ o.work → IsOp (last_op kept) new
  may_keep new op_is work_is =
      let own : IsOp (last_op kept) o = above.0 in
      record { above = omega (arith, op_is); most = omega (arith, op_is, own.above, own.most); work = subst IsWork (sym work_is) own.work }

  -- and gets it
  pub kept_more : (new : RecordOp) (more : List RecordOp) → is_delete o.work ≡ true → new.op ≡ last_op kept + 1 → new.work ≡ o.work → more ≡ kept ++ new ∷ [] → AreKept ops (i + 1) more
  kept_more new more is_one op_is work_is more_is =
      let last : last_op more ≡ suc (last_op kept) = ap last_op more_is ∙ last_pushed 0 kept new ∙ op_is ∙ add_one (last_op kept) in
      let own : IsOp (last_op kept) o = above.0 in
      let same : record { op = suc (last_op kept); work = o.work } ≡ new = λ j. record { op = sym (op_is ∙ add_one (last_op kept)) j; work = sym work_is j } in
      record {
        told = are.told ∙ ap (λ (xs : List RecordOp). kept ++ kept_ops (suc (last_op kept)) xs) here ∙ ap (λ (xs : List RecordOp). kept ++ xs) (kept_if (suc (last_op kept)) o (drop (i + 1) ops) true is_one)
            ∙ ap (λ (x : RecordOp). kept ++ x ∷ kept_ops (suc (suc (last_op kept))) (drop (i + 1) ops)) same
            ∙ sym (append_assoc kept (new ∷ []) (kept_ops (suc (suc (last_op kept))) (drop (i + 1) ops)))
            ∙ ap (λ (n : ℕ). (kept ++ new ∷ []) ++ kept_ops (suc n) (drop (i + 1) ops)) (sym last) ∙ ap (λ (xs : List RecordOp). xs ++ kept_ops (suc (last_op more)) (drop (i + 1) ops)) (sym more_is);
        above = from_lower (last_op more) o.op (drop (i + 1) ops) (omega (arith, last, own.above)) above.1;
      }
    where
      add_one : (n : ℕ) → n + 1 ≡ suc n
      add_one n = omega arith

  -- another op goes
  pub passed_over : is_delete o.work ≡ false → AreKept ops (i + 1) kept
  passed_over other =
      let own : IsOp (last_op kept) o = above.0 in
      record {
        told = are.told ∙ ap (λ (xs : List RecordOp). kept ++ kept_ops (suc (last_op kept)) xs) here ∙ ap (λ (xs : List RecordOp). kept ++ xs) (kept_if (suc (last_op kept)) o (drop (i + 1) ops) false other);
        above = from_lower (last_op kept) o.op (drop (i + 1) ops) (omega (arith, own.above)) above.1;
      }

-- all of them
pub all_kept : (ops : List RecordOp) (i : ℕ) (kept : List RecordOp) → AreKept ops i kept → length ops ≤ i → kept ≡ kept_ops 1 ops
all_kept ops i kept are past = sym (are.told ∙ ap (λ (xs : List RecordOp). kept ++ kept_ops (suc (last_op kept)) xs) (drop_all i ops past) ∙ append-nil kept)
