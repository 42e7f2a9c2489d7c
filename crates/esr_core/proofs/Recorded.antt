-- What the cluster record lists is open, and its ids lie below the next one.
use Rattle.std.proofs.Common.{◌≡◌, ◌⊎◌, ℕ, ◌<◌, Bool, true, false, List, ◌++◌, Option, Some, None, map, refl, sym, ap, ◌∙◌, subst, inl, inr, nat_cmp}
use Rattle.std.specs.Prelude.{if◌then◌else◌}
use Rattle.std.specs.Cmp.{nat_cmp_total}
use Rattle.std.specs.FinMap.{FinMap}
use Rattle.std.specs.FinMap as fin
use Rattle.esr_model.specs.Values.{Has, RecordWork, DeletingOf, Cleaning, Formats}
use Rattle.esr_model.specs.Shelf.{Shelved}
use Rattle.esr_model.specs.Kept.{WorkIds}
use Rattle.esr_core.specs.World.{World, Op, Deletion, work_by, work_of, deletion_work, record_ops}
use Rattle.esr_core.specs.Ids.{Law}
use Rattle.esr_core.specs.Laws.Maps.{entry_got, found_member}
use Rattle.esr_model.specs.Lists.{Has-either, Has-mapped}

-- an op of the record is an open one
pub recorded_is : (ops : FinMap nat_cmp Op) (deletes : FinMap nat_cmp Deletion) (number : ℕ) (work : RecordWork) → Has (record_ops ops deletes) (number, work)
    → ((op : Op) × (fin.get ops number ≡ Some op) × (work_of op ≡ work)) ⊎ ((x : Deletion) × (fin.get deletes number ≡ Some x) × (deletion_work x ≡ work))
recorded_is ops deletes number work h =
    let all : List (ℕ × RecordWork) = map (λ (e : ℕ × Op). (e.0, work_of e.1)) (fin.entries ops) ++ map (λ (e : ℕ × Deletion). (e.0, deletion_work e.1)) (fin.entries deletes) in
    let got : fin.get (fin.from_entries {R = nat_cmp} all) number ≡ Some work = entry_got (fin.from_entries {R = nat_cmp} all) number work h in
    let member : Has all (number, work) = found_member number work all (sym (fin.get-from_entries nat_cmp_total all number) ∙ got) in
    elim (Has-either (map (λ (e : ℕ × Op). (e.0, work_of e.1)) (fin.entries ops)) (map (λ (e : ℕ × Deletion). (e.0, deletion_work e.1)) (fin.entries deletes)) (number, work) member) [
      | inl a ↦
          let (e, m, same) = Has-mapped {B = ℕ × RecordWork} (λ (e : ℕ × Op). (e.0, work_of e.1)) (fin.entries ops) (number, work) a in
          inl (e.1, subst (λ n. fin.get ops n ≡ Some e.1) (ap (λ (p : ℕ × RecordWork). p.0) same) (entry_got ops e.0 e.1 m), ap (λ (p : ℕ × RecordWork). p.1) same)
      | inr b ↦
          let (e, m, same) = Has-mapped {B = ℕ × RecordWork} (λ (e : ℕ × Deletion). (e.0, deletion_work e.1)) (fin.entries deletes) (number, work) b in
          inr (e.1, subst (λ n. fin.get deletes n ≡ Some e.1) (ap (λ (p : ℕ × RecordWork). p.0) same) (entry_got deletes e.0 e.1 m), ap (λ (p : ℕ × RecordWork). p.1) same)
    ]

module _ (f : Formats) (w : World) (shelf : List Shelved) (l : Law f w shelf) where
  op_below : (o : ℕ) (op : Op) → fin.get w.ops o ≡ Some op → (source : Option ℕ) → op.source ≡ source → WorkIds (work_by op source) w.next_id
  op_below o op there None e = let h = l.ids.ops o op there in (h.uuid, h.indices)
  op_below o op there (Some u) e =
      let h = l.ids.ops o op there in
      let (z, m, is) = (l.lawful.queue.sources o op u there e).0 in
      (h.uuid, subst (λ x. x < w.next_id) is (l.ids.root.snapshots z m), h.indices)

  deletion_below : (d : ℕ) (x : Deletion) → fin.get w.deletes d ≡ Some x → (b : Bool) → WorkIds (if b then Cleaning else DeletingOf x.uuids) w.next_id
  deletion_below d x there true = tt
  deletion_below d x there false = λ u m. l.deletions d x there u m

  -- the ids of the record's ops lie below the next one
  pub record_below : (op : ℕ × RecordWork) → Has (record_ops w.ops w.deletes) op → WorkIds op.1 w.next_id
  record_below op h = elim (recorded_is w.ops w.deletes op.0 op.1 h) [
    | inl a ↦ subst (λ work. WorkIds work w.next_id) a.2 (op_below op.0 a.0 a.1 a.0.source refl)
    | inr b ↦ subst (λ work. WorkIds work w.next_id) b.2 (deletion_below op.0 b.0 b.1 b.0.clean)
  ]
