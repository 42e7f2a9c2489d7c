-- What is written of a record is read as that record.
use Rattle.std.proofs.Common.{◌≡◌, ℕ, ℤ, pos, negsuc, int_lt, ◌≤ℤ◌, ◌<◌, ◌≤◌, ◌^◌, ◌-◌, nat_lt, nat_le, false, List, [], ◌∷◌, ◌++◌, map, Some, Ok, refl, ap, ◌∙◌, arith}
use Rattle.std.proofs.lemmas.Int.{ints}
use Rattle.std.proofs.lemmas.Bool.{le-ltb, lt-leb}
use Rattle.std.proofs.lemmas.List.{append_assoc, append-nil}
use Rattle.serde_json.specs.Find.{of_integer, as_integer}
use Rattle.serde_json.specs.Read.{max_depth}
use Rattle.esr_names.specs.IdTextLaws.{read_id-id_text}
use Rattle.esr_names.specs.declared.ids.Id.{Id}
use Rattle.esr_json.specs.Access.{member_at, text_at, number_at, items_at}
use Rattle.esr_json.specs.Shallow.{IsShallow}
use Rattle.esr_json.specs.Items.{items_listed_of}
use Rattle.esr_json.specs.ShallowValues.{IsShallow-array_map, IsShallow-integer}
use Rattle.esr_names.specs.Indices.{id_at, snap_name_at, indices_at, id_data, ref_data}
use Rattle.esr_names.specs.RefTexts.{refs_from-map, IsShallow-indices_data}
use Rattle.esr_record.specs.declared.op.OpWork.{OpWork}
use Rattle.esr_record.specs.declared.op.OpWork.TheVariants.{Create, Clone, Delete, Cleanup}
use Rattle.esr_record.specs.declared.op.RecordOp.{RecordOp}
use Rattle.esr_record.specs.Op.{IsMaking, AreUuids, IsWork, AreOps}
use Rattle.esr_record.specs.Record.{Record, AreNumbers, IsRecord}
use Rattle.esr_record.specs.Reading.{kind_of, op_number_of, create_of, clone_of, uuid_item, uuids_from, delete_of, cleanup_of, op_of, ops_from, record_of}
use Rattle.esr_record.specs.Text.{work_data, op_data, record_data}

whole : (z : ℤ) → as_integer (of_integer z) ≡ Some z
whole (pos n) = refl
whole (negsuc n) = refl

not_under : (a b : ℤ) → a ≤ℤ b → int_lt b a ≡ false
not_under a b h = grind (arith, ints)

uuids_from-map : (before us : List Id) → AreUuids before us → uuids_from before (map id_data us) ≡ Ok (before ++ us)
unfolding uuids_from uuid_item
uuids_from-map before [] h = rw append-nil refl
uuids_from-map before (u ∷ us) h = rw (read_id-id_text u h.0, h.1) (uuids_from-map (before ++ u ∷ []) us h.2 ∙ ap Ok (append_assoc before (u ∷ []) us))

op_of-work_data : (last op : ℕ) (work : OpWork) → last < op → op ≤ 2 ^ 62 → IsWork work → op_of last (work_data op work) ≡ Ok (record { op = op; work = work })
unfolding op_of kind_of op_number_of create_of clone_of delete_of cleanup_of id_at snap_name_at indices_at items_at text_at number_at member_at
op_of-work_data last op (Create info) above most h =
    let low : nat_lt op 1 ≡ false = le-ltb op 1 (omega arith) in
    let high : nat_lt (2 ^ 62) op ≡ false = le-ltb (2 ^ 62) op most in
    let rises : nat_le op last ≡ false = lt-leb op last above in
    let early : nat_lt info.moment 0 ≡ false = le-ltb info.moment 0 (omega arith) in
    let late : nat_lt (2 ^ 64 - 1) info.moment ≡ false = le-ltb (2 ^ 64 - 1) info.moment (omega (arith, h.moment)) in
    rw (items_listed_of (map ref_data info.indices), refs_from-map [] info.indices h.indices, early, late, h.name, low, high, rises, read_id-id_text info.uuid h.uuid) refl
op_of-work_data last op (Clone info source) above most h =
    let low : nat_lt op 1 ≡ false = le-ltb op 1 (omega arith) in
    let high : nat_lt (2 ^ 62) op ≡ false = le-ltb (2 ^ 62) op most in
    let rises : nat_le op last ≡ false = lt-leb op last above in
    let making : IsMaking info = h.0 in
    let early : nat_lt info.moment 0 ≡ false = le-ltb info.moment 0 (omega arith) in
    let late : nat_lt (2 ^ 64 - 1) info.moment ≡ false = le-ltb (2 ^ 64 - 1) info.moment (omega (arith, making.moment)) in
    rw (items_listed_of (map ref_data info.indices), refs_from-map [] info.indices making.indices, early, late, making.name, low, high, rises, read_id-id_text source h.1, read_id-id_text info.uuid making.uuid) refl
op_of-work_data last op (Delete uuids) above most h =
    let low : nat_lt op 1 ≡ false = le-ltb op 1 (omega arith) in
    let high : nat_lt (2 ^ 62) op ≡ false = le-ltb (2 ^ 62) op most in
    let rises : nat_le op last ≡ false = lt-leb op last above in
    rw (low, high, rises, items_listed_of (map id_data uuids), uuids_from-map [] uuids h) refl
op_of-work_data last op Cleanup above most h =
    let low : nat_lt op 1 ≡ false = le-ltb op 1 (omega arith) in
    let high : nat_lt (2 ^ 62) op ≡ false = le-ltb (2 ^ 62) op most in
    let rises : nat_le op last ≡ false = lt-leb op last above in
    rw (low, high, rises) refl

ops_from-map : (last : ℕ) (before os : List RecordOp) → AreOps last os → ops_from last before (map op_data os) ≡ Ok (before ++ os)
unfolding ops_from
ops_from-map last before [] h = rw append-nil refl
ops_from-map last before (o ∷ os) h =
    let one = h.0 in
    rw (op_of-work_data last o.op o.work one.above one.most one.work) (ops_from-map o.op (before ++ o ∷ []) os h.1 ∙ ap Ok (append_assoc before (o ∷ []) os))

pub record_of-record_data : (r : Record) → IsRecord r → record_of (record_data r) ≡ Ok r
unfolding record_of record_data items_at number_at member_at
record_of-record_data r h =
    let numbers : AreNumbers r.pending r.safe r.term = h.numbers in
    let pending_low : int_lt r.pending (negsuc 0) ≡ false = not_under (negsuc 0) r.pending (omega (arith, ints)) in
    let pending_high : int_lt (pos (2 ^ 63 - 1)) r.pending ≡ false = not_under r.pending (pos (2 ^ 63 - 1)) numbers.most in
    let safe_low : int_lt r.safe (negsuc 0) ≡ false = not_under (negsuc 0) r.safe numbers.least in
    let safe_high : int_lt (pos (2 ^ 63 - 1)) r.safe ≡ false = not_under r.safe (pos (2 ^ 63 - 1)) (omega (arith, ints)) in
    let order : int_lt r.pending r.safe ≡ false = not_under r.safe r.pending numbers.order in
    let low : nat_lt r.term 0 ≡ false = le-ltb r.term 0 (omega arith) in
    let high : nat_lt (2 ^ 63 - 1) r.term ≡ false = le-ltb (2 ^ 63 - 1) r.term (omega (arith, numbers.below)) in
    rw (items_listed_of (map op_data r.ops), ops_from-map 0 [] r.ops h.ops, whole r.pending, pending_low, pending_high, whole r.safe, safe_low, safe_high, order, low, high) refl

-- ---- what the writer asks of a value

work_plain : (op : ℕ) (work : OpWork) → IsShallow 3 (work_data op work)
work_plain op (Create info) = let indices = IsShallow-indices_data info.indices in (rw indices.0 refl, omega (arith, indices.1))
work_plain op (Clone info source) = let indices = IsShallow-indices_data info.indices in (rw indices.0 refl, omega (arith, indices.1))
work_plain op (Delete uuids) = let ids = IsShallow-array_map 0 id_data (λ u. (refl, omega arith)) uuids in (rw ids.0 refl, omega (arith, ids.1))
work_plain op Cleanup = (refl, omega arith)

op_plain : (o : RecordOp) → IsShallow 3 (op_data o)
op_plain o = work_plain o.op o.work

pub record_plain : (r : Record) → IsShallow max_depth (record_data r)
unfolding record_data
record_plain r =
    let ops = IsShallow-array_map 3 op_data op_plain r.ops in
    let pending = IsShallow-integer 0 r.pending in
    let safe = IsShallow-integer 0 r.safe in
    (rw (ops.0, pending.0, safe.0) refl, omega (arith, ops.1))
