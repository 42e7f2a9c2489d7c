-- The text of a cluster record reads as the record.
use Rattle.std.proofs.Common.{◌≡◌, ℕ, ◌≤◌, ◌^◌, List, [], ◌∷◌, codes, Ok, refl, arith}
use Rattle.std.specs.List.{AllByRecursion}
use Rattle.std.proofs.lemmas.Int.{ints}
use Rattle.json.proofs.Printed.Utf8.{IsUtf8-are_ascii}
use Rattle.esr_names.specs.declared.ids.Id.{Id}
use Rattle.esr_names.specs.IdTextLaws.{IsUtf8-id_text}
use Rattle.esr_json.specs.declared.key.Key.TheVariants as keys
use Rattle.esr_json.specs.Plain.{IsPlain}
use Rattle.esr_json.specs.PlainTexts.{parsed-compact_text}
use Rattle.esr_json.specs.PlainValues.{IsUtf8-key_text, IsWhole-of_integer, ItemsArePlain-map}
use Rattle.esr_names.specs.Indices.{id_data}
use Rattle.esr_root.specs.RootTexts.{snap_name_utf8}
use Rattle.esr_record.specs.declared.op.OpWork.{OpWork}
use Rattle.esr_record.specs.declared.op.OpWork.TheVariants as works
use Rattle.esr_record.specs.declared.op.RecordOp.{RecordOp}
use Rattle.esr_record.specs.Op.{IsMaking, IsWork, IsOp, AreOps}
use Rattle.esr_record.specs.Record.{Record, AreNumbers, IsRecord}
use Rattle.esr_record.specs.Reading.{record_from}
use Rattle.esr_record.specs.Text.{work_data, op_data, record_data, record_text}
use Rattle.esr_record.specs.RoundTrip.{record_of-record_data, record_plain}
use Rattle.esr_model.specs.Values.{ReadsBack}
use Rattle.esr_formats.specs.Clusters.{cluster_of, code_cluster, cluster_kind}
use Rattle.esr_formats.specs.ReadBack.{ReadsBack-kind_by}
use Rattle.esr_formats.proofs.ByKind.{text-kind_by}
use Rattle.esr_formats.proofs.Inverses.{cluster_back}
use Rattle.esr_formats.proofs.MetaTexts.{indices_are_plain}

-- an op that can be written
abbrev IsWritable : RecordOp → Type 0
IsWritable o = (o.op ≤ 2 ^ 62) × IsWork o.work

each_writable : (last : ℕ) (os : List RecordOp) → AreOps last os → AllByRecursion IsWritable os
each_writable last [] h = tt
each_writable last (o ∷ os) h = let one : IsOp last o = h.0 in ((one.most, one.work), each_writable o.op os h.1)

none_asked : (us : List Id) → AllByRecursion (λ (u : Id). Unit {0}) us
none_asked [] = tt
none_asked (u ∷ us) = (tt, none_asked us)

work_is_plain : (op : ℕ) (work : OpWork) → op ≤ 2 ^ 62 → IsWork work → IsPlain (work_data op work)
work_is_plain op (works.Create info) most h =
    let making : IsMaking info = h in (
      IsUtf8-key_text keys.Indices,
      indices_are_plain info.indices making.indices,
      refl,
      (
        IsUtf8-key_text keys.Kind,
        IsUtf8-are_ascii (codes "create") refl,
        refl,
        (
          IsUtf8-key_text keys.Moment,
          making.moment,
          refl,
          (
            IsUtf8-key_text keys.Name,
            snap_name_utf8 info.name making.name,
            refl,
            (IsUtf8-key_text keys.Op, omega arith, refl, (IsUtf8-key_text keys.Uuid, IsUtf8-id_text info.uuid.number, tt, tt)),
          ),
        ),
      ),
    )
work_is_plain op (works.Clone info source) most h =
    let making : IsMaking info = h.0 in (
      IsUtf8-key_text keys.Indices,
      indices_are_plain info.indices making.indices,
      refl,
      (
        IsUtf8-key_text keys.Kind,
        IsUtf8-are_ascii (codes "clone") refl,
        refl,
        (
          IsUtf8-key_text keys.Moment,
          making.moment,
          refl,
          (
            IsUtf8-key_text keys.Name,
            snap_name_utf8 info.name making.name,
            refl,
            (
              IsUtf8-key_text keys.Op,
              omega arith,
              refl,
              (IsUtf8-key_text keys.Source, IsUtf8-id_text source.number, refl, (IsUtf8-key_text keys.Uuid, IsUtf8-id_text info.uuid.number, tt, tt)),
            ),
          ),
        ),
      ),
    )
work_is_plain op (works.Delete uuids) most h = (
  IsUtf8-key_text keys.Kind,
  IsUtf8-are_ascii (codes "delete") refl,
  refl,
  (
    IsUtf8-key_text keys.Op,
    omega arith,
    refl,
    (IsUtf8-key_text keys.Uuids, ItemsArePlain-map (λ (u : Id). Unit {0}) id_data (λ u k. IsUtf8-id_text u.number) uuids (none_asked uuids), tt, tt),
  ),
)
work_is_plain op works.Cleanup most h = (IsUtf8-key_text keys.Kind, IsUtf8-are_ascii (codes "cleanup") refl, refl, (IsUtf8-key_text keys.Op, omega arith, tt, tt))

record_is_plain : (r : Record) → IsRecord r → IsPlain (record_data r)
unfolding record_data
record_is_plain r h =
    let numbers : AreNumbers r.pending r.safe r.term = h.numbers in (
      IsUtf8-key_text keys.Ops,
      ItemsArePlain-map IsWritable op_data (λ o one. work_is_plain o.op o.work one.0 one.1) r.ops (each_writable 0 r.ops h.ops),
      refl,
      (
        IsUtf8-key_text keys.Pending,
        IsWhole-of_integer r.pending (omega (arith, ints)) (omega (arith, ints)),
        refl,
        (
          IsUtf8-key_text keys.Safe,
          IsWhole-of_integer r.safe (omega (arith, ints)) (omega (arith, ints)),
          refl,
          (IsUtf8-key_text keys.Term, omega (arith, numbers.below), tt, tt),
        ),
      ),
    )

pub record_from-record_text : (r : Record) → IsRecord r → record_from (record_text r) ≡ Ok r
record_from-record_text r h = rw (parsed-compact_text (record_data r) (record_is_plain r h) (record_plain r).1) (record_of-record_data r h)

pub cluster_kind-text : (r : Record) → IsRecord r → cluster_kind.text (cluster_of r) ≡ record_text r
unfolding cluster_kind
cluster_kind-text r h = text-kind_by code_cluster cluster_of record_text record_from r (cluster_back r h)

pub cluster_reads_back : (r : Record) → IsRecord r → ReadsBack cluster_kind (cluster_of r)
unfolding cluster_kind
cluster_reads_back r h = ReadsBack-kind_by code_cluster cluster_of record_text record_from r (cluster_back r h) (record_from-record_text r h)
