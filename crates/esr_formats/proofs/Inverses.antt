-- A value of the code is found again from the value that it is.
use Rattle.std.proofs.Common.{◌≡◌, zero, suc, ℤ, pos, negsuc, ◌≤ℤ◌, List, map, Option, Some, None, option_map, refl, ap, ap₂, ◌∙◌, arith}
use Rattle.std.proofs.lemmas.Int.{ints}
use Rattle.esr_names.specs.declared.ids.Id.{Id}
use Rattle.esr_names.specs.declared.index_ref.IndexRef.{IndexRef as CodeRef}
use Rattle.esr_root.specs.declared.snaps.RootSnap.{RootSnap as CodeSnap}
use Rattle.esr_root.specs.declared.indices.RootIndex.{RootIndex as CodeIndex}
use Rattle.esr_root.specs.Root.{Root}
use Rattle.esr_record.specs.declared.op.OpWork.{OpWork}
use Rattle.esr_record.specs.declared.op.OpWork.TheVariants as works
use Rattle.esr_record.specs.declared.op.RecordOp.{RecordOp}
use Rattle.esr_record.specs.Record.{Record, AreNumbers, IsRecord}
use Rattle.esr_meta.specs.Info.{Info}
use Rattle.esr_shardidx.specs.declared.entry.FileEntry.{FileEntry as CodeEntry}
use Rattle.esr_shardidx.specs.Snapshots.{SnapValue}
use Rattle.esr_formats.specs.Infos.{info_of_code, code_info}
use Rattle.esr_formats.specs.Shards.{shard_snap_of, code_shard_snap}
use Rattle.esr_formats.specs.Ids.{number_of, id_of}
use Rattle.esr_formats.specs.Refs.{ref_of_code, code_ref}
use Rattle.esr_formats.specs.Roots.{root_snap_of, root_index_of, root_of, code_root_snap, code_root_index, code_root}
use Rattle.esr_formats.specs.Clusters.{count_of, last_of, work_of_code, op_of, cluster_of, code_work, code_op, code_cluster}
use Rattle.esr_formats.specs.ReadBack.{map_back, ids_back, entries_back}

option_back : {A B : Type 0} (f : A → B) (g : B → A) → ((x : A) → g (f x) ≡ x) → (o : Option A) → option_map g (option_map f o) ≡ o
option_back f g back None = refl
option_back f g back (Some x) = ap Some (back x)

pub refs_back : (rs : List CodeRef) → map code_ref (map ref_of_code rs) ≡ rs
refs_back rs = map_back ref_of_code code_ref (λ r. refl) rs

root_index_back : (i : CodeIndex) → code_root_index (root_index_of i) ≡ i
root_index_back i =
    let made : List Id → List (Option Id) → CodeIndex = λ us gs. record { name = i.name; id = i.id; snapshots = us; generations = gs } in
    ap₂ made (ids_back i.snapshots) (map_back (option_map number_of) (option_map id_of) (option_back number_of id_of (λ u. refl)) i.generations)

pub root_back : (r : Root) → code_root (root_of r) ≡ r
root_back r =
    let made : List CodeSnap → List CodeIndex → Root = λ ss is. record { snapshots = ss; indices = is } in
    ap₂ made (map_back root_snap_of code_root_snap (λ s. refl) r.snapshots) (map_back root_index_of code_root_index root_index_back r.indices)

count_back : (z : ℤ) → negsuc 0 ≤ℤ z → last_of (count_of z) ≡ z
count_back (pos n) least = refl
count_back (negsuc zero) least = refl
count_back (negsuc (suc n)) least = absurd (omega (arith, ints))

work_back : (w : OpWork) → code_work (work_of_code w) ≡ w
work_back (works.Create info) =
    let made : List CodeRef → OpWork = λ rs. works.Create (record { indices = rs; moment = info.moment; name = info.name; uuid = info.uuid }) in
    ap made (refs_back info.indices)
work_back (works.Clone info source) =
    let made : List CodeRef → OpWork = λ rs. works.Clone (record { indices = rs; moment = info.moment; name = info.name; uuid = info.uuid }) source in
    ap made (refs_back info.indices)
work_back (works.Delete uuids) = ap works.Delete (ids_back uuids)
work_back works.Cleanup = refl

op_back : (o : RecordOp) → code_op (op_of o) ≡ o
op_back o = let made : OpWork → RecordOp = λ w. record { op = o.op; work = w } in ap made (work_back o.work)

pub cluster_back : (r : Record) → IsRecord r → code_cluster (cluster_of r) ≡ r
cluster_back r h =
    let numbers : AreNumbers r.pending r.safe r.term = h.numbers in
    let least : negsuc 0 ≤ℤ r.pending = omega (arith, ints) in
    let with_ops : List RecordOp → Record = λ os. record { ops = os; pending = last_of (count_of r.pending); safe = last_of (count_of r.safe); term = r.term } in
    let with_numbers : ℤ → ℤ → Record = λ pending safe. record { ops = r.ops; pending = pending; safe = safe; term = r.term } in
    ap with_ops (map_back op_of code_op op_back r.ops) ∙ ap₂ with_numbers (count_back r.pending least) (count_back r.safe numbers.least)

-- ---- metadata and shards

pub info_back : (i : Info) → code_info (info_of_code i) ≡ i
info_back i =
    let made : List CodeRef → Info = λ rs. record { bytes = i.bytes; files = i.files; indices = rs; moment = i.moment; name = i.name; state = i.state; uuid = i.uuid } in
    ap made (refs_back i.indices)

pub shard_snap_back : (s : SnapValue) → code_shard_snap (shard_snap_of s) ≡ s
shard_snap_back s = let made : List CodeEntry → SnapValue = λ es. record { files = es; uuid = s.uuid } in ap made (entries_back s.files)
