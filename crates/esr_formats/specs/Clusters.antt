-- The cluster record.
use Rattle.std.specs.Prelude.{ℕ, zero, suc, ℤ, pos, negsuc, map}
use Rattle.esr_record.specs.declared.op.OpWork.{OpWork}
use Rattle.esr_record.specs.declared.op.OpWork.TheVariants as works
use Rattle.esr_record.specs.declared.op.RecordOp.{RecordOp}
use Rattle.esr_record.specs.Record.{Record}
use Rattle.esr_record.specs.Text.{record_text}
use Rattle.esr_record.specs.Reading.{record_from}
use Rattle.esr_model.specs.Values.{RecordWork, Creating, Cloning, DeletingOf, Cleaning, ClusterRecord, Kind}
use Rattle.esr_formats.specs.Ids.{number_of, id_of}
use Rattle.esr_formats.specs.Refs.{ref_of_code, code_ref}
use Rattle.esr_formats.specs.Kinds.{kind_by}

-- how many generations there are up to the last, which is -1 before the first
abbrev pub count_of : ℤ → ℕ
count_of (pos n) = suc n
count_of (negsuc n) = 0

-- the last of so many generations
abbrev pub last_of : ℕ → ℤ
last_of zero = negsuc 0
last_of (suc n) = pos n

-- what an open op does
abbrev pub work_of_code : OpWork → RecordWork
work_of_code (works.Create info) = Creating info.name info.uuid.number info.moment (map ref_of_code info.indices)
work_of_code (works.Clone info source) = Cloning info.name info.uuid.number info.moment (map ref_of_code info.indices) source.number
work_of_code (works.Delete uuids) = DeletingOf (map number_of uuids)
work_of_code works.Cleanup = Cleaning

-- an op by its number
abbrev pub op_of : RecordOp → ℕ × RecordWork
op_of o = (o.op, work_of_code o.work)

-- the record that a record of the code is: `safe` and `pending` are counts
abbrev pub cluster_of : Record → ClusterRecord
cluster_of r = record { ledger = record { safe = count_of r.safe; pending = count_of r.pending; term = r.term }; ops = map op_of r.ops }

-- the same the other way
abbrev pub code_work : RecordWork → OpWork
code_work (Creating name uuid moment indices) = works.Create (record { indices = map code_ref indices; moment = moment; name = name; uuid = id_of uuid })
code_work (Cloning name uuid moment indices source) = works.Clone (record { indices = map code_ref indices; moment = moment; name = name; uuid = id_of uuid }) (id_of source)
code_work (DeletingOf uuids) = works.Delete (map id_of uuids)
code_work Cleaning = works.Cleanup

abbrev pub code_op : ℕ × RecordWork → RecordOp
code_op o = record { op = o.0; work = code_work o.1 }

-- the record of the code that a record is
abbrev pub code_cluster : ClusterRecord → Record
code_cluster c = record { ops = map code_op c.ops; pending = last_of c.ledger.pending; safe = last_of c.ledger.safe; term = c.ledger.term }

-- how cluster records are written and read
unfoldable pub cluster_kind : Kind ClusterRecord
cluster_kind = kind_by code_cluster cluster_of record_text record_from
