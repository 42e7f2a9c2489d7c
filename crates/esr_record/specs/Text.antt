-- The text of a cluster's record: compact JSON, members in byte order.
use Rattle.std.specs.Prelude.{ℕ, codes, List, map}
use Rattle.serde_json.specs.Data.{Data, number, string, array, object, member, no_members, unsigned}
use Rattle.serde_json.specs.Find.{of_integer}
use Rattle.serde_json.specs.View.{items_of}
use Rattle.serde_json.specs.Written.{compact_text}
use Rattle.esr_names.specs.declared.ids.Id.{Id}
use Rattle.esr_names.specs.Indices.{id_data, indices_data}
use Rattle.esr_record.specs.declared.op.Making.{Making}
use Rattle.esr_record.specs.declared.op.OpWork.{OpWork}
use Rattle.esr_record.specs.declared.op.OpWork.TheVariants.{Create, Clone, Delete, Cleanup}
use Rattle.esr_record.specs.declared.op.RecordOp.{RecordOp}
use Rattle.esr_record.specs.Record.{Record}

-- an op that makes a snapshot, as it is written
abbrev pub create_data : ℕ → Making → Data
create_data op info =
    object (member (codes "indices") (indices_data info.indices)
    (member (codes "kind") (string (codes "create"))
    (member (codes "moment") (number (unsigned info.moment))
    (member (codes "name") (string info.name)
    (member (codes "op") (number (unsigned op))
    (member (codes "uuid") (id_data info.uuid) no_members))))))

-- an op that makes a snapshot out of another, as it is written
abbrev pub clone_data : ℕ → Making → Id → Data
clone_data op info source =
    object (member (codes "indices") (indices_data info.indices)
    (member (codes "kind") (string (codes "clone"))
    (member (codes "moment") (number (unsigned info.moment))
    (member (codes "name") (string info.name)
    (member (codes "op") (number (unsigned op))
    (member (codes "source") (id_data source)
    (member (codes "uuid") (id_data info.uuid) no_members)))))))

-- an op, by its number and its work
abbrev pub work_data : ℕ → OpWork → Data
work_data op (Create info) = create_data op info
work_data op (Clone info source) = clone_data op info source
work_data op (Delete uuids) =
    object (member (codes "kind") (string (codes "delete"))
    (member (codes "op") (number (unsigned op))
    (member (codes "uuids") (array (items_of (map id_data uuids))) no_members)))
work_data op Cleanup =
    object (member (codes "kind") (string (codes "cleanup"))
    (member (codes "op") (number (unsigned op)) no_members))

-- an op, as it is written
abbrev pub op_data : RecordOp → Data
op_data o = work_data o.op o.work

-- a record, as it is written
unfoldable pub record_data : Record → Data
record_data r =
    object (member (codes "ops") (array (items_of (map op_data r.ops)))
    (member (codes "pending") (number (of_integer r.pending))
    (member (codes "safe") (number (of_integer r.safe))
    (member (codes "term") (number (unsigned r.term)) no_members))))

-- the text of a record
abbrev pub record_text : Record → List ℕ
record_text r = compact_text (record_data r)
