-- Reading a cluster's record, with the first reason to refuse it. The kind of an op is read first, then
-- its other members in byte order.
use Rattle.std.specs.List.{list_any}
use Rattle.std.specs.Prelude.{◌-◌, ◌^◌, ◌++◌, ℕ, pos, negsuc, int_lt, int_le, unsigned_abs, codes, List, [], ◌∷◌, if◌then◌else◌, Result, Ok, Err}
use Rattle.std.specs.Option.{ok_or}
use Rattle.std.specs.Str.{bytes_eq}
use Rattle.serde_json.specs.Data.{Data}
use Rattle.esr_names.specs.IdText.{read_id}
use Rattle.esr_names.specs.declared.ids.Id.{Id}
use Rattle.esr_json.specs.declared.key.Key.TheVariants as keys
use Rattle.esr_json.specs.declared.refusal.Reason.{Reason}
use Rattle.esr_json.specs.declared.refusal.Reason.TheVariants.{OutOfRange, BadName, BadId, Duplicate}
use Rattle.esr_json.specs.Steps.{◌>>=◌}
use Rattle.esr_json.specs.Access.{parsed, text_at, number_at, items_at, text_item}
use Rattle.esr_names.specs.Indices.{id_at, snap_name_at, indices_at}
use Rattle.esr_record.specs.declared.reading.Kind.{Kind}
use Rattle.esr_record.specs.declared.reading.Kind.TheVariants as kinds
use Rattle.esr_record.specs.declared.op.OpWork.TheVariants as works
use Rattle.esr_record.specs.declared.op.RecordOp.{RecordOp}
use Rattle.esr_record.specs.Op.{is_id}
use Rattle.esr_record.specs.Record.{Record}

-- the member `kind`
unfoldable pub kind_of : Data → Result Kind Reason
kind_of d = text_at keys.Kind d >>= λ text.
    if bytes_eq text (codes "create") then Ok kinds.Create
    else (if bytes_eq text (codes "clone") then Ok kinds.Clone
    else (if bytes_eq text (codes "delete") then Ok kinds.Delete
    else (if bytes_eq text (codes "cleanup") then Ok kinds.Cleanup else Err BadName)))

-- the member `op`, above the number before
unfoldable pub op_number_of : ℕ → Data → Result ℕ Reason
op_number_of last d = do
  op ← number_at keys.Op (pos 1) (pos (2 ^ 62)) d
  if int_le op (pos last) then Err (OutOfRange keys.Op (pos last)) else Ok (unsigned_abs op)

-- an op that makes a snapshot
unfoldable pub create_of : ℕ → Data → Result RecordOp Reason
create_of last d = do
  indices ← indices_at d
  moment ← number_at keys.Moment (pos 0) (pos (2 ^ 64 - 1)) d
  name ← snap_name_at d
  op ← op_number_of last d
  uuid ← id_at keys.Uuid d
  Ok (record { op = op; work = works.Create (record { indices = indices; moment = unsigned_abs moment; name = name; uuid = uuid }) })

-- an op that makes a snapshot out of another
unfoldable pub clone_of : ℕ → Data → Result RecordOp Reason
clone_of last d = do
  indices ← indices_at d
  moment ← number_at keys.Moment (pos 0) (pos (2 ^ 64 - 1)) d
  name ← snap_name_at d
  op ← op_number_of last d
  source ← id_at keys.Source d
  uuid ← id_at keys.Uuid d
  Ok (record { op = op; work = works.Clone (record { indices = indices; moment = unsigned_abs moment; name = name; uuid = uuid }) source })

-- a uuid of the list `uuids`
unfoldable pub uuid_item : Data → Result Id Reason
uuid_item d = text_item keys.Uuids d >>= λ text. ok_or (read_id text) BadId

-- the uuids of a list, after those before
unfoldable pub uuids_from : List Id → List Data → Result (List Id) Reason
uuids_from before [] = Ok before
uuids_from before (d ∷ ds) = uuid_item d >>= λ u.
    if list_any (is_id u) before then Err Duplicate else uuids_from (before ++ u ∷ []) ds

-- an op that deletes snapshots
unfoldable pub delete_of : ℕ → Data → Result RecordOp Reason
delete_of last d = do
  op ← op_number_of last d
  items ← items_at keys.Uuids d
  uuids ← uuids_from [] items
  Ok (record { op = op; work = works.Delete uuids })

-- an op that removes what no snapshot reaches
unfoldable pub cleanup_of : ℕ → Data → Result RecordOp Reason
cleanup_of last d = op_number_of last d >>= λ op. Ok (record { op = op; work = works.Cleanup })

-- an op of a kind
abbrev pub by_kind : Kind → ℕ → Data → Result RecordOp Reason
by_kind kinds.Create last d = create_of last d
by_kind kinds.Clone last d = clone_of last d
by_kind kinds.Delete last d = delete_of last d
by_kind kinds.Cleanup last d = cleanup_of last d

-- an op with a number above the last
unfoldable pub op_of : ℕ → Data → Result RecordOp Reason
op_of last d = kind_of d >>= λ kind. by_kind kind last d

-- the ops of a list, after those before
unfoldable pub ops_from : ℕ → List RecordOp → List Data → Result (List RecordOp) Reason
ops_from last before [] = Ok before
ops_from last before (d ∷ ds) = op_of last d >>= λ o. ops_from o.op (before ++ o ∷ []) ds

-- a record, its members looked at in byte order
unfoldable pub record_of : Data → Result Record Reason
record_of d = do
  items ← items_at keys.Ops d
  ops ← ops_from 0 [] items
  pending ← number_at keys.Pending (negsuc 0) (pos (2 ^ 63 - 1)) d
  safe ← number_at keys.Safe (negsuc 0) (pos (2 ^ 63 - 1)) d
  if int_lt pending safe then Err (OutOfRange keys.Safe pending) else (do
    term ← number_at keys.Term (pos 0) (pos (2 ^ 63 - 1)) d
    Ok (record { ops = ops; pending = pending; safe = safe; term = unsigned_abs term }))

-- the record that the bytes read as
abbrev pub record_from : List ℕ → Result Record Reason
record_from bytes = parsed bytes >>= record_of
