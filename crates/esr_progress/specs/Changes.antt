-- What the reports of units change in a plan.
use Rattle.std.specs.Prelude.{ℕ, Bool, true, [], ◌∷◌, ◌++◌, Option, Some, None, map, if◌then◌else◌}
use Rattle.std.specs.Ordering.{nat_cmp}
use Rattle.std.specs.FinMap as fin
use Rattle.esr_model.specs.Values.{ShardResult}
use Rattle.std.specs.List.{list_any}
use Rattle.esr_core.specs.World.{Op, Deletion, Done, GivenUp, marked}
use Rattle.esr_core.specs.Steps.{completing}
use Rattle.esr_core.specs.Turns.{fails}
use Rattle.esr_ops.specs.Plan.{Seat, ReaderSeat, RestorePlan, Plan}
use Rattle.esr_ops.specs.Restores.{is_waiting}
use Rattle.esr_ops.specs.Seats.{is_stale_seat}

abbrev pub with_seat : Plan → ℕ → Seat → Plan
with_seat p k s = record p { seats = fin.insert p.seats k s }

-- the ticket has ended
abbrev pub without_seat : Plan → ℕ → Plan
without_seat p k = record p { seats = fin.remove p.seats k }

-- the snapshot has left
abbrev pub without_snap : Plan → ℕ → Plan
without_snap p o = record p { ops = fin.remove p.ops o }

-- the op, or the delete, has left
abbrev pub without_op : Plan → ℕ → Plan
without_op p o = record p { ops = fin.remove p.ops o; deletes = fin.remove p.deletes o }

-- the op has completed, where it has
abbrev pub with_completed : Bool → Plan → ℕ → Plan
with_completed completes p o = record p { completed = if completes then p.completed ++ o ∷ [] else p.completed }

-- the op given anew, where there is one
abbrev pub op_changed : (Op → Op) → Plan → ℕ → Option Op → Plan
op_changed g p o None = p
op_changed g p o (Some op) = record p { ops = fin.insert p.ops o (g op) }

abbrev pub op_marked : ℕ → ShardResult → Op → Op
op_marked k r op = record op { shards = map (marked k (Done r)) op.shards }

abbrev pub op_failed : ℕ → Op → Op
op_failed k op = record op { shards = map (fails k) op.shards; failed = true }

abbrev pub seat_settled : Seat → Seat
seat_settled s = record s { settled = true }

abbrev pub seat_raised : ℕ → Seat → Seat
seat_raised n s = record s { raised = Some n }

-- ---- restores

-- the ticket has ended
abbrev pub without_reader : Plan → ℕ → Plan
without_reader p k = record p { readers = fin.remove p.readers k }

-- what a ticket has is over
abbrev pub restore_over : ℕ → RestorePlan → RestorePlan
restore_over k r = record r { shards = map (marked k GivenUp) r.shards }

abbrev pub restore_changed : (RestorePlan → RestorePlan) → Plan → ℕ → Option RestorePlan → Plan
restore_changed g p o None = p
restore_changed g p o (Some r) = record p { restores = fin.insert p.restores o (g r) }

-- it leaves where none of its shards waits
abbrev pub restore_kept : Plan → ℕ → Option RestorePlan → Plan
restore_kept p o None = p
restore_kept p o (Some r) = record p { restores = if list_any is_waiting r.shards then p.restores else fin.remove p.restores o }

abbrev pub put_plan : fin.FinMap nat_cmp RestorePlan → ℕ → RestorePlan → fin.FinMap nat_cmp RestorePlan
put_plan restores o r = if list_any is_waiting r.shards then fin.insert restores o r else fin.remove restores o

abbrev pub read_by : Plan → ℕ → ReaderSeat → Option RestorePlan → Plan
read_by p k q None = p
read_by p k q (Some r) = record p { restores = put_plan p.restores q.op (restore_over k r); readers = fin.remove p.readers k }

abbrev pub read_in : Plan → ℕ → Option ReaderSeat → Plan
read_in p k None = p
read_in p k (Some q) = read_by p k q (fin.get p.restores q.op)

-- ---- by what is kept of the ticket

abbrev pub seat_changed : (Seat → Seat) → Plan → ℕ → Option Seat → Plan
seat_changed g p k None = p
seat_changed g p k (Some s) = with_seat p k (g s)

-- its op has left too
abbrev pub op_left : (Seat → Seat) → Plan → ℕ → Option Seat → Plan
op_left g p k None = p
op_left g p k (Some s) = with_seat (without_op p s.op) k (g s)

abbrev pub op_dropped : Plan → ℕ → Option Seat → Plan
op_dropped p k None = p
op_dropped p k (Some s) = without_seat (without_op p s.op) k

abbrev pub done_by : Plan → ℕ → ShardResult → Seat → Option Op → Plan
done_by p k r s None = p
done_by p k r s (Some op) = record p { ops = fin.insert p.ops s.op (op_marked k r op); completed = completing p.completed s.op (op_marked k r op).shards; seats = fin.remove p.seats k }

abbrev pub done_in : Plan → ℕ → ShardResult → Option Seat → Plan
done_in p k r None = p
done_in p k r (Some s) = done_by p k r s (fin.get p.ops s.op)

abbrev pub failed_by : Plan → ℕ → Seat → Option Op → Plan
failed_by p k s None = p
failed_by p k s (Some op) = record p { ops = fin.insert p.ops s.op (op_failed k op); seats = fin.remove p.seats k }

abbrev pub failed_in : ℕ → Plan → ℕ → Option Seat → Plan
failed_in term p k None = p
failed_in term p k (Some s) = if is_stale_seat term s then without_seat p k else failed_by p k s (fin.get p.ops s.op)

-- ---- deletes

-- the swap of a ticket has settled: a cleanup stays
abbrev pub without_settled : Plan → Seat → Plan
without_settled p s = record p { ops = fin.remove p.ops s.op; deletes = if s.clean then p.deletes else fin.remove p.deletes s.op }

abbrev pub delete_left : Plan → ℕ → Option Seat → Plan
delete_left p k None = p
delete_left p k (Some s) = with_seat (without_settled p s) k (seat_settled s)

-- the delete given anew, where there is one
abbrev pub delete_changed : (Deletion → Deletion) → Plan → ℕ → Option Deletion → Plan
delete_changed g p o None = p
delete_changed g p o (Some x) = record p { deletes = fin.insert p.deletes o (g x) }

abbrev pub delete_failing : Deletion → Deletion
delete_failing x = record x { failed = true }

abbrev pub deletion_failed_by : Plan → ℕ → Seat → Option Deletion → Plan
deletion_failed_by p k s None = p
deletion_failed_by p k s (Some x) = record p { deletes = fin.insert p.deletes s.op (delete_failing x); seats = fin.remove p.seats k }

abbrev pub deletion_failed_in : ℕ → Plan → ℕ → Option Seat → Plan
deletion_failed_in term p k None = p
deletion_failed_in term p k (Some s) = if is_stale_seat term s then without_seat p k else deletion_failed_by p k s (fin.get p.deletes s.op)
