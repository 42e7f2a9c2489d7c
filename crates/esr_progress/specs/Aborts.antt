-- The delete that has aborted the op of a ticket, as the list of ops tells it.
use Rattle.std.specs.Prelude.{ℕ, Option, Some, None, if◌then◌else◌}
use Rattle.std.specs.Ordering.{nat_cmp}
use Rattle.std.specs.FinMap.{FinMap}
use Rattle.std.specs.FinMap as fin
use Rattle.esr_core.specs.World.{Op}
use Rattle.esr_ops.specs.Plan.{Seat}
use Rattle.esr_ops.specs.Seats.{can_abort}

-- the delete that aborted the op, where there is one
abbrev pub op_aborter : Option Op → Option ℕ
op_aborter None = None
op_aborter (Some op) = op.aborted

-- unless the ticket is to take the op away
abbrev pub seat_aborter : FinMap nat_cmp Op → Seat → Option ℕ
seat_aborter ops s = if can_abort s then op_aborter (fin.get ops s.op) else None

abbrev pub aborter : FinMap nat_cmp Op → Option Seat → Option ℕ
aborter ops None = None
aborter ops (Some s) = seat_aborter ops s
