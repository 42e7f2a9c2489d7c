-- Tests on what is kept of tickets that are out.
use Rattle.std.specs.Prelude.{ℕ, Bool, true, false, not, ◌&&◌, ◌||◌, ◌==◌}
use Rattle.std.specs.List.{list_any}
use Rattle.std.specs.FinMap as fin
use Rattle.esr_ops.specs.Plan.{UnitKind, OfShard, OfFinalize, OfDelete, OfDrop, Seat, TicketMaps}

abbrev pub is_master : UnitKind → Bool
is_master (OfShard index number) = false
is_master OfFinalize = true
is_master OfDelete = true
is_master OfDrop = false

abbrev pub is_of_shard : UnitKind → Bool
is_of_shard (OfShard index number) = true
is_of_shard OfFinalize = false
is_of_shard OfDelete = false
is_of_shard OfDrop = false

abbrev pub is_drop : UnitKind → Bool
is_drop (OfShard index number) = false
is_drop OfFinalize = false
is_drop OfDelete = false
is_drop OfDrop = true

-- it is no drop
abbrev pub can_abort : Seat → Bool
can_abort s = not (is_drop s.kind)

-- a swap of the term
abbrev pub is_swap_out : ℕ → Seat → Bool
is_swap_out term s = (not s.settled && (s.term == term)) && is_master s.kind

-- a unit of the op
abbrev pub is_unit_out : ℕ → ℕ → Seat → Bool
is_unit_out term o s = (s.op == o) && (is_of_shard s.kind || (s.term == term))

-- a ticket of the term has the op
abbrev pub has_op : ℕ → ℕ → Seat → Bool
has_op term o s = (s.term == term) && (s.op == o)

-- a swap of the term that hasn't settled has the op
abbrev pub swaps_op : ℕ → ℕ → Seat → Bool
swaps_op term o s = (has_op term o s && not s.settled) && is_master s.kind

-- a unit of a master that is none any more
abbrev pub is_stale_seat : ℕ → Seat → Bool
is_stale_seat term s = not (is_of_shard s.kind) && not (s.term == term)

-- the test passes for a ticket that is out
abbrev pub any_seat : (Seat → Bool) → TicketMaps → Bool
any_seat p tickets = list_any (λ (e : ℕ × Seat). p e.1) (fin.entries tickets.seats)
