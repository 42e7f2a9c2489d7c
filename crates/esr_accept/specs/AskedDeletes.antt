-- What asking for a delete looks up over lists, and what it makes of them.
use Rattle.std.specs.Prelude.{ℕ, Bool, false, not, is_some, ◌&&◌, ◌||◌, ◌==◌, List, [], ◌∷◌, Option, Some, None, if◌then◌else◌}
use Rattle.std.specs.List.{filter}
use Rattle.esr_model.specs.Values.{Bytes, RootSnap, RootData}
use Rattle.esr_model.specs.Shelf.{names_uuid}
use Rattle.esr_core.specs.World.{Op, Deletion}
use Rattle.esr_core.specs.Deletes.{with_uuid, is_listed_uuid, name_the_same}
use Rattle.esr_ops.specs.declared.refusal.Refusal.{Refusal}
use Rattle.esr_ops.specs.declared.refusal.Refusal.TheVariants as refusals
use Rattle.esr_ops.specs.Plan.{RestorePlan, TicketMaps}
use Rattle.esr_ops.specs.Seats.{any_seat, has_op, swaps_op}
use Rattle.esr_accept.specs.Asking.{name_user}
use Rattle.esr_ops.specs.Deletes.{grown}

-- ---- what its names name

-- neither a listed snapshot nor an open op has the name
abbrev pub is_unused : RootData → List (ℕ × Op) → Bytes → Bool
is_unused root ops name = not (is_some (name_user root ops name))

-- these uuids, and those of the names after them
abbrev pub uuids_named : RootData → List (ℕ × Op) → List ℕ → List Bytes → List ℕ
uuids_named root ops uuids [] = uuids
uuids_named root ops uuids (name ∷ names) = uuids_named root ops (with_uuid uuids (name_user root ops name)) names

-- ---- what stands against it

-- the source of an op is one of these
abbrev pub copies : List ℕ → Option ℕ → Bool
copies uuids None = false
copies uuids (Some source) = names_uuid uuids source

-- the number of the first op that copies one of these
abbrev pub copying : List (ℕ × Op) → List ℕ → Option ℕ
copying [] uuids = None
copying (e ∷ ops) uuids = if copies uuids e.1.source then Some e.0 else copying ops uuids

-- the number of the first restore that reads one of these
abbrev pub reading : List (ℕ × RestorePlan) → List ℕ → Option ℕ
reading [] uuids = None
reading (e ∷ restores) uuids = if names_uuid uuids e.1.uuid then Some e.0 else reading restores uuids

-- the first rule that refuses a delete: a cleanup is open, nothing has the name at a place, a clone copies one of its snapshots, a restore reads one
abbrev pub rule_on : Option ℕ → Option ℕ → Option ℕ → Option ℕ → Option Refusal
rule_on (Some op) place clone restore = Some (refusals.CleanupRunning op)
rule_on None (Some place) clone restore = Some (refusals.NoSnapshot place)
rule_on None None (Some op) restore = Some (refusals.CloneRunning op)
rule_on None None None (Some op) = Some (refusals.RestoreRunning op)
rule_on None None None None = None

-- ---- the delete that it goes into

-- a ticket of the term that is out has the op
abbrev pub is_taken : TicketMaps → ℕ → ℕ → Bool
is_taken seats term o = any_seat (has_op term o) seats

-- a swap of the term that hasn't settled has the op
abbrev pub is_swapped : TicketMaps → ℕ → ℕ → Bool
is_swapped seats term o = any_seat (swaps_op term o) seats

-- the delete hasn't failed, and no ticket of the term has it
abbrev pub waits_in : TicketMaps → ℕ → ℕ × Deletion → Bool
waits_in seats term e = not e.1.failed && not (is_taken seats term e.0)

-- it runs, and those of its snapshots that are listed are just these
abbrev pub runs_in : List RootSnap → TicketMaps → ℕ → List ℕ → ℕ × Deletion → Bool
runs_in snaps seats term uuids e = (not e.1.failed && is_taken seats term e.0) && name_the_same (filter (is_listed_uuid snaps) e.1.uuids) uuids

-- an open delete takes it in
abbrev pub is_joined : Option ℕ → Option ℕ → Bool
is_joined waiting running = is_some waiting || is_some running

abbrev pub growing : List ℕ → ℕ → ℕ × Deletion → ℕ × Deletion
growing uuids number e = if e.0 == number then (e.0, grown uuids e.1) else e

-- ---- the ops that it aborts

-- the op makes one of these snapshots, no delete has aborted it before, and its finalization isn't out
abbrev pub aborts : TicketMaps → ℕ → List ℕ → ℕ × Op → Bool
aborts seats term uuids e = (names_uuid uuids e.1.uuid && not (is_some e.1.aborted)) && not (is_swapped seats term e.0)

abbrev pub aborted_by : TicketMaps → ℕ → List ℕ → ℕ → ℕ × Op → ℕ × Op
aborted_by seats term uuids by e = if aborts seats term uuids e then (e.0, record e.1 { aborted = Some by }) else e
