-- Which unit of an op is ready, and what is given with it.
use Rattle.std.specs.Prelude.{◌≡◌, ◌⊎◌, ◌<◌, ℕ, Bool, true, false, not, is_some, ◌&&◌, ◌||◌, ◌==◌, if◌then◌else◌, List, [], ◌∷◌, Option, Some, None, IfSome, map, length, take, position, option_map, slice_get, nat_lt}
use Rattle.std.specs.List.{list_any}
use Rattle.std.specs.FinMap as fin
use Rattle.esr_names.specs.declared.ids.Id.{Id}
use Rattle.esr_names.specs.declared.blob.ShardId.{ShardId}
use Rattle.esr_ops.specs.Plan.{RestorePlan, TicketMaps}
use Rattle.esr_ops.specs.Restores.{is_unread}
use Rattle.esr_model.specs.Values.{RootData}
use Rattle.esr_model.specs.Image.{Generation}
use Rattle.esr_core.specs.World.{Op, Deletion, ShardWork}
use Rattle.esr_core.specs.Steps.{given, all_done}
use Rattle.esr_formats.specs.Ids.{number_of}
use Rattle.esr_progress.specs.declared.ready.Kind.{Kind}
use Rattle.esr_progress.specs.declared.ready.Kind.TheVariants as ready
use Rattle.esr_ops.specs.declared.unit.SeatKind.{SeatKind}
use Rattle.esr_ops.specs.declared.unit.SeatKind.TheVariants as kinds
use Rattle.esr_ops.specs.declared.unit.Work.{Work}
use Rattle.esr_ops.specs.declared.unit.Work.TheVariants as works
use Rattle.esr_ops.specs.Seats.{any_seat, is_swap_out, is_unit_out}
use Rattle.esr_ops.specs.Ops.{has_stopped, is_free, IsDoneAt, Among, IsMost, IsShardWork, IsFinalWork}

-- ---- which

-- an open delete has a lower number
abbrev pub barred : List (ℕ × Deletion) → ℕ → Bool
barred deletes number = list_any (λ (d : ℕ × Deletion). nat_lt d.0 number) deletes

-- an op of this number is open that neither failed nor was aborted
abbrev pub is_going : List (ℕ × Op) → ℕ → Bool
is_going ops number = list_any (λ (e : ℕ × Op). (e.0 == number) && not (has_stopped e.1)) ops

-- and no delete stands before it
abbrev pub goes_in : List (ℕ × Op) → List (ℕ × Deletion) → ℕ → Bool
goes_in ops deletes number = is_going ops number && not (barred deletes number)

-- none that goes completed before the op that completed at this place
abbrev pub is_first_at : List (ℕ × Op) → List (ℕ × Deletion) → List ℕ → Option ℕ → Bool
is_first_at ops deletes completed None = true
is_first_at ops deletes completed (Some i) = not (list_any (goes_in ops deletes) (take i completed))

abbrev pub is_earliest : List (ℕ × Op) → List (ℕ × Deletion) → List ℕ → ℕ → Bool
is_earliest ops deletes completed number = is_first_at ops deletes completed (position (λ n. n == number) completed)

abbrev pub is_out_of : TicketMaps → ℕ → ℕ → Bool
is_out_of seats term number = any_seat (is_unit_out term number) seats

abbrev pub is_swapping : TicketMaps → ℕ → Bool
is_swapping seats term = any_seat (is_swap_out term) seats

-- by the place of its first free shard, and whether it can be finalized
abbrev pub ready_by : Option ℕ → Bool → Option Kind
ready_by (Some i) final = Some (ready.Shard i)
ready_by None final = if final then Some ready.Finalize else None

abbrev pub is_final : List (ℕ × Op) → List (ℕ × Deletion) → List ℕ → TicketMaps → ℕ → ℕ × Op → Bool
is_final ops deletes completed seats term e = all_done e.1.shards && (not (is_swapping seats term) && is_earliest ops deletes completed e.0)

-- the unit of an op that is ready
abbrev pub ready_of : List (ℕ × Op) → List (ℕ × Deletion) → List ℕ → TicketMaps → List (ℕ × RestorePlan) → ℕ → ℕ × Op → Option Kind
ready_of ops deletes completed seats restores term e =
    if has_stopped e.1 then (if is_out_of seats term e.0 then None else Some ready.Drop)
    else (if barred deletes e.0 then None else ready_by (position (is_free ops restores e.0) e.1.shards) (is_final ops deletes completed seats term e))

-- the op at the place, and no unit of those before it is ready
abbrev pub NoneBefore : List (ℕ × Op) → List (ℕ × Deletion) → List ℕ → TicketMaps → List (ℕ × RestorePlan) → ℕ → ℕ → Type 0
NoneBefore ops deletes completed seats restores term at = (k : ℕ) (e : ℕ × Op) → k < at → slice_get ops k ≡ Some e → ready_of ops deletes completed seats restores term e ≡ None

pub record IsReadyAt (ops : List (ℕ × Op)) (deletes : List (ℕ × Deletion)) (completed : List ℕ) (seats : TicketMaps) (restores : List (ℕ × RestorePlan)) (term at : ℕ) (kind : Kind) : Type 0 where
  pub e : ℕ × Op
  pub there : slice_get ops at ≡ Some e
  pub is : ready_of ops deletes completed seats restores term e ≡ Some kind
  pub before : NoneBefore ops deletes completed seats restores term at

abbrev pub IsFirstReady : List (ℕ × Op) → List (ℕ × Deletion) → List ℕ → TicketMaps → List (ℕ × RestorePlan) → ℕ → Option (ℕ × Kind) → Type 0
IsFirstReady ops deletes completed seats restores term None = NoneBefore ops deletes completed seats restores term (length ops)
IsFirstReady ops deletes completed seats restores term (Some (at, kind)) = IsReadyAt ops deletes completed seats restores term at kind

-- the first of the list
abbrev pub first_number : {A : Type 0} → List (ℕ × A) → Option ℕ
first_number [] = None
first_number (e ∷ es) = Some e.0

-- another delete is open
abbrev pub has_other : List (ℕ × Deletion) → ℕ → Bool
has_other deletes number = list_any (λ (d : ℕ × Deletion). not (d.0 == number)) deletes

-- something else is open, or a ticket is out
abbrev pub cleanup_waits : List (ℕ × Op) → List (ℕ × Deletion) → TicketMaps → ℕ → Bool
cleanup_waits ops deletes seats number = (is_some (first_number ops) || has_other deletes number) || is_some (first_number (fin.entries seats.seats))

-- A unit of the delete is ready: it failed and none of its units is out, or nothing stands before it and no swap is out, or it is a
-- cleanup and alone.
abbrev pub delete_ready : List (ℕ × Op) → List (ℕ × Deletion) → TicketMaps → ℕ → ℕ × Deletion → Bool
delete_ready ops deletes seats term d =
    if d.1.failed then not (is_out_of seats term d.0)
    else (if d.1.clean then not (cleanup_waits ops deletes seats d.0)
    else ((not (barred deletes d.0) && not (list_any (λ (e : ℕ × Op). nat_lt e.0 d.0) ops)) && not (is_swapping seats term)))

-- ---- what is given

-- an op can give it
abbrev pub IsPossible : Op → Kind → Type 0
IsPossible op (ready.Shard i) = i < length op.shards
IsPossible op ready.Finalize = all_done op.shards ≡ true
IsPossible op ready.Drop = Unit {0}

abbrev pub IsWorkFor : Op → Kind → Work → Type 0
IsWorkFor op (ready.Shard i) work = IfSome (slice_get op.shards i) (λ s. IsShardWork op s work)
IsWorkFor op ready.Finalize work = IsFinalWork op work
IsWorkFor op ready.Drop work = work ≡ works.Drop

-- the seat is of this shard
abbrev pub IsSeatOf : ShardWork → SeatKind → Type 0
IsSeatOf s (kinds.Shard shard) = (s.ref.id ≡ shard.index.number) × (s.number ≡ shard.number)
IsSeatOf s kind = ⊥

abbrev pub IsSeatFor : Op → Kind → SeatKind → Type 0
IsSeatFor op (ready.Shard i) kind = IfSome (slice_get op.shards i) (λ s. IsSeatOf s kind)
IsSeatFor op ready.Finalize kind = kind ≡ kinds.Finalize
IsSeatFor op ready.Drop kind = kind ≡ kinds.Drop

-- the root gives the shard this generation, or an op has done it there
abbrev pub IsLiveIn : RootData → List (ℕ × Op) → ℕ → ℕ → ℕ → Type 0
IsLiveIn root ops index number g = Generation root index number g ⊎ Among ops (λ (e : ℕ × Op). Among e.1.shards (IsDoneAt index number)) g

-- the largest live generation of the shard that is given; a unit of none has no base
abbrev pub IsBaseFor : RootData → List (ℕ × Op) → SeatKind → Option Id → Type 0
IsBaseFor root ops (kinds.Shard shard) base = IsMost (IsLiveIn root ops shard.index.number shard.number) (option_map number_of base)
IsBaseFor root ops kind base = base ≡ None

-- the op, with the shard given to the ticket
abbrev pub given_entry : SeatKind → ℕ → ℕ × Op → ℕ × Op
given_entry (kinds.Shard shard) ticket e = (e.0, record e.1 { shards = map (given ticket shard.index.number shard.number) e.1.shards })
given_entry kind ticket e = e

-- ---- restores

-- no shard of the restores before the place is unread
abbrev pub NoneUnread : List (ℕ × RestorePlan) → ℕ → Type 0
NoneUnread restores at = (k : ℕ) (e : ℕ × RestorePlan) → k < at → slice_get restores k ≡ Some e → position is_unread e.1.shards ≡ None

pub record IsUnreadAt (restores : List (ℕ × RestorePlan)) (at i : ℕ) : Type 0 where
  pub e : ℕ × RestorePlan
  pub there : slice_get restores at ≡ Some e
  pub is : position is_unread e.1.shards ≡ Some i
  pub before : NoneUnread restores at

abbrev pub IsFirstUnread : List (ℕ × RestorePlan) → Option (ℕ × ℕ) → Type 0
IsFirstUnread restores None = NoneUnread restores (length restores)
IsFirstUnread restores (Some (at, i)) = IsUnreadAt restores at i

-- the restore, with the shard given to the ticket
abbrev pub given_restore : ShardId → ℕ → ℕ × RestorePlan → ℕ × RestorePlan
given_restore shard ticket e = (e.0, record e.1 { shards = map (given ticket shard.index.number shard.number) e.1.shards })

-- the first number is there, and comes before the other where that is there
abbrev pub is_before : Option ℕ → Option ℕ → Bool
is_before None b = false
is_before (Some m) None = true
is_before (Some m) (Some n) = nat_lt m n

-- the lower of two numbers, or the one that is there
abbrev pub lower_of : Option ℕ → Option ℕ → Option ℕ
lower_of a b = if is_before a b then a else b
