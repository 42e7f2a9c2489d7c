-- What asking for a delete makes of the open ops: it is a new op, is merged into one that waits, or joins the one that runs.
use Rattle.std.specs.Prelude.{ℕ, suc, Bool, true, false, List, [], ◌∷◌, ◌++◌, Option, Some, None, map, not, ◌==◌, ◌&&◌, if◌then◌else◌}
use Rattle.std.specs.List.{list_any, list_all, filter}
use Rattle.std.specs.Ordering.{nat_cmp}
use Rattle.std.specs.FinMap.{FinMap}
use Rattle.std.specs.FinMap as fin
use Rattle.esr_model.specs.Values.{Bytes, RootSnap}
use Rattle.esr_model.specs.Shelf.{names_uuid}
use Rattle.esr_model.specs.Uploads.{same_bytes}
use Rattle.esr_core.specs.World.{World, Op, Deletion, Work, Shard, Finalize, Deleting, Drop, Ticket}

-- ---- what its names name

-- the uuid of the listed snapshot of this name, else of the open op
abbrev pub open_uuid : List (ℕ × Op) → Bytes → Option ℕ
open_uuid [] name = None
open_uuid (e ∷ ops) name = if same_bytes e.1.name name then Some e.1.uuid else open_uuid ops name

abbrev pub uuid_among : List RootSnap → List (ℕ × Op) → Bytes → Option ℕ
uuid_among [] ops name = open_uuid ops name
uuid_among (s ∷ snaps) ops name = if same_bytes s.name name then Some s.uuid else uuid_among snaps ops name

abbrev pub uuid_named : World → Bytes → Option ℕ
uuid_named w name = uuid_among w.root.snapshots (fin.entries w.ops) name

-- the uuid at the end, where it isn't among them
abbrev pub with_uuid : List ℕ → Option ℕ → List ℕ
with_uuid uuids None = uuids
with_uuid uuids (Some u) = if names_uuid uuids u then uuids else uuids ++ u ∷ []

-- these uuids, and those of the names after them
abbrev pub with_named : World → List ℕ → List Bytes → List ℕ
with_named w uuids [] = uuids
with_named w uuids (name ∷ names) = with_named w (with_uuid uuids (uuid_named w name)) names

abbrev pub named_uuids : World → List Bytes → List ℕ
named_uuids w names = with_named w [] names

-- ---- the delete that it goes into

-- a ticket of the present term that is out has the op
abbrev pub has_op : ℕ → ℕ → ℕ × Ticket → Bool
has_op term o e = e.1.out && ((e.1.term == term) && (e.1.op == o))

abbrev pub is_taken : World → ℕ → Bool
is_taken w o = list_any (has_op w.term o) (fin.entries w.tickets)

-- it hasn't failed, and no ticket of the present term has it
abbrev pub waits_for_ticket : World → ℕ × Deletion → Bool
waits_for_ticket w e = not e.1.failed && not (is_taken w e.0)

abbrev pub is_listed_uuid : List RootSnap → ℕ → Bool
is_listed_uuid snaps u = list_any (λ (s : RootSnap). s.uuid == u) snaps

-- both lists name the same
abbrev pub name_the_same : List ℕ → List ℕ → Bool
name_the_same xs ys = list_all (names_uuid xs) ys && list_all (names_uuid ys) xs

-- it runs, and of what it names these are listed
abbrev pub runs_for : World → List ℕ → ℕ × Deletion → Bool
runs_for w uuids e = not e.1.failed && (is_taken w e.0 && name_the_same (filter (is_listed_uuid w.root.snapshots) e.1.uuids) uuids)

abbrev pub first_delete : (ℕ × Deletion → Bool) → List (ℕ × Deletion) → Option ℕ
first_delete test [] = None
first_delete test (e ∷ deletes) = if test e then Some e.0 else first_delete test deletes

-- the lowest delete that waits
abbrev pub waiting_delete : World → Option ℕ
waiting_delete w = first_delete (waits_for_ticket w) (fin.entries w.deletes)

-- the running delete that names just these
abbrev pub running_delete : World → List ℕ → Option ℕ
running_delete w uuids = first_delete (runs_for w uuids) (fin.entries w.deletes)

abbrev pub number_by : ℕ → Option ℕ → Option ℕ → ℕ
number_by next (Some d) running = d
number_by next None (Some d) = d
number_by next None None = next

-- the number of the op that it is answered by
abbrev pub delete_number : World → List Bytes → ℕ
delete_number w names = number_by w.next_op (waiting_delete w) (running_delete w (named_uuids w names))

-- ---- the ops that it aborts

abbrev pub is_swap : Work → Bool
is_swap (Shard index number) = false
is_swap (Finalize info results made) = true
is_swap (Deleting uuids plan) = true
is_swap Drop = false

-- a swap of the present term that hasn't settled has the op
abbrev pub swaps_op : ℕ → ℕ → ℕ × Ticket → Bool
swaps_op term o e = has_op term o e && (not e.1.settled && is_swap e.1.work)

abbrev pub is_swapped : World → ℕ → Bool
is_swapped w o = list_any (swaps_op w.term o) (fin.entries w.tickets)

abbrev pub is_unaborted : Option ℕ → Bool
is_unaborted None = true
is_unaborted (Some by) = false

-- a snapshot that it names while that is being made, unless a delete has aborted it before or its finalization is out
abbrev pub aborts_op : World → List ℕ → ℕ × Op → Bool
aborts_op w uuids e = names_uuid uuids e.1.uuid && (is_unaborted e.1.aborted && not (is_swapped w e.0))

abbrev pub aborting : World → List ℕ → ℕ → ℕ × Op → ℕ × Op
aborting w uuids by e = if aborts_op w uuids e then (e.0, record e.1 { aborted = Some by }) else e

abbrev pub aborted_ops : World → List ℕ → ℕ → FinMap nat_cmp Op
aborted_ops w uuids by = fin.from_entries {R = nat_cmp} (map (aborting w uuids by) (fin.entries w.ops))

-- ---- the world after it

abbrev pub delete_opened : World → List ℕ → World
delete_opened w uuids =
    record w { ops = aborted_ops w uuids w.next_op; deletes = fin.insert w.deletes w.next_op (record { uuids = uuids; clean = false; failed = false }); next_op = suc w.next_op }

abbrev pub delete_merged : World → List Bytes → ℕ → Option Deletion → World
delete_merged w names d None = w
delete_merged w names d (Some x) =
    record w { ops = aborted_ops w (named_uuids w names) d; deletes = fin.insert w.deletes d (record x { uuids = with_named w x.uuids names }) }

-- one that joins changes nothing
abbrev pub delete_by : World → List Bytes → Option ℕ → Option ℕ → World
delete_by w names (Some d) running = delete_merged w names d (fin.get w.deletes d)
delete_by w names None (Some d) = w
delete_by w names None None = delete_opened w (named_uuids w names)

abbrev pub asked_delete : World → List Bytes → World
asked_delete w names = delete_by w names (waiting_delete w) (running_delete w (named_uuids w names))
