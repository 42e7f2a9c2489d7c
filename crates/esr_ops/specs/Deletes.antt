-- An open delete, as the definitions see it.
use Rattle.std.specs.Prelude.{◌≡◌, ℕ, suc, Bool, true, false, not, ◌&&◌, nat_lt, if◌then◌else◌, List, [], ◌∷◌, ◌++◌, length, map, filter, Some}
use Rattle.esr_names.specs.declared.ids.Id.{Id}
use Rattle.esr_model.specs.Values.{RecordWork, DeletingOf}
use Rattle.esr_core.specs.World.{Deletion, deletion_work, numbered_deletes}
use Rattle.esr_formats.specs.Ids.{number_of}
use Rattle.esr_core.specs.Deletes.{with_uuid}
use Rattle.esr_ops.specs.declared.unit.SeatKind.{SeatKind}
use Rattle.esr_ops.specs.declared.unit.SeatKind.TheVariants as kinds
use Rattle.esr_ops.specs.declared.unit.Work.{Work}
use Rattle.esr_ops.specs.declared.unit.Work.TheVariants as works
use Rattle.esr_ops.specs.Plan.{Plan, no_plan}

abbrev pub deletion_with : List Id → Bool → Bool → Deletion
deletion_with uuids clean failed = record { uuids = map number_of uuids; clean = clean; failed = failed }

-- a delete as the cluster record tells it, by its number
abbrev pub deletion_entry : ℕ × Deletion → ℕ × RecordWork
deletion_entry e = (e.0, deletion_work e.1)

-- the number lies between two others
abbrev pub lies_between : ℕ → ℕ → ℕ → Bool
lies_between after before n = nat_lt after n && nat_lt n before

-- the deletes whose numbers lie between two others
abbrev pub between : ℕ → ℕ → List (ℕ × Deletion) → List (ℕ × Deletion)
between after before deletes = filter (λ (e : ℕ × Deletion). lies_between after before e.0) deletes

-- the unit of a delete: that it leaves where it failed, else that its snapshots are deleted, or a cleanup
abbrev pub IsWorkBy : Bool → Bool → List ℕ → Work → Type 0
IsWorkBy true clean uuids work = work ≡ works.Drop
IsWorkBy false true uuids work = work ≡ works.Cleanup
IsWorkBy false false uuids (works.Delete ids) = map number_of ids ≡ uuids
IsWorkBy false false uuids work = ⊥

abbrev pub IsDeleteWork : Deletion → Work → Type 0
IsDeleteWork x work = IsWorkBy x.failed x.clean x.uuids work

abbrev pub delete_kind : Deletion → SeatKind
delete_kind x = if x.failed then kinds.Drop else kinds.Delete

-- its unit is a cleanup
abbrev pub gives_cleanup : Deletion → Bool
gives_cleanup x = not x.failed && x.clean

-- a cleanup as it is opened
abbrev pub cleanup_begun : Deletion
cleanup_begun = record { uuids = []; clean = true; failed = false }

-- ---- the deletes that opening keeps

abbrev pub kept_delete : List ℕ → Deletion
kept_delete uuids = record { uuids = uuids; clean = false; failed = false }

-- the op of a record, kept as the next delete where it is one
abbrev pub with_kept : List (ℕ × Deletion) → RecordWork → List (ℕ × Deletion)
with_kept deletes (DeletingOf uuids) = deletes ++ (suc (length deletes), kept_delete uuids) ∷ []
with_kept deletes work = deletes

-- numbered from a number on
abbrev pub kept_from : ℕ → List (List ℕ) → List (ℕ × Deletion)
kept_from number [] = []
kept_from number (uuids ∷ rest) = (number, kept_delete uuids) ∷ kept_from (suc number) rest

-- the list of which they are all
abbrev pub kept_plan : List (List ℕ) → Plan
kept_plan kept = record no_plan { deletes = numbered_deletes 1 kept; next_op = suc (length kept) }

-- these uuids, and of the others those that aren't among them
abbrev pub with_uuids : List ℕ → List ℕ → List ℕ
with_uuids uuids [] = uuids
with_uuids uuids (u ∷ us) = with_uuids (with_uuid uuids (Some u)) us

-- the delete of a number names these snapshots too
abbrev pub grown : List ℕ → Deletion → Deletion
grown uuids x = record x { uuids = with_uuids x.uuids uuids }
