-- Worlds in which snapshots, deletes and cleanups stand in one another's way.
use Rattle.std.specs.Prelude.{ℕ, true, false, List, [], ◌∷◌, None, codes}
use Rattle.std.specs.Ordering.{nat_cmp}
use Rattle.std.specs.FinMap.{FinMap}
use Rattle.std.specs.FinMap as fin
use Rattle.esr_core.specs.World.{World, Op, Deletion, opened, no_record, no_root}

-- a snapshot of no index, of which so nothing waits
abbrev pub bare : Op
bare = record { name = codes "s1"; uuid = 5; moment = 0; indices = []; shards = []; failed = false; source = None; aborted = None }

-- a delete of one snapshot
abbrev pub delete : Deletion
delete = record { uuids = 3 ∷ []; clean = false; failed = false }

abbrev pub cleanup : Deletion
cleanup = record { uuids = []; clean = true; failed = false }

abbrev pub one : {A : Type 0} → ℕ → A → FinMap nat_cmp A
one number x = fin.insert fin.empty number x

abbrev pub two : {A : Type 0} → ℕ → A → ℕ → A → FinMap nat_cmp A
two first x second y = fin.insert (one first x) second y

-- these are open, and completed in this order; no ticket is out
abbrev pub with_open : FinMap nat_cmp Op → FinMap nat_cmp Deletion → List ℕ → World
with_open ops deletes completed = record (opened fin.empty no_record no_root) { ops = ops; deletes = deletes; completed = completed; next_op = 4 }
