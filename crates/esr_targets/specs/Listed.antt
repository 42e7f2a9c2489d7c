-- The targets in the order of lines, indices and shards.
use Rattle.std.specs.Prelude.{ℕ, leb, Bool, if◌then◌else◌, List, [], ◌∷◌, ◌++◌, Option, Some, None, ◌==◌}
use Rattle.std.specs.Ordering.{nat_cmp}
use Rattle.std.specs.Cmp.Lexicographic.{slice_cmp}
use Rattle.esr_model.specs.Places.{by_order}
use Rattle.esr_desk.specs.declared.target.RestoredTarget.{RestoredTarget}
use Rattle.esr_targets.specs.declared.target.Restored.{Restored}

-- by line, then the index's name in byte order, then shard
abbrev pub target_first : {T : Type 0} → Restored T → Restored T → Bool
target_first a b = by_order (nat_cmp a.line b.line) (by_order (slice_cmp nat_cmp a.index b.index) (leb a.shard b.shard))

-- the number that is listed first with the op
abbrev pub line_of : List (ℕ × ℕ) → ℕ → Option ℕ
line_of [] op = None
line_of (p ∷ ops) op = if p.0 == op then Some p.1 else line_of ops op

abbrev pub listed_at : {T : Type 0} → RestoredTarget T → Option ℕ → List (Restored T)
listed_at r None = []
listed_at r (Some line) = record { line = line; index = r.index; shard = r.shard; target = r.target } ∷ []

-- each under the line of its op
abbrev pub listed : {T : Type 0} → List (ℕ × ℕ) → List (RestoredTarget T) → List (Restored T)
listed ops [] = []
listed ops (r ∷ restored) = listed_at r (line_of ops r.op) ++ listed ops restored
