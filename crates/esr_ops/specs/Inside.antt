-- The plan that a list of ops is, and what holds of each such list.
use Rattle.std.specs.Prelude.{◌<◌, ◌≤◌, ◌^◌, ℕ, List, [], ◌∷◌, map}
use Rattle.std.specs.FinMap as fin
use Rattle.esr_model.specs.Values.{Has}
use Rattle.esr_core.specs.World.{Op, Deletion}
use Rattle.esr_ops.specs.Plan.{Plan, RestorePlan, TicketMaps}

abbrev pub plan_with : List (ℕ × Op) → List (ℕ × Deletion) → List ℕ → TicketMaps → ℕ → List (ℕ × RestorePlan) → Plan
plan_with ops deletes completed tickets next_op restores =
    record {
      ops = fin.from_entries ops;
      deletes = fin.from_entries deletes;
      completed = completed;
      seats = tickets.seats;
      restores = fin.from_entries restores;
      readers = tickets.readers;
      next_op = next_op;
      next_ticket = tickets.next;
    }

abbrev pub numbers_of : {A : Type 0} → List (ℕ × A) → List ℕ
numbers_of {A} entries = map (λ (e : ℕ × A). e.0) entries

abbrev pub Rise : List ℕ → Type 0
Rise [] = Unit {0}
Rise (k ∷ ks) = ((n : ℕ) → Has ks n → k < n) × Rise ks

-- they rise, and lie from 1 to below the next one
pub record AreNumbers (numbers : List ℕ) (next : ℕ) : Type 0 where
  pub rise : Rise numbers
  pub least : (n : ℕ) → Has numbers n → 1 ≤ n
  pub below : (n : ℕ) → Has numbers n → n < next

-- what holds of every list of ops
pub record IsProgress (ops : List (ℕ × Op)) (deletes : List (ℕ × Deletion)) (next_op : ℕ) (restores : List (ℕ × RestorePlan)) : Type 0 where
  pub ops_numbered : AreNumbers (numbers_of ops) next_op
  pub deletes_numbered : AreNumbers (numbers_of deletes) next_op
  pub restores_numbered : AreNumbers (numbers_of restores) next_op
  pub apart : (n : ℕ) → Has (numbers_of ops) n → Has (numbers_of deletes) n → ⊥
  pub first : 1 ≤ next_op
  pub most : next_op ≤ 2 ^ 62
