-- The world after a delete or cleanup has settled.
use Rattle.std.specs.Prelude.{◌≡◌, ℕ, true, ◌++◌, Option, Some}
use Rattle.std.proofs.Common.{ap, ◌∙◌}
use Rattle.std.specs.FinMap as fin
use Rattle.esr_model.specs.Values.{Formats}
use Rattle.esr_core.specs.World.{World, Ticket, Swap, swap}
use Rattle.esr_core.specs.Pruning.{dooms}
use Rattle.esr_core.specs.Steps.{settled}
use Rattle.esr_core.specs.After.{deletes_left, delete_settled_by, delete_settled}

-- the ticket after it
abbrev pub settle : Ticket → Ticket
settle t = record t { settled = true }

-- the world, blobs aside, after the ticket settled on this plan
abbrev pub delete_world : Formats → World → ℕ → Ticket → Swap → ℕ → World
delete_world f w k t change n = record (settled w k t n change.root) { deletes = deletes_left w t; doomed = dooms f t ++ w.doomed }

pub delete_is : (f : Formats) (w : World) (k : ℕ) (t : Ticket) (change : Swap) (n : ℕ) → fin.get w.tickets k ≡ Some t → swap f t ≡ Some change → t.raised ≡ Some n
    → delete_settled f w k (fin.get w.tickets k) ≡ delete_world f w k t change n
delete_is f w k t change n there is raised =
    ap (delete_settled f w k) there ∙ ap (λ (x : Option Swap). delete_settled_by f w k t x t.raised) is ∙ ap (delete_settled_by f w k t (Some change)) raised
