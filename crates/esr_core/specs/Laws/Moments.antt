-- What a moment makes of the tickets that settle.
use Rattle.std.proofs.Common.{◌≡◌, ℕ, Option, ◌∙◌, ◌++◌}
use Rattle.std.specs.FinMap as fin
use Rattle.esr_model.specs.Values.{Formats}
use Rattle.esr_model.specs.Image.{Image}
use Rattle.esr_core.specs.World.{World, Ticket, Swap}
use Rattle.esr_core.specs.Steps.{settled, MaySettle}
use Rattle.esr_core.specs.Pruning.{dooms}
use Rattle.esr_core.specs.Entry.{Step, Reply, Moment}
use Rattle.esr_core.specs.After.{settled_of, settled_by, deletes_left, delete_settled, delete_settled_by}
use Rattle.esr_core.specs.Allowed.{Settles}

-- ---- settle

module _ (f : Formats) (w : World) where
  pub delete_settled_plain : (k n : ℕ) (t : Ticket) (s : Swap) → MaySettle f w k n t s → delete_settled f w k (fin.get w.tickets k) ≡ record (settled w k t n s.root) { deletes = deletes_left w t; doomed = dooms f t ++ w.doomed }
  delete_settled_plain k n t s may = (λ j. delete_settled f w k (may.out.there j)) ∙ (λ j. delete_settled_by f w k t (may.is j) (may.raised j))

  pub settled_plain : (k : ℕ) (s : Settles f w k) → settled_of f w k (fin.get w.tickets k) ≡ record (settled w k s.t s.n s.s.root) { deletes = fin.remove w.deletes s.t.op }
  settled_plain k s = (λ j. settled_of f w k (s.may.out.there j)) ∙ (λ j. settled_by f w k s.t (s.may.is j) (s.may.raised j))

-- ---- failed

abbrev pub moment : ℕ → Step → Reply → Option Image → Moment
moment who step reply image = record { entry = record { who = who; step = step; reply = reply }; image = image }
