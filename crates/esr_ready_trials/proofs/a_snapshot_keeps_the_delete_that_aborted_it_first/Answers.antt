use Rattle.std.proofs.Common.{◌≡◌, ◌⊎◌, ℕ, Some, ap, ◌∙◌}
use Rattle.std.specs.Ordering.{nat_cmp}
use Rattle.std.specs.FinMap.{FinMap}
use Rattle.std.specs.FinMap as fin
use Rattle.esr_core.specs.World.{World, Op}
use Rattle.esr_core.specs.Turns.{Aborts}
use Rattle.esr_ready_trials.proofs.a_snapshot_keeps_the_delete_that_aborted_it_first.Goals as goal

kept : (ops now : FinMap nat_cmp Op) (d : ℕ) → Aborts ops now d → (o by : ℕ) (op : Op) → fin.get ops o ≡ Some op → op.aborted ≡ Some by → fin.get now o ≡ Some op
kept ops now d h o by op there aborted =
    let s : (new : Op) × (fin.get now o ≡ Some new) × ((new ≡ op) ⊎ (new ≡ record op { aborted = Some d })) = h.stays o op there in
    s.1 ∙ ap (λ (x : Op). Some x) (h.first o op s.0 by there s.1 aborted)

pub returns-clause-asked : goal.returns-clause-asked
returns-clause-asked c = λ w new uuids h o by op there aborted. ap (λ (x : World). fin.get x.ops o) h.new_is ∙ kept w.ops h.ops w.next_op h.aborts o by op there aborted

pub returns-clause-merged : goal.returns-clause-merged
returns-clause-merged c = λ w new uuids d h o by op there aborted. ap (λ (x : World). fin.get x.ops o) h.new_is ∙ kept w.ops h.ops d h.aborts o by op there aborted
