-- How many of the calls that a container is sure to serve a step of opening uses.
use Rattle.std.specs.Prelude.{◌≡◌, ℕ, ◌+◌, ◌≤◌, Bool, true, false, Result, Ok, Err}
use Rattle.esr_opening.specs.declared.refusal.OpenRefusal.{OpenRefusal}
use Rattle.esr_opening.specs.declared.refusal.OpenRefusal.TheVariants as refusals

-- the container failed, or a read of a fetch that it gave
abbrev pub is_fault : {F : Type 0} → OpenRefusal F → Bool
is_fault refusals.Memory = false
is_fault (refusals.DepotFault fetch) = true
is_fault (refusals.Damaged name why) = false
is_fault (refusals.TermsSpent term) = false

abbrev pub has_fault : {F T : Type 0} → Result T (OpenRefusal F) → Bool
has_fault (Ok x) = false
has_fault (Err e) = is_fault e

-- At most so many calls were served of those that are sure, and where there were so many nothing failed.
pub record Spends (before after calls : ℕ) (failed : Bool) : Type 0 where
  pub spent : before ≤ after + calls
  pub sure : calls ≤ before → failed ≡ false
