-- Which refusals the rules of commands give, and which none of them gives.
use Rattle.std.proofs.Common.{◌≡◌, ℕ, true, false, true≢false, sym}
use Rattle.esr_core.specs.Entry.{Asked, Snapshot, Clone, DeleteSnapshots, Restore, Cleanup, is_recorded, Refusal, CleanupRunning, NameInUse, TooMany, NoSnapshot, NoIndex, BeingDeleted, CloneRunning, RestoreRunning, BusyOp}
use Rattle.esr_core.specs.Refusing.{IsByRule, is_rule}

-- a rule's refusals first, so that each clause of a command goes by the others
pub never_rule : (command : Asked) (refusal : Refusal) → is_rule refusal ≡ false → IsByRule command refusal → ⊥
never_rule command (CleanupRunning op) none rule = true≢false none
never_rule command (NameInUse uuid) none rule = true≢false none
never_rule command (TooMany limit) none rule = true≢false none
never_rule command (NoSnapshot place) none rule = true≢false none
never_rule command (NoIndex place) none rule = true≢false none
never_rule command (BeingDeleted op) none rule = true≢false none
never_rule command (CloneRunning op) none rule = true≢false none
never_rule command (RestoreRunning op) none rule = true≢false none
never_rule command (BusyOp op) none rule = true≢false none
never_rule (Snapshot name indices moment) refusal none rule = rule
never_rule (Restore name place) refusal none rule = rule
never_rule (Clone source name names moment taken) refusal none rule = rule
never_rule (DeleteSnapshots names) refusal none rule = rule
never_rule Cleanup refusal none rule = rule

-- each command that is recorded is refused while a cleanup runs
pub of_cleanup : (command : Asked) (op : ℕ) → is_recorded command ≡ true → IsByRule command (CleanupRunning op)
of_cleanup (Restore name place) op recorded = absurd (true≢false (sym recorded))
of_cleanup command op recorded = tt
