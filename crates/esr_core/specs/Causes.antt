-- What an answer tells of the world: why a step was refused, which unit was given, what was settled.
use Rattle.std.specs.Prelude.{◌≡◌, ◌≢◌, ℕ, List, suc, ◌+◌, ◌^◌, ◌<◌, ◌≤◌, ◌⊎◌, true, Option, Some}
use Rattle.std.specs.FinMap as fin
use Rattle.esr_model.specs.Names.{BlobName}
use Rattle.esr_model.specs.Values.{Bytes, IndexRef, Formats}
use Rattle.esr_model.specs.Kept.{first_id}
use Rattle.esr_model.specs.Image.{Image, Present}
use Rattle.esr_core.specs.World.{World, Deletion, Ticket}
use Rattle.esr_core.specs.Steps.{IsOut}
use Rattle.esr_core.specs.Entry.{Asked, Restore, Given, CommitTest, SettlePruned, Step, AskStep, TakeStep, CommitStep, SettleStep, ElectStep, ReadStep, PruneStep, Refusal, CleanupRunning, NameInUse, TooMany, StaleTerm, GenerationsSpent, TermsSpent, IdsSpent, NameTaken, DepotFault, NoSnapshot, NoIndex, BeingDeleted, CloneRunning, RestoreRunning, BusyOp, BusyTicket}
use Rattle.esr_core.specs.Numbers.{ids_by}
use Rattle.esr_core.specs.Allowed.{Told, AcceptsRestore, HasReady, Gives, Commits, Settles, IsMetadata, IsOwnTest, SettlesDeletion}

-- a rule of accepting commands gives the refusal
abbrev pub IsRule : Refusal → Type 0
IsRule (NameInUse uuid) = Unit {0}
IsRule (TooMany limit) = Unit {0}
IsRule (NoSnapshot place) = Unit {0}
IsRule (NoIndex place) = Unit {0}
IsRule (BeingDeleted op) = Unit {0}
IsRule (CloneRunning op) = Unit {0}
IsRule (RestoreRunning op) = Unit {0}
IsRule (BusyOp op) = Unit {0}
IsRule (BusyTicket ticket) = Unit {0}
IsRule refusal = ⊥

pub data RefusalCause (f : Formats) (part_size : ℕ) (w : World) (who : ℕ) (step : Step) (image : Option Image) : Refusal → Type 0 where
  OfRule : (refusal : Refusal) (command : Asked) → step ≡ AskStep command → IsRule refusal → RefusalCause f part_size w who step image refusal
  OfCleanup : (command : Asked) (d : ℕ) (x : Deletion) → step ≡ AskStep command → fin.get w.deletes d ≡ Some x → x.clean ≡ true → RefusalCause f part_size w who step image (CleanupRunning d)
  OfName : (name : BlobName) (c : Commits f part_size w who name) → step ≡ CommitStep name → (IsMetadata name → ⊥) → Told image (λ blobs. Present f w.blobs name × (blobs ≡ w.blobs))
      → RefusalCause f part_size w who step image (NameTaken name)
  OfTestName : (name : BlobName) → IsOwnTest f w name → step ≡ ReadStep (CommitTest name) → Told image (λ blobs. Present f w.blobs name × (blobs ≡ w.blobs)) → RefusalCause f part_size w who step image (NameTaken name)
  OfTerm : (t : Ticket) → IsOut w who t → t.term ≢ w.term → RefusalCause f part_size w who step image (StaleTerm t.term w.term)
  -- so many ids more, no more than the step asks for, would be of the next term
  OfIds : (count : ℕ) → count ≤ ids_by step → first_id (suc w.term) ≤ w.next_id + count → RefusalCause f part_size w who step image (IdsSpent w.next_id)
  OfGenerations : 2 ^ 63 ≤ w.pending → RefusalCause f part_size w who step image (GenerationsSpent w.pending)
  OfTerms : who ≡ 0 → step ≡ ElectStep → 2 ^ 63 ≤ suc w.term → RefusalCause f part_size w who step image (TermsSpent w.term)
  -- the container failed
  OfCall : RefusalCause f part_size w who step image DepotFault

-- ---- what an answer tells

-- the unit was given by a take: it is the ready one of the lowest op, under the next number
pub record TakeGave (f : Formats) (w : World) (who : ℕ) (step : Step) (k o : ℕ) (unit : Given) : Type 0 where
  pub who_is : who ≡ 0
  pub step_is : step ≡ TakeStep
  pub number : k ≡ w.next_ticket
  pub lowest : (p : ℕ) → p < o → HasReady w p → ⊥
  pub gives : Gives f w o unit

-- the swap of a finalization, or of a delete or cleanup, of the present term was settled
abbrev pub SettleDid : Formats → World → ℕ → Step → Type 0
SettleDid f w who step = ((step ≡ SettleStep) × Settles f w who) ⊎ ((step ≡ PruneStep SettlePruned) × ((s : SettlesDeletion f w who) × (s.t.term ≡ w.term)))

-- a restore was accepted: who 0 asked for it, and no rule stood against it
pub record RestoreBegan (f : Formats) (w : World) (who : ℕ) (step : Step) (o uuid : ℕ) (indices : List IndexRef) (image : Option Image) : Type 0 where
  pub who_is : who ≡ 0
  pub name : Bytes
  pub place : Bytes
  pub step_is : step ≡ AskStep (Restore name place)
  pub accepts : AcceptsRestore f w name o uuid indices image
