-- The last steps of a ticket.
use Rattle.std.proofs.Common.{◌≡◌, ◌↔◌, ℕ, Bool, List, true, false, Option, Some, None, IsSome, refl}
use Rattle.esr_model.specs.Values.{ShardResult}
use Rattle.esr_core.specs.Entry.{Step, DoneStep, HasEnded, Reply, Moment}
use Rattle.esr_desk.specs.Start.{Start, ticket_of}
use Rattle.esr_desk.specs.Outcome.{Stepped}
use Rattle.esr_desk.specs.Last.{IsLast}
use Rattle.esr_upload.specs.Refused.{HasDone}
use Rattle.esr_upload.specs.Worked.{Went}

no_some : {A : Type 0} (o : Option A) → o ≡ None → IsSome o → ⊥
no_some (Some x) none is = cc
no_some None none is = cc

-- what is none isn't so
pub no_files : {A : Type 0} (o : Option A) (b : Bool) → (IsSome o ↔ (b ≡ true)) → o ≡ None → b ≡ false
no_files o true exact none = absurd (no_some o none (exact.1 refl))
no_files o false exact none = refl

pub last_of : (s : Start) (old new : List Moment) (who : ℕ) (step : Step) (reply : Reply) → Stepped s old new who step reply → IsLast new who step reply
last_of s old new who step reply h = record { front = h.front; image = h.image; is = h.is }

pub has_done : (s : Start) (old mid new : List Moment) (who : ℕ) (r : ShardResult) → Went s old mid who → Stepped s mid new who (DoneStep r) HasEnded → ticket_of s new who ≡ record (ticket_of s mid who) { out = false }
    → HasDone s old new who
has_done s old mid new who r went step own = record {
  r = r;
  last = last_of s mid new who (DoneStep r) HasEnded step;
  worked = ticket_of s mid who;
  is_worked = went.worked;
  is = own;
}
