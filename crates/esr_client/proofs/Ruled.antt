-- A command that a rule refuses.
use Rattle.std.proofs.Common.{◌≡◌, ℕ, false, List, refl, sym, subst}
use Rattle.esr_core.specs.World.{World}
use Rattle.esr_core.specs.Entry.{Asked, AskStep, Refusal, Refused, Moment}
use Rattle.esr_core.specs.Allowed.{RefusedBy, Cleaning, Ruled}
use Rattle.esr_desk.specs.Start.{Start, world_of}
use Rattle.esr_repo.specs.Log.{calls}
use Rattle.esr_repo.specs.May.{MayRefuse}

uncalled : (w : World) (command : Asked) (refusal : Refusal) → RefusedBy w command refusal → calls (AskStep command) (Refused refusal) ≡ false
uncalled w command refusal (Cleaning c d x recorded untaken there clean) = refl
uncalled w command refusal rule = refl

pub ruled : (s : Start) (log : List Moment) (command : Asked) (refusal : Refusal) → RefusedBy (world_of s log) command refusal → MayRefuse s log 0 (AskStep command) refusal
ruled s log command refusal rule = record { plain = uncalled (world_of s log) command refusal rule; allows = λ image tells same. Ruled command refusal image rule same }

-- where the refusal tells a number, this may be another that is equal
pub ruled_at : (s : Start) (log : List Moment) (command : Asked) (of : ℕ → Refusal) (n m : ℕ) → n ≡ m → RefusedBy (world_of s log) command (of m) → MayRefuse s log 0 (AskStep command) (of n)
ruled_at s log command of n m is rule = ruled s log command (of n) (subst (λ (k : ℕ). RefusedBy (world_of s log) command (of k)) (sym is) rule)
