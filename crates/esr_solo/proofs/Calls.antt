-- The entries of who 0 after a step of the repository.
use Rattle.std.proofs.Common.{◌≡◌, ℕ, ◌≤◌, List, Result, Ok, Err, refl, ap, ◌∙◌, subst}
use Rattle.esr_core.specs.Entry.{Step, Reply, Refused, Moment}
use Rattle.esr_desk.specs.declared.hand.Hand.{Hand}
use Rattle.esr_desk.specs.declared.hand.Hand.TheVariants as hands
use Rattle.esr_desk.specs.declared.refusal.StepRefusal.{StepRefusal}
use Rattle.esr_desk.specs.declared.refusal.StepRefusal.TheVariants as steps
use Rattle.esr_desk.specs.Refusals.{refusal_of}
use Rattle.esr_desk.specs.Start.{Start}
use Rattle.esr_desk.specs.Calls.{Call, calls_at, with_call, called, called_by, IsMine, calls_left, calls_own}
use Rattle.esr_repo.specs.Next.{Added, Did}

left_by : (s : Start) (own log new : List Moment) (who : ℕ) (step : Step) (reply : Reply) → own ≡ log → 1 ≤ who → Added s own new who step reply → calls_at 0 new ≡ calls_at 0 log
left_by s own log new who step reply view some a = calls_left own new (record { entry = record { who = who; step = step; reply = reply }; image = a.image }) a.is some ∙ ap (calls_at 0) view

-- a ticket's step leaves them
pub calls_ticket : {X : Type 0} (s : Start) (own log new : List Moment) (who : ℕ) (step : Step) (ok : X → Reply) (result : Result X StepRefusal) → own ≡ log → 1 ≤ who → Did s own new who step ok result
    → calls_at 0 new ≡ calls_at 0 log
calls_ticket s own log new who step ok (Ok x) view some d = left_by s own log new who step (ok x) view some d
calls_ticket s own log new who step ok (Err steps.Memory) view some d = ap (calls_at 0) (d ∙ view)
calls_ticket s own log new who step ok (Err steps.TurnsSpent) view some never = absurd never
calls_ticket s own log new who step ok (Err (steps.Refused refusal)) view some d = left_by s own log new who step (Refused (refusal_of refusal)) view some d

own_by : (s : Start) (own log new : List Moment) (step : Step) (reply : Reply) → own ≡ log → Added s own new 0 step reply → calls_at 0 new ≡ with_call new step reply (calls_at 0 log)
own_by s own log new step reply view a =
    calls_own own new step reply (record { entry = record { who = 0; step = step; reply = reply }; image = a.image }) a.is refl ∙ ap (λ (l : List Moment). with_call new step reply (calls_at 0 l)) view

-- one of who 0 is one more
pub calls_client : {X : Type 0} (s : Start) (own log new : List Moment) (step : Step) (ok : X → Reply) (result : Result X StepRefusal) → own ≡ log → Did s own new 0 step ok result
    → calls_at 0 new ≡ called new step ok result (calls_at 0 log)
calls_client s own log new step ok (Ok x) view d = own_by s own log new step (ok x) view d
calls_client s own log new step ok (Err steps.Memory) view d = ap (calls_at 0) (d ∙ view)
calls_client s own log new step ok (Err steps.TurnsSpent) view never = absurd never
calls_client s own log new step ok (Err (steps.Refused refusal)) view d = own_by s own log new step (Refused (refusal_of refusal)) view d

of_client : {X : Type 0} (s : Start) (own log new : List Moment) (who : ℕ) (step : Step) (ok : X → Reply) (result : Result X StepRefusal) → own ≡ log → who ≡ 0 → Did s own new who step ok result
    → calls_at 0 new ≡ called new step ok result (calls_at 0 log)
of_client s own log new who step ok result view is d = calls_client s own log new step ok result view (subst (λ (k : ℕ). Did s own new k step ok result) is d)

pub calls_hand : {X : Type 0} (hand : Hand) (s : Start) (own log new : List Moment) (who : ℕ) (step : Step) (ok : X → Reply) (result : Result X StepRefusal) → own ≡ log → IsMine hand (calls_at 0 log) who → Did s own new who step ok result
    → calls_at 0 new ≡ called_by hand new step ok result (calls_at 0 log)
calls_hand hands.Check s own log new who step ok result view mine d = of_client s own log new who step ok result view mine d
calls_hand hands.Verify s own log new who step ok result view mine d = of_client s own log new who step ok result view mine d
calls_hand hand s own log new who step ok result view mine d = calls_ticket s own log new who step ok result view mine.some d

-- where no turn is left, or no memory
pub calls_same : {X : Type 0} (hand : Hand) (log : List Moment) (step : Step) (ok : X → Reply) (calls : List Call) → calls ≡ called_by {X = X} hand log step ok (Err steps.TurnsSpent) calls
calls_same hands.Unit log step ok calls = refl
calls_same hand log step ok calls = refl

pub calls_wanting : {X : Type 0} (hand : Hand) (log : List Moment) (step : Step) (ok : X → Reply) (calls : List Call) → calls ≡ called_by {X = X} hand log step ok (Err steps.Memory) calls
calls_wanting hands.Unit log step ok calls = refl
calls_wanting hand log step ok calls = refl
