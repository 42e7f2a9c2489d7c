-- Tickets are numbered from one on.
use Rattle.std.proofs.Common.{◌≡◌, ◌≤◌, ℕ, false, true≢false, List, [], ◌∷◌, Option, Some, None, refl, sym, ap, ◌∙◌, arith, inl, inr}
use Rattle.std.specs.FinMap as fin
use Rattle.esr_model.specs.Values.{Formats}
use Rattle.esr_core.specs.World.{World, Ticket}
use Rattle.esr_core.specs.Entry.{Step, Refusal, Moment}
use Rattle.esr_core.specs.After.{after}
use Rattle.esr_core.specs.Allowed.{Blocks, ByFailedSwap, ByDelete}
use Rattle.esr_core.specs.History.{world_from}
use Rattle.esr_core.specs.Laws.StepFrames.{step_frame}
use Rattle.esr_core.specs.Laws.NumberMaps.{some_none}

-- no ticket has the number 0, nor will the next one
pub record Numbered (w : World) : Type 0 where
  pub next : 1 ≤ w.next_ticket
  pub none : fin.get w.tickets 0 ≡ None

numbered_after : (f : Formats) (w : World) (m : Moment) → Numbered w → Numbered (after f w m)
numbered_after f w m n = record { next = rises; none = go (fin.get (after f w m).tickets 0) refl }
  where
    rises : 1 ≤ (after f w m).next_ticket
    rises = let first : 1 ≤ w.next_ticket = n.next in let more : w.next_ticket ≤ (after f w m).next_ticket = (step_frame f w m).next_ticket in omega (arith, first, more)

    -- a ticket comes under the next number alone
    go : (o : Option Ticket) → fin.get (after f w m).tickets 0 ≡ o → fin.get (after f w m).tickets 0 ≡ None
    go None e = e
    go (Some v) e = elim ((step_frame f w m).come 0 v e) [
      | inl was ↦ absurd (some_none was.0 (sym was.1 ∙ n.none))
      | inr new ↦ let first : 1 ≤ w.next_ticket = n.next in let is : 0 ≡ w.next_ticket = new.0 in absurd (omega (arith, first, is))
    ]

-- ---- histories

pub numbered_from : (f : Formats) (log : List Moment) (w : World) → Numbered w → Numbered (world_from f w log)
numbered_from f [] w n = n
numbered_from f (m ∷ log) w n = numbered_from f log (after f w m) (numbered_after f w m n)

-- ---- who 0 has no ticket

pub client_unblocked : (w : World) (who : ℕ) (step : Step) (refusal : Refusal) → Numbered w → who ≡ 0 → w.deposed ≡ false → Blocks w who step refusal → ⊥
client_unblocked w who step _ n zero present (ByFailedSwap place deposed) = true≢false (sym deposed ∙ present)
client_unblocked w who step _ n zero present (ByDelete by alive aborted) = some_none aborted.t (sym aborted.out.there ∙ ap (fin.get w.tickets) zero ∙ n.none)
