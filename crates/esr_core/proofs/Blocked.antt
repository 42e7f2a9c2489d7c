-- A step that is refused before it is looked at changes nothing, but that it was made.
use Rattle.std.proofs.Common.{◌≡◌, ◌∙◌, ℕ, Bool, false, [], refl, ap}
use Rattle.std.specs.Prelude.{◌&&◌, if◌then◌else◌}
use Rattle.std.specs.FinMap as fin
use Rattle.esr_model.specs.Values.{Formats}
use Rattle.esr_core.specs.World.{World}
use Rattle.esr_core.specs.Entry.{Step, Refusal, DepotFault, Refused, Moment}
use Rattle.esr_core.specs.Allowed.{Blocks, ByFailedSwap, ByDelete, IsBlocked}
use Rattle.esr_core.specs.History.{counts, is_settle, command_of, commands_at}

-- no call of the container fails in it
pub block_faultless : (w : World) (who : ℕ) (step : Step) (refusal : Refusal) → Blocks w who step refusal → refusal ≡ DepotFault → ⊥
block_faultless w who step refusal (ByFailedSwap place d) e = cc
block_faultless w who step refusal (ByDelete by d a) e = cc

-- it settles nothing
pub block_uncounted : (w : World) (who : ℕ) (step : Step) (refusal : Refusal) → Blocks w who step refusal → counts (Refused refusal) ≡ false
block_uncounted w who step refusal (ByFailedSwap place d) = refl
block_uncounted w who step refusal (ByDelete by d a) = refl

-- nothing counts in it
pub blocked_none : (f : Formats) (w : World) (safe : ℕ) (m : Moment) → IsBlocked w m → commands_at f safe w m.entry.who m.entry.step m.entry.reply ≡ []
blocked_none f w safe m b =
    ap (commands_at f safe w m.entry.who m.entry.step) b.refused
    ∙ ap (λ (c : Bool). if c && is_settle m.entry.step then command_of f safe (fin.get w.tickets m.entry.who) else []) (block_uncounted w m.entry.who m.entry.step b.refusal b.blocks)
