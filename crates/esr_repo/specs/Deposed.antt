-- Refusals as deposed, and the record swap that failed before them.
use Rattle.std.specs.Prelude.{◌≡◌, ℕ, true, List, ◌∷◌, ◌++◌, length}
use Rattle.esr_core.specs.Entry.{Refused, DeposedAt, DepotFault, Entry}
use Rattle.esr_core.specs.After.{swaps_record}

-- the record swap at this place of the history, counted from 0, failed
pub record FailedSwap (es : List Entry) (place : ℕ) : Type 0 where
  pub front : List Entry
  pub entry : Entry
  pub back : List Entry
  pub is : es ≡ front ++ entry ∷ back
  pub place_is : length front ≡ place
  pub swaps : swaps_record entry.step ≡ true
  pub reply : entry.reply ≡ Refused DepotFault

-- each step that was refused as deposed names such a swap before it
abbrev pub AreDeposedSo : List Entry → Type 0
AreDeposedSo es = (front back : List Entry) (e : Entry) (place : ℕ) → es ≡ front ++ e ∷ back → e.reply ≡ Refused (DeposedAt place) → FailedSwap front place
