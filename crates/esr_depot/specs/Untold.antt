-- A container that tells nothing of what it holds.
use Rattle.std.specs.Prelude.{◌≡◌, ℕ, ◌≤◌, true, false, None, Result, Ok, Err, IfOk}
use Rattle.std.proofs.Common.{refl}
use Rattle.esr_depot.specs.declared.error.CallError.{CallError}
use Rattle.esr_depot.specs.declared.error.CallError.TheVariants.{Memory, Failed}
use Rattle.esr_depot.specs.Look.{Look}
use Rattle.esr_depot.specs.Calls.{up, Change, Passed, Stays, Called, is_wanting}
use Rattle.esr_depot.specs.Moments.{called_ok, called_failed, called_wanting}

-- what it shows: its moments, and no image
abbrev pub untold : ℕ → Look
untold clock = record { clock = clock; at = λ _. None; since = λ _ _. ⊥; sure = 0 }

-- a call was made
pub untold_passed : (t u : ℕ) (may : Change) → u ≡ up t → t ≤ u → Passed (untold t) (untold u) may
untold_passed t u may ticked later = record { ticked = ticked; later = later; past = λ k le. refl; since = λ s i le left. absurd left }

-- none was made
pub untold_stays : (t u : ℕ) → u ≡ t → Stays (untold t) (untold u)
untold_stays t u same = record { clock = same; at = λ k. refl; since = λ s i left. absurd left; sure = refl }

-- a call of it, by its answer: only the clock is to be shown, since each change is vacuous
pub untold_called : {T : Type 0} (t u : ℕ) (ok : T → Change) (may : Change) (result : Result T CallError)
    → (is_wanting result ≡ false → u ≡ up t) → (is_wanting result ≡ true → u ≡ t) → t ≤ u → IfOk result (λ x. ok x None None) → may None None
    → Called (untold t) (untold u) ok may result
untold_called t u ok may (Ok x) ticked rests later done stays = called_ok _ _ ok may x (untold_passed t u may (ticked refl) later) done
untold_called t u ok may (Err Memory) ticked rests later done stays = called_wanting _ _ ok may (Err Memory) refl (untold_stays t u (rests refl))
untold_called t u ok may (Err Failed) ticked rests later done stays = called_failed _ _ ok may (untold_passed t u may (ticked refl) later) stays
