-- What a container that tells nothing owes after a call, by the call's answer.
use Rattle.std.proofs.Common.{◌≡◌, ℕ, ◌<◌, ◌≤◌, Bool, true, Option, Some, None, Result, Ok, Err, IfOk, IfSome, ap, ◌∙◌, arith}
use Rattle.esr_depot.specs.declared.error.CallError.{CallError}
use Rattle.esr_depot.specs.declared.error.CallError.TheVariants.{Memory, Failed}
use Rattle.esr_depot.specs.Calls.{up, Change, Called, HasCause, Serves, is_wanting, has_failed}
use Rattle.esr_depot.specs.Untold.{untold, untold_called}
use Rattle.esr_faulty.specs.Counts.{clock_after, faults_after}

-- ---- what is so of each value

pub each_ok : {T : Type 0} (answer : Result T CallError) (P : T → Type 0) → ((x : T) → P x) → IfOk answer P
each_ok (Ok x) P each = each x
each_ok (Err e) P each = tt

pub each_some : {T : Type 0} (answer : Result (Option T) CallError) (P : T → Type 0) → ((x : T) → P x) → IfOk answer (λ o. IfSome o P)
each_some (Ok (Some x)) P each = each x
each_some (Ok None) P each = tt
each_some (Err e) P each = tt

-- it is sure to serve no call
pub none_sure : {P : Type 0} → 0 < 0 → P
none_sure some = absurd (omega arith)

pub unsure : (failed : Bool) → Serves 0 0 failed
unsure failed = record { spent = omega arith; sure = λ some. none_sure some }

-- ---- what was counted of a call, where nothing was counted from `s` to `t`

pub called : {T : Type 0} (answer : Result T CallError) (ok : T → Change) (may : Change) (s t u : ℕ)
    → t ≡ s → t ≤ u → u ≡ clock_after answer t → ((x : T) → ok x None None) → may None None → Called (untold s) (untold u) ok may answer
called (Ok x) ok may s t u same later is each stays = untold_called s u ok may (Ok x) (λ e. is ∙ ap up same) (λ e. absurd cc) (omega (arith, same, later)) (each x) stays
called (Err Memory) ok may s t u same later is each stays = untold_called s u ok may (Err Memory) (λ e. absurd cc) (λ e. is ∙ same) (omega (arith, same, later)) tt stays
called (Err Failed) ok may s t u same later is each stays = untold_called s u ok may (Err Failed) (λ e. is ∙ ap up same) (λ e. absurd cc) (omega (arith, same, later)) tt stays

pub no_fault : {T : Type 0} (answer : Result T CallError) (s t u : ℕ) → t ≡ s → u ≡ faults_after answer t → is_wanting answer ≡ true → u ≡ s
no_fault (Ok x) s t u same is wanting = is ∙ same
no_fault (Err Memory) s t u same is wanting = is ∙ same
no_fault (Err Failed) s t u same is wanting = absurd cc

pub has_cause : {T : Type 0} (answer : Result T CallError) (s t u : ℕ) → t ≡ s → t ≤ u → u ≡ faults_after answer t → HasCause s u (has_failed answer)
has_cause (Ok x) s t u same more is = record { later = omega (arith, same, more); rose = λ e. absurd cc }
has_cause (Err Memory) s t u same more is = record { later = omega (arith, same, more); rose = λ e. absurd cc }
has_cause (Err Failed) s t u same more is = record { later = omega (arith, same, more); rose = λ e. (let rose : u ≡ up s = is ∙ ap up same in omega (arith, rose)) }
