-- What a step keeps whose call gave an error.
use Rattle.std.proofs.Common.{◌≡◌, ℕ, true, List, Option, Err, refl, sym, ◌∙◌, subst}
use Rattle.esr_core.specs.Entry.{Step, Refused, DepotFault, Entry, Moment}
use Rattle.esr_depot.specs.declared.error.CallError.{CallError}
use Rattle.esr_depot.specs.declared.error.CallError.TheVariants.{Memory, Failed}
use Rattle.esr_depot.specs.Image.{Image as Held}
use Rattle.esr_depot.specs.Look.{Look}
use Rattle.esr_depot.specs.Calls.{Change, HasCause, Serves, Called, has_failed}
use Rattle.esr_desk.specs.Start.{Start}
use Rattle.esr_desk.specs.declared.refusal.StepRefusal.{StepRefusal}
use Rattle.esr_repo.specs.Log.{log_of}
use Rattle.esr_repo.specs.Repo.{Kept}
use Rattle.esr_repo.specs.Whole.{IsWhole}
use Rattle.esr_repo.specs.KeptFaults.{IsKeptOfFaults}
use Rattle.esr_repo.specs.Calm.{IsCalm}
use Rattle.esr_repo.specs.Next.{AddedOr}
use Rattle.esr_repo.specs.Calls.{with_error, refusal_of_error}
use Rattle.esr_repo.proofs.BlobCalls.{Before, Pushed, Made, wanting}
use Rattle.esr_repo.proofs.Pasts.{IsOnlyNow, made_whole, wanting_whole}
use Rattle.esr_repo.proofs.Failing.{same_faults, failed_faults}
use Rattle.esr_repo.proofs.Calms.{calm_wanting, calm_failed}

-- the entry of a step in which the container failed
abbrev pub fault_of : ℕ → Step → Entry
fault_of who step = record { who = who; step = step; reply = Refused DepotFault }

module _ {T : Type 0} {old : Look} {s : Start} {clock : ℕ} {es : List Entry} {k : Kept} {d : Option ℕ} {seen : List Moment}
    (b : Before old s clock es k d seen) (new : Look) (who : ℕ) (step : Step) (mid es' : List Entry) (reserved : mid ≡ es) (ok : T → Change) (may : Change) where
  -- what the call makes of the history where it fails
  abbrev Fails : CallError → Type 0
  Fails error = error ≡ Failed → Pushed es mid es' (fault_of who step) → Made old new s clock es es' k d seen (fault_of who step)

  pub error_kept : {start before : ℕ} {past : ℕ → Held → Type 0} → IsWhole old s clock past es k d → IsKeptOfFaults start before es d → IsCalm s.quiet old.sure es → IsOnlyNow new → (after : ℕ)
      → (error : CallError) → Called old new ok may (Err error) → HasCause before after (has_failed {T = T} (Err error)) → Serves old.sure new.sure (has_failed {T = T} (Err error)) → es' ≡ with_error mid who step error → Fails error
      → IsWhole new s clock past es' k d × IsKeptOfFaults start after es' d × IsCalm s.quiet new.sure es'
  error_kept {start} {before} {past} whole faults calm only after Memory c cause serves pushed fails = (
    wanting_whole b past whole.past new es' (pushed ∙ reserved) ok may Memory refl c,
    same_faults es' after faults cause.later (pushed ∙ reserved),
    calm_wanting calm new es' (pushed ∙ reserved) ok may Memory refl c,
  )
  error_kept {start} {before} {past} whole faults calm only after Failed c cause serves pushed fails =
      let p : Pushed es mid es' (fault_of who step) = record { reserved = reserved; pushed = pushed } in (
        made_whole b past whole.past only (fails refl p),
        failed_faults faults p after true cause refl refl,
        calm_failed old.sure calm p new.sure true serves refl,
      )

  error_added : (error : CallError) → Called old new ok may (Err error) → es' ≡ with_error mid who step error → Fails error → AddedOr s seen (log_of new clock es') who step (refusal_of_error error)
  error_added Memory c pushed fails = (wanting b new es' (pushed ∙ reserved) ok may Memory refl c).0
  error_added Failed c pushed fails = (fails refl (record { reserved = reserved; pushed = pushed })).added

  pub error_step : (error : CallError) → Called old new ok may (Err error) → es' ≡ with_error mid who step error → Fails error → (refusal : StepRefusal) → refusal ≡ refusal_of_error error
      → AddedOr s seen (log_of new clock es') who step refusal
  error_step error c pushed fails refusal is = subst (λ (r : StepRefusal). AddedOr s seen (log_of new clock es') who step r) (sym is) (error_added error c pushed fails)
