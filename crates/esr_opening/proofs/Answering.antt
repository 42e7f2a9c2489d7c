-- What steps answer, one after another.
use Rattle.std.proofs.Common.{◌≡◌, inl, inr, ℕ, ◌≤◌, true, Option, Some, Result, Ok, Err, sym, ◌∙◌, subst, arith}
use Rattle.esr_depot.specs.Image.{Image as Held}
use Rattle.esr_depot.specs.Calls.{HasCause}
use Rattle.std.specs.Result.{IsErrAnd, IfErr}
use Rattle.esr_opening.specs.Found.{Obstacle}
use Rattle.esr_opening.specs.Opening.{IsFault}
use Rattle.esr_opening.specs.Looked.{Refuses, Answers, Blames}
use Rattle.esr_opening.specs.Part.{part}
use Rattle.esr_opening.specs.declared.refusal.OpenRefusal.{OpenRefusal}
use Rattle.esr_opening.specs.declared.refusal.OpenRefusal.TheVariants as refusals

-- ---- faults

cause_before : (x y z : ℕ) → x ≤ y → HasCause y z true → HasCause x z true
cause_before x y z le cause = record { later = omega (arith, cause.later); rose = λ e. omega (arith, cause.rose e) }

pub fault_before : {F : Type 0} (faults : F → ℕ) (x y z : ℕ) (fetch : Option F) → x ≤ y → IsFault faults y z fetch → IsFault faults x z fetch
fault_before faults x y z fetch le (inl cause) = inl (cause_before x y z le cause)
fault_before faults x y z fetch le (inr read) = inr read

-- ---- what is found

-- a step that began after others, seen from before them
pub refuses_before : {F B : Type 0} (faults : F → ℕ) (a b : Option Held) (x y z : ℕ) (finds whole : Held → Result B Obstacle) (e : OpenRefusal F) → b ≡ a → x ≤ y
    → ((i : Held) → a ≡ Some i → whole i ≡ finds i) → Refuses faults b y z finds e → Refuses faults a x z whole e
refuses_before faults a b x y z finds whole refusals.Memory same le agree h = tt
refuses_before faults a b x y z finds whole (refusals.DepotFault fetch) same le agree h = fault_before faults x y z fetch le h
refuses_before faults a b x y z finds whole e same le agree h = λ i is. agree i is ∙ h i (same ∙ is)

-- a step that refused ends the whole
pub refused_first : {F A B : Type 0} (faults : F → ℕ) (held : Option Held) (x y : ℕ) (first : Held → Result A Obstacle) (whole : Held → Result B Obstacle) (e : OpenRefusal F)
    → ((i : Held) (o : Obstacle) → held ≡ Some i → first i ≡ Err o → whole i ≡ Err o) → Refuses faults held x y first e → Refuses faults held x y whole e
refused_first faults held x y first whole refusals.Memory ends h = tt
refused_first faults held x y first whole (refusals.DepotFault fetch) ends h = h
refused_first faults held x y first whole e ends h = λ i is. ends i _ is (h i is)

-- ---- of what was read

pub blames_refuses : {F A B : Type 0} (faults : F → ℕ) (held : Option Held) (x y : ℕ) (found : Result A Obstacle) (whole : Held → Result B Obstacle) (e : OpenRefusal F)
    → ((i : Held) (o : Obstacle) → held ≡ Some i → found ≡ Err o → whole i ≡ Err o) → Blames found e → Refuses faults held x y whole e
blames_refuses faults held x y found whole refusals.Memory ends h = tt
blames_refuses faults held x y found whole (refusals.DepotFault fetch) ends h = absurd h
blames_refuses faults held x y found whole e ends h = λ i is. ends i _ is h

-- ---- an error that is passed on

pub passed : {F A B : Type 0} (faults : F → ℕ) (held : Option Held) (x y : ℕ) (whole : Held → Result B Obstacle) (f : A → B) (r : Result A (OpenRefusal F)) (e : OpenRefusal F) → IsErrAnd r (λ s. s ≡ e)
    → Refuses faults held x y whole e
    → Answers faults held x y whole (part f r)
passed faults held x y whole f (Ok v) e is h = absurd is
passed faults held x y whole f (Err s) e is h = subst (λ t. Refuses faults held x y whole t) (sym is) h

pub err_passed : {T E : Type 0} (r : Result T E) (P : E → Type 0) (x : E) → IsErrAnd r (λ e. e ≡ x) → P x → IfErr r P
err_passed (Ok t) P x is h = tt
err_passed (Err e) P x is h = subst P (sym is) h
