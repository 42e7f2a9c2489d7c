-- What a kind says of a value of the code, and of what a reader answers.
use Rattle.std.proofs.Common.{◌≡◌, ap, sym, ◌∙◌, IfOk, Option, option_map, Result, Ok, Err}
use Rattle.std.specs.Result.{result_ok}
use Rattle.esr_json.specs.declared.refusal.Reason.{Reason}
use Rattle.esr_json.specs.declared.refusal.ReadRefusal.{ReadRefusal}
use Rattle.esr_json.specs.declared.refusal.ReadRefusal.TheVariants as refusals
use Rattle.esr_json.specs.Steps.{Gives}
use Rattle.esr_model.specs.Values.{Bytes}
use Rattle.esr_formats.specs.Kinds.{kind_by, IsRead}

pub text-kind_by : {C V : Type 0} (code : V → C) (model : C → V) (text : C → Bytes) (from : Bytes → Result C Reason) (c : C) → code (model c) ≡ c → (kind_by code model text from).text (model c) ≡ text c
text-kind_by code model text from c same = ap text same

pub IsRead-kind_by : {C V : Type 0} (code : V → C) (model : C → V) (text : C → Bytes) (from : Bytes → Result C Reason) (bytes : Bytes) (r : Result C ReadRefusal) → Gives (λ c. c) r (from bytes)
    → IsRead (kind_by code model text from) model bytes r
IsRead-kind_by {C} {V} code model text from bytes (Ok c) gives = let answer : Result C Reason → Option V = λ r. option_map model (result_ok r) in ap answer gives
IsRead-kind_by code model text from bytes (Err refusals.Memory) gives = tt
IsRead-kind_by {C} {V} code model text from bytes (Err (refusals.Damaged why)) gives = let answer : Result C Reason → Option V = λ r. option_map model (result_ok r) in ap answer gives

-- the writer's answer is the text that the kind gives
pub IfOk-text : {E : Type 0} (r : Result Bytes E) (text given : Bytes) → given ≡ text → IfOk r (λ b. b ≡ text) → IfOk r (λ b. b ≡ given)
IfOk-text (Ok b) text given same is = is ∙ sym same
IfOk-text (Err e) text given same is = tt
