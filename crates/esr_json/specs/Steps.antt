-- Steps that may be refused, and what a reader's answer says of them.
use Rattle.std.specs.Prelude.{◌≡◌, Result, Ok, Err}
use Rattle.esr_json.specs.declared.refusal.Reason.{Reason}
use Rattle.esr_json.specs.declared.refusal.ReadRefusal.{ReadRefusal}
use Rattle.esr_json.specs.declared.refusal.ReadRefusal.TheVariants as refusals

-- the next step, where the first gave a value
infixl 10 ◌>>=◌
abbrev pub ◌>>=◌ : {A B : Type 0} → Result A Reason → (A → Result B Reason) → Result B Reason
(Ok x) >>= f = f x
(Err e) >>= f = Err e

-- a borrowed part, by what it stands for
abbrev pub seen : {A B : Type 0} → (A → B) → Result A Reason → Result B Reason
seen f (Ok x) = Ok (f x)
seen f (Err e) = Err e

-- what an error says of what reading gives
abbrev pub Fails : {B : Type 0} → ReadRefusal → Result B Reason → Type 0
Fails refusals.Memory read = Unit {0}
Fails (refusals.Damaged e) read = read ≡ Err e

-- What a function returned, seen by f, is what reading gives, unless memory ran out.
abbrev pub Gives : {A B : Type 0} → (A → B) → Result A ReadRefusal → Result B Reason → Type 0
Gives f (Ok x) read = read ≡ Ok (f x)
Gives f (Err e) read = Fails e read
