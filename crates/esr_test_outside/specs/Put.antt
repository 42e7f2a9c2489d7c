-- What a put of one blob, and then of the record, may leave.
use Rattle.std.specs.Prelude.{◌≡◌, ◌⊎◌, ℕ, List, None, Result, Ok, Err}
use Rattle.esr_depot.specs.Image.{Image, blob, with_blob, with_text}
use Rattle.esr_depot.specs.declared.error.CallError.{CallError}
use Rattle.esr_depot.specs.declared.error.CallError.TheVariants.{Memory as NoMemory, Failed}
use Rattle.esr_test_outside.specs.declared.client.PutError.{PutError}
use Rattle.esr_test_outside.specs.declared.client.PutError.TheVariants.{Memory, Depot, Stage}

-- the image from before, that with the blob, or that with the record too
abbrev pub IsPutOf : Image → List ℕ → List ℕ → List ℕ → Image → Type 0
IsPutOf i name bytes text c =
    (c ≡ i) ⊎ ((c ≡ with_blob i name bytes) × (blob i name ≡ None)) ⊎ ((c ≡ with_text (with_blob i name bytes) text) × (blob i name ≡ None))

-- P of the stage whose write failed
abbrev pub IfStage : {T S : Type 0} → Result T (PutError S) → (S → Type 0) → Type 0
IfStage (Ok x) P = Unit {0}
IfStage (Err Memory) P = Unit {0}
IfStage (Err Depot) P = Unit {0}
IfStage (Err (Stage s)) P = P s

-- the error of a call of the container, as one of the put
abbrev pub put_error : {S : Type 0} → CallError → PutError S
put_error NoMemory = Memory
put_error Failed = Depot
