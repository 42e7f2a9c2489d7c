-- A kind of the definitions by the text and the reading of the code, and what a reader answers.
use Rattle.std.specs.Prelude.{◌≡◌, Some, None, option_map, Result, Ok, Err}
use Rattle.std.specs.Result.{result_ok}
use Rattle.esr_json.specs.declared.refusal.Reason.{Reason}
use Rattle.esr_json.specs.declared.refusal.ReadRefusal.{ReadRefusal}
use Rattle.esr_json.specs.declared.refusal.ReadRefusal.TheVariants as refusals
use Rattle.esr_model.specs.Values.{Bytes, Kind}

-- a value is written as the code's value that it stands for; it is read where the code's reading answers one
abbrev pub kind_by : {C V : Type 0} → (V → C) → (C → V) → (C → Bytes) → (Bytes → Result C Reason) → Kind V
kind_by code model text from = record { text = λ v. text (code v); read = λ bytes. option_map model (result_ok (from bytes)) }

-- what a refusal says of the bytes: of want of memory nothing, else that they read as no value
abbrev pub IsUnread : {V : Type 0} → Kind V → Bytes → ReadRefusal → Type 0
IsUnread kind bytes refusals.Memory = Unit {0}
IsUnread kind bytes (refusals.Damaged why) = kind.read bytes ≡ None

-- the bytes read as the answered value, or the refusal is true of them
abbrev pub IsRead : {C V : Type 0} → Kind V → (C → V) → Bytes → Result C ReadRefusal → Type 0
IsRead kind model bytes (Ok x) = kind.read bytes ≡ Some (model x)
IsRead kind model bytes (Err e) = IsUnread kind bytes e
