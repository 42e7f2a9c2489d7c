-- What a reading comes to, where damaged bytes read as nothing.
use Rattle.std.specs.Prelude.{Option, Some, None, Result, Ok, Err, alloc_error}
use Rattle.std.specs.declared.alloc.AllocError.{AllocError}
use Rattle.esr_json.specs.declared.refusal.ReadRefusal.{ReadRefusal}
use Rattle.esr_json.specs.declared.refusal.ReadRefusal.TheVariants as refusals

abbrev pub settled : {T : Type 0} → Result T ReadRefusal → Result (Option T) AllocError
settled (Ok x) = Ok (Some x)
settled (Err refusals.Memory) = Err alloc_error
settled (Err (refusals.Damaged why)) = Ok None
