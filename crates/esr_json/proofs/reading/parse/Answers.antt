use Rattle.std.proofs.Common.{inl, inr, refl}
use Rattle.std.specs.Str.{is_utf8}
use Rattle.std.proofs.lemmas.Bool.{cases_Bool, iff_false}
use Rattle.std.proofs.lemmas.Str.{is_utf8-from_IsUtf8, IsUtf8-from_is_utf8}
use Rattle.esr_json.proofs.reading.parse.Goals as goal

pub returns-in-Ok : goal.returns-in-Ok
returns-in-Ok c = rw (is_utf8-from_IsUtf8 c.args.bytes.now c.in-Ok.ensures.ok.0, c.in-Ok.ensures.ok.1) refl

pub returns-in-Err-2 : goal.returns-in-Err-2
returns-in-Err-2 c = elim (cases_Bool (is_utf8 c.args.bytes.now)) [
  | inl text ↦
      let none = c.in-Err.ensures.err (iff_false c.is_memory.ensures c.if-is_memory.false) (IsUtf8-from_is_utf8 c.args.bytes.now text) in
      rw (text, none) refl
  | inr bad ↦ rw bad refl
]
