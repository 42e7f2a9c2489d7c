-- What is kept of a script asks for the same as the whole.
use Rattle.std.proofs.Common.{◌≡◌, ℕ, ◌≤◌, ◌<◌, Bool, true, false, List, [], length, take, nat_lt, Option, Err, if◌then◌else◌, refl, sym, ap, ◌∙◌, arith}
use Rattle.std.proofs.lemmas.List.{length-take, take_all}
use Rattle.std.proofs.lemmas.Bool.{ltb-true, ltb-false, lt-ltb}
use Rattle.esr_model.specs.Values.{Bytes}
use Rattle.esr_script.specs.Lines.{lines_of}
use Rattle.esr_script.specs.Script.{script_from, script_of}
use Rattle.esr_script.specs.declared.item.ScriptLine.{ScriptLine}
use Rattle.esr_script.specs.declared.refusal.ScriptRefusal.TheVariants.{TooLong}
use Rattle.esr_run.specs.declared.stop.Stop.{Stop}
use Rattle.esr_run.specs.declared.stop.Stop.TheVariants as stops
use Rattle.esr_run.specs.Script.{bad_line}
use Rattle.esr_run.specs.Asked.{ReadScript}
use Rattle.esr_run.specs.Causes.{IsScriptFor}
use Rattle.esr_run.specs.Stops.{IsKept, IsBadIn, AreGood, end_of, StoppedBy}
use Rattle.esr_run.proofs.Numbering.{Read}

too_long : (bytes : Bytes) → nat_lt 4194304 (length bytes) ≡ true → script_of bytes ≡ Err TooLong
too_long bytes e = ap (λ (b : Bool). let r : Read = if b then Err TooLong else script_from [] 1 (lines_of bytes) in r) e

take_whole : (n : ℕ) (bytes : Bytes) → length bytes ≤ n → take n bytes ≡ bytes
take_whole n bytes le = take_all n bytes le

same_read : (n : ℕ) (bytes : Bytes) → n ≡ 4194305 → script_of (take n bytes) ≡ script_of bytes
same_read n bytes is = go (nat_lt 4194304 (length bytes)) refl
  where
    go : (b : Bool) → nat_lt 4194304 (length bytes) ≡ b → script_of (take n bytes) ≡ script_of bytes
    go true e =
        let long : 4194304 < length bytes = ltb-true 4194304 (length bytes) e in
        let cut : length (take n bytes) ≡ 4194305 = omega (arith, length-take n bytes, is, long) in
        let still : nat_lt 4194304 (length (take n bytes)) ≡ true = lt-ltb 4194304 (length (take n bytes)) (omega (arith, cut)) in
        too_long (take n bytes) still ∙ sym (too_long bytes e)
    go false e =
        let short : length bytes ≤ 4194304 = ltb-false 4194304 (length bytes) e in
        ap script_of (take_whole n bytes (omega (arith, short, is)))

pub kept_reads : (told : Option Bytes) (kept : Bytes) (k : IsKept told kept) → script_of kept ≡ script_of k.bytes
kept_reads told kept k = ap script_of k.kept_is ∙ same_read 4194305 k.bytes refl

-- a script that can be carried out
pub good_script : (size : ℕ) (told : Option Bytes) (kept : Bytes) (lines : List ScriptLine) → IsKept told kept → AreGood (script_of kept) lines → IsScriptFor (ReadScript size) told lines
good_script size told kept lines k good = record {
  are = record { bytes = k.bytes; bytes_are = k.bytes_are; read = sym (kept_reads told kept k) ∙ good.read_as };
  good = good.good;
}

-- or one that can't
pub bad_script : (size : ℕ) (told : Option Bytes) (old new : ℕ) (kept : Bytes) (e : Stop) → IsKept told kept → IsBadIn (script_of kept) e → StoppedBy (ReadScript size) told old new (end_of e)
bad_script size told old new kept stops.Memory k bad = tt
bad_script size told old new kept stops.BadScript k bad = (tt, (k.bytes, k.bytes_are, sym (kept_reads told kept k) ∙ bad))
bad_script size told old new kept (stops.BadLine number) k bad = (k.bytes, k.bytes_are, ap bad_line (sym (kept_reads told kept k)) ∙ bad)
bad_script size told old new kept e k bad = absurd bad
