-- The numbers of a script's lines rise.
use Rattle.std.proofs.Common.{◌≡◌, ℕ, ◌+◌, ◌<◌, Bool, true, false, List, [], ◌∷◌, ◌++◌, append-nil, length, nat_lt, Option, Some, None, Result, Ok, Err, if◌then◌else◌, refl, sym, subst, inl, inr, ⊎_elim, ◌⊎◌, arith}
use Rattle.std.specs.Option.{option_to_list}
use Rattle.esr_model.specs.Values.{Bytes, Has}
use Rattle.esr_script.specs.Lines.{lines_of}
use Rattle.esr_script.specs.Script.{line_of, numbered, after_line, script_from}
use Rattle.esr_script.specs.declared.item.Item.{Item}
use Rattle.esr_script.specs.declared.item.ScriptLine.{ScriptLine}
use Rattle.esr_script.specs.declared.refusal.Why.{Why}
use Rattle.esr_script.specs.declared.refusal.ScriptRefusal.{ScriptRefusal}
use Rattle.esr_script.specs.declared.refusal.ScriptRefusal.TheVariants.{TooLong, BadLine}
use Rattle.esr_model.specs.Lists.{Has-append}
use Rattle.esr_targets.specs.Lines.{AreNumbered}
use Rattle.esr_run.specs.Asked.{Wanted, ReadScript, OneCommand}
use Rattle.esr_run.specs.Causes.{AreWanted, IsScriptFor}

abbrev pub Read : Type 0
Read = Result (List ScriptLine) ScriptRefusal

-- rising, and all below a number
record Rise (script : List ScriptLine) (number : ℕ) : Type 0 where
  numbered_so : AreNumbered script
  below : (line : ScriptLine) → Has script line → line.number < number

with_last : (script : List ScriptLine) (x : ScriptLine) → AreNumbered script → ((line : ScriptLine) → Has script line → line.number < x.number) → AreNumbered (script ++ x ∷ [])
with_last [] x h below = ((λ later m. absurd m), tt)
with_last (y ∷ script) x h below = (
  (λ later m. ⊎_elim (λ (was : Has script later). h.0 later was) (λ (e : x ≡ later). subst (λ (l : ScriptLine). y.number < l.number) e (below y (inl refl))) (Has-append script x later m)),
  with_last script x h.1 (λ line m. below line (inr m)),
)

up_to : (script : List ScriptLine) (number : ℕ) → Rise script number → Rise script (number + 1)
up_to script number r = record { numbered_so = r.numbered_so; below = λ line m. let b : line.number < number = r.below line m in omega (arith, b) }

one_more : (script : List ScriptLine) (number : ℕ) (item : Option Item) → Rise script number → Rise (script ++ option_to_list (numbered number item)) (number + 1)
one_more script number None r = subst (λ (l : List ScriptLine). Rise l (number + 1)) (sym (append-nil script)) (up_to script number r)
one_more script number (Some item) r =
    let x : ScriptLine = record { number = number; item = item } in
    record {
      numbered_so = with_last script x r.numbered_so r.below;
      below = λ line m. ⊎_elim
          (λ (was : Has script line). let b : line.number < number = r.below line was in omega (arith, b))
          (λ (e : x ≡ line). subst (λ (l : ScriptLine). l.number < number + 1) e (omega arith))
          (Has-append script x line m);
    }

no_ok : (why : ScriptRefusal) (out : List ScriptLine) → ◌≡◌ {A = Read} (Err why) (Ok out) → ⊥
no_ok why out e = cc

same_ok : (a b : List ScriptLine) → ◌≡◌ {A = Read} (Ok a) (Ok b) → a ≡ b
same_ok a b e = cc

abbrev Later : List ScriptLine → ℕ → List (List ℕ) → Option ScriptLine → Read
Later script number lines item = script_from (script ++ option_to_list item) (number + 1) lines

-- by what the first line asks for
by_line : (lines : List (List ℕ)) (script : List ScriptLine) (number : ℕ) (out : List ScriptLine) (read : Result (Option Item) Why) → ((item : Option Item) → Later script number lines (numbered number item) ≡ Ok out → AreNumbered out)
    → after_line number read (Later script number lines) ≡ Ok out → AreNumbered out
by_line lines script number out (Ok item) more e = more item e
by_line lines script number out (Err why) more e = absurd (no_ok (BadLine number why) out e)

rise_from : (lines : List (List ℕ)) (script : List ScriptLine) (number : ℕ) (out : List ScriptLine) → Rise script number → script_from script number lines ≡ Ok out → AreNumbered out
unfolding script_from
rise_from [] script number out r e = subst AreNumbered (same_ok script out e) r.numbered_so
rise_from (line ∷ lines) script number out r e =
    by_line lines script number out (line_of line) (λ item. rise_from lines (script ++ option_to_list (numbered number item)) (number + 1) out (one_more script number item r)) e

numbered_script : (bytes : Bytes) (lines : List ScriptLine) (b : Bool) → (let r : Read = if b then Err TooLong else script_from [] 1 (lines_of bytes) in r) ≡ Ok lines → AreNumbered lines
numbered_script bytes lines true e = absurd (no_ok TooLong lines e)
numbered_script bytes lines false e = rise_from (lines_of bytes) [] 1 lines (record { numbered_so = tt; below = λ line m. absurd m }) e

numbered_wanted : (wanted : Wanted) (script : Option Bytes) (lines : List ScriptLine) → AreWanted wanted script lines → AreNumbered lines
numbered_wanted (ReadScript size) script lines are = numbered_script are.bytes lines (nat_lt 4194304 (length are.bytes)) are.read
numbered_wanted (OneCommand size item) script lines are = subst AreNumbered (sym are) ((λ later m. absurd m), tt)
numbered_wanted wanted script lines are = absurd are

pub numbered_lines : (wanted : Wanted) (script : Option Bytes) (lines : List ScriptLine) → IsScriptFor wanted script lines → AreNumbered lines
numbered_lines wanted script lines is = numbered_wanted wanted script lines is.are
