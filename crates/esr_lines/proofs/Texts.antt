-- Texts that are appended one after another.
use Rattle.std.proofs.Common.{◌≡◌, ℕ, List, [], ◌∷◌, ◌++◌, Result, Ok, Err, OnOk, append_assoc, append-nil, ap, ◌∙◌}
use Rattle.esr_script.specs.declared.item.ScriptLine.{ScriptLine}
use Rattle.esr_lines.specs.Lines.{lines_text}

-- one text, and then another
pub two_texts : {X E : Type 0} (result : Result X E) (old mid new a b : List ℕ) → mid ≡ old ++ a → OnOk result (new ≡ mid ++ b) → OnOk result (new ≡ old ++ (a ++ b))
two_texts (Ok x) old mid new a b first second = second ∙ ap (λ l. l ++ b) first ∙ append_assoc old a b
two_texts (Err e) old mid new a b first second = tt

-- no line without a reply
pub no_lines : (old : List ℕ) (lines : List ScriptLine) → old ++ lines_text lines [] ≡ old
no_lines old [] = append-nil old
no_lines old (line ∷ lines) = append-nil old
