-- What a script asks for, or its first bad line.
use Rattle.std.specs.Prelude.{◌≡◌, ℕ, ◌+◌, ◌==◌, nat_lt, List, [], ◌∷◌, ◌++◌, length, slice_index, if◌then◌else◌, Option, Some, None, Result, Ok, Err}
use Rattle.std.specs.List.{list_any}
use Rattle.std.specs.Option.{option_to_list}
use Rattle.esr_script.specs.Lines.{lines_of, words_of, is_bad_byte}
use Rattle.esr_script.specs.Items.{item_of, ◌>>=◌}
use Rattle.esr_script.specs.declared.item.Item.{Item}
use Rattle.esr_script.specs.declared.item.ScriptLine.{ScriptLine}
use Rattle.esr_script.specs.declared.refusal.Why.{Why}
use Rattle.esr_script.specs.declared.refusal.Why.TheVariants.{Byte}
use Rattle.esr_script.specs.declared.refusal.Fault.{Fault}
use Rattle.esr_script.specs.declared.refusal.Fault.TheVariants as fault
use Rattle.esr_script.specs.declared.refusal.ScriptRefusal.{ScriptRefusal}
use Rattle.esr_script.specs.declared.refusal.ScriptRefusal.TheVariants.{Memory, TooLong, BadLine}

-- a line without words, or whose first word begins with `#` (35), asks for nothing
abbrev pub asked_by : List (List ℕ) → Result (Option Item) Why
asked_by [] = Ok None
asked_by (word ∷ words) =
    if slice_index word 0 == 35 then Ok None else item_of (word ∷ words) >>= λ item. Ok (Some item)

-- what a line asks for; its bytes are looked at first
abbrev pub line_of : List ℕ → Result (Option Item) Why
line_of line = if list_any is_bad_byte line then Err Byte else asked_by (words_of line)

-- the item of a line with the line's number
abbrev pub numbered : ℕ → Option Item → Option ScriptLine
numbered number None = None
numbered number (Some item) = Some (record { number = number; item = item })

-- the script after some items, with lines from a number on; the first bad line decides
abbrev pub after_line : ℕ → Result (Option Item) Why → (Option ScriptLine → Result (List ScriptLine) ScriptRefusal) → Result (List ScriptLine) ScriptRefusal
after_line number (Ok item) rest = rest (numbered number item)
after_line number (Err why) rest = Err (BadLine number why)

unfoldable pub script_from : List ScriptLine → ℕ → List (List ℕ) → Result (List ScriptLine) ScriptRefusal
script_from script number [] = Ok script
script_from script number (line ∷ lines) =
    after_line number (line_of line) (λ item. script_from (script ++ option_to_list item) (number + 1) lines)

-- what a script asks for
abbrev pub script_of : List ℕ → Result (List ScriptLine) ScriptRefusal
script_of bytes = if nat_lt 4194304 (length bytes) then Err TooLong else script_from [] 1 (lines_of bytes)

-- a result is what reading words gives, unless memory was wanting
abbrev pub Gives : {A : Type 0} → Result A Fault → Result A Why → Type 0
Gives (Ok x) read = read ≡ Ok x
Gives (Err fault.Memory) read = Unit {0}
Gives (Err (fault.Bad why)) read = read ≡ Err why

-- a result is what reading a script gives, unless memory was wanting
abbrev pub GivesScript : {A : Type 0} → Result A ScriptRefusal → Result A ScriptRefusal → Type 0
GivesScript (Ok x) read = read ≡ Ok x
GivesScript (Err Memory) read = Unit {0}
GivesScript (Err TooLong) read = read ≡ Err TooLong
GivesScript (Err (BadLine number why)) read = read ≡ Err (BadLine number why)
