-- The bytes of a script, and its first bad line.
use Rattle.std.specs.Prelude.{◌≡◌, ℕ, Bool, true, false, nat_lt, ◌&&◌, if◌then◌else◌, List, [], ◌∷◌, take, Option, Some, None, Result, Ok, Err}
use Rattle.std.specs.Str.{bytes_eq}
use Rattle.esr_model.specs.Values.{Bytes}
use Rattle.esr_script.specs.declared.item.AskedIndex.{AskedIndex}
use Rattle.esr_script.specs.declared.item.Item.{Item}
use Rattle.esr_script.specs.declared.item.Item.TheVariants as items
use Rattle.esr_script.specs.declared.item.ScriptLine.{ScriptLine}
use Rattle.esr_script.specs.declared.refusal.ScriptRefusal.{ScriptRefusal}
use Rattle.esr_script.specs.declared.refusal.ScriptRefusal.TheVariants.{Memory, TooLong, BadLine}

-- these are the bytes, where they are told
abbrev pub AreBytes : Option Bytes → Bytes → Type 0
AreBytes None bytes = Unit {0}
AreBytes (Some told) bytes = bytes ≡ told

-- so many bytes of a script are kept: one more than it may have
abbrev pub kept_of : Bytes → Bytes
kept_of bytes = take 4194305 bytes

-- ---- the lines that can be carried out

-- 1 to 1,024
unfoldable pub has_shards : AskedIndex → Bool
has_shards a = nat_lt 0 a.shards && nat_lt a.shards 1025

abbrev pub have_shards : List AskedIndex → Bool
have_shards [] = true
have_shards (a ∷ asked) = if has_shards a then have_shards asked else false

unfoldable pub is_named : Bytes → AskedIndex → Bool
is_named name a = bytes_eq a.name name

-- one of them has the name
abbrev pub has_name : Bytes → List AskedIndex → Bool
has_name name [] = false
has_name name (a ∷ asked) = if is_named name a then true else has_name name asked

abbrev pub have_own_names : List AskedIndex → Bool
have_own_names [] = true
have_own_names (a ∷ asked) = if has_name a.name asked then false else have_own_names asked

-- each index has 1 to 1,024 shards and a name of its own, which each line that was read has
unfoldable pub is_askable : List AskedIndex → Bool
is_askable asked = have_shards asked && have_own_names asked

unfoldable pub is_same_name : Bytes → Bytes → Bool
is_same_name name other = bytes_eq other name

-- one of them is this name
abbrev pub names_one : Bytes → List Bytes → Bool
names_one name [] = false
names_one name (other ∷ names) = if is_same_name name other then true else names_one name names

-- no name stands twice, nor does one in a line that was read
abbrev pub have_names_once : List Bytes → Bool
have_names_once [] = true
have_names_once (name ∷ names) = if names_one name names then false else have_names_once names

-- a snapshot's indices are askable, a clone names each of its once; each other line can be carried out
abbrev pub is_carried : Item → Bool
is_carried (items.Snapshot name indices) = is_askable indices
is_carried (items.Clone source name indices) = have_names_once indices
is_carried item = true

-- the number of the first line that can't be carried out
abbrev pub first_bad : List ScriptLine → Option ℕ
first_bad [] = None
first_bad (line ∷ lines) = if is_carried line.item then first_bad lines else Some line.number

-- the number of the first bad line of what was read
abbrev pub bad_line : Result (List ScriptLine) ScriptRefusal → Option ℕ
bad_line (Ok script) = first_bad script
bad_line (Err Memory) = None
bad_line (Err TooLong) = None
bad_line (Err (BadLine number why)) = Some number
