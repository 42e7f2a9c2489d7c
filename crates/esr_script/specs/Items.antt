-- What the words of a line ask for, or the first thing that is wrong with them.
use Rattle.std.specs.Prelude.{ℕ, ◌==◌, ◌||◌, nat_lt, Bool, false, is_some, List, [], ◌∷◌, ◌++◌, length, codes, fold, if◌then◌else◌, Option, Some, None, Result, Ok, Err}
use Rattle.std.specs.List.{list_any, before_first, after_first}
use Rattle.std.specs.Str.{bytes_eq}
use Rattle.std.specs.Option.{ok_or}
use Rattle.esr_names.specs.NameRule.{snap_name_fault, index_name_fault}
use Rattle.esr_script.specs.Numbers.{number_in}
use Rattle.esr_script.specs.declared.item.AskedIndex.{AskedIndex}
use Rattle.esr_script.specs.declared.item.Item.{Item}
use Rattle.esr_script.specs.declared.item.Item.TheVariants as item
use Rattle.esr_script.specs.declared.refusal.Why.{Why}
use Rattle.esr_script.specs.declared.refusal.Why.TheVariants.{Verb, Count, Name, Number, Place, Repeat}

-- what f makes of a value, or the first thing that is wrong
infixl 10 ◌>>=◌
abbrev pub ◌>>=◌ : {A B : Type 0} → Result A Why → (A → Result B Why) → Result B Why
(Ok x) >>= f = f x
(Err why) >>= f = Err why

-- the values that are read from texts, after some values; `why` where one can't be read
unfoldable pub read_from : {A : Type 0} → (List ℕ → Option A) → Why → List A → List (List ℕ) → Result (List A) Why
read_from read why values [] = Ok values
read_from read why values (text ∷ texts) = ok_or (read text) why >>= λ value. read_from read why (values ++ value ∷ []) texts

-- the values that are read from texts
abbrev pub read_all : {A : Type 0} → (List ℕ → Option A) → Why → List (List ℕ) → Result (List A) Why
read_all read why texts = read_from read why [] texts

-- a text that is the name of a snapshot
abbrev pub snap_name : List ℕ → Option (List ℕ)
snap_name text = if is_some (snap_name_fault text) then None else Some text

-- a text that is the name of an index
abbrev pub index_name : List ℕ → Option (List ℕ)
index_name text = if is_some (index_name_fault text) then None else Some text

-- the bytes of which a place has none
abbrev pub is_outside : ℕ → Bool
is_outside c = nat_lt c 33 || nat_lt 126 c

-- a place: 1 to 512 bytes of 33 to 126
abbrev pub place : List ℕ → Option (List ℕ)
place text =
    if length text == 0 || nat_lt 512 (length text) || list_any is_outside text then None else Some text

abbrev pub is_slash : ℕ → Bool
is_slash c = c == 47

-- a part INDEX/SHARDS/PLACE, cut at its first two slashes; after a slash that is missing comes nothing
abbrev pub part_index : List ℕ → List ℕ
part_index part = before_first is_slash part

abbrev pub part_shards : List ℕ → List ℕ
part_shards part = before_first is_slash (after_first is_slash part)

abbrev pub part_place : List ℕ → List ℕ
part_place part = after_first is_slash (after_first is_slash part)

-- the names with one more, unless it is among them
abbrev pub with_name : List (List ℕ) → List ℕ → List (List ℕ)
with_name names name = if list_any (λ n. bytes_eq n name) names then names else names ++ name ∷ []

-- names in order, each where it stands first
abbrev pub each_once : List (List ℕ) → List (List ℕ)
each_once names = fold with_name [] names

-- some name stands twice
abbrev pub has_repeat : List (List ℕ) → Bool
has_repeat [] = false
has_repeat (name ∷ names) = list_any (λ n. bytes_eq n name) names || has_repeat names

-- the indices with these names, counts of shards and places, in order
abbrev pub asked_indices : List (List ℕ) → List ℕ → List (List ℕ) → List AskedIndex
asked_indices (name ∷ names) (shards ∷ counts) (place ∷ places) =
    record { name = name; shards = shards; place = place } ∷ asked_indices names counts places
asked_indices _ _ _ = []

-- `snapshot NAME PART ..`: all names are looked at first, then all counts of shards, then all places
abbrev pub snapshot_of : List (List ℕ) → Result Item Why
snapshot_of [] = Err Count
snapshot_of (name ∷ parts) = do
  name ← ok_or (snap_name name) Name
  names ← read_all (λ part. index_name (part_index part)) Name parts
  counts ← read_all (λ part. number_in 1 1024 (part_shards part)) Number parts
  places ← read_all (λ part. place (part_place part)) Place parts
  if has_repeat names then Err Repeat else Ok (item.Snapshot name (asked_indices names counts places))

-- `clone SOURCE NAME INDEX ..`
abbrev pub clone_of : List (List ℕ) → Result Item Why
clone_of (source ∷ name ∷ indices) = do
  source ← ok_or (snap_name source) Name
  name ← ok_or (snap_name name) Name
  names ← read_all index_name Name indices
  Ok (item.Clone source name (each_once names))
clone_of _ = Err Count

-- `delete NAME ..`
abbrev pub delete_of : List (List ℕ) → Result Item Why
delete_of [] = Err Count
delete_of (name ∷ names) = read_all snap_name Name (name ∷ names) >>= λ names. Ok (item.Delete (each_once names))

-- `restore NAME PLACE`
abbrev pub restore_of : List (List ℕ) → Result Item Why
restore_of (name ∷ to ∷ []) = do
  name ← ok_or (snap_name name) Name
  to ← ok_or (place to) Place
  Ok (item.Restore name to)
restore_of _ = Err Count

-- a verb without further words
abbrev pub alone : Item → List (List ℕ) → Result Item Why
alone what [] = Ok what
alone what (word ∷ words) = Err Count

-- what a verb asks for with the words after it
unfoldable pub verb_of : List ℕ → List (List ℕ) → Result Item Why
verb_of verb words =
    if bytes_eq verb (codes "snapshot") then snapshot_of words
    else (if bytes_eq verb (codes "clone") then clone_of words
    else (if bytes_eq verb (codes "delete") then delete_of words
    else (if bytes_eq verb (codes "restore") then restore_of words
    else (if bytes_eq verb (codes "cleanup") then alone item.Cleanup words
    else (if bytes_eq verb (codes "failover") then alone item.Failover words
    else (if bytes_eq verb (codes "wait") then alone item.Wait words
    else (if bytes_eq verb (codes "list") then alone item.List words
    else (if bytes_eq verb (codes "check") then alone item.Check words
    else (if bytes_eq verb (codes "verify") then alone item.Verify words
    else Err Verb)))))))))

-- what words ask for
abbrev pub item_of : List (List ℕ) → Result Item Why
item_of [] = Err Verb
item_of (verb ∷ words) = verb_of verb words
