-- The entry of a stored file: its value, its text, and how it is read.
use Rattle.std.specs.Prelude.{◌≡◌, ◌<◌, ◌≤◌, ◌^◌, ◌-◌, ◌&&◌, nat_lt, nat_le, ℕ, ℤ, pos, unsigned_abs, Bool, true, false, not, if◌then◌else◌, codes, List, ◌++◌, length, take, drop, slice_get, Option, Some, None, Result, Ok, Err}
use Rattle.std.specs.Option.{ok_or}
use Rattle.std.specs.Str.{bytes_eq}
use Rattle.std.specs.Ordering.{nat_cmp, is_lt}
use Rattle.std.specs.Cmp.Lexicographic.{slice_cmp}
use Rattle.serde_json.specs.Data.{Data, number, unsigned, string, object, member, no_members}
use Rattle.esr_names.specs.IdText.{id_text, read_id}
use Rattle.esr_names.specs.declared.ids.Id.{Id}
use Rattle.esr_hash.specs.Digits.{digits_of, IsPrint, read_print}
use Rattle.esr_hash.specs.declared.print.Print.{Print}
use Rattle.esr_json.specs.declared.key.Key.TheVariants as keys
use Rattle.esr_json.specs.declared.refusal.Reason.{Reason}
use Rattle.esr_json.specs.declared.refusal.Reason.TheVariants.{OutOfRange, BadName, BadId}
use Rattle.esr_json.specs.Steps.{◌>>=◌}
use Rattle.esr_json.specs.Access.{text_at, number_at}
use Rattle.esr_shardidx.specs.FileNames.{is_file_name}
use Rattle.esr_shardidx.specs.declared.entry.FileEntry.{FileEntry}

-- the name of a file with this id
abbrev pub file_text : Id → List ℕ
file_text u = codes "__" ++ id_text u.number

-- the id of the file that has this name
unfoldable pub read_file : List ℕ → Option Id
read_file s =
    if nat_lt (length s) 2 then None
    else (if bytes_eq (take 2 s) (codes "__") then read_id (drop 2 s) else None)

-- the last of the entries
abbrev pub last_of : List FileEntry → Option FileEntry
last_of before = slice_get before (length before - 1)

-- the place of the last of the entries
abbrev pub last_place : List FileEntry → ℤ
last_place before = pos (length before - 1)

-- an id below that of the last entry
abbrev pub id_falls : Option FileEntry → Id → Bool
id_falls None u = false
id_falls (Some e) u = nat_lt u.number e.name.number

-- the name is below the other one, in byte order
abbrev pub is_below : List ℕ → List ℕ → Bool
is_below a b = is_lt (slice_cmp nat_cmp a b)

-- a physical name that is not above that of the last entry
abbrev pub name_stays : Option FileEntry → List ℕ → Bool
name_stays None s = false
name_stays (Some e) s = not (is_below e.physical s)

-- ---- reading

-- an id that is not below that of the last entry
unfoldable pub file_after : List FileEntry → Data → Result Id Reason
file_after before d = do
  text ← text_at keys.Name d
  u ← ok_or (read_file text) BadId
  if id_falls (last_of before) u then Err (OutOfRange keys.Name (last_place before)) else Ok u

-- a physical name that is above that of the last entry
unfoldable pub physical_after : List FileEntry → Data → Result (List ℕ) Reason
physical_after before d = text_at keys.PhysicalName d >>= λ text.
    if is_file_name text then (if name_stays (last_of before) text then Err (OutOfRange keys.PhysicalName (last_place before)) else Ok text)
    else Err BadName

unfoldable pub print_at : ℕ → Data → Result Print Reason
print_at len d = text_at keys.Sha256 d >>= λ text. ok_or (read_print len text) BadId

-- an entry whose id isn't below that of the last of `ids`, and whose physical name is above that of the last of
-- `names`
unfoldable pub entry_of : List FileEntry → List FileEntry → Data → Result FileEntry Reason
entry_of ids names d = do
  len ← number_at keys.Length (pos 0) (pos (2 ^ 60 - 1)) d
  name ← file_after ids d
  size ← number_at keys.PartSize (pos 1) (pos (2 ^ 30)) d
  physical ← physical_after names d
  print ← print_at (unsigned_abs len) d
  Ok (record { name = name; physical = physical; print = print; part_size = unsigned_abs size })

-- ---- writing

unfoldable pub entry_data : FileEntry → Data
entry_data e =
    object (member (codes "length") (number (unsigned e.print.len))
    (member (codes "name") (string (file_text e.name))
    (member (codes "part_size") (number (unsigned e.part_size))
    (member (codes "physical_name") (string e.physical)
    (member (codes "sha256") (string (digits_of e.print.sha256)) no_members)))))

-- ---- the entries that there are

-- what the type of an entry says
pub record IsTyped (e : FileEntry) : Type 0 where
  pub name : e.name.number < 2 ^ 128
  pub physical : is_file_name e.physical ≡ true
  pub print : IsPrint e.print

-- an entry that has a text
pub record IsEntry (e : FileEntry) : Type 0 where
  pub typed : IsTyped e
  pub short : e.print.len < 2 ^ 60
  pub least : 1 ≤ e.part_size
  pub most : e.part_size ≤ 2 ^ 30

-- its numbers are in their ranges
abbrev pub is_sized : FileEntry → Bool
is_sized e = nat_lt e.print.len (2 ^ 60) && (nat_le 1 e.part_size && nat_le e.part_size (2 ^ 30))
