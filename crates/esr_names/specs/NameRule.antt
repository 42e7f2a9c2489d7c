-- What the name of a snapshot or an index may be: the first rule that a text breaks, and where.
use Rattle.std.specs.Prelude.{◌≡◌, ℕ, Bool, ◌+◌, ◌==◌, nat_lt, ◌&&◌, ◌||◌, List, [], ◌∷◌, codes, length, slice_index, if◌then◌else◌, Option, Some, None}
use Rattle.std.specs.Option.{option_or}
use Rattle.std.specs.List.{list_any}
use Rattle.std.specs.Str.{bytes_eq}
use Rattle.esr_names.specs.declared.name.Rule.{Rule}
use Rattle.esr_names.specs.declared.name.Rule.TheVariants.{Empty, TooLong, First, Outside, Upper, Forbidden, Dots}
use Rattle.esr_names.specs.declared.name.BadName.{BadName}
use Rattle.esr_names.specs.declared.name.NameRefusal.{NameRefusal}
use Rattle.esr_names.specs.declared.name.NameRefusal.TheVariants.{Memory, Bad}

-- the bytes of which a name has none
abbrev pub is_forbidden : ℕ → Bool
is_forbidden c = list_any (λ x. x == c) (codes ",#\\/*?\"<>|")

-- the rule that a byte breaks
abbrev pub byte_rule : ℕ → Option Rule
byte_rule c =
    if nat_lt c 33 || nat_lt 126 c then Some Outside
    else (if nat_lt 64 c && nat_lt c 91 then Some Upper
    else (if is_forbidden c then Some Forbidden else None))

-- the rule that the byte at place i breaks, or else what breaks one later
abbrev pub fault_at : ℕ → Option Rule → Option BadName → Option BadName
fault_at i None later = later
fault_at i (Some rule) later = Some (record { place = i; rule = rule })

-- the first byte that breaks a rule, of those from place i on
abbrev pub byte_fault : ℕ → List ℕ → Option BadName
byte_fault i [] = None
byte_fault i (c ∷ cs) = fault_at i (byte_rule c) (byte_fault (i + 1) cs)

-- the first broken rule of a name that may not begin with the bytes firsts
unfoldable pub name_fault : List ℕ → List ℕ → Option BadName
name_fault firsts s =
    if length s == 0 then Some (record { place = 0; rule = Empty })
    else (if nat_lt 255 (length s) then Some (record { place = 255; rule = TooLong })
    else (if list_any (λ x. x == slice_index s 0) firsts then Some (record { place = 0; rule = First })
    else byte_fault 0 s))

-- the first broken rule of a snapshot's name
abbrev pub snap_name_fault : List ℕ → Option BadName
snap_name_fault s = name_fault (codes "_") s

-- the first broken rule of an index's name, which is no relative folder either
abbrev pub index_name_fault : List ℕ → Option BadName
index_name_fault s =
    option_or (name_fault (codes "_-+") s)
    (if bytes_eq s (codes ".") || bytes_eq s (codes "..") then Some (record { place = 0; rule = Dots }) else None)

-- the name was refused for that fault, or there is no fault and memory was wanting
abbrev pub Explains : NameRefusal → Option BadName → Type 0
Explains Memory fault = fault ≡ None
Explains (Bad bad) fault = fault ≡ Some bad
