-- What the name of a file may be.
use Rattle.std.specs.Prelude.{◌≡◌, ℕ, Bool, true, false, nat_le, nat_lt, ◌==◌, ◌&&◌, ◌||◌, not, if◌then◌else◌, List, length, codes}
use Rattle.std.specs.List.{list_all}
use Rattle.std.specs.Str.{bytes_eq}
use Rattle.esr_shardidx.specs.declared.physical.PhysicalRefusal.{PhysicalRefusal}
use Rattle.esr_shardidx.specs.declared.physical.PhysicalRefusal.TheVariants.{Memory, BadName}

-- a printed character, and no slash
abbrev pub is_name_byte : ℕ → Bool
is_name_byte c = nat_le 33 c && (nat_le c 126 && not (c == 47))

-- the folder itself, and the one above it
abbrev pub is_relative : List ℕ → Bool
is_relative s = bytes_eq s (codes ".") || bytes_eq s (codes "..")

-- 1 to 255 such bytes, and neither `.` nor `..`
abbrev pub is_file_name : List ℕ → Bool
is_file_name s =
    if length s == 0 then false
    else (if nat_lt 255 (length s) then false else (if is_relative s then false else list_all is_name_byte s))

-- why there is no name of a text: memory is asked for a good one alone
abbrev pub IsRefused : PhysicalRefusal → List ℕ → Type 0
IsRefused Memory s = is_file_name s ≡ true
IsRefused BadName s = is_file_name s ≡ false
