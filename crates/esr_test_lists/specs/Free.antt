-- Whether a root may list a snapshot of the index `logs` more.
use Rattle.std.specs.Prelude.{ℕ, ◌+◌, ◌^◌, ◌==◌, ◌||◌, not, Bool, codes, if◌then◌else◌}
use Rattle.std.specs.Str.{bytes_eq}
use Rattle.esr_model.specs.Values.{Bytes}
use Rattle.esr_root.specs.declared.snaps.RootSnap.{RootSnap}
use Rattle.esr_root.specs.declared.indices.RootIndex.{RootIndex}

-- a snapshot has the name or the uuid
abbrev pub takes_one : Bytes → ℕ → RootSnap → Bool
takes_one name uuid s = bytes_eq s.name name || (s.uuid.number == uuid)

-- an index has either the name or the id of `logs`
abbrev pub is_other : RootIndex → Bool
is_other x = if bytes_eq x.name (codes "logs") then not (x.id.number == 2 ^ 64 + 1) else (x.id.number == 2 ^ 64 + 1)
