-- Which lists of snapshots a root holds.
use Rattle.std.specs.Prelude.{◌≡◌, ◌<◌, ◌^◌, ◌||◌, Bool, List, None}
use Rattle.std.specs.List.{list_any, AllByRecursion, IsDistinct}
use Rattle.std.specs.Str.{bytes_eq}
use Rattle.esr_root.specs.Ids.{same_id}
use Rattle.esr_root.specs.declared.snaps.RootSnap.{RootSnap}
use Rattle.esr_names.specs.NameRule.{snap_name_fault}
use Rattle.esr_names.specs.declared.ids.Id.{Id}

-- its name keeps the rules, and its numbers fit
pub record IsSnap (s : RootSnap) : Type 0 where
  pub name : snap_name_fault s.name ≡ None
  pub uuid : s.uuid.number < 2 ^ 128
  pub state : s.state < 256

-- whether two snapshots have one name or one uuid
abbrev pub clashes : RootSnap → RootSnap → Bool
clashes old new = bytes_eq old.name new.name || same_id old.uuid new.uuid

-- no two snapshots clash
pub record AreSnaps (ss : List RootSnap) : Type 0 where
  pub each : AllByRecursion IsSnap ss
  pub distinct : IsDistinct clashes ss

-- whether a snapshot has this uuid
abbrev pub lists : List RootSnap → Id → Bool
lists ss u = list_any (λ s. same_id s.uuid u) ss
