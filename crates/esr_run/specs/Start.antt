-- The history of a run, from what was told at its start to what the container has at its end.
use Rattle.std.specs.Prelude.{◌≡◌, ℕ, Bool, true, false, ◌&&◌, ◌||◌, not, nat_lt, ◌^◌, List, Option, Some, None, is_some, unwrap_or, if◌then◌else◌}
use Rattle.esr_model.specs.Values.{Bytes, Formats}
use Rattle.esr_core.specs.World.{World}
use Rattle.esr_core.specs.World as core
use Rattle.esr_core.specs.Entry.{Entry}
use Rattle.esr_depot.specs.Image.{Image as Held}
use Rattle.esr_depot.specs.Look.{Look, now}
use Rattle.esr_source.specs.Told.{SourcesTold, TargetsTold}
use Rattle.esr_formats.specs.Formats.{formats}
use Rattle.esr_desk.specs.Start.{Start, formats_of, world_of, Legal}
use Rattle.esr_repo.specs.Log.{image_of, ticks, log_of}

-- What sources tell: of the files of a place, an index name and a number, whether that place exists, and that no shard whose
-- place exists ever fails; and what targets tell: that none ever fails, and that they tell their files.
pub record Telling : Type 0 where
  pub files : Bytes → Bytes → ℕ → Option (List (Bytes × Bytes))
  pub is_there : Bytes → Bytes → ℕ → Option Bool
  pub is_quiet : Bool
  pub targets_quiet : Bool
  pub targets_told : Bool

abbrev pub telling : SourcesTold → TargetsTold → Telling
telling s t = record { files = s.files; is_there = s.is_there; is_quiet = s.is_quiet; targets_quiet = t.is_quiet; targets_told = t.tells }

-- a place that isn't there has no files
abbrev pub is_absent : Option Bool → Bool
is_absent (Some false) = true
is_absent there = false

-- whether they tell the files, or that their place isn't there; and which they are: none of a place that isn't there
abbrev pub known_by : Telling → Bytes → Bytes → ℕ → Bool
known_by telling = λ place name number. is_some (telling.files place name number) || is_absent (telling.is_there place name number)

abbrev pub told_by : Telling → Bytes → Bytes → ℕ → Option (List (Bytes × Bytes))
told_by telling = λ place name number. if is_absent (telling.is_there place name number) then None else telling.files place name number

-- the texts, with these files
abbrev pub formats_by : Telling → Formats
formats_by telling = formats (known_by telling) (told_by telling)

-- no shard of that place fails
abbrev pub steady_by : Telling → Bytes → Bytes → ℕ → Bool
steady_by telling = λ place name number. telling.is_quiet && unwrap_or (telling.is_there place name number) false

-- a container that is sure to serve so many calls serves all that a run asks of it
abbrev pub is_calm_by : ℕ → Bool
is_calm_by sure = not (nat_lt sure (2 ^ 41))

-- What is told at the start of a run: by the sources, by the words, and by the container as it is given, which is quiet or not;
-- with the world that opening makes of it.
abbrev pub start_of : Telling → ℕ → Bool → Look → World → Start
start_of telling size quiet l world =
    record {
      known = known_by telling;
      told = told_by telling;
      part_size = size;
      tells = is_some (now l);
      quiet = quiet;
      steady = steady_by telling;
      targets_tell = telling.targets_told;
      sure_targets = telling.targets_quiet;
      alone = true;
      earlier_turns = 0;
      world = world;
    }

-- The history is legal from the start on, with the images of the container's moments, which are counted from a clock on; and
-- the image that the container has at the end is that of the world to which it leads, and is told where it was told at the start.
pub record LegalRun (s : Start) (clock : ℕ) (l : Look) (entries : List Entry) : Type 0 where
  pub clock_is : l.clock ≡ ticks clock entries
  pub legal : Legal s (log_of l clock entries)
  pub image : (i : Held) → now l ≡ Some i → image_of i ≡ core.image_of (formats_of s) (world_of s (log_of l clock entries))
  pub tells : s.tells ≡ true → is_some (now l) ≡ true
