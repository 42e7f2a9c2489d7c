-- What holds of each world that a history over quiet objects passes.
use Rattle.std.specs.Prelude.{◌≡◌, List, ◌++◌}
use Rattle.esr_model.specs.Shelf.{Shelved}
use Rattle.esr_core.specs.Entry.{Moment}
use Rattle.esr_core.specs.Ids.{Law}
use Rattle.esr_desk.specs.Start.{Start, formats_of, world_of}
use Rattle.esr_quiet.specs.Free.{Free}

-- it is lawful, and what is still to be written in it is free
pub record Prefixes (s : Start) (log : List Moment) : Type 0 where
  pub lawful : (front back : List Moment) → log ≡ front ++ back → (shelf : List Shelved) × Law (formats_of s) (world_of s front) shelf
  pub free : (front back : List Moment) → log ≡ front ++ back → Free (formats_of s) (world_of s front)
