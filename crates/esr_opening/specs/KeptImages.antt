-- No image that a run, or a crash in it, leaves is damaged.
use Rattle.std.specs.Prelude.{ℕ, Bool, List, IfErr, Option}
use Rattle.esr_model.specs.Values.{Bytes}
use Rattle.esr_model.specs.Shelf.{Shelved}
use Rattle.esr_model.specs.Kept.{Kept}
use Rattle.esr_depot.specs.Image.{Image as Held}
use Rattle.esr_formats.specs.Formats.{formats}
use Rattle.esr_opening.specs.Found.{found}
use Rattle.esr_opening.specs.Opening.{image_of}
use Rattle.esr_opening.specs.Hindrances.{IsNoDamage}

-- In an image that is kept for a shelf opening finds the record and the safe root, unless the last term has come.
abbrev pub KeptImagesOpen : Type 0
KeptImagesOpen =
    (known : Bytes → Bytes → ℕ → Bool) (told : Bytes → Bytes → ℕ → Option (List (Bytes × Bytes))) (i : Held) (shelf : List Shelved)
    → Kept (formats known told) (image_of i) shelf → IfErr (found i) IsNoDamage
