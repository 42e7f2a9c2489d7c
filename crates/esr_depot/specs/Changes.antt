-- What the calls that change a container make of its image.
use Rattle.std.specs.Prelude.{◌≡◌, ◌⊎◌, ℕ, List, Option, All, Contains}
use Rattle.esr_depot.specs.declared.depot.Commit.{Commit}
use Rattle.esr_depot.specs.declared.depot.Commit.TheVariants.{Done, Exists}
use Rattle.esr_depot.specs.Image.{put_known, swap_known, drop_known, IsFree, IsTaken}
use Rattle.esr_depot.specs.Calls.{Change}

-- the blob was added under a free name, or its name was taken and all is as it was
abbrev pub Committed : List ℕ → Option (List ℕ) → Commit → Change
Committed name bytes Done old new = (new ≡ put_known old name bytes) × IsFree old name
Committed name bytes Exists old new = (new ≡ old) × IsTaken old name

-- all is as it was, or the whole blob was added under a free name
abbrev pub CommitMay : List ℕ → Option (List ℕ) → Change
CommitMay name bytes old new = (new ≡ old) ⊎ ((new ≡ put_known old name bytes) × IsFree old name)

-- the name has the blob
abbrev pub Replaced : List ℕ → Option (List ℕ) → Change
Replaced name bytes old new = new ≡ put_known old name bytes

-- all is as it was, or the name has the whole blob
abbrev pub ReplaceMay : List ℕ → Option (List ℕ) → Change
ReplaceMay name bytes old new = (new ≡ old) ⊎ (new ≡ put_known old name bytes)

-- the record has the text
abbrev pub Swapped : List ℕ → Change
Swapped text old new = new ≡ swap_known old text

-- the record has its old text, or the whole new one
abbrev pub SwapMay : List ℕ → Change
SwapMay text old new = (new ≡ old) ⊎ (new ≡ swap_known old text)

-- the names are gone
abbrev pub Removed : List (List ℕ) → Change
Removed names old new = new ≡ drop_known old names

-- some of the names are gone, and no other
abbrev pub RemoveMay : List (List ℕ) → Change
RemoveMay names old new = (gone : List (List ℕ)) × All (Contains names) gone × (new ≡ drop_known old gone)
