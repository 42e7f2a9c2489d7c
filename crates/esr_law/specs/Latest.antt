-- `index.latest`, as nobody reads it.
use Rattle.std.specs.Prelude.{◌≡◌, ℕ, suc, Some}
use Rattle.std.specs.FinMap as fin
use Rattle.esr_model.specs.Names.{Latest}
use Rattle.esr_model.specs.Values.{Formats}
use Rattle.esr_core.specs.World.{World}
use Rattle.esr_core.specs.Allowed.{latest_text}

-- it is there, and holds the number of the safe root
pub record HasLatest (f : Formats) (w : World) : Type 0 where
  pub n : ℕ
  pub safe : w.safe ≡ suc n
  pub there : fin.get w.blobs (f.names.text Latest) ≡ Some (latest_text n)
