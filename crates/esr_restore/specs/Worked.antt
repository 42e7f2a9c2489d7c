-- What the ticket of a restore has done while its unit was worked.
use Rattle.std.specs.Prelude.{◌≡◌}
use Rattle.esr_model.specs.Names.{BlobName}
use Rattle.esr_model.specs.Values.{Bytes, Has}
use Rattle.esr_core.specs.World.{Reader}

-- it has read more, and is the same otherwise
pub record Worked (old new : Reader) : Type 0 where
  pub same : new ≡ record old { read = new.read }
  pub more : (blob : BlobName × Bytes) → Has old.read blob → Has new.read blob
