-- What is safe is one value, and pairs of two lists with one more.
use Rattle.std.proofs.Common.{List, sym, ◌∙◌}
use Rattle.esr_model.specs.Names.{BlobName}
use Rattle.esr_model.specs.Values.{Formats}
use Rattle.std.proofs.lemmas.Option.{same_Some}
use Rattle.esr_model.specs.Image.{Blobs, IsOne}
use Rattle.esr_core.specs.World.{Safely}

pub safely_one : (f : Formats) (blobs : Blobs) (doomed : List BlobName) → IsOne (Safely f blobs doomed)
safely_one f blobs doomed name a b p q = same_Some a b (sym p.0.0 ∙ q.0.0)
