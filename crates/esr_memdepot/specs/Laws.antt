-- The laws of a container, of the dates of what one in memory has had.
use Rattle.std.specs.Prelude.{◌≡◌, ℕ, List, Some}
use Rattle.std.proofs.Common.{inl, inr, ap, arith}
use Rattle.esr_depot.specs.Image.{Image}
use Rattle.esr_memdepot.specs.declared.blob.KeptBlob.{KeptBlob}
use Rattle.esr_memdepot.specs.declared.text.KeptText.{KeptText}
use Rattle.esr_memdepot.specs.Past.{image_at, LeftSince}

-- the image of now counts at each moment
pub counts_now : (clock : ℕ) (ks : List KeptBlob) (xs : List KeptText) (t : ℕ) (i : Image) → Some (image_at clock ks xs) ≡ Some i → LeftSince clock ks xs t i
counts_now clock ks xs t i is = inl cc

-- since the clock's moment there is no other
pub only_now : (clock : ℕ) (ks : List KeptBlob) (xs : List KeptText) (i : Image) → LeftSince clock ks xs clock i → Some (image_at clock ks xs) ≡ Some i
only_now clock ks xs i (inl here) = ap Some here
only_now clock ks xs i (inr past) = absurd (omega (arith, past.1, past.2))
