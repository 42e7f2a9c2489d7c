-- A moment of a history that is told tells its image.
use Rattle.std.proofs.Common.{◌≡◌, List, [], ◌∷◌, Some, sym, ap, ◌∙◌, inl, inr}
use Rattle.esr_model.specs.Values.{Has}
use Rattle.esr_model.specs.Image.{Image}
use Rattle.esr_core.specs.Entry.{Moment}
use Rattle.esr_core.specs.History.{AreTold}

-- a moment of it tells its image
pub told_at : (log : List Moment) (m : Moment) → AreTold log → Has log m → (image : Image) × (m.image ≡ Some image)
told_at [] m told h = absurd h
told_at (n ∷ log) m told (inl e) = (told.0.0, ap (λ (x : Moment). x.image) (sym e) ∙ told.0.1)
told_at (n ∷ log) m told (inr h) = told_at log m told.1 h
