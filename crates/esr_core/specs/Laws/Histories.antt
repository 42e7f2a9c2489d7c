-- What a legal history is of two parts.
use Rattle.std.proofs.Common.{ℕ, List, [], ◌∷◌, ◌++◌, ◌≡◌, refl}
use Rattle.esr_model.specs.Values.{Formats}
use Rattle.esr_core.specs.World.{World}
use Rattle.esr_core.specs.Entry.{Moment}
use Rattle.esr_core.specs.After.{after}
use Rattle.esr_core.specs.History.{world_from, IsLegal, AreTold}

pub legal_parts : (f : Formats) (size : ℕ) (xs ys : List Moment) (w : World) → IsLegal f size w (xs ++ ys) → IsLegal f size w xs × IsLegal f size (world_from f w xs) ys
legal_parts f size [] ys w h = (tt, h)
legal_parts f size (x ∷ xs) ys w h = let r = legal_parts f size xs ys (after f w x) h.1 in ((h.0, r.0), r.1)

pub told_parts : (xs ys : List Moment) → AreTold (xs ++ ys) → AreTold xs × AreTold ys
told_parts [] ys h = (tt, h)
told_parts (x ∷ xs) ys h = let r = told_parts xs ys h.1 in ((h.0, r.0), r.1)

pub world_parts : (f : Formats) (xs ys : List Moment) (w : World) → world_from f w (xs ++ ys) ≡ world_from f (world_from f w xs) ys
world_parts f [] ys w = refl
world_parts f (x ∷ xs) ys w = world_parts f xs ys (after f w x)
