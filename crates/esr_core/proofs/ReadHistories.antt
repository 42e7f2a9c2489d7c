-- Over a legal history what holds of restores goes on holding.
use Rattle.std.proofs.Common.{ℕ, List, [], ◌∷◌, sym, subst, inl, inr}
use Rattle.esr_model.specs.Values.{Formats}
use Rattle.esr_model.specs.Shelf.{Shelved, shelf_after}
use Rattle.esr_core.specs.World.{World}
use Rattle.esr_core.specs.Entry.{Moment}
use Rattle.esr_core.specs.After.{after}
use Rattle.esr_core.specs.Ids.{Law}
use Rattle.esr_core.specs.ReadLaw.{ReadLaw}
use Rattle.esr_core.specs.History.{world_from, IsLegal, AreTold}
use Rattle.esr_core.proofs.Histories.{Stepped, step_law}
use Rattle.esr_core.proofs.ReadLaws.{turn_read}

pub read_step_law : (f : Formats) (size : ℕ) (w : World) (shelf : List Shelved) → Law f w shelf → ReadLaw f w → (m : Moment) (new : World) → Stepped f w shelf m new → ReadLaw f new
read_step_law f size w shelf l r m new s = elim s.made [
  | inl h ↦ turn_read f w new shelf l r h.0 h.1.0
  | inr h ↦ subst (ReadLaw f) (sym h.0) r
]

pub read_legal : (f : Formats) (size : ℕ) (log : List Moment) (w : World) (shelf : List Shelved) → Law f w shelf → ReadLaw f w → IsLegal f size w log → AreTold log → ReadLaw f (world_from f w log)
read_legal f size [] w shelf l r legal told = r
read_legal f size (m ∷ log) w shelf l r legal told =
    let s = step_law f size w shelf l m told.0.0 told.0.1 legal.0 in
    read_legal f size log (after f w m) (shelf_after shelf s.commands) s.law (read_step_law f size w shelf l r m (after f w m) s) legal.1 told.1
