-- What was given was so by its step.
use Rattle.std.proofs.Common.{◌≡◌, ℕ, Option, refl, sym, subst, inl, inr, ◌∙◌}
use Rattle.esr_core.specs.Allowed as allowed
use Rattle.esr_model.specs.Values.{Formats}
use Rattle.esr_model.specs.Image.{Image}
use Rattle.esr_core.specs.World.{World}
use Rattle.esr_core.specs.Entry.{Given, Step, Refusal, Gave, Refused, Moment}
use Rattle.esr_core.specs.Allowed.{Allows, Allowed}
use Rattle.esr_core.specs.Causes.{TakeGave}

module _ (f : Formats) (size : ℕ) (w : World) where
  gave_by : (who : ℕ) (step : Step) (k o : ℕ) (unit : Given) (image : Option Image) → Allows f size w who step (Gave k o unit) image → TakeGave f w who step k o unit
  gave_by who step k o unit image (allowed.Giving j p u im is lowest g same) = record { who_is = refl; step_is = refl; number = is; lowest = lowest; gives = g }
  gave_by who step k o unit image (allowed.Verifying read rep im h) = elim h [ ]
  gave_by who step k o unit image (allowed.Pruning j prune rep im h) = elim h [ ]
  gave_by who step k o unit image (allowed.Reading j read rep im h same) = elim h [ ]

no_gift : (k o : ℕ) (unit : Given) (refusal : Refusal) → Gave k o unit ≡ Refused refusal → ⊥
no_gift k o unit refusal e = cc

pub take_gave : (f : Formats) (size : ℕ) (w : World) (m : Moment) (k o : ℕ) (unit : Given) → Allowed f size w m → m.entry.reply ≡ Gave k o unit → TakeGave f w m.entry.who m.entry.step k o unit
take_gave f size w m k o unit a is = elim a.answered [
  | inl alive ↦ gave_by f size w m.entry.who m.entry.step k o unit m.image (subst (λ reply. Allows f size w m.entry.who m.entry.step reply m.image) is alive.1)
  | inr blocked ↦ absurd (no_gift k o unit blocked.refusal (sym is ∙ blocked.refused))
]
