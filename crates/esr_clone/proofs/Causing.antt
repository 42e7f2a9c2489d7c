-- How the unit of a clone's shard ends where it isn't done.
use Rattle.std.proofs.Common.{◌≡◌, ℕ, List, [], Some, sym, subst}
use Rattle.esr_core.specs.World.{Shard}
use Rattle.esr_core.specs.Entry.{Moment}
use Rattle.esr_desk.specs.declared.hand.Hand.TheVariants as hands
use Rattle.esr_desk.specs.declared.unit.UnitRefusal.{UnitRefusal}
use Rattle.esr_desk.specs.Start.{Start, ticket_of}
use Rattle.esr_desk.specs.Evidence.{Evidence}
use Rattle.esr_unit.specs.declared.trouble.Trouble.{Trouble}
use Rattle.esr_unit.specs.declared.ending.Ending.{Ending}
use Rattle.esr_unit.specs.declared.ending.Ending.TheVariants as endings
use Rattle.esr_unit.specs.Ending.{ending_by}
use Rattle.esr_unit.specs.Shown.{EndingShown}
use Rattle.esr_unit.specs.Fail.{GivenUp}
use Rattle.esr_upload.specs.Refused.{IsUnitRefused}
use Rattle.esr_upload.specs.Trouble.{Shown, shown_other}
use Rattle.esr_upload.specs.Worked.{Worked}
use Rattle.esr_upload.specs.Ends.{IsUntoldEnding, by_trouble, not_stale, given_up}

module _ {S F H T : Type 0} (e : Evidence S F H T) (s : Start) (old mid : List Moment) (who index number : ℕ) (trouble : Trouble S F) (ending : Ending S F H T)
    (worked : Worked (ticket_of s old who) (ticket_of s mid who)) (work : (ticket_of s mid who).work ≡ Shard index number) (shown : Shown {S = S} {F = F} {H = H} {T = T} e 0 (Some []) s mid who trouble) (is : ending ≡ ending_by trouble) where
  -- how it ends is shown
  pub end_shown : EndingShown hands.Unit e ⊥ s mid who ending
  end_shown = subst (λ (x : Ending S F H T). EndingShown hands.Unit e ⊥ s mid who x) (sym is) (shown_other e s mid who trouble shown)

  -- no term of a shard's ticket is over
  pub end_present : ending ≡ endings.Stale → ⊥
  end_present = not_stale e ⊥ s mid who index number ending work end_shown

  -- so the unit has ended, or stopped
  pub unit_ended : (new : List Moment) (result : UnitRefusal) → GivenUp hands.Unit e s mid new who ending result → IsUnitRefused e (Some []) s old new who result
  unit_ended new result h =
      given_up e (Some []) s old mid new who worked ending result end_shown (subst (λ (x : Ending S F H T). IsUntoldEnding (Some []) x) (sym is) (by_trouble H T (Some []) trouble shown.1)) h
