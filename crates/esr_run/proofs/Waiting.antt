-- Which line is of which kind.
use Rattle.std.proofs.Common.{◌≡◌, ℕ, true, false, true≢false, List, Result, refl, sym, ap, ◌∙◌}
use Rattle.esr_core.specs.Entry.{Moment}
use Rattle.esr_script.specs.declared.item.Item.{Item}
use Rattle.esr_script.specs.declared.item.Item.TheVariants as items
use Rattle.esr_desk.specs.declared.refusal.StepRefusal.{StepRefusal}
use Rattle.esr_script.specs.declared.item.Kind.TheVariants as kinds
use Rattle.esr_script.specs.Kinds.{kind_of, is_wait}
use Rattle.esr_drive.specs.Elections.{elections}
use Rattle.esr_run.specs.Waits.{LineElects}
use Rattle.esr_run.specs.Made.{AsksOnly, AddsOnly}

pub wait_is : (item : Item) → is_wait item ≡ true → item ≡ items.Wait
wait_is items.Wait is = refl
wait_is item is = absurd (true≢false (sym is))

pub check_is : (item : Item) → kind_of item ≡ kinds.Check → item ≡ items.Check
check_is items.Check is = refl
check_is item is = absurd cc

pub verify_is : (item : Item) → kind_of item ≡ kinds.Verify → item ≡ items.Verify
verify_is items.Verify is = refl
verify_is item is = absurd cc

pub failover_is : (item : Item) → kind_of item ≡ kinds.Failover → item ≡ items.Failover
failover_is items.Failover is = refl
failover_is item is = absurd cc

pub no_wait : (item : Item) → is_wait item ≡ false → item ≡ items.Wait → ⊥
no_wait item other wait = true≢false (sym (ap is_wait wait) ∙ other)

pub no_check : (item : Item) → item ≡ items.Wait → item ≡ items.Check → ⊥
no_check item wait check = cc

pub no_verify : (item : Item) → item ≡ items.Wait → item ≡ items.Verify → ⊥
no_verify item wait verify = cc

-- another line elects nobody
pub other_elects : {X : Type 0} (owed : ℕ) (item : Item) (old new : List Moment) (r : Result X StepRefusal) → is_wait item ≡ false → elections new ≡ elections old → LineElects owed item old new r
other_elects owed items.Wait old new r other same = absurd (true≢false other)
other_elects owed item old new r other same = same

-- one that asks for a step which answers it adds that alone
pub asks_adds : (item : Item) (old new : List Moment) → kind_of item ≡ kinds.Ask → AsksOnly old new → AddsOnly item old new
asks_adds items.Wait old new is asks = absurd cc
asks_adds items.Check old new is asks = absurd cc
asks_adds items.Verify old new is asks = absurd cc
asks_adds item old new is asks = asks
