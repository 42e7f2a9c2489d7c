use Rattle.std.proofs.Common.{ℕ, List, map, sym, ap, ◌∙◌, subst}
use Rattle.std.specs.Prelude.{is_some}
use Rattle.esr_core.specs.Deletes.{delete_opened}
use Rattle.esr_formats.specs.Ids.{number_of}
use Rattle.esr_ops.specs.Plan.{IsPlanOf}
use Rattle.esr_progress.specs.Lowest.{ok_maps}
use Rattle.esr_accept.proofs.DeleteRules.{waiting_there, merged_asked, joined_asked, opened_asked}
use Rattle.esr_accept.proofs.delete.asked_delete.Goals as goal

pub returns-in-Some : goal.returns-in-Some
returns-in-Some c =
    ok_maps c.merged.result c.merged.ensures
    (λ p made w names is term_is named waits runs.
    let waiting = sym waits ∙ c.in-Some.is in
    merged_asked w names p c.in-Some.number waiting (made w names is term_is (ap (map number_of) c.as_slice.ensures ∙ named) (waiting_there w c.in-Some.number waiting)))

pub returns-then-is_some : goal.returns-then-is_some
returns-then-is_some c =
    ok_maps c.copy.result c.copy.ensures
    (λ p same w names is term_is named waits runs.
    joined_asked w names p (sym waits ∙ c.in_default.is) (ap is_some (sym runs) ∙ sym c.is_some.ensures ∙ c.if-is_some.true) (subst (IsPlanOf w) (sym same) is))

pub returns : goal.returns
returns c =
    ok_maps c.with_delete.result c.with_delete.ensures
    (λ p made w names is term_is named waits runs.
    opened_asked w names p (sym waits ∙ c.in_default.is) (ap is_some (sym runs) ∙ sym c.is_some.ensures ∙ c.if-is_some.false)
    (subst (λ (us : List ℕ). IsPlanOf (delete_opened w us) p) named (made w is term_is)))
