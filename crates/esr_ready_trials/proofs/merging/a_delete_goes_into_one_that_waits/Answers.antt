use Rattle.std.proofs.Common.{[], ◌∷◌, refl, ap, ◌∙◌, nat_cmp}
use Rattle.std.specs.FinMap.{FinMap}
use Rattle.esr_core.specs.World.{Deletion}
use Rattle.esr_ready_trials.specs.Rows.{one}
use Rattle.esr_ready_trials.specs.Scene.{s2, making, naming, shard_out, deleting, having}
use Rattle.esr_ready_trials.proofs.Rows.{at_one}
use Rattle.esr_ready_trials.proofs.Entries.{entries_one, again, Told, number_is, merged_is}
use Rattle.esr_ready_trials.proofs.merging.a_delete_goes_into_one_that_waits.Goals as goal

abbrev told : Told (deleting (1 ∷ []))
told = record { ops = (1, making) ∷ []; deletes = (2, naming (1 ∷ [])) ∷ []; tickets = (1, shard_out) ∷ []; ops_is = entries_one 1 making; deletes_is = entries_one 2 (naming (1 ∷ [])); tickets_is = entries_one 1 shard_out }

pub returns-clause-number : goal.returns-clause-number
returns-clause-number c = number_is (deleting (1 ∷ [])) told (s2 ∷ [])

pub returns-clause-world : goal.returns-clause-world
returns-clause-world c =
    merged_is (deleting (1 ∷ [])) told (s2 ∷ []) 2 (naming (1 ∷ [])) refl (at_one 2 (naming (1 ∷ [])))
    ∙ ap (λ (deletes : FinMap nat_cmp Deletion). having (one 1 making) deletes (one 1 shard_out) 3) (again (naming (1 ∷ [])) (naming (1 ∷ 2 ∷ [])))
