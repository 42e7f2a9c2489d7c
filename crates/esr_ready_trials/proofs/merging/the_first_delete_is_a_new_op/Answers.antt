use Rattle.std.proofs.Common.{[], ◌∷◌, refl}
use Rattle.esr_ready_trials.specs.Scene.{s1, making, shard_out, begun}
use Rattle.esr_ready_trials.proofs.Entries.{entries_none, entries_one, Told, number_is, opened_is}
use Rattle.esr_ready_trials.proofs.merging.the_first_delete_is_a_new_op.Goals as goal

abbrev told : Told begun
told = record { ops = (1, making) ∷ []; deletes = []; tickets = (1, shard_out) ∷ []; ops_is = entries_one 1 making; deletes_is = entries_none; tickets_is = entries_one 1 shard_out }

pub returns-clause-number : goal.returns-clause-number
returns-clause-number c = number_is begun told (s1 ∷ [])

pub returns-clause-world : goal.returns-clause-world
returns-clause-world c = opened_is begun told (s1 ∷ []) refl refl
