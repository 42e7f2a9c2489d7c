use Rattle.std.proofs.Common.{false, [], ◌∷◌, refl}
use Rattle.esr_ready_trials.specs.Scene.{s1, s2, naming, shard_out, delete_out, running}
use Rattle.esr_ready_trials.proofs.Entries.{entries_none, entries_one, entries_two, Told, number_is, joined_is}
use Rattle.esr_ready_trials.proofs.merging.a_delete_joins_one_that_runs.Goals as goal

abbrev told : Told running
told = record {
  ops = [];
  deletes = (2, naming (1 ∷ 2 ∷ 3 ∷ [])) ∷ [];
  tickets = (1, record shard_out { out = false }) ∷ (3, delete_out) ∷ [];
  ops_is = entries_none;
  deletes_is = entries_one 2 (naming (1 ∷ 2 ∷ 3 ∷ []));
  tickets_is = entries_two 1 (record shard_out { out = false }) 3 delete_out refl;
}

pub returns-clause-number : goal.returns-clause-number
returns-clause-number c = number_is running told (s1 ∷ s2 ∷ [])

pub returns-clause-world : goal.returns-clause-world
returns-clause-world c = joined_is running told (s1 ∷ s2 ∷ []) 2 refl refl
