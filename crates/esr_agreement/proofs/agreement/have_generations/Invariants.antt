use Rattle.std.proofs.Common.{◌≡◌, true, map, option_map}
use Rattle.esr_formats.specs.Ids.{number_of}
use Rattle.esr_agreement.specs.Agreement.{have_generations}
use Rattle.esr_agreement.proofs.agreement.have_generations.Given as goal

abbrev pub invariant-loop-shard : goal.invariant-loop-shard
invariant-loop-shard l = have_generations (map (option_map number_of) l.generations) l.shard ≡ true
