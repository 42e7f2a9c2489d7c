use Rattle.std.proofs.Common.{◌≡◌, drop, map, option_map}
use Rattle.esr_formats.specs.Ids.{number_of}
use Rattle.esr_opening.specs.Foreign.{generation_ids, first_from}
use Rattle.esr_opening.proofs.ids.foreign_generation.Given as goal

abbrev pub invariant-loop-generation : goal.invariant-loop-generation
invariant-loop-generation l =
    first_from l.bound.number (generation_ids (map (option_map number_of) l.generations)) ≡ first_from l.bound.number (generation_ids (map (option_map number_of) (drop l.generation-index l.generations)))
