use Rattle.std.proofs.Common.{take, map, option_map}
use Rattle.esr_formats.specs.Ids.{number_of}
use Rattle.esr_formats.specs.Roots.{root_snap_of}
use Rattle.esr_model.specs.Image.{At}
use Rattle.esr_plain.specs.Exactly.{Always}
use Rattle.esr_plain.specs.Reach.{AreNames, OfShards}
use Rattle.esr_plain.proofs.reached.shards_names.Given as goal

abbrev pub invariant-loop-number : goal.invariant-loop-number
invariant-loop-number l = Always (λ f. AreNames l.names (OfShards f (At f l.image) (map root_snap_of l.snaps) l.index.id.number (map (option_map number_of) (take l.number l.generation-items))))
