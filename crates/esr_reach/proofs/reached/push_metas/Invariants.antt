use Rattle.std.proofs.Common.{take, map, flat_map}
use Rattle.esr_formats.specs.Ids.{number_of}
use Rattle.esr_reach.specs.Names.{Pushed}
use Rattle.esr_reach.specs.Listing.{meta_names}
use Rattle.esr_reach.proofs.reached.push_metas.Given as goal

abbrev pub invariant-loop-uuid : goal.invariant-loop-uuid
invariant-loop-uuid l = Pushed l.fn.names l.names (flat_map (meta_names l.index.id.number) (map number_of (take l.uuid-index l.uuid-items)))
