use Rattle.std.proofs.Common.{take, map}
use Rattle.esr_formats.specs.Ids.{number_of}
use Rattle.esr_plain.specs.Reach.{AreNames, OfSome, OfMeta}
use Rattle.esr_plain.proofs.reached.meta_names.Given as goal

abbrev pub invariant-loop-uuid : goal.invariant-loop-uuid
invariant-loop-uuid l = AreNames l.names (OfSome (OfMeta l.index.id.number) (map number_of (take l.uuid-index l.uuid-items)))
