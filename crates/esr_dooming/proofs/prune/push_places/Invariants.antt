use Rattle.std.proofs.Common.{take, map, option_map}
use Rattle.std.specs.Ordering.{nat_cmp}
use Rattle.std.specs.BTreeSet.{contains}
use Rattle.esr_formats.specs.Ids.{number_of}
use Rattle.esr_dooming.specs.Pieces.{Added, of_places, place_piece}
use Rattle.esr_dooming.proofs.prune.push_places.Given as goal

abbrev pub invariant-loop-number : goal.invariant-loop-number
invariant-loop-number l = Added l.fn.shards l.shards (of_places (place_piece (contains nat_cmp l.named) (contains nat_cmp l.listed) l.loss l.read l.index.id.number) 0 (map (option_map number_of) (take l.number l.base-items)))
