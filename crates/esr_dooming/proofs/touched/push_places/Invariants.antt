use Rattle.std.proofs.Common.{take, map, option_map}
use Rattle.esr_formats.specs.Ids.{number_of}
use Rattle.esr_dooming.specs.Pieces.{Added, of_places, read_place}
use Rattle.esr_dooming.proofs.touched.push_places.Given as goal

abbrev pub invariant-loop-number : goal.invariant-loop-number
invariant-loop-number l = Added l.fn.shards l.shards (of_places (read_place l.index.id.number) 0 (map (option_map number_of) (take l.number l.base-items)))
