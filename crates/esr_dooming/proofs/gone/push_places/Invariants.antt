use Rattle.std.proofs.Common.{take, map, option_map}
use Rattle.esr_formats.specs.Ids.{number_of}
use Rattle.esr_formats.specs.Roots.{root_index_of}
use Rattle.esr_dooming.specs.Pieces.{Added, of_places, gone_place}
use Rattle.esr_dooming.proofs.gone.push_places.Given as goal

abbrev pub invariant-loop-number : goal.invariant-loop-number
invariant-loop-number l = Added l.fn.gone l.gone (of_places (gone_place (map root_index_of l.new) l.index.id.number) 0 (map (option_map number_of) (take l.number l.base-items)))
