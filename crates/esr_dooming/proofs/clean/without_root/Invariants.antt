use Rattle.std.proofs.Common.{◌≡◌, map, flat_map, take}
use Rattle.esr_formats.specs.Names.{name_of}
use Rattle.esr_dooming.specs.Unreached.{rest_piece}
use Rattle.esr_dooming.proofs.clean.without_root.Given as goal

abbrev pub invariant-loop-name : goal.invariant-loop-name
invariant-loop-name l = map name_of l.rest ≡ flat_map (rest_piece l.generation) (map name_of (take l.name-index l.name-items))
