use Rattle.std.proofs.Common.{◌≡◌, map, take}
use Rattle.esr_formats.specs.Refs.{ref_of_code}
use Rattle.esr_model.specs.Places.{places}
use Rattle.esr_plain.specs.Places.{place_of}
use Rattle.esr_plain.proofs.places.numbered.Given as goal

abbrev pub invariant-loop-index : goal.invariant-loop-index
invariant-loop-index l = map place_of l.places ≡ places (map ref_of_code (take l.index-index l.indices))
