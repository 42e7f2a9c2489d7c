use Rattle.std.proofs.Common.{◌≡◌, ◌++◌, map}
use Rattle.esr_formats.specs.Refs.{ref_of_code}
use Rattle.esr_model.specs.Places.{numbered}
use Rattle.esr_plain.specs.Places.{place_of}
use Rattle.esr_plain.proofs.places.push_numbered.Given as goal

abbrev pub invariant-loop-number : goal.invariant-loop-number
invariant-loop-number l = map place_of l.places ≡ map place_of l.fn.places ++ numbered (ref_of_code l.index) 0 l.number
