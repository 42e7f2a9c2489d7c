-- Shards by index and number, as the definitions see them.
use Rattle.std.specs.Prelude.{ℕ}
use Rattle.esr_formats.specs.Refs.{ref_of_code}
use Rattle.esr_model.specs.Values.{IndexRef}
use Rattle.esr_plain.specs.declared.places.Place.{Place}

-- the place that a place of the code is
abbrev pub place_of : Place → IndexRef × ℕ
place_of p = (ref_of_code p.index, p.number)
