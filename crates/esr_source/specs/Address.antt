-- Which shard is meant.
use Rattle.std.specs.Prelude.{ℕ, Bool, ◌==◌, ◌&&◌, List, bytes_eq}
use Rattle.esr_source.specs.declared.address.Address.{Address}

abbrev pub address : List ℕ → List ℕ → ℕ → Address
address place index number = record { place = place; index = index; number = number }

abbrev pub same_address : Address → Address → Bool
same_address a b = (bytes_eq a.place b.place && bytes_eq a.index b.index) && a.number == b.number
