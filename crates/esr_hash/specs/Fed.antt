-- What a hasher was fed.
use Rattle.std.specs.Prelude.{◌≡◌, ℕ, List, length}
use Rattle.sha2.specs.Hashers.{Holds256}
use Rattle.esr_hash.specs.declared.hasher.Hasher.{Hasher}

-- how many bytes
abbrev pub fed_count : Hasher → ℕ
fed_count h = h.len

-- these bytes, in whatever pieces
abbrev pub HasFed : Hasher → List ℕ → Type 0
HasFed h bytes = (fed_count h ≡ length bytes) × Holds256 h.state bytes
