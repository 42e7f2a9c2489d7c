-- The print of bytes.
use Rattle.std.specs.Prelude.{ℕ, List, length}
use Rattle.sha2.specs.Sha256.{sha256 as digest}
use Rattle.esr_hash.specs.declared.print.Print.{Print}

-- their number and their SHA-256 digest
abbrev pub print_of : List ℕ → Print
print_of bytes = record { len = length bytes; sha256 = digest bytes }
