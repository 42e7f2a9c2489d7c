-- The digits of a digest.
use Rattle.std.specs.Prelude.{◌≡◌, ◌<◌, ◌^◌, ◌+◌, ◌*◌, ◌/◌, ◌%◌, ℕ, List, [], ◌∷◌, length, if◌then◌else◌, Option, Some, None, Result, Ok, Err}
use Rattle.std.specs.Str.{bytes_eq}
use Rattle.hex.specs.Hex.{encode_lower, decode_sized, IsBytes}
use Rattle.hex.specs.declared.error.FromHexError.{FromHexError}
use Rattle.esr_hash.specs.declared.print.Print.{Print}

-- two lower-case hexadecimal digits for each byte
abbrev pub digits_of : List ℕ → List ℕ
digits_of bytes = encode_lower bytes

-- the value of a lower-case digit, `0` to `9` or `a` to `f`
abbrev pub lower_value : ℕ → ℕ
lower_value c = (c % 16 + 9 * (c / 64)) % 16

-- the bytes of pairs of lower-case digits
abbrev pub lower_bytes : List ℕ → List ℕ
lower_bytes (high ∷ low ∷ rest) = (lower_value high * 16 + lower_value low) ∷ lower_bytes rest
lower_bytes (digit ∷ []) = []
lower_bytes [] = []

-- a length of 64 bits, and 32 bytes
pub record IsPrint (p : Print) : Type 0 where
  pub len : p.len < 2 ^ 64
  pub size : length p.sha256 ≡ 32
  pub bytes : IsBytes p.sha256

-- the print with these bytes as its digest, where they are written as these digits
abbrev pub written_so : ℕ → List ℕ → Result (List ℕ) FromHexError → Option Print
written_so len digits (Ok bytes) = if bytes_eq (digits_of bytes) digits then Some (record { len = len; sha256 = bytes }) else None
written_so len digits (Err e) = None

-- the print of a file of this length, by the digits of its digest
abbrev pub read_print : ℕ → List ℕ → Option Print
read_print len digits = written_so len digits (decode_sized digits 32)
