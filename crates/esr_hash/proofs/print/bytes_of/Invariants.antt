use Rattle.std.proofs.Common.{◌≡◌, ◌*◌, ◌++◌, length, take, drop}
use Rattle.esr_hash.specs.Digits.{lower_bytes}
use Rattle.esr_hash.proofs.print.bytes_of.Given as goal

abbrev pub invariant-loop-place : goal.invariant-loop-place
invariant-loop-place l = (length l.bytes ≡ 32) × (take l.place l.bytes ++ lower_bytes (drop (2 * l.place) l.digits) ≡ lower_bytes l.digits)
