use Rattle.std.proofs.Common.{◌≡◌, ℕ, ◌+◌, ◌*◌, List, slice_index, refl, ◌∙◌, arith}
use Rattle.std.proofs.lemmas.List.{length-set}
use Rattle.esr_hash.specs.Digits.{lower_value}
use Rattle.esr_hash.proofs.LowerDigits.{bytes_step, bytes_done}
use Rattle.esr_hash.proofs.print.bytes_of.Goals as goal

pub loop-place-init : goal.loop-place-init
loop-place-init c = (refl, refl)

pub loop-place-preserved : goal.loop-place-preserved
loop-place-preserved c =
    let s : List ℕ = c.args.digits.now in
    let i : ℕ = c.loop-place.place in
    let is : c.digit_value.result * 16 + c.digit_value-in-loop-place.result ≡ lower_value (slice_index s (2 * i)) * 16 + lower_value (slice_index s (2 * i + 1)) = rw (c.digit_value.ensures, c.digit_value-in-loop-place.ensures) refl in (
      length-set _ _ _ ∙ c.loop-place.invariant.0,
      bytes_step c.args.digits.now c.loop-place.bytes c.loop-place.place _ (omega arith) (omega arith) is c.loop-place.invariant.1,
    )

pub returns : goal.returns
returns c = bytes_done c.args.digits.now c.loop-place.bytes c.loop-place.place (omega arith) (omega arith) c.loop-place.invariant.1
