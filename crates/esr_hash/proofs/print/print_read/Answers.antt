use Rattle.std.proofs.Common.{◌≡◌, ◌<◌, ◌^◌, false, sym, ap, ◌∙◌, arith, rules}
use Rattle.std.specs.Str.{bytes_eq}
use Rattle.esr_hash.specs.declared.print.Print.{Print}
use Rattle.esr_hash.specs.Digits.{digits_of, IsPrint, read_print}
use Rattle.esr_hash.specs.DigitLaws.{read_print-digits_of}
use Rattle.esr_hash.proofs.LowerDigits.{read_print-other}
use Rattle.esr_hash.proofs.print.print_read.Goals as goal

pub returns-then-eq-clause-exact : goal.returns-then-eq-clause-exact
returns-then-eq-clause-exact c =
    let p : Print = record { len = c.args.len; sha256 = c.bytes_of-sha256.result } in
    let own : IsPrint (record { len = c.args.len; sha256 = c.bytes_of-sha256.result }) = search rules in
    let same : digits_of c.bytes_of-sha256.result ≡ c.args.digits.now = search rules in
    sym (ap (read_print c.args.len) (sym same) ∙ read_print-digits_of p own)

pub returns-else-eq-clause-exact : goal.returns-else-eq-clause-exact
returns-else-eq-clause-exact c =
    let fits : c.args.len < 2 ^ 64 = omega (arith, c.ranges.len.fits) in
    let other : bytes_eq (digits_of c.bytes_of-sha256.result) c.args.digits.now ≡ false = search rules in
    sym (read_print-other c.args.len c.args.digits.now c.bytes_of-sha256.result fits c.bytes_of-sha256.ensures other)
