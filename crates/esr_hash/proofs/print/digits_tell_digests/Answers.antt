use Rattle.esr_hash.specs.DigitLaws.{read_print-digits_of, digits_of-same}
use Rattle.esr_hash.proofs.print.digits_tell_digests.Goals as goal

pub returns-clause-back : goal.returns-clause-back
returns-clause-back c = read_print-digits_of

pub returns-clause-apart : goal.returns-clause-apart
returns-clause-apart c = digits_of-same
