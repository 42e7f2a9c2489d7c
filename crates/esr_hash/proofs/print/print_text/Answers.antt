use Rattle.std.proofs.Common.{IsUtf8, sym, subst}
use Rattle.esr_hash.specs.DigitLaws.{IsUtf8-digits_of}
use Rattle.esr_hash.proofs.print.print_text.Goals as goal

pub returns-clause-utf8 : goal.returns-clause-utf8
returns-clause-utf8 c = subst IsUtf8 (sym c.in-Ok.ensures.written) (IsUtf8-digits_of c.args.print.now.sha256)
