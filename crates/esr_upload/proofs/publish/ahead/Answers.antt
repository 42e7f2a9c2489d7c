use Rattle.std.proofs.Common.{◌∙◌, sym, ap, refl}
use Rattle.std.specs.Option.{option_copied}
use Rattle.esr_upload.proofs.publish.ahead.Goals as goal

pub returns : goal.returns
returns c = (c.in-Some.generation, c.in-Some-entry_from.entry.now, c.in-Some.is, sym c.entry_from.ensures ∙ ap option_copied c.in-Some-entry_from.is, refl)
