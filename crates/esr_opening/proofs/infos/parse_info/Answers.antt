use Rattle.std.proofs.Common.{map, subst}
use Rattle.esr_core.specs.Restores.{AreApart}
use Rattle.esr_meta.specs.Info.{Info}
use Rattle.esr_formats.specs.Refs.{ref_of_code}
use Rattle.esr_opening.proofs.Listing.{refs_apart}
use Rattle.esr_opening.proofs.infos.parse_info.Goals as goal

pub returns-in-Ok-clause-apart : goal.returns-in-Ok-clause-apart
returns-in-Ok-clause-apart g c = subst (λ (i : Info). AreApart (map ref_of_code i.indices)) c.info.view_is (refs_apart c.info.inside.indices c.info.invariant.indices)
