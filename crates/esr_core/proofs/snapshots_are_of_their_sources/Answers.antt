use Rattle.esr_core.proofs.Lists.{opening_law}
use Rattle.esr_core.proofs.Sources.{of_sources, opened_sourced}
use Rattle.esr_core.proofs.snapshots_are_of_their_sources.Goals as goal

pub returns : goal.returns
returns c = λ f size image shelf w log known honest kept opened legal told. of_sources f size log w shelf (opening_law f image shelf w kept opened) (opened_sourced f image w opened) known honest legal told
