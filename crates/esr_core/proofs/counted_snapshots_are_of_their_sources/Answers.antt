use Rattle.esr_core.specs.Ids.{Law}
use Rattle.esr_core.proofs.Lists.{opening_law}
use Rattle.esr_core.proofs.Sources.{of_sources, opened_sourced}
use Rattle.esr_core.proofs.ToldCommands.{all_of_ops}
use Rattle.esr_core.proofs.counted_snapshots_are_of_their_sources.Goals as goal

pub returns : goal.returns
returns c = λ f size image shelf w log known honest kept opened legal told.
    let l : Law f w shelf = opening_law f image shelf w kept opened in
    all_of_ops f size image shelf w log l opened (of_sources f size log w shelf l (opened_sourced f image w opened) known honest legal told) legal told
