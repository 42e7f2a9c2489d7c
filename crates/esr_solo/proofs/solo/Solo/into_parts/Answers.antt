use Rattle.esr_solo.proofs.Showing.{same_objects}
use Rattle.esr_solo.proofs.Listing.{same_targets}
use Rattle.esr_solo.proofs.solo.Solo.into_parts.Goals as goal

pub returns-clause-shown : goal.returns-clause-shown
returns-clause-shown g c = same_objects _ g.K.Told.start c.self.inside.repo c.self.inside.faults.items c.from_vec.result c.from_vec.ensures c.self.invariant.1

pub returns-clause-targets : goal.returns-clause-targets
returns-clause-targets g c = same_targets _ g.K.Told.start c.self.inside.repo c.self.inside.targets.items c.from_vec-2.result c.from_vec-2.ensures c.self.invariant.2

pub returns-clause-once : goal.returns-clause-once
returns-clause-once g c = c.self.invariant.3

pub returns-clause-tested : goal.returns-clause-tested
returns-clause-tested g c = c.self.invariant.6

pub returns-clause-removed : goal.returns-clause-removed
returns-clause-removed g c = c.self.invariant.7
