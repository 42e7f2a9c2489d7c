use Rattle.esr_repo.proofs.Removals.{AreRead}
use Rattle.esr_repo.proofs.removing.texts_of.Given as goal

abbrev pub invariant-loop-name : goal.invariant-loop-name
invariant-loop-name l = AreRead l.names l.name-index l.texts
