use Rattle.std.proofs.Common.{arith}
use Rattle.esr_client.proofs.Elections.{may_elect}
use Rattle.esr_client.proofs.election.elected.Goals as goal

pub returns : goal.returns
returns g c = may_elect g.K.Told.start c.args.repo.now c.args.term c.args.cluster c.new.result.number c.rules.ensures.infos c.requires.next c.requires.room c.requires.record (omega (arith, c.new.ensures))
