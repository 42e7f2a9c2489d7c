use Rattle.std.proofs.Common.{sym, ap, ◌∙◌}
use Rattle.std.specs.Prelude.{is_some}
use Rattle.esr_agreement.proofs.Served.{one_more, one_lacks}
use Rattle.esr_agreement.proofs.agreement.have_generations.Goals as goal

pub returns-in-None : goal.returns-in-None
returns-in-None c = sym (one_lacks c.args.generations.now c.loop-shard.shard c.args.shards c.loop-shard-test.true (ap is_some (sym c.get.ensures ∙ c.in-None.is)))

pub loop-shard-preserved : goal.loop-shard-preserved
loop-shard-preserved c = one_more c.args.generations.now c.loop-shard.shard c.loop-shard.invariant (ap is_some (sym c.get.ensures ∙ c.in-Some.is))
