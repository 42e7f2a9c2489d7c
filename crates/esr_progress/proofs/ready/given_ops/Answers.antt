use Rattle.std.proofs.Common.{ap}
use Rattle.esr_progress.proofs.Takes.{given_shard, given_none}
use Rattle.esr_progress.proofs.ready.given_ops.Goals as goal
use Rattle.esr_progress.proofs.ready.given_ops.Goals.{in-Shard, in_default}

pub returns : goal.returns
returns c = elim c.match-kind.branch [
  | in-Shard w ↦
      given_shard c.args.ops.now c.in_ok-copy.copy.items c.match-kind.copy.items c.args.at c.args.kind w.in-Shard.shard c.args.ticket w.index_mut.result.now w.give.new.self c.requires c.in_ok-copy.ensures w.in-Shard.is
      w.index_mut.ensures.value w.give.ensures (ap (λ v. v.items) w.copy-is)
  | in_default w ↦ given_none c.args.ops.now c.in_ok-copy.copy.items c.match-kind.copy.items c.args.at c.args.kind c.args.ticket c.in_ok-copy.ensures w.in_default.not-Shard (ap (λ v. v.items) w.copy-is)
]
