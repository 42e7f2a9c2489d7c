use Rattle.std.proofs.Common.{ℕ, ◌<◌, ◌^◌, length, map, arith, subst}
use Rattle.esr_results.specs.Pruned.{pruned_of}
use Rattle.esr_desk.specs.Start.{world_of}
use Rattle.esr_steps.proofs.DeletePlans.{placed, ids_fit}
use Rattle.esr_steps.proofs.deleting.planned.Goals as goal

pub deleted-requires-clause-placed : goal.deleted-requires-clause-placed
deleted-requires-clause-placed g c = placed c.args.root.now (map pruned_of c.args.shards.now) c.indices_rule.ensures c.requires.one_each c.requires.of_root

pub deleted-requires-clause-room : goal.deleted-requires-clause-room
deleted-requires-clause-room g c =
    let few : length c.args.shards.now < 2 ^ 64 = omega (arith, c.len-count.ensures) in
    ids_fit c.next_id-first.result.number (world_of g.K.Told.start c.args.repo.now).term (length c.args.shards.now) c.next_id-first.ensures.below (subst (λ (n : ℕ). n < 2 ^ 63) c.term-term.ensures.term c.term-term.ensures.most) few
