use Rattle.std.proofs.Common.{◌≡◌, ◌++◌, ◌-◌, ℕ, None, length, replicate, sym, subst, ap, ◌∙◌, arith}
use Rattle.esr_root.specs.Generations.{AreGenerations, padded}
use Rattle.esr_root.specs.RootLists.{AreGenerations-padded}
use Rattle.esr_root.proofs.generations.Generations.padded.Goals as goal

-- the list, once none is missing
whole : (c : goal.After-loop) → c.loop.items ≡ padded c.args.shards c.args.self.now
whole c =
    let same : length c.in_ok-items.items ≡ length c.args.self.now = ap length (c.in_ok-items.ensures ∙ c.as_slice.ensures.items) in
    let none_missing : c.loop.counter ≡ c.args.shards - length c.args.self.now = omega arith in
    c.loop.invariant ∙ ap (λ (k : ℕ). c.args.self.now ++ replicate k None) none_missing

pub invariant_of-result : goal.invariant_of-result
invariant_of-result c = subst AreGenerations (sym (whole c)) (AreGenerations-padded c.args.shards c.args.self.now c.requires c.as_slice.ensures.rule)

pub returns : goal.returns
returns c = whole c
