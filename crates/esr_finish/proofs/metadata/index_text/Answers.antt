use Rattle.std.proofs.Common.{arith, ap, ◌∙◌}
use Rattle.esr_names.specs.NameRule.{index_name_fault}
use Rattle.esr_finish.proofs.metadata.index_text.Goals as goal

pub invariant_of-meta : goal.invariant_of-meta
invariant_of-meta c = record {
  id = omega arith;
  name = ap index_name_fault c.in_ok-try_clone.ensures ∙ c.as_str-name.ensures.rule;
  least = c.requires.some;
  most = c.requires.most;
  uuid = omega arith;
}
