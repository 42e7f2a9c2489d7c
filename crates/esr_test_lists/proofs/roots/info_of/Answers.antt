use Rattle.std.proofs.Common.{rules}
use Rattle.esr_test_lists.proofs.Growing.{info_is}
use Rattle.esr_test_lists.proofs.roots.info_of.Goals as goal

pub invariant_of-result : goal.invariant_of-result
invariant_of-result c = info_is c.in_ok-indices_of.field-0 c.in_ok-new.field-0 c.args.name.now c.args.uuid c.in_ok-indices_of.ensures c.in_ok-new.ensures.ok c.in_ok-new.ensures.good (search rules)
