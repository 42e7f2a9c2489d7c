use Rattle.std.proofs.Common.{lit<, tests, rules}
use Rattle.std.proofs.lemmas.Iterator.Search.{all_from_yields_List}
use Rattle.std.proofs.lemmas.Iterator.Splits.{YieldsList-from_str_split}
use Rattle.esr_dirdepot.specs.Names.{names_entry}
use Rattle.esr_dirdepot.proofs.name.is_way.Goals as goal

pub returns : goal.returns
returns c = all_from_yields_List names_entry _ _ _ c.all.ensures.ran (YieldsList-from_str_split 47 c.args.name.now (lit< tt) c.split.ensures.text c.split.ensures.has_more c.split.ensures.pattern) (λ x b q k. search (rules, tests))
