use Rattle.std.proofs.Common.{Bool, ◌||◌, sym, ap, ◌∙◌}
use Rattle.std.specs.List.{list_any}
use Rattle.std.specs.Ordering.{nat_cmp}
use Rattle.std.specs.BTreeSet.{contains}
use Rattle.esr_formats.specs.Roots.{root_index_of}
use Rattle.esr_dooming.proofs.prune.is_touched.Goals as goal

pub returns-then-clean : goal.returns-then-clean
returns-then-clean c = c.if-clean.true ∙ ap (λ (b : Bool). b || list_any (contains nat_cmp c.args.named.now) (root_index_of c.args.index.now).snapshots) (sym c.if-clean.true)

pub returns-else-clean : goal.returns-else-clean
returns-else-clean c = c.has_named.ensures ∙ ap (λ (b : Bool). b || list_any (contains nat_cmp c.args.named.now) (root_index_of c.args.index.now).snapshots) (sym c.if-clean.false)
