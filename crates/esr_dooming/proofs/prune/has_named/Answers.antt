use Rattle.std.proofs.Common.{ℕ, sym, ap, ◌∙◌}
use Rattle.std.specs.List.{list_any}
use Rattle.std.specs.Ordering.{nat_cmp}
use Rattle.std.specs.BTreeSet.{contains}
use Rattle.esr_names.specs.declared.ids.Id.{Id}
use Rattle.esr_formats.specs.Ids.{number_of}
use Rattle.esr_dooming.proofs.Numbers.{any_map}
use Rattle.esr_dooming.proofs.prune.has_named.Goals as goal

pub returns : goal.returns
returns c = c.has_some.ensures ∙ ap (list_any (λ (u : Id). contains nat_cmp c.args.named.now u.number)) c.as_slice.ensures ∙ sym (any_map (λ (u : ℕ). contains nat_cmp c.args.named.now u) number_of c.args.index.now.snapshots)
