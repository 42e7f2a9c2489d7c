use Rattle.std.proofs.Common.{◌≡◌, ◌++◌, ℕ, List, not, filter, rules, ap, ◌∙◌, subst}
use Rattle.std.specs.Ordering.{nat_cmp}
use Rattle.std.specs.List.Sorted.{IsPermutation, IsStableByKey}
use Rattle.std.proofs.lemmas.List.Sorted.{IsNonDecreasingBy-from_sort_by_key, answers_always}
use Rattle.esr_shardidx.specs.declared.entry.FileEntry.{FileEntry}
use Rattle.esr_shardidx.specs.Indices.{has_file}
use Rattle.esr_shardidx.proofs.Merged.{sorted_is}
use Rattle.esr_shardidx.proofs.change.with_files.Goals as goal

pub returns : goal.returns
returns c =
    let key : FileEntry → ℕ = λ e. e.name.number in
    let new : List FileEntry = filter (λ e. not (has_file c.args.entries.now e.name)) c.args.more.now in
    let before : c.add_fresh.new.files.items ≡ c.args.entries.now ++ new = c.in_ok-add_fresh.ensures ∙ ap (λ (xs : List FileEntry). xs ++ new) c.in_ok-files.ensures in
    let order = IsNonDecreasingBy-from_sort_by_key key c.sort_by_key.new.self.items c.in_ok-sort_by_key.ensures.sorted (λ a r f' called. search rules) in
    let stable = c.in_ok-sort_by_key.ensures.stable key (answers_always _ (λ a r. r ≡ key a.0.now) _ (λ f a r f' called. search rules)) in
    sorted_is c.args.entries.now c.args.more.now c.sort_by_key.new.self.items c.requires.rises c.requires.differ
    (subst (λ (xs : List FileEntry). IsPermutation xs c.sort_by_key.new.self.items) before c.in_ok-sort_by_key.ensures.permutation)
    order
    (subst (λ (xs : List FileEntry). IsStableByKey key nat_cmp xs c.sort_by_key.new.self.items) before stable)
