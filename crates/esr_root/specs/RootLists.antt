-- The snapshots and the indices of a root, with one more.
use Rattle.std.proofs.Common.{◌≡◌, ◌≤◌, ◌-◌, ℕ, false, List, [], ◌∷◌, ◌++◌, Option, None, length, replicate, arith}
use Rattle.std.proofs.lemmas.List.{length-append, length-replicate}
use Rattle.std.specs.List.{list_any, AllByRecursion}
use Rattle.std.specs.declared.cmp.Ordering.TheVariants.{Less}
use Rattle.esr_names.specs.declared.ids.Id.{Id}
use Rattle.esr_root.specs.Generations.{AreGenerations, IsGeneration, padded}
use Rattle.esr_root.specs.declared.indices.RootIndex.{RootIndex}
use Rattle.esr_root.specs.Snaps.{AreSnaps, IsSnap, clashes}
use Rattle.esr_root.specs.Indices.{AreIndices, IsIndex, same_index, by_name}
use Rattle.esr_root.specs.Root.{Root}
use Rattle.esr_root.specs.declared.snaps.RootSnap.{RootSnap}
use Rattle.esr_root.specs.Lists.{all_push, all_append, all_replicate, distinct_none, distinct_push, sorted_none, sorted_push}

pub AreSnaps-none : AreSnaps []
AreSnaps-none = record { each = tt; distinct = distinct_none clashes }

pub AreSnaps-push : (ss : List RootSnap) (s : RootSnap) → AreSnaps ss → IsSnap s → list_any (λ old. clashes old s) ss ≡ false → AreSnaps (ss ++ s ∷ [])
AreSnaps-push ss s h one fresh = record { each = all_push IsSnap ss s h.each one; distinct = distinct_push clashes ss s h.distinct fresh }

pub AreIndices-none : AreIndices []
AreIndices-none = record { each = tt; distinct = distinct_none same_index; rises = sorted_none by_name }

pub AreGenerations-padded : (n : ℕ) (gs : List (Option Id)) → n ≤ 1024 → AreGenerations gs → AreGenerations (padded n gs)
AreGenerations-padded n gs few h =
    let own : length gs ≤ 1024 = h.few in
    record {
      few = omega (arith, length-append gs (replicate (n - length gs) None), length-replicate {A = Option Id} (n - length gs) None);
      each = all_append IsGeneration gs (replicate (n - length gs) None) h.each (all_replicate IsGeneration (n - length gs) None tt);
    }

pub AreIndices-push : (is : List RootIndex) (i : RootIndex) → AreIndices is → IsIndex i → list_any (λ j. same_index j i) is ≡ false → AllByRecursion (λ j. by_name j i ≡ Less) is
    → AreIndices (is ++ i ∷ [])
AreIndices-push is i h one fresh above = record {
  each = all_push IsIndex is i h.each one;
  distinct = distinct_push same_index is i h.distinct fresh;
  rises = sorted_push by_name is i h.rises above;
}

-- a root by its parts
abbrev pub root_with : List RootSnap → List RootIndex → Root
root_with ss is = record { snapshots = ss; indices = is }
