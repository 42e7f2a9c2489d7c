use Rattle.std.proofs.Common.{◌≡◌, ◌++◌}
use Rattle.std.specs.Vec.Iter.{into_iter_items}
use Rattle.esr_script.specs.Items.{asked_indices}
use Rattle.esr_script.proofs.parts.asked_indices.Given as goal

abbrev pub invariant-loop-name : goal.invariant-loop-name
invariant-loop-name l =
    l.indices ++ asked_indices (into_iter_items l.name-iterator) (into_iter_items l.counts) (into_iter_items l.places)
    ≡ asked_indices l.fn.names l.fn.counts l.fn.places
