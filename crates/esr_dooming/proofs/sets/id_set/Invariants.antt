use Rattle.std.proofs.Common.{◌≡◌, ℕ, take, map}
use Rattle.std.specs.Ordering.{nat_cmp}
use Rattle.std.specs.BTreeSet.{contains}
use Rattle.esr_formats.specs.Ids.{number_of}
use Rattle.esr_dooming.specs.Pieces.{is_one}
use Rattle.esr_dooming.proofs.sets.id_set.Given as goal

abbrev pub invariant-loop-id : goal.invariant-loop-id
invariant-loop-id l = (q : ℕ) → contains nat_cmp l.set q ≡ is_one (map number_of (take l.id-index l.ids)) q
