use Rattle.std.proofs.Common.{◌≡◌, fold}
use Rattle.std.specs.Vec.Iter.{into_iter_items}
use Rattle.esr_script.specs.Items.{each_once, with_name}
use Rattle.esr_script.proofs.names.each_snap_once.Given as goal

abbrev pub invariant-loop-name : goal.invariant-loop-name
invariant-loop-name l = fold with_name l.kept (into_iter_items l.name-iterator) ≡ each_once l.fn.names
