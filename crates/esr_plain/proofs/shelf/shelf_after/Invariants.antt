use Rattle.std.proofs.Common.{◌≡◌, map}
use Rattle.std.specs.Vec.Iter.{into_iter_items}
use Rattle.esr_model.specs.Shelf.{shelf_after}
use Rattle.esr_plain.specs.Commands.{command_of}
use Rattle.esr_plain.proofs.shelf.shelf_after.Given as goal

abbrev pub invariant-loop-command : goal.invariant-loop-command
invariant-loop-command l = shelf_after l.shelf (map command_of (into_iter_items l.command-iterator)) ≡ shelf_after l.fn.start (map command_of l.fn.commands)
