use Rattle.std.proofs.Common.{◌≡◌, [], map}
use Rattle.esr_json.specs.Access.{entry_view}
use Rattle.esr_root.specs.Reading.{indices_from}
use Rattle.esr_root.proofs.read.indices_of.Given as goal

abbrev pub invariant-loop-name : goal.invariant-loop-name
invariant-loop-name l =
    indices_from l.snaps [] [] (map entry_view l.members.entries) ≡ indices_from l.snaps l.ids l.indices (map entry_view l.name-iterator)
