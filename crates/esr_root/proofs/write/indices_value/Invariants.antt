use Rattle.std.proofs.Common.{◌≡◌, drop, map}
use Rattle.serde_json.specs.Data.{no_members}
use Rattle.serde_json.specs.View.{members_view}
use Rattle.esr_json.specs.Named.{with_members}
use Rattle.esr_root.specs.Text.{index_entry}
use Rattle.esr_root.proofs.write.indices_value.Given as goal

abbrev pub invariant-loop-index : goal.invariant-loop-index
invariant-loop-index l =
    with_members no_members (map index_entry l.indices) ≡ with_members (members_view l.members.entries) (map index_entry (drop l.index-index l.indices))
