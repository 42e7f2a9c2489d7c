use Rattle.std.proofs.Common.{◌≤◌, length, map, arith}
use Rattle.std.proofs.lemmas.List.{length-map}
use Rattle.serde_json.specs.View.{view}
use Rattle.esr_root.specs.ReadRoots.{generations_are}
use Rattle.esr_root.proofs.read.generations_of.Goals as goal

pub from_items-requires : goal.from_items-requires
from_items-requires c =
    let few : length (map view c.in_ok-values.values.now) ≤ 1024 = omega (arith, length-map c.in_ok-values.values.now view) in
    generations_are (map view c.in_ok-values.values.now) c.in_ok-items.items few c.in_ok-items.ensures
