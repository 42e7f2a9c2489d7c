use Rattle.std.proofs.Common.{◌≡◌, drop}
use Rattle.std.specs.List.{list_any}
use Rattle.esr_model.specs.Uploads.{same_bytes}
use Rattle.esr_plain.proofs.shelf.is_among.Given as goal

abbrev pub invariant-loop-other : goal.invariant-loop-other
invariant-loop-other l = list_any (same_bytes l.name) l.names ≡ list_any (same_bytes l.name) (drop l.other-index l.names)
