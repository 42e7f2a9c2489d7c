use Rattle.std.proofs.Common.{map, ap, ◌∙◌}
use Rattle.esr_root.specs.Root.{Root}
use Rattle.esr_formats.specs.Roots.{root_snap_of}
use Rattle.esr_accept.proofs.delete.snaps_of.Goals as goal

pub returns : goal.returns
returns c = ap (map root_snap_of) (c.as_slice.ensures.items ∙ ap (λ (r : Root). r.snapshots) c.root.view_is)
