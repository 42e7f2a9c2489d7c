use Rattle.std.proofs.Common.{ℕ, List, map, ap, ◌∙◌}
use Rattle.std.specs.List.{filter}
use Rattle.esr_names.specs.declared.ids.Id.{Id}
use Rattle.esr_core.specs.World.{Deletion}
use Rattle.esr_core.specs.Deletes.{is_listed_uuid, name_the_same}
use Rattle.esr_formats.specs.Ids.{number_of}
use Rattle.esr_formats.specs.Roots.{root_snap_of}
use Rattle.esr_ops.proofs.delete.OpenDelete.lists_just.Goals as goal

pub returns : goal.returns
returns c =
    let listed = is_listed_uuid (map root_snap_of c.args.snaps.now) in
    let asked = map number_of c.args.uuids.now in
    c.list_the_same.ensures ∙ ap (λ (us : List Id). name_the_same (filter listed (map number_of us)) asked) c.as_slice.ensures ∙ ap (λ (x : ℕ × Deletion). name_the_same (filter listed x.1.uuids) asked) c.self.view_is
