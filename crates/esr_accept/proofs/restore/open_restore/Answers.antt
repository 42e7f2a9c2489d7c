use Rattle.std.proofs.Common.{ℕ, map, ap, ◌∙◌}
use Rattle.esr_formats.specs.Refs.{ref_of_code}
use Rattle.esr_accept.specs.Asking.{restore_begun}
use Rattle.esr_progress.specs.Lowest.{ok_maps}
use Rattle.esr_accept.proofs.Restorables.{opened_is}
use Rattle.esr_accept.proofs.restore.open_restore.Goals as goal

pub returns : goal.returns
returns c =
    ok_maps c.with_restore.result c.with_restore.ensures
    (λ p e w is. opened_is w c.args.progress.now is c.args.uuid.number c.args.place.now (map ref_of_code c.args.indices.now) c.in_ok-restore.restore
    (c.in_ok-restore.ensures ∙ ap (λ (n : ℕ). (n, restore_begun c.args.uuid.number c.args.place.now (map ref_of_code c.args.indices.now))) c.next_op.ensures) p e)
