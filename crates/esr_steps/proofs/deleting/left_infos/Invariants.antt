use Rattle.std.proofs.Common.{◌≡◌, take}
use Rattle.std.specs.Prelude.{filter}
use Rattle.esr_root.specs.Snaps.{lists}
use Rattle.esr_steps.proofs.deleting.left_infos.Given as goal

abbrev pub invariant-loop-info : goal.invariant-loop-info
invariant-loop-info l = l.left ≡ filter (λ info. lists l.listing info.uuid) (take l.info-index l.infos)
