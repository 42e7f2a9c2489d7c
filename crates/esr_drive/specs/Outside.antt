-- The objects outside the repository.
use Rattle.std.specs.Prelude.{◌≡◌, ℕ, ◌≤◌, ◌^◌}
use Rattle.esr_source.specs.Told.{SourcesTold, TargetsTold}
use Rattle.esr_desk.specs.Start.{Start}
use Rattle.esr_desk.specs.Sources.{AreSources}

-- the sources, the targets and the part size are those of which the start tells
pub record IsOutside (s : Start) (sources : SourcesTold) (targets : TargetsTold) (part_size : ℕ) : Type 0 where
  pub told : AreSources s sources
  pub sure : s.sure_targets ≡ targets.is_quiet
  pub tells : s.targets_tell ≡ targets.tells
  pub size : part_size ≡ s.part_size
  pub sized : (1 ≤ part_size) × (part_size ≤ 2 ^ 30)
