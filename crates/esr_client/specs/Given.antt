-- The unit that a take gives.
use Rattle.std.specs.Prelude.{◌≡◌, List, map, Option, Some, None}
use Rattle.esr_model.specs.Values.{ReadsBack}
use Rattle.esr_model.specs.Finalize.{finalized_root}
use Rattle.esr_meta.specs.Info.{Info}
use Rattle.esr_root.specs.Root.{Root}
use Rattle.esr_formats.specs.Roots.{root_of, root_kind}
use Rattle.esr_formats.specs.Infos.{info_of_code}
use Rattle.esr_results.specs.declared.result.ShardResult.{ShardResult}
use Rattle.esr_results.specs.Results.{result_of}
use Rattle.esr_newroot.specs.NewRoot.{MayFinalize}
use Rattle.esr_ops.specs.declared.unit.Work.TheVariants as works
use Rattle.esr_ops.specs.declared.unit.ReadyUnit.{ReadyUnit}

-- the root of a finalization can be made
abbrev pub IsRootable : ReadyUnit → Type 0
IsRootable u = (info : Info) (shards : List ShardResult) → u.work ≡ works.Finalize info shards → MayFinalize (root_of u.copy.root) (info_of_code info) (map result_of shards)

-- it is the root that a finalization writes, and it can be written
pub record IsRootFor (u : ReadyUnit) (made : Option Root) (info : Info) (shards : List ShardResult) : Type 0 where
  pub root : Root
  pub made_is : made ≡ Some root
  pub is : root_of root ≡ finalized_root (root_of u.copy.root) (info_of_code info) (map result_of shards)
  pub back : ReadsBack root_kind (root_of root)

abbrev pub HasRoot : ReadyUnit → Option Root → Type 0
HasRoot u made = (info : Info) (shards : List ShardResult) → u.work ≡ works.Finalize info shards → IsRootFor u made info shards

-- no unit but a finalization writes one
abbrev pub HasNoRoot : ReadyUnit → Option Root → Type 0
HasNoRoot u made = ((info : Info) (shards : List ShardResult) → u.work ≡ works.Finalize info shards → ⊥) → made ≡ None
