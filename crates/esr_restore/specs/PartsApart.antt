-- The parts of a file have different names.
use Rattle.std.proofs.Common.{◌≡◌, ℕ, ◌+◌, ◌-◌, ◌/◌, ◌<◌, nat_le, true, false, arith}
use Rattle.std.specs.Prelude.{if◌then◌else◌}
use Rattle.esr_names.specs.declared.blob.BlobName.TheVariants as code
use Rattle.esr_names.specs.declared.blob.ShardId.{ShardId}
use Rattle.esr_model.specs.Names.{Part}
use Rattle.esr_shardidx.specs.declared.entry.FileEntry.{FileEntry as CodeEntry}
use Rattle.esr_shardidx.specs.Parts.{part_count, part_name}
use Rattle.esr_formats.specs.Names.{name_of}

number_is : (index number file i k : ℕ) → Part index number file i ≡ Part index number file k → i ≡ k
number_is index number file i k same = cc

-- the parts of a file have different names
pub parts_differ : (at : ShardId) (e : CodeEntry) (i k : ℕ) → i < k → k < part_count e.print.len e.part_size → name_of (part_name at e i) ≡ name_of (part_name at e k) → ⊥
parts_differ at e i k less =
    let parts : ℕ = (e.print.len + e.part_size - 1) / e.part_size in
    elim (nat_le e.print.len e.part_size) as (λ b. k < (if b then 1 else parts) → name_of (if b then code.Whole at e.name else code.Part at e.name i) ≡ name_of (if b then code.Whole at e.name else code.Part at e.name k) → ⊥) [
      | true ↦ λ (one : k < 1) same. omega (arith, less, one)
      | false ↦ λ within same. let number : i ≡ k = number_is at.index.number at.number e.name.number i k same in omega (arith, less, number)
    ]
