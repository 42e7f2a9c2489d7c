use Rattle.std.proofs.Common.{◌<◌, ◌≤◌, ◌≡◌, nat_lt, true, false, rules}
use Rattle.std.proofs.lemmas.List.Sorted.{IsPartitionPoint-from_clause, IsPartitionedBy-ltb}
use Rattle.esr_shardidx.specs.declared.entry.FileEntry.{FileEntry}
use Rattle.esr_shardidx.proofs.Rising.{numbers_rise, place_of-is}
use Rattle.esr_shardidx.proofs.marks.place_of.Goals as goal

pub returns-clause-place : goal.returns-clause-place
returns-clause-place c =
    let point = IsPartitionPoint-from_clause (λ (e : FileEntry). nat_lt e.name.number c.args.name.number) c.args.entries.now _ c.partition_point.ensures.partitioned
    (IsPartitionedBy-ltb (λ (e : FileEntry). e.name.number) c.args.entries.now c.args.name.number (numbers_rise c.args.entries.now c.requires)) (λ a r f' called. search rules) in
    place_of-is c.args.name c.args.entries.now _ c.partition_point.ensures.bound point
