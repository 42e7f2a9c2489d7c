use Rattle.std.proofs.Common.{◌≡◌, [], drop, map}
use Rattle.serde_json.specs.View.{view}
use Rattle.esr_shardidx.specs.declared.entry.FileEntry.{FileEntry}
use Rattle.esr_shardidx.specs.Snapshots.{snap_files_from}
use Rattle.esr_shardidx.proofs.Repeats.{Holds}
use Rattle.esr_shardidx.proofs.reading.snap_files_of.Given as goal

abbrev pub invariant-loop-value : goal.invariant-loop-value
invariant-loop-value l =
    Holds (λ (e : FileEntry). e.name.number) l.ids l.files
    × (snap_files_from [] (map view l.values) ≡ snap_files_from l.files (map view (drop l.value-index l.values)))
