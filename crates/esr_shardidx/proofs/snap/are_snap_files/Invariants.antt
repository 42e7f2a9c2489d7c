use Rattle.std.proofs.Common.{◌≡◌, [], take, drop}
use Rattle.esr_shardidx.specs.Snapshots.{are_snap_files, AreSnapFiles}
use Rattle.esr_shardidx.proofs.snap.are_snap_files.Given as goal

abbrev pub invariant-loop-entry : goal.invariant-loop-entry
invariant-loop-entry l =
    (l.place ≡ l.entry-index) × (are_snap_files [] l.files ≡ are_snap_files (take l.place l.files) (drop l.place l.files))
    × AreSnapFiles [] (take l.place l.files)
