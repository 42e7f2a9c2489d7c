use Rattle.std.proofs.Common.{◌≡◌, ◌≤◌, true, Some, length}
use Rattle.esr_upload.specs.Surveyed.{SameShard}
use Rattle.esr_upload.proofs.Surveying.{ReadFirst}
use Rattle.esr_upload.proofs.survey.survey.Given as goal

abbrev pub invariant-loop-file : goal.invariant-loop-file
invariant-loop-file g l =
    record {
      same : SameShard (g.S.Shard.told l.fn.shard) (g.S.Shard.told l.shard);
      files : (g.S.Shard.told l.shard).files ≡ (g.S.Shard.told l.fn.shard).files;
      listed : (g.S.Shard.told l.shard).listed ≡ Some l.file-items;
      buffer : length l.buf ≡ length l.fn.buf;
      later : g.S.Counted.faults l.fn.shard ≤ g.S.Counted.faults l.shard;
      steady : (g.S.Shard.told l.fn.shard).is_sure ≡ true → g.S.Counted.faults l.shard ≡ g.S.Counted.faults l.fn.shard;
      place_is : l.place ≡ l.file-index;
      read : ReadFirst (g.S.Shard.told l.fn.shard).files l.file-items l.file-index l.reads;
    }
