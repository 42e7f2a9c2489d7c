use Rattle.std.proofs.Common.{ap}
use Rattle.esr_source.specs.Files.{bytes_at}
use Rattle.esr_source.specs.Told.{ShardTold}
use Rattle.esr_upload.proofs.Going.{read_start}
use Rattle.esr_upload.proofs.file.start_file.Goals as goal

pub returns-in-Ok-clause-started : goal.returns-in-Ok-clause-started
returns-in-Ok-clause-started g c = ap (λ (t : ShardTold). t.left) c.in-Ok.ensures.ok

pub returns-in-Ok-clause-kept : goal.returns-in-Ok-clause-kept
returns-in-Ok-clause-kept g c = read_start c.start.result (g.S.Shard.told c.args.shard.now) (g.S.Shard.told c.start.new.self) (bytes_at (g.S.Shard.told c.args.shard.now).files c.args.file) c.start.ensures.ok c.start.ensures.err

pub returns-in-Err-Memory-clause-kept : goal.returns-in-Err-Memory-clause-kept
returns-in-Err-Memory-clause-kept g c = read_start c.start.result (g.S.Shard.told c.args.shard.now) (g.S.Shard.told c.start.new.self) (bytes_at (g.S.Shard.told c.args.shard.now).files c.args.file) c.start.ensures.ok c.start.ensures.err

pub returns-in-Err-Failed-clause-kept : goal.returns-in-Err-Failed-clause-kept
returns-in-Err-Failed-clause-kept g c = read_start c.start.result (g.S.Shard.told c.args.shard.now) (g.S.Shard.told c.start.new.self) (bytes_at (g.S.Shard.told c.args.shard.now).files c.args.file) c.start.ensures.ok c.start.ensures.err
