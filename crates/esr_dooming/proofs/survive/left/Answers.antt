use Rattle.std.proofs.Common.{◌≡◌, map, ap, ◌∙◌}
use Rattle.std.proofs.lemmas.Result.{IfOk-weaker}
use Rattle.esr_shardidx.specs.Indices.{IndexValue, survivors_of}
use Rattle.esr_formats.specs.Ids.{number_of}
use Rattle.esr_formats.specs.Shards.{shard_index_of}
use Rattle.esr_model.specs.Delete.{surviving}
use Rattle.esr_dooming.proofs.Surviving.{left_same}
use Rattle.esr_dooming.proofs.survive.left.Goals as goal

pub returns : goal.returns
returns c =
    IfOk-weaker c.survivors.result (λ (i : IndexValue). i ≡ survivors_of c.args.index.now c.args.uuids.now)
    (λ (i : IndexValue). shard_index_of i ≡ surviving (map number_of c.args.uuids.now) (shard_index_of c.args.index.now))
    (λ i e. ap shard_index_of e ∙ left_same c.args.index.now c.args.uuids.now) c.survivors.ensures
