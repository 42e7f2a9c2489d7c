use Rattle.std.proofs.Common.{◌≡◌, ap, ◌∙◌}
use Rattle.esr_shardidx.specs.Indices.{shard_index_from, shard_index_text, shard_index_data}
use Rattle.esr_shardidx.specs.RoundTrip.{index_reads_back}
use Rattle.esr_shardidx.proofs.Pieces.{text_of}
use Rattle.esr_shardidx.proofs.writing.shard_index_text.Goals as goal

pub returns : goal.returns
returns c =
    let text : c.from_vec.result ≡ shard_index_text c.args.index.now =
    c.from_vec.ensures ∙ c.into_inner.ensures.items ∙ text_of c.in_ok-out.out c.put_index.new.out (shard_index_data c.args.index.now) c.in_ok-out.ensures.before c.in_ok-out.ensures.tokens c.in_ok-put_index.ensures.put in
    record {
      text = text;
      reads = ap shard_index_from text ∙ index_reads_back c.args.index.now c.in_ok-put_index.ensures.whole;
    }
