use Rattle.std.proofs.Common.{◌≡◌, ap, ◌∙◌}
use Rattle.esr_shardidx.specs.Snapshots.{shard_snap_from, shard_snap_text, shard_snap_data}
use Rattle.esr_shardidx.specs.RoundTrip.{snap_reads_back}
use Rattle.esr_shardidx.proofs.Pieces.{text_of}
use Rattle.esr_shardidx.proofs.writing.shard_snap_text.Goals as goal

pub returns : goal.returns
returns c =
    let text : c.from_vec.result ≡ shard_snap_text c.args.snap.now =
    c.from_vec.ensures ∙ c.into_inner.ensures.items ∙ text_of c.in_ok-out.out c.put_snap.new.out (shard_snap_data c.args.snap.now) c.in_ok-out.ensures.before c.in_ok-out.ensures.tokens c.in_ok-put_snap.ensures.put in
    record {
      text = text;
      reads = ap shard_snap_from text ∙ snap_reads_back c.args.snap.now c.in_ok-put_snap.ensures.whole;
    }
