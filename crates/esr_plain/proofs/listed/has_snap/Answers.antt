use Rattle.std.proofs.Common.{sym, subst}
use Rattle.esr_formats.specs.Shards.{shard_snap_of}
use Rattle.esr_formats.specs.Formats.{formats}
use Rattle.esr_model.specs.Names.{ShardSnap}
use Rattle.esr_model.specs.Image.{At, Reads}
use Rattle.esr_plain.proofs.Loops.{holds, fails, so, not_so}
use Rattle.esr_plain.proofs.Blobs.{was_read, was_unread}
use Rattle.esr_plain.proofs.listed.has_snap.Goals as goal

pub returns-then-not-is_listed : goal.returns-then-not-is_listed
returns-then-not-is_listed c = λ known told.
    holds (λ s m e. absurd (not_so c.is_listed.result c.is_listed.ensures c.if-not-is_listed.true (s, m, sym e)))

pub returns : goal.returns
returns c = λ known told.
    let f = formats known told in
    let image = c.args.image.now in
    let has = At f image in
    let i = c.args.shard.index.number in
    let k = c.args.shard.number in
    let snap = shard_snap_of c.in-Some._snap in
    let reads = was_read (λ f. f.shard_snap) shard_snap_of image (ShardSnap i k c.args.uuid.number) c.in_ok-_snap.field-0 c.in-Some._snap c.in_ok-_snap.ensures c.in-Some.is known told in
    holds (λ s m e. (snap, subst (λ u. Reads has (ShardSnap i k u) f.shard_snap snap) e reads))

pub returns-in_default : goal.returns-in_default
returns-in_default c = λ known told.
    let f = formats known told in
    let image = c.args.image.now in
    let has = At f image in
    let i = c.args.shard.index.number in
    let k = c.args.shard.number in
    let none = was_unread (λ f. f.shard_snap) shard_snap_of image (ShardSnap i k c.args.uuid.number) c.in_ok-_snap.field-0 c.in_ok-_snap.ensures c.in_default.is known told in
    let listed = so c.is_listed.result c.is_listed.ensures c.if-not-is_listed.false in
    fails (λ all. let it = all listed.0 listed.1 (sym listed.2) in none it.0 (subst (λ u. Reads has (ShardSnap i k u) f.shard_snap it.0) listed.2 it.1))
