use Rattle.std.proofs.Common.{◌≤◌, ℕ, List, [], ◌++◌, take, drop, length, refl, sym, subst, arith, length-append}
use Rattle.std.proofs.lemmas.List.{length-take, length-take-le, take-append-le}
use Rattle.std.proofs.lemmas.Grind.{common_steps}
use Rattle.std.specs.Io.KnownBytes.{Consumes}
use Rattle.std.proofs.KnownBytes.{Consumes-trans, Consumes-nil}
use Rattle.esr_hash.specs.Fed.{HasFed}
use Rattle.esr_source.specs.Files.{bytes_at}
use Rattle.esr_source.specs.Told.{ShardTold}
use Rattle.esr_parts.proofs.Pieces.{read_on, read_start, steady_more}
use Rattle.esr_parts.proofs.hash.hash_file.Goals as goal

pub returns-in_err-start-clause-kept : goal.returns-in_err-start-clause-kept
returns-in_err-start-clause-kept g c =
    read_start c.start.result (g.S.Shard.told c.args.shard.now) (g.S.Shard.told c.start.new.self) (bytes_at (g.S.Shard.told c.args.shard.now).files c.args.file) c.start.ensures.ok c.start.ensures.err

pub loop-left-init : goal.loop-left-init
loop-left-init g c =
    let files = (g.S.Shard.told c.args.shard.now).files in
    record {
      kept = read_start c.start.result (g.S.Shard.told c.args.shard.now) (g.S.Shard.told c.start.new.self) (bytes_at files c.args.file) c.start.ensures.ok c.start.ensures.err;
      buffer = refl;
      later = c.start.ensures.cause.later;
      steady = c.start.ensures.sure.count;
      bytes = [];
      fed = c.start-hasher.ensures;
      took = subst (λ (t : ShardTold). Consumes (bytes_at files c.args.file) t.left []) (sym c.in_ok-start.ensures.ok) (Consumes-nil (bytes_at files c.args.file));
      count = omega arith;
    }

pub returns-in_err-got-clause-kept : goal.returns-in_err-got-clause-kept
returns-in_err-got-clause-kept g c = read_on (g.S.Shard.told c.args.shard.now) (g.S.Shard.told c.loop-left.shard) (g.S.Shard.told c.read.new.self) c.loop-left.invariant.kept c.read.ensures.kept

pub returns-in_err-got-clause-steady : goal.returns-in_err-got-clause-steady
returns-in_err-got-clause-steady g c =
    let inv = c.loop-left.invariant in
    steady_more (g.S.Shard.told c.args.shard.now) (g.S.Shard.told c.loop-left.shard) (g.S.Counted.faults c.args.shard.now) (g.S.Counted.faults c.loop-left.shard)
    (g.S.Counted.faults c.read.new.self) inv.kept inv.steady c.read.ensures.sure

pub loop-left-preserved : goal.loop-left-preserved
loop-left-preserved g c =
    let inv = c.loop-left.invariant in
    let got = c.in_ok-got.got in
    let read = c.in_ok-got.ensures in
    let within : got ≤ length c.read.new.buf = read.bound.0 in
    let more = drop c.min-room.result c.loop-left.buf in
    let piece : List ℕ = take got c.read.new.buf in
    let same = take-append-le got c.read.new.buf more within in
    let len = length-take-le got c.read.new.buf within in
    let left : got ≤ c.loop-left.left = omega (arith, within, read.length, c.min-room.ensures, length-take c.min-room.result c.loop-left.buf) in
    record {
      kept = read_on (g.S.Shard.told c.args.shard.now) (g.S.Shard.told c.loop-left.shard) (g.S.Shard.told c.read.new.self) inv.kept read.kept;
      buffer = grind (arith, common_steps, read.length, inv.buffer);
      later = omega (arith, read.cause.later, inv.later);
      steady = steady_more (g.S.Shard.told c.args.shard.now) (g.S.Shard.told c.loop-left.shard) (g.S.Counted.faults c.args.shard.now) (g.S.Counted.faults c.loop-left.shard)
          (g.S.Counted.faults c.read.new.self) inv.kept inv.steady read.sure;
      bytes = inv.bytes ++ piece;
      fed = subst (λ (xs : List ℕ). HasFed c.feed.new.self (inv.bytes ++ xs)) same (c.feed.ensures.joined inv.bytes inv.fed);
      took = Consumes-trans (bytes_at (g.S.Shard.told c.args.shard.now).files c.args.file) (g.S.Shard.told c.loop-left.shard).left (g.S.Shard.told c.read.new.self).left inv.bytes piece inv.took read.bytes.0;
      count = omega (arith, inv.count, length-append inv.bytes piece, len, left);
    }
