use Rattle.std.proofs.Common.{◌≡◌, ◌≤◌, ℕ, List, ◌++◌, take, drop, length, sym, ◌∙◌, ap, subst, arith, length-append}
use Rattle.std.proofs.lemmas.List.{take-append-le, length-take, length-take-le}
use Rattle.std.proofs.lemmas.Grind.{common_steps}
use Rattle.std.specs.Io.KnownBytes.{append_known}
use Rattle.std.proofs.KnownBytes.{Consumes-trans}
use Rattle.esr_hash.specs.Fed.{HasFed}
use Rattle.esr_parts.specs.Reads.{Fed}
use Rattle.esr_parts.proofs.Pieces.{fed_more, stage_more, on_ok, read_on, steady_more}
use Rattle.esr_parts.proofs.copy.copy_part.Goals as goal

pub returns-in_default-clause-kept : goal.returns-in_default-clause-kept
returns-in_default-clause-kept g c =
    read_on (g.S.Shard.told c.args.shard.now) (g.S.Shard.told c.loop-left.shard) (g.S.Shard.told c.read.new.self) c.loop-left.invariant.kept c.read.ensures.kept

pub returns-then-got-eq0-clause-kept : goal.returns-then-got-eq0-clause-kept
returns-then-got-eq0-clause-kept g c =
    read_on (g.S.Shard.told c.args.shard.now) (g.S.Shard.told c.loop-left.shard) (g.S.Shard.told c.read.new.self) c.loop-left.invariant.kept c.in-Ok.ensures.kept

pub returns-then-is_err-clause-kept : goal.returns-then-is_err-clause-kept
returns-then-is_err-clause-kept g c =
    read_on (g.S.Shard.told c.args.shard.now) (g.S.Shard.told c.loop-left.shard) (g.S.Shard.told c.read.new.self) c.loop-left.invariant.kept c.in-Ok.ensures.kept

pub returns-in_default-clause-steady : goal.returns-in_default-clause-steady
returns-in_default-clause-steady g c =
    let inv = c.loop-left.invariant in
    steady_more (g.S.Shard.told c.args.shard.now) (g.S.Shard.told c.loop-left.shard) (g.S.Counted.faults c.args.shard.now) (g.S.Counted.faults c.loop-left.shard)
    (g.S.Counted.faults c.read.new.self) inv.kept inv.steady c.read.ensures.sure

pub returns-then-got-eq0-clause-steady : goal.returns-then-got-eq0-clause-steady
returns-then-got-eq0-clause-steady g c =
    let inv = c.loop-left.invariant in
    steady_more (g.S.Shard.told c.args.shard.now) (g.S.Shard.told c.loop-left.shard) (g.S.Counted.faults c.args.shard.now) (g.S.Counted.faults c.loop-left.shard)
    (g.S.Counted.faults c.read.new.self) inv.kept inv.steady c.in-Ok.ensures.sure

pub returns-then-is_err-clause-steady : goal.returns-then-is_err-clause-steady
returns-then-is_err-clause-steady g c =
    let inv = c.loop-left.invariant in
    steady_more (g.S.Shard.told c.args.shard.now) (g.S.Shard.told c.loop-left.shard) (g.S.Counted.faults c.args.shard.now) (g.S.Counted.faults c.loop-left.shard)
    (g.S.Counted.faults c.read.new.self) inv.kept inv.steady c.in-Ok.ensures.sure

pub loop-left-preserved : goal.loop-left-preserved
loop-left-preserved g c =
    let inv = c.loop-left.invariant in
    let got = c.in-Ok.got in
    let read = c.in-Ok.ensures in
    let more = drop c.min-room.result c.loop-left.buf in
    let within : got ≤ length c.read.new.buf = read.bound.0 in
    let piece : List ℕ = take got c.read.new.buf in
    let same : take got (c.read.new.buf ++ more) ≡ piece = take-append-le got c.read.new.buf more within in
    let len : length piece ≡ got = length-take-le got c.read.new.buf within in
    let passed = sym c.is_err.ensures.value ∙ c.if-is_err.false in
    let written = on_ok _ c.write_at_gate.result passed c.write_at_gate.ensures.written in
    let room = on_ok _ c.write_at_gate.result passed c.write_at_gate.ensures.room in
    let fed : Fed c.loop-left.hasher c.feed.new.self piece = record {
      joined = λ m had. subst (λ (bytes : List ℕ). HasFed c.feed.new.self (m ++ bytes)) same (c.feed.ensures.joined m had);
      count = omega (arith, c.feed.ensures.count, ap (λ (bytes : List ℕ). length bytes) same);
    } in
    let left : got ≤ c.loop-left.left = omega (arith, within, read.length, c.min-room.ensures, length-take c.min-room.result c.loop-left.buf) in
    record {
      kept = read_on (g.S.Shard.told c.args.shard.now) (g.S.Shard.told c.loop-left.shard) (g.S.Shard.told c.read.new.self) inv.kept read.kept;
      buffer = grind (arith, common_steps, read.length, inv.buffer);
      name = c.write_at_gate.ensures.name ∙ inv.name;
      source = omega (arith, read.cause.later, inv.source);
      stage = omega (arith, c.write_at_gate.ensures.cause.later, inv.stage);
      steady = steady_more (g.S.Shard.told c.args.shard.now) (g.S.Shard.told c.loop-left.shard) (g.S.Counted.faults c.args.shard.now) (g.S.Counted.faults c.loop-left.shard)
          (g.S.Counted.faults c.read.new.self) inv.kept inv.steady read.sure;
      sure = c.write_at_gate.ensures.sure ∙ inv.sure;
      room = omega (arith, room, inv.room, ap (λ (bytes : List ℕ). length bytes) same, len);
      piece = inv.piece ++ piece;
      fed = fed_more c.args.hasher.now c.loop-left.hasher c.feed.new.self inv.piece piece inv.fed fed;
      stage_is = written ∙ ap (λ (bytes : List ℕ). append_known (g.W.Stage.contents c.loop-left.stage) bytes) same
          ∙ ap (λ o. append_known o piece) inv.stage_is ∙ stage_more (g.W.Stage.contents c.args.stage.now) inv.piece piece;
      took = Consumes-trans (g.S.Shard.told c.args.shard.now).left (g.S.Shard.told c.loop-left.shard).left (g.S.Shard.told c.read.new.self).left inv.piece piece inv.took read.bytes.0;
      count = omega (arith, inv.count, length-append inv.piece piece, len, left);
    }
