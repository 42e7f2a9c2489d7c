use Rattle.std.proofs.Common.{◌++◌, take, arith, ◌∙◌}
use Rattle.esr_parts.proofs.Taking.{taken_more, length_more, hashed_past}
use Rattle.esr_parts.proofs.back.hash_back.Goals as goal

pub returns-then-got-missing-clause-back : goal.returns-then-got-missing-clause-back
returns-then-got-missing-clause-back g c =
    let inv = c.loop-got.invariant in
    hashed_past (g.F.Fetch.left c.args.fetch.now) (g.F.Fetch.left c.loop-got.fetch) (g.F.Fetch.left c.next_piece.new.fetch) c.args.hasher.now c.loop-got.hasher c.next_piece.new.hasher
    inv.piece inv.taken c.args.size c.loop-got.missing inv.count c.in_ok-got.got c.next_piece.new.buf c.in_ok-got.ensures.next c.if-got-missing.true

pub loop-got-preserved : goal.loop-got-preserved
loop-got-preserved g c =
    let inv = c.loop-got.invariant in
    let next = c.in_ok-got.ensures.next in
    let buf = c.next_piece.new.buf in
    let got = c.in_ok-got.got in
    let a = g.F.Fetch.left c.args.fetch.now in
    let b = g.F.Fetch.left c.loop-got.fetch in
    let d = g.F.Fetch.left c.next_piece.new.fetch in
    record {
      buffer = c.in_ok-got.ensures.buffer ∙ inv.buffer;
      later = omega (arith, c.in_ok-got.ensures.cause.later, inv.later);
      sure = c.in_ok-got.ensures.sure ∙ inv.sure;
      piece = inv.piece ++ take got buf;
      taken = taken_more a b d c.args.hasher.now c.loop-got.hasher c.next_piece.new.hasher inv.piece inv.taken (take got buf) next.taken;
      count = omega (arith, inv.count, length_more a b d c.args.hasher.now c.loop-got.hasher c.next_piece.new.hasher inv.piece inv.taken c.loop-got.missing got buf next, c.if-got-missing.false);
    }
