use Rattle.std.proofs.Common.{◌≡◌, ◌+◌, ◌<◌, ◌≤◌, ◌++◌, [], refl, length, take, option_map, ap, sym, ◌∙◌, arith, ℕ}
use Rattle.std.proofs.lemmas.List.{length-take-le}
use Rattle.esr_source.specs.Begun.{more}
use Rattle.esr_source.specs.Told.{TargetTold}
use Rattle.esr_parts.proofs.Pieces.{on_ok, on_err}
use Rattle.esr_parts.proofs.Taking.{taken_more, length_more, grown_more, read_to_end, read_past, broke}
use Rattle.esr_parts.proofs.back.read_back.Goals as goal

pub returns-in_default-clause-broken : goal.returns-in_default-clause-broken
returns-in_default-clause-broken g c =
    let inv = c.loop-got.invariant in
    broke (g.F.Fetch.left c.args.fetch.now) (g.F.Fetch.left c.loop-got.fetch) (g.F.Fetch.left c.next_piece.new.fetch) c.args.hasher.now c.loop-got.hasher c.next_piece.new.hasher
    inv.piece inv.taken c.args.size c.loop-got.missing inv.count (g.T.Target.told c.args.target.now).begun (g.T.Target.told c.loop-got.target).begun inv.grew
    (g.T.Target.told c.loop-got.target).begun [] c.in_default.ensures.err (omega arith) refl

pub returns-then-got-eq0-clause-back : goal.returns-then-got-eq0-clause-back
returns-then-got-eq0-clause-back g c =
    let inv = c.loop-got.invariant in
    read_to_end (g.F.Fetch.left c.args.fetch.now) (g.F.Fetch.left c.loop-got.fetch) (g.F.Fetch.left c.next_piece.new.fetch) c.args.hasher.now c.loop-got.hasher c.next_piece.new.hasher
    inv.piece inv.taken c.args.size c.loop-got.missing inv.count (g.T.Target.told c.args.target.now).begun (g.T.Target.told c.loop-got.target).begun inv.grew
    c.extent_at_end.result c.in-Ok.got c.next_piece.new.buf c.in-Ok.ensures.next c.if-got-eq0.true (record { whole = c.extent_at_end.ensures.whole; short = c.extent_at_end.ensures.short })

pub returns-then-is_err-clause-broken : goal.returns-then-is_err-clause-broken
returns-then-is_err-clause-broken g c =
    let inv = c.loop-got.invariant in
    let next = c.in-Ok.ensures.next in
    let short : length (take c.in-Ok.got c.next_piece.new.buf) ≤ c.loop-got.missing + 1 = omega (arith, next.bound, length-take-le c.in-Ok.got c.next_piece.new.buf next.fits) in
    let stays = ap (λ (t : TargetTold). t.begun) (on_err _ c.write.result (sym c.is_err.ensures.value ∙ c.if-is_err.true) c.write.ensures.err) in
    broke (g.F.Fetch.left c.args.fetch.now) (g.F.Fetch.left c.loop-got.fetch) (g.F.Fetch.left c.next_piece.new.fetch) c.args.hasher.now c.loop-got.hasher c.next_piece.new.hasher
    inv.piece inv.taken c.args.size c.loop-got.missing inv.count (g.T.Target.told c.args.target.now).begun (g.T.Target.told c.loop-got.target).begun inv.grew
    (g.T.Target.told c.write.new.self).begun (take c.in-Ok.got c.next_piece.new.buf) c.in-Ok.ensures.next.taken short stays

pub returns-then-got-within-clause-back : goal.returns-then-got-within-clause-back
returns-then-got-within-clause-back g c =
    let inv = c.loop-got.invariant in
    let wrote = ap (λ (t : TargetTold). t.begun) (on_ok _ c.write.result (sym c.is_err.ensures.value ∙ c.if-is_err.false) c.write.ensures.ok) in
    let past : c.loop-got.missing < c.in-Ok.got = omega (arith, c.if-got-within.true, c.min-within.ensures) in
    let front : c.min-within.result ≡ c.loop-got.missing = omega (arith, past, c.min-within.ensures) in
    read_past (g.F.Fetch.left c.args.fetch.now) (g.F.Fetch.left c.loop-got.fetch) (g.F.Fetch.left c.next_piece.new.fetch) c.args.hasher.now c.loop-got.hasher c.next_piece.new.hasher
    inv.piece inv.taken c.args.size c.loop-got.missing inv.count (g.T.Target.told c.args.target.now).begun (g.T.Target.told c.loop-got.target).begun inv.grew
    (g.T.Target.told c.write.new.self).begun c.in-Ok.got c.min-within.result c.next_piece.new.buf c.in-Ok.ensures.next front past wrote

pub returns-then-got-eq0-clause-steady : goal.returns-then-got-eq0-clause-steady
returns-then-got-eq0-clause-steady g c = c.loop-got.invariant.steady

pub returns-then-got-within-clause-steady : goal.returns-then-got-within-clause-steady
returns-then-got-within-clause-steady g c = on_ok _ c.write.result (sym c.is_err.ensures.value ∙ c.if-is_err.false) c.write.ensures.steady ∙ c.loop-got.invariant.steady

pub returns-then-is_err-clause-files : goal.returns-then-is_err-clause-files
returns-then-is_err-clause-files g c = ap (λ (t : TargetTold). t.files) (on_err _ c.write.result (sym c.is_err.ensures.value ∙ c.if-is_err.true) c.write.ensures.err) ∙ c.loop-got.invariant.files

pub returns-then-is_err-clause-made_for : goal.returns-then-is_err-clause-made_for
returns-then-is_err-clause-made_for g c = ap (λ (t : TargetTold). t.made_for) (on_err _ c.write.result (sym c.is_err.ensures.value ∙ c.if-is_err.true) c.write.ensures.err) ∙ c.loop-got.invariant.made_for

pub returns-then-is_err-clause-target_sure : goal.returns-then-is_err-clause-target_sure
returns-then-is_err-clause-target_sure g c = ap (λ (t : TargetTold). t.is_sure) (on_err _ c.write.result (sym c.is_err.ensures.value ∙ c.if-is_err.true) c.write.ensures.err) ∙ c.loop-got.invariant.target_sure

pub returns-then-got-within-clause-files : goal.returns-then-got-within-clause-files
returns-then-got-within-clause-files g c = ap (λ (t : TargetTold). t.files) (on_ok _ c.write.result (sym c.is_err.ensures.value ∙ c.if-is_err.false) c.write.ensures.ok) ∙ c.loop-got.invariant.files

pub returns-then-got-within-clause-made_for : goal.returns-then-got-within-clause-made_for
returns-then-got-within-clause-made_for g c = ap (λ (t : TargetTold). t.made_for) (on_ok _ c.write.result (sym c.is_err.ensures.value ∙ c.if-is_err.false) c.write.ensures.ok) ∙ c.loop-got.invariant.made_for

pub returns-then-got-within-clause-target_sure : goal.returns-then-got-within-clause-target_sure
returns-then-got-within-clause-target_sure g c = ap (λ (t : TargetTold). t.is_sure) (on_ok _ c.write.result (sym c.is_err.ensures.value ∙ c.if-is_err.false) c.write.ensures.ok) ∙ c.loop-got.invariant.target_sure

pub loop-got-preserved : goal.loop-got-preserved
loop-got-preserved g c =
    let inv = c.loop-got.invariant in
    let next = c.in-Ok.ensures.next in
    let buf = c.next_piece.new.buf in
    let got = c.in-Ok.got in
    let a = g.F.Fetch.left c.args.fetch.now in
    let b = g.F.Fetch.left c.loop-got.fetch in
    let d = g.F.Fetch.left c.next_piece.new.fetch in
    let o = (g.T.Target.told c.args.target.now).begun in
    let all : c.min-within.result ≡ got = omega (arith, c.if-got-within.false, c.min-within.ensures) in
    let did = on_ok _ c.write.result (sym c.is_err.ensures.value ∙ c.if-is_err.false) c.write.ensures.ok in
    let wrote = ap (λ (t : TargetTold). t.begun) did in
    let piece = take got buf in
    record {
      files = ap (λ (t : TargetTold). t.files) did ∙ inv.files;
      made_for = ap (λ (t : TargetTold). t.made_for) did ∙ inv.made_for;
      buffer = c.next_piece.ensures.buffer ∙ inv.buffer;
      fetch = omega (arith, c.next_piece.ensures.cause.later, inv.fetch);
      target = omega (arith, c.write.ensures.cause.later, inv.target);
      fetch_sure = c.next_piece.ensures.sure ∙ inv.fetch_sure;
      target_sure = ap (λ (t : TargetTold). t.is_sure) did ∙ inv.target_sure;
      steady = on_ok _ c.write.result (sym c.is_err.ensures.value ∙ c.if-is_err.false) c.write.ensures.steady ∙ inv.steady;
      piece = inv.piece ++ piece;
      taken = taken_more a b d c.args.hasher.now c.loop-got.hasher c.next_piece.new.hasher inv.piece inv.taken piece next.taken;
      grew = grown_more o (g.T.Target.told c.loop-got.target).begun (g.T.Target.told c.write.new.self).begun inv.piece piece inv.grew
          (wrote ∙ ap (λ (n : ℕ). option_map (more (take n buf)) (g.T.Target.told c.loop-got.target).begun) all);
      count = omega (arith, inv.count, length_more a b d c.args.hasher.now c.loop-got.hasher c.next_piece.new.hasher inv.piece inv.taken c.loop-got.missing got buf next, all, c.if-got-within.false, c.min-within.ensures);
    }
