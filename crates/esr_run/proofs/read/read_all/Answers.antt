use Rattle.std.proofs.Common.{◌≡◌, ◌+◌, ◌≤◌, [], length, sym, arith}
use Rattle.std.specs.Vec.{vec_len}
use Rattle.std.proofs.KnownBytes.{Consumes-kept}
use Rattle.std.proofs.lemmas.Bool.{eqb-true}
use Rattle.esr_run.proofs.Reading.{nil_of, read_end, read_full, in_part_more}
use Rattle.esr_run.proofs.read.read_all.Goals as goal

pub returns-then-is_empty-clause-kept : goal.returns-then-is_empty-clause-kept
returns-then-is_empty-clause-kept g c =
    let inv = c.loop-alloc.invariant in
    let empty : vec_len c.in_ok-piece.piece ≡ 0 = eqb-true (vec_len c.in_ok-piece.piece) 0 (sym c.if-is_empty.ensures) in
    let none : c.in_ok-piece.piece.items ≡ [] = nil_of c.in_ok-piece.piece.items (omega (arith, c.in_ok-piece.piece.ok, empty)) in
    read_end (g.I.Lines.left c.args.script.now) (g.I.Lines.left c.loop-alloc.script)
    (g.I.Lines.left c.next_piece.new.script) c.loop-alloc.kept c.in_ok-piece.piece.items inv.took c.in_ok-piece.ensures.took none (c.in_ok-piece.ensures.end none) inv.few

pub returns-in_err-extend_from_slice-clause-part : goal.returns-in_err-extend_from_slice-clause-part
returns-in_err-extend_from_slice-clause-part g c =
    let inv = c.loop-alloc.invariant in
    let few : length c.loop-alloc.kept + length c.in_ok-piece.piece.items ≤ 4194305 = omega (arith, inv.few, c.in_ok-piece.ensures.few, c.min-room.ensures, c.len-in-loop-alloc.ensures) in
    in_part_more (g.I.Lines.left c.args.script.now) (g.I.Lines.left c.loop-alloc.script) (g.I.Lines.left c.next_piece.new.script) c.loop-alloc.kept c.in_ok-piece.piece.items inv.took c.in_ok-piece.ensures.took few

pub returns-clause-kept : goal.returns-clause-kept
returns-clause-kept g c =
    let inv = c.loop-alloc.invariant in
    let full : length c.loop-alloc.kept ≡ 4194305 = omega (arith, inv.few, c.len.ensures, c.loop-alloc-test.false) in
    read_full (g.I.Lines.left c.args.script.now) (g.I.Lines.left c.loop-alloc.script) c.loop-alloc.kept inv.took full

pub returns-then-is_empty-clause-part : goal.returns-then-is_empty-clause-part
returns-then-is_empty-clause-part g c =
    let inv = c.loop-alloc.invariant in
    let few : length c.loop-alloc.kept + length c.in_ok-piece.piece.items ≤ 4194305 = omega (arith, inv.few, c.in_ok-piece.ensures.few, c.min-room.ensures, c.len-in-loop-alloc.ensures) in
    in_part_more (g.I.Lines.left c.args.script.now) (g.I.Lines.left c.loop-alloc.script) (g.I.Lines.left c.next_piece.new.script) c.loop-alloc.kept c.in_ok-piece.piece.items inv.took c.in_ok-piece.ensures.took few

pub returns-in_err-piece-clause-part : goal.returns-in_err-piece-clause-part
returns-in_err-piece-clause-part g c =
    let inv = c.loop-alloc.invariant in
    record {
      bytes = c.loop-alloc.kept;
      took = Consumes-kept (g.I.Lines.left c.args.script.now) (g.I.Lines.left c.loop-alloc.script) (g.I.Lines.left c.next_piece.new.script) c.loop-alloc.kept inv.took c.in_err-piece.ensures.kept;
      few = inv.few;
    }
