use Rattle.std.proofs.Common.{ℕ, suc, ◌+◌, ◌<◌, ◌^◌, sym, ◌∙◌, subst, arith}
use Rattle.esr_model.specs.Kept.{first_id}
use Rattle.esr_formats.specs.Roots.{root_of}
use Rattle.esr_test_lists.specs.Board.{IsBoard}
use Rattle.esr_test_lists.proofs.Boards.{few_ops, asked_in, accepted, renewed}
use Rattle.esr_test_lists.proofs.board.Board.snapshot.Goals as goal

pub accept-requires-clause-named : goal.accept-requires-clause-named
accept-requires-clause-named c = c.self.invariant.named c.if-self.false

pub accept-requires-clause-in_term : goal.accept-requires-clause-in_term
accept-requires-clause-in_term c = c.self.invariant.in_term

pub accept-requires-clause-term : goal.accept-requires-clause-term
accept-requires-clause-term c = c.self.invariant.low_term

pub accept-requires-clause-room : goal.accept-requires-clause-room
accept-requires-clause-room c = few_ops c.self.inside.list.next_op (sym c.is_long.ensures ∙ c.if-is_long.false)

pub overflow_add-after : goal.overflow_add-after
overflow_add-after c =
    let h = c.in_ok-list.ensures _ (asked_in c.self.invariant) in
    let fits : c.self.inside.next.number + c.in_ok-list.accepted.drawn < first_id (suc c.self.inside.term) = h.1.fits in
    let low : c.self.inside.term < 2 ^ 63 = c.self.invariant.low_term in
    omega (arith, fits, low, c.from.ensures)

pub invariant_of-self : goal.invariant_of-self
invariant_of-self c =
    renewed (subst (λ (drawn : ℕ). IsBoard c.in_ok-list.list (root_of c.self.inside.root) c.self.inside.term (c.self.inside.next.number + drawn) c.self.inside.given c.self.inside.begun) (sym c.from.ensures)
    (accepted c.self.invariant c.in_ok-list.list c.in_ok-list.accepted c.args.command.now c.requires.askable c.if-self.false (c.in_ok-list.ensures _ (asked_in c.self.invariant)))) c.renew.new.list c.renew.ensures
