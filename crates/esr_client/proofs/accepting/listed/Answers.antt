use Rattle.std.proofs.Common.{ℕ, suc, ◌<◌, ◌^◌, inl, inr, sym, subst}
use Rattle.esr_model.specs.Kept.{first_id}
use Rattle.esr_ops.specs.declared.command.Command.{Command}
use Rattle.esr_ops.specs.Asked.{asked_of, IsAskable, IsForOp}
use Rattle.esr_accept.specs.Accepting.{Accepting}
use Rattle.esr_desk.specs.Start.{world_of}
use Rattle.esr_client.specs.Asked.{IsListed}
use Rattle.esr_client.proofs.Accepts.{asked_in, listed_delete, listed_cleanup, accepting_fits, op_fits}
use Rattle.esr_client.proofs.accepting.listed.Goals as goal

pub unreachable-requires : goal.unreachable-requires
unreachable-requires g c =
    elim c.in-Clone.is [
      | inl clone ↦ subst (λ (x : Command). IsForOp (asked_of x)) clone.4 c.requires.may
      | inr restore ↦ subst (λ (x : Command). IsForOp (asked_of x)) restore.2 c.requires.may
    ]

-- ---- a snapshot

pub accept-requires-clause-askable : goal.accept-requires-clause-askable
accept-requires-clause-askable g c = subst (λ (x : Command). IsAskable (asked_of x)) (sym c.in-Create.is) (subst (λ (x : Command). IsForOp (asked_of x)) c.in-Create.is c.requires.may)

pub returns-in-Create-clause-listed : goal.returns-in-Create-clause-listed
returns-in-Create-clause-listed g c =
    let w = world_of g.K.Told.start c.args.repo.now in
    let asked = asked_in w c.plan-list.result.now c.safe_root-root.result.now c.term-term.result c.next_id-first.result.number c.plan-list.ensures c.safe_root-root.ensures c.term-term.ensures.term c.next_id-first.ensures.number in
    subst (λ (x : Command). IsListed w (asked_of x) c.accept.result) (sym c.in-Create.is) (subst (λ (x : Command). Accepting w (asked_of x) c.accept.result) c.in-Create.is (c.accept.ensures w asked))

pub returns-in-Create-clause-fits : goal.returns-in-Create-clause-fits
returns-in-Create-clause-fits g c =
    let w = world_of g.K.Told.start c.args.repo.now in
    let most : w.term < 2 ^ 63 = subst (λ (n : ℕ). n < 2 ^ 63) c.term-term.ensures.term c.term-term.ensures.most in
    let asked = asked_in w c.plan-list.result.now c.safe_root-root.result.now c.term-term.result c.next_id-first.result.number c.plan-list.ensures c.safe_root-root.ensures c.term-term.ensures.term c.next_id-first.ensures.number in
    accepting_fits w (asked_of c.args.command.now) c.accept.result most (c.accept.ensures w asked)

-- ---- a delete

pub returns-in-Delete-clause-listed : goal.returns-in-Delete-clause-listed
returns-in-Delete-clause-listed g c =
    let w = world_of g.K.Told.start c.args.repo.now in
    let accepting = c.accept_delete.ensures w c.plan-list.ensures (sym c.safe_root-root.ensures) (sym c.term-term.ensures.term) in
    subst (λ (x : Command). IsListed w (asked_of x) c.as_op.result) (sym c.in-Delete.is) (listed_delete w c.in-Delete.names c.accept_delete.result c.as_op.result c.as_op.ensures accepting)

pub returns-in-Delete-clause-fits : goal.returns-in-Delete-clause-fits
returns-in-Delete-clause-fits g c =
    let w = world_of g.K.Told.start c.args.repo.now in
    let most : w.term < 2 ^ 63 = subst (λ (n : ℕ). n < 2 ^ 63) c.term-term.ensures.term c.term-term.ensures.most in
    let below : w.next_id < first_id (suc w.term) = subst (λ (n : ℕ). n < first_id (suc w.term)) c.next_id-first.ensures.number c.next_id-first.ensures.below in
    op_fits w c.accept_delete.result c.as_op.result most below c.as_op.ensures

-- ---- a cleanup

pub returns-in-Cleanup-clause-listed : goal.returns-in-Cleanup-clause-listed
returns-in-Cleanup-clause-listed g c =
    let w = world_of g.K.Told.start c.args.repo.now in
    subst (λ (x : Command). IsListed w (asked_of x) c.as_op-in-Cleanup.result) (sym c.in-Cleanup.is) (listed_cleanup w c.accept_cleanup.result c.as_op-in-Cleanup.result c.as_op-in-Cleanup.ensures (c.accept_cleanup.ensures w c.plan-list.ensures))

pub returns-in-Cleanup-clause-fits : goal.returns-in-Cleanup-clause-fits
returns-in-Cleanup-clause-fits g c =
    let w = world_of g.K.Told.start c.args.repo.now in
    let most : w.term < 2 ^ 63 = subst (λ (n : ℕ). n < 2 ^ 63) c.term-term.ensures.term c.term-term.ensures.most in
    let below : w.next_id < first_id (suc w.term) = subst (λ (n : ℕ). n < first_id (suc w.term)) c.next_id-first.ensures.number c.next_id-first.ensures.below in
    op_fits w c.accept_cleanup.result c.as_op-in-Cleanup.result most below c.as_op-in-Cleanup.ensures
