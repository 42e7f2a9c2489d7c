use Rattle.std.proofs.Common.{◌≡◌, ℕ, eqb, Some, map, true≢false, sym, ap, ◌∙◌, subst}
use Rattle.std.specs.List.{position}
use Rattle.std.specs.FinMap as fin
use Rattle.std.proofs.lemmas.Option.{none-some, same_Some}
use Rattle.esr_core.specs.World.{Op}
use Rattle.esr_core.specs.Steps.{all_done}
use Rattle.esr_results.specs.Results.{result_of}
use Rattle.esr_ops.specs.declared.unit.Work.{Work}
use Rattle.esr_ops.specs.Plan.{Plan}
use Rattle.esr_ops.specs.Ops.{IsFinalWork}
use Rattle.esr_progress.proofs.Choices.{all_done_by}
use Rattle.esr_progress.proofs.Changing.{missed_op, found_op}
use Rattle.esr_progress.proofs.progress.Progress.finalized_info.Goals as goal

pub returns-in_default-clause-none : goal.returns-in_default-clause-none
returns-in_default-clause-none c same x results there done =
    let missed = sym (c.place.ensures ∙ ap (position (λ (e : ℕ × Op). eqb e.0 c.args.op)) c.deref.ensures.value) ∙ c.in_default.is in
    none-some x (sym (missed_op c.self.inside.ops.items c.args.op missed) ∙ ap (λ (p : Plan). fin.get p.ops c.args.op) c.self.view_is ∙ there)

pub returns-then-not-is_done-clause-none : goal.returns-then-not-is_done-clause-none
returns-then-not-is_done-clause-none c same x results there done =
    let found = sym (c.place.ensures ∙ ap (position (λ (e : ℕ × Op). eqb e.0 c.args.op)) c.deref.ensures.value) ∙ c.in-Some.is in
    let got : fin.get c.args.self.now.ops c.args.op ≡ Some c.index-open.result.now.1 =
    sym (ap (λ (p : Plan). fin.get p.ops c.args.op) c.self.view_is) ∙ found_op c.self.inside.ops.items c.args.op c.in-Some.at c.index-open.result.now found c.index-open.ensures in
    let one : c.index-open.result.now.1 ≡ x = same_Some _ _ (sym got ∙ there) in
    true≢false (sym (all_done_by x.shards results done) ∙ ap (λ (o : Op). all_done o.shards) (sym one) ∙ sym c.is_done.ensures ∙ c.if-not-is_done.true)

pub returns-clause-info : goal.returns-clause-info
returns-clause-info c =
    let found = sym (c.place.ensures ∙ ap (position (λ (e : ℕ × Op). eqb e.0 c.args.op)) c.deref.ensures.value) ∙ c.in-Some.is in
    let got : fin.get c.args.self.now.ops c.args.op ≡ Some c.index-open.result.now.1 =
    sym (ap (λ (p : Plan). fin.get p.ops c.args.op) c.self.view_is) ∙ found_op c.self.inside.ops.items c.args.op c.in-Some.at c.index-open.result.now found c.index-open.ensures in
    let final = subst (λ (w : Work). IsFinalWork c.index-open.result.now.1 w) c.in-Finalize.is (c.in_ok-info.ensures) in
    (c.index-open.result.now.1, got, map result_of c.in-Finalize.shards, final.0, final.1)
