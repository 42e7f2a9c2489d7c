use Rattle.std.proofs.Common.{ℕ, Bool, eqb, Option, Some, option_map, ap, ◌∙◌, sym}
use Rattle.std.specs.List.{position}
use Rattle.std.specs.FinMap as fin
use Rattle.esr_core.specs.World.{Op}
use Rattle.esr_core.specs.Steps.{all_done}
use Rattle.esr_ops.specs.Plan.{Plan}
use Rattle.esr_progress.specs.Changes.{op_marked}
use Rattle.esr_progress.proofs.Changing.{missed_op, found_op}
use Rattle.esr_progress.proofs.progress.Progress.completes.Goals as goal

pub returns-in_err-at : goal.returns-in_err-at
returns-in_err-at c r =
    let missed = sym (c.place.ensures ∙ ap (position (λ (e : ℕ × Op). eqb e.0 c.args.number)) c.deref.ensures.value) ∙ c.in_err-at.was in
    c.from_residual.ensures ∙ sym (ap (option_map (λ (op : Op). all_done (op_marked c.args.ticket r op).shards)) (missed_op c.self.inside.ops.items c.args.number missed))
    ∙ ap (λ (p : Plan). option_map (λ (op : Op). all_done (op_marked c.args.ticket r op).shards) (fin.get p.ops c.args.number)) c.self.view_is

pub returns : goal.returns
returns c r =
    let found = sym (c.place.ensures ∙ ap (position (λ (e : ℕ × Op). eqb e.0 c.args.number)) c.deref.ensures.value) ∙ c.in_ok-at.was in
    ap {B = Option Bool} Some (c.completes.ensures r)
    ∙ sym (ap (option_map (λ (op : Op). all_done (op_marked c.args.ticket r op).shards)) (found_op c.self.inside.ops.items c.args.number c.in_ok-at.at c.index.result.now found c.index.ensures))
    ∙ ap (λ (p : Plan). option_map (λ (op : Op). all_done (op_marked c.args.ticket r op).shards) (fin.get p.ops c.args.number)) c.self.view_is
