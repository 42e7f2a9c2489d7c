use Rattle.std.proofs.Common.{ℕ, Bool, map, cond, sym, ap, ◌∙◌}
use Rattle.esr_core.specs.World.{Deletion}
use Rattle.esr_formats.specs.Ids.{number_of}
use Rattle.esr_ops.specs.Deletes.{grown}
use Rattle.esr_progress.specs.Lowest.{ok_maps}
use Rattle.esr_accept.proofs.delete.grown.Goals as goal

pub returns-then-has_number : goal.returns-then-has_number
returns-then-has_number c =
    let x : ℕ × Deletion = c.args.delete.now in
    let now : ℕ × Deletion = (x.0, grown (map number_of c.args.uuids.now) x.1) in
    ok_maps c.grown.result c.grown.ensures (λ d e. e ∙ ap (λ (b : Bool). cond b now x) (sym (sym c.has_number.ensures ∙ c.if-has_number.true)))

pub returns : goal.returns
returns c =
    let x : ℕ × Deletion = c.args.delete.now in
    let now : ℕ × Deletion = (x.0, grown (map number_of c.args.uuids.now) x.1) in
    ok_maps c.try_clone.result c.try_clone.ensures (λ d e. e ∙ ap (λ (b : Bool). cond b now x) (sym (sym c.has_number.ensures ∙ c.if-has_number.false)))
