use Rattle.std.proofs.Common.{ℕ, List, [], map, sym, ap, ◌∙◌, subst}
use Rattle.esr_names.specs.declared.ids.Id.{Id}
use Rattle.esr_core.specs.World.{Deletion}
use Rattle.esr_formats.specs.Ids.{number_of}
use Rattle.esr_record.specs.Op.{AreUuids}
use Rattle.esr_ops.specs.Deletes.{grown, with_uuids}
use Rattle.esr_ops.proofs.delete.OpenDelete.grown.Goals as goal

pub with_uuids-requires : goal.with_uuids-requires
with_uuids-requires c = subst (AreUuids []) (sym c.as_slice.ensures) c.self.invariant

pub invariant_of-result : goal.invariant_of-result
invariant_of-result c = c.in_ok-with_uuids.ensures.valid

pub returns : goal.returns
returns c =
    let s = c.self.inside in
    let uuids = map number_of c.args.uuids.now in
    let named = c.in_ok-with_uuids.ensures.named ∙ ap (λ (us : List Id). with_uuids (map number_of us) uuids) c.as_slice.ensures in
    let now : List ℕ → Deletion = λ (us : List ℕ). record { uuids = us; clean = s.clean; failed = s.failed } in
    ap (λ (us : List ℕ). (s.number, now us)) named ∙ ap (λ (x : ℕ × Deletion). (x.0, grown uuids x.1)) c.self.view_is
