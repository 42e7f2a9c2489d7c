use Rattle.std.proofs.Common.{ℕ, List, map, refl, sym, ap, ◌∙◌, subst}
use Rattle.esr_names.specs.declared.index_ref.IndexRef.{IndexRef as CodeRef}
use Rattle.esr_record.specs.declared.op.Making.{Making}
use Rattle.esr_core.specs.Generations.{OpTexts}
use Rattle.esr_formats.specs.Refs.{ref_of_code, AreApart}
use Rattle.esr_formats.specs.Formats.{formats}
use Rattle.esr_accept.specs.Asking.{clone_begun}
use Rattle.esr_progress.specs.Lowest.{ok_maps}
use Rattle.esr_accept.proofs.Cloned.{cloned_is, plan_cloned}
use Rattle.esr_accept.proofs.clone.open_clone.Goals as goal

pub making_can_be_written-requires : goal.making_can_be_written-requires
making_can_be_written-requires c = subst (λ (refs : List CodeRef). AreApart (map ref_of_code refs)) (sym c.in_ok-try_clone.ensures) c.requires.apart

pub begin_clone-requires-clause-apart : goal.begin_clone-requires-clause-apart
begin_clone-requires-clause-apart c = subst (λ (refs : List CodeRef). AreApart (map ref_of_code refs)) (sym c.in_ok-try_clone.ensures) c.requires.apart

pub returns-clause-plan : goal.returns-clause-plan
returns-clause-plan c =
    let m : Making = record { indices = c.in_ok-try_clone.field-0; moment = c.args.moment; name = c.in_ok-try_clone-2.field-0; uuid = c.args.next } in
    let indices = map ref_of_code c.args.indices.now in
    ok_maps c.with_op.result c.with_op.ensures
    (λ p e w is next_is.
    plan_cloned w c.args.progress.now is c.args.name.now c.args.moment (record { source = c.args.source.number; indices = indices }) (clone_begun m c.args.source.number)
    (cloned_is w m c.args.name.now c.args.moment c.args.source.number c.args.next.number indices c.in_ok-try_clone-2.ensures refl refl next_is (ap (λ (refs : List CodeRef). map ref_of_code refs) c.in_ok-try_clone.ensures)) c.in_ok-op.op
    (c.in_ok-op.ensures ∙ ap (λ (n : ℕ). (n, clone_begun m c.args.source.number)) c.next_op.ensures) p e)

pub returns-clause-texts : goal.returns-clause-texts
returns-clause-texts c =
    let m : Making = record { indices = c.in_ok-try_clone.field-0; moment = c.args.moment; name = c.in_ok-try_clone-2.field-0; uuid = c.args.next } in
    let indices = map ref_of_code c.args.indices.now in
    ok_maps c.with_op.result c.with_op.ensures
    (λ p e w next_is known told.
    subst (OpTexts (formats known told))
    (cloned_is w m c.args.name.now c.args.moment c.args.source.number c.args.next.number indices c.in_ok-try_clone-2.ensures refl refl next_is (ap (λ (refs : List CodeRef). map ref_of_code refs) c.in_ok-try_clone.ensures))
    (c.making_can_be_written.ensures.written known told))
