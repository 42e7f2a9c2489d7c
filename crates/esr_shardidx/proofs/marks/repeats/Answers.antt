use Rattle.std.proofs.Common.{◌≡◌, true, false, arith, ◌<◌, length, refl, sym, ◌∙◌}
use Rattle.std.proofs.lemmas.Bool.{not-true, not-false}
use Rattle.esr_names.specs.declared.ids.Id.{Id}
use Rattle.esr_shardidx.proofs.Repeats.{Holds-none, Holds-next, repeats-at, repeats-next}
use Rattle.esr_shardidx.proofs.marks.repeats.Goals as goal

pub loop-id-init : goal.loop-id-init
loop-id-init c = (Holds-none (λ (u : Id). u.number) _ c.new-before.ensures.empty, refl)

pub returns-then-not-branch : goal.returns-then-not-branch
returns-then-not-branch c =
    let within : c.loop-id.id-index < length c.args.ids.now = omega arith in
    let there = not-false _ (sym c.in_ok-insert.ensures.added ∙ c.if-not-branch.true) in
    sym (repeats-at c.args.ids.now c.loop-id.id-index _ within (sym (c.loop-id.invariant.0 _) ∙ there))

pub loop-id-preserved : goal.loop-id-preserved
loop-id-preserved c =
    let within : c.loop-id.id-index < length c.args.ids.now = omega arith in
    let fresh = not-true _ (sym c.in_ok-insert.ensures.added ∙ c.if-not-branch.false) in (
      Holds-next (λ (u : Id). u.number) _ _ c.args.ids.now c.loop-id.id-index _ within c.loop-id.invariant.0 c.in_ok-insert.ensures.updates,
      repeats-next c.args.ids.now c.loop-id.id-index _ within c.loop-id.invariant.1 (sym (c.loop-id.invariant.0 _) ∙ fresh),
    )
