use Rattle.std.proofs.Common.{◌≡◌, ◌+◌, false, List, [], ◌∷◌, drop, map, sym, ap, subst, ◌∙◌, arith}
use Rattle.std.specs.List.{list_any}
use Rattle.std.proofs.lemmas.List.{at_drop_more}
use Rattle.serde_json.specs.View.{view}
use Rattle.serde_json.specs.declared.value.Value.{Value}
use Rattle.esr_names.specs.declared.index_ref.IndexRef.{IndexRef}
use Rattle.esr_names.specs.Indices.{refs_from, clashes, AreRefs}
use Rattle.esr_names.proofs.Distinct.{refs_from_push, AreRefs_push}
use Rattle.esr_names.proofs.indices.refs_of.Goals as goal

pub loop-value-preserved : goal.loop-value-preserved
loop-value-preserved c =
    let refs : List IndexRef = c.loop-value.refs in
    let rest : List Value = drop (c.loop-value.value-index + 1) c.args.values.now in
    let turn = at_drop_more (λ (xs : List Value). refs_from refs (map view xs)) c.args.values.now c.loop-value.value-index c.value-item.result (omega arith) in
    let item = ap (λ (v : Value). refs_from refs (view v ∷ map view rest)) (sym c.value-item.is) in
    let fresh : list_any (clashes c.in_ok-index.index) refs ≡ false = ap (list_any (clashes c.in_ok-index.index)) (sym c.as_slice.ensures) ∙ sym c.is_listed.ensures ∙ c.if-is_listed.false in
    let step = refs_from_push refs c.in_ok-index.index (view c.value-item.result) (map view rest) c.in_ok-index.ensures.exact fresh in
    let pushed = c.in_ok-push.ensures.ok in (
      c.loop-value.invariant.0 ∙ turn ∙ item ∙ step ∙ ap (λ (rs : List IndexRef). refs_from rs (map view rest)) (sym pushed),
      subst (AreRefs []) (sym pushed) (AreRefs_push refs c.in_ok-index.index c.loop-value.invariant.1 c.in_ok-index.ensures.valid fresh),
    )
