use Rattle.std.proofs.Common.{◌+◌, List, [], map, take, get_or, sym, ap, ◌∙◌, subst}
use Rattle.std.proofs.lemmas.Bool.{true≢false}
use Rattle.esr_model.specs.Loops.{all, item_is}
use Rattle.esr_names.specs.declared.blob.BlobName.{BlobName as CodeName}
use Rattle.esr_names.specs.declared.blob.BlobName.TheVariants as code
use Rattle.esr_formats.specs.Names.{name_of}
use Rattle.esr_model.specs.Names.{BlobName}
use Rattle.esr_reach.specs.Names.{IsWithout, NoneLeft}
use Rattle.esr_reach.specs.NameSets.{IsSetOf}
use Rattle.esr_reach.proofs.Sets.{left_next, kept_next, without_names, without_once}
use Rattle.esr_reach.proofs.doomed.doomed_by_delete.Goals as goal
use Rattle.esr_reach.proofs.doomed.doomed_by_delete.Goals.{then-not-contains+in_ok-push, else-not-contains}

pub loop-name-init : goal.loop-name-init
loop-name-init c = subst (λ (rest : List CodeName). IsWithout (map name_of c.args.new.now) [] (map name_of rest)) (sym c.new-doomed.ensures) NoneLeft

pub loop-name-preserved : goal.loop-name-preserved
loop-name-preserved c =
    let xs = c.as_slice-name-items.result.now in
    let i = c.loop-name.name-index in
    let less = c.loop-name-test.true in
    let x : CodeName = get_or xs i (code.Root 0) in
    let is = item_is xs i (code.Root 0) less in
    let new = map name_of c.args.new.now in
    let set : IsSetOf c.in_ok-kept.kept c.args.new.now = subst (IsSetOf c.in_ok-kept.kept) c.as_slice.ensures c.in_ok-kept.ensures in
    elim c.if-not-contains.branch [
      | then-not-contains+in_ok-push w ↦
          subst (λ (rest : List CodeName). IsWithout new (map name_of (take (i + 1) xs)) (map name_of rest)) (sym w.doomed-is)
          (kept_next new xs i x less is c.loop-name.doomed w.push.new.self w.in_ok-push.ensures.ok c.loop-name.invariant (λ has. true≢false (sym ((set x).1 has) ∙ sym c.contains.ensures ∙ w.if-not-contains.true)))
      | else-not-contains w ↦
          subst (λ (rest : List CodeName). IsWithout new (map name_of (take (i + 1) xs)) (map name_of rest)) (sym w.doomed-is)
          (left_next new xs i x less is c.loop-name.doomed c.loop-name.invariant ((set x).0 (sym c.contains.ensures ∙ w.if-not-contains.false)))
    ]

without : (c : goal.After-drop-kept-2) → IsWithout (map name_of c.args.new.now) (map name_of c.args.old.now) (map name_of c.loop-name.doomed)
without c =
    let xs = c.as_slice-name-items.result.now in
    subst (λ (old : List BlobName). IsWithout (map name_of c.args.new.now) old (map name_of c.loop-name.doomed)) (all name_of xs c.loop-name.name-index c.loop-name-test.false ∙ ap (map name_of) c.as_slice-name-items.ensures)
    c.loop-name.invariant

pub returns-clause-names : goal.returns-clause-names
returns-clause-names c = without_names (map name_of c.args.new.now) (map name_of c.args.old.now) c.loop-name.doomed (without c)

pub returns-clause-once : goal.returns-clause-once
returns-clause-once c = without_once (map name_of c.args.new.now) (map name_of c.args.old.now) (map name_of c.loop-name.doomed) (without c)

pub returns-clause-order : goal.returns-clause-order
returns-clause-order c = without c
