use Rattle.std.proofs.Common.{◌&&◌, ◌||◌, ℕ, Bool, List, map, sym, ap, ◌∙◌, subst}
use Rattle.std.specs.Ordering.{nat_cmp}
use Rattle.std.specs.BTreeSet.{BTreeSet, contains}
use Rattle.esr_model.specs.Loops.{all}
use Rattle.esr_names.specs.declared.ids.Id.{Id}
use Rattle.esr_formats.specs.Ids.{number_of}
use Rattle.esr_formats.specs.Shards.{snap_list_of}
use Rattle.esr_model.specs.Values.{SnapList}
use Rattle.esr_dooming.specs.Pieces.{is_one}
use Rattle.esr_dooming.proofs.Numbers.{HasFiles, files_none, files_more, no_more}
use Rattle.esr_dooming.proofs.sets.file_set.Goals as goal
use Rattle.esr_dooming.proofs.sets.file_set.Goals.{then-contains+in_ok-add_ids, else-contains}

pub loop-list-init : goal.loop-list-init
loop-list-init c = files_none c.new-set.result (contains nat_cmp c.args.left.now) c.new-set.ensures.empty

pub loop-list-preserved : goal.loop-list-preserved
loop-list-preserved c =
    let old : BTreeSet ℕ = c.loop-list.set in
    let x = c.list-item.result in
    elim c.if-contains.branch [
      | then-contains+in_ok-add_ids w ↦
          files_more (contains nat_cmp c.args.left.now) c.args.lists.now c.loop-list.list-index x old c.if-contains.set c.loop-list-test.true c.list-item.is c.loop-list.invariant (λ q.
          ap (λ (s : BTreeSet ℕ). contains nat_cmp s q) w.set-is ∙ w.in_ok-add_ids.ensures q
          ∙ ap (λ (us : List Id). contains nat_cmp old q || is_one (map number_of us) q) w.as_slice.ensures
          ∙ ap (λ (b : Bool). contains nat_cmp old q || (b && is_one (map number_of x.files) q)) (sym (sym c.contains.ensures ∙ w.if-contains.true)))
      | else-contains w ↦
          files_more (contains nat_cmp c.args.left.now) c.args.lists.now c.loop-list.list-index x old c.if-contains.set c.loop-list-test.true c.list-item.is c.loop-list.invariant (λ q.
          ap (λ (s : BTreeSet ℕ). contains nat_cmp s q) w.set-is
          ∙ no_more (contains nat_cmp c.args.left.now x.uuid.number) (contains nat_cmp old q) (is_one (map number_of x.files) q) (sym c.contains.ensures ∙ w.if-contains.false))
    ]

pub returns : goal.returns
returns c = subst (λ (ls : List SnapList). HasFiles c.loop-list.set (contains nat_cmp c.args.left.now) ls) (all snap_list_of c.args.lists.now c.loop-list.list-index c.loop-list-test.false) c.loop-list.invariant
