use Rattle.std.proofs.Common.{ℕ, Bool, List, [], ◌∷◌, get_or, sym, ◌∙◌}
use Rattle.std.specs.Ordering.{nat_cmp}
use Rattle.std.specs.BTreeSet.{contains}
use Rattle.esr_model.specs.Loops.{item_is}
use Rattle.esr_names.specs.declared.ids.Id.{Id}
use Rattle.esr_names.specs.declared.blob.BlobName.TheVariants.{IndexMeta as CodeMeta}
use Rattle.esr_formats.specs.Ids.{number_of}
use Rattle.esr_model.specs.Names.{IndexMeta}
use Rattle.esr_reach.specs.NamePieces.{pushed_item}
use Rattle.esr_dooming.specs.Pieces.{meta_piece}
use Rattle.esr_dooming.proofs.Laid.{index_meta_laid}
use Rattle.esr_dooming.proofs.Naming.{pushed_where, pushed_nowhere}
use Rattle.esr_dooming.proofs.doom.push_metas.Goals as goal
use Rattle.esr_dooming.proofs.doom.push_metas.Goals.{then-contains+in_ok-push, else-contains}

pub push-requires : goal.push-requires
push-requires c = index_meta_laid _ _

pub loop-uuid-preserved : goal.loop-uuid-preserved
loop-uuid-preserved c =
    let named : ℕ → Bool = contains nat_cmp c.args.named.now in
    let id : Id = c.args.index.now.id in
    let xs : List Id = c.as_slice-uuid-items.result.now in
    let i : ℕ = c.loop-uuid.uuid-index in
    let x : Id = get_or xs i (record { number = 0 }) in
    let push = pushed_item (meta_piece named id.number) number_of xs i x c.args.names.now c.loop-uuid.names c.if-contains.names c.loop-uuid-test.true (item_is xs i (record { number = 0 }) c.loop-uuid-test.true) c.loop-uuid.invariant in
    elim c.if-contains.branch [
      | then-contains+in_ok-push w ↦ push (pushed_where c.loop-uuid.names w.push.new.self c.if-contains.names (CodeMeta id x) (named x.number) (sym c.contains.ensures ∙ w.if-contains.true) w.in_ok-push.ensures.ok w.names-is)
      | else-contains w ↦ push (pushed_nowhere c.loop-uuid.names c.if-contains.names (IndexMeta id.number x.number ∷ []) (named x.number) (sym c.contains.ensures ∙ w.if-contains.false) w.names-is)
    ]
