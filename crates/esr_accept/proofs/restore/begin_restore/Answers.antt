use Rattle.std.proofs.Common.{List, ap, sym, ◌∙◌, subst}
use Rattle.esr_names.specs.declared.index_ref.IndexRef.{IndexRef as CodeRef}
use Rattle.esr_ops.specs.Plan.{RestorePlan}
use Rattle.esr_ops.specs.Restores.{restore_with, IsOpenRestore}
use Rattle.esr_accept.specs.Asking.{shards_of}
use Rattle.esr_accept.proofs.Restorables.{restore_begins, begun_is}
use Rattle.esr_accept.proofs.restore.begin_restore.Goals as goal

pub new-requires : goal.new-requires
new-requires c =
    subst (λ (refs : List CodeRef). IsOpenRestore refs c.in_ok-shards.shards.items) (sym c.in_ok-copy.ensures)
    (restore_begins c.args.indices.now c.in_ok-shards.shards.items c.requires (c.in_ok-shards.ensures ∙ ap (λ (refs : List CodeRef). shards_of 0 refs) c.as_slice.ensures))

pub returns : goal.returns
returns c =
    c.new.ensures ∙ (λ j. (c.args.number, restore_with c.args.uuid (c.in_ok-try_clone.ensures j) (c.in_ok-copy.ensures j) c.in_ok-shards.shards.items))
    ∙ ap (λ (x : RestorePlan). (c.args.number, x)) (begun_is c.args.indices.now c.args.place.now c.args.uuid c.in_ok-shards.shards.items (c.in_ok-shards.ensures ∙ ap (λ (refs : List CodeRef). shards_of 0 refs) c.as_slice.ensures))
