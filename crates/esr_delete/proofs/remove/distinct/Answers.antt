use Rattle.std.proofs.Common.{◌↔◌, List, map, take, get_or, sym, subst}
use Rattle.std.proofs.lemmas.List.{take_all}
use Rattle.std.specs.BTreeSet.{contains}
use Rattle.esr_model.specs.Loops.{item_is}
use Rattle.esr_names.specs.declared.blob.BlobName.{BlobName as CodeName}
use Rattle.esr_names.specs.declared.blob.BlobName.TheVariants as code
use Rattle.esr_formats.specs.Names.{name_of}
use Rattle.esr_model.specs.Values.{Has}
use Rattle.esr_reach.specs.Names.{AreOnce}
use Rattle.esr_reach.specs.NameOrder.{name_cmp}
use Rattle.esr_reach.specs.NameSets.{set_none}
use Rattle.esr_delete.specs.Removed.{IsSetOf}
use Rattle.esr_delete.proofs.Once.{same_more, same_all}
use Rattle.esr_delete.proofs.remove.distinct.Goals as goal

pub loop-name-init : goal.loop-name-init
loop-name-init c = record {
  set = subst (λ (l : List CodeName). IsSetOf (contains name_cmp c.new-there.result) l) (sym c.new-once.ensures) (set_none c.new-there.result c.new-there.ensures.empty);
  once = subst (λ (l : List CodeName). AreOnce (map name_of l)) (sym c.new-once.ensures) tt;
  same = subst (λ (l : List CodeName). (name : CodeName) → Has l name ↔ Has (take 0 c.args.names.now) name) (sym c.new-once.ensures) (λ name. (λ none. none, λ none. none));
}

pub loop-name-preserved : goal.loop-name-preserved
loop-name-preserved c =
    let items = c.args.names.now in
    let i = c.loop-name.name-index in
    let less = c.loop-name-test.true in
    let x : CodeName = get_or items i (code.Root 0) in
    record {
      set = c.in_ok-push_new.ensures.set;
      once = c.in_ok-push_new.ensures.once;
      same = same_more items c.loop-name.once c.push_new.new.once i x less (item_is items i (code.Root 0) less) c.in_ok-push_new.ensures.with c.loop-name.invariant.same;
    }

pub returns-clause-same : goal.returns-clause-same
returns-clause-same c =
    let items = c.args.names.now in
    let i = c.loop-name.name-index in
    same_all items c.loop-name.once i (take_all i items c.loop-name-test.false) c.loop-name.invariant.same
