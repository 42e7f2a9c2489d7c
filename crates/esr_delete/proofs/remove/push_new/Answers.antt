use Rattle.std.proofs.Common.{List, map, sym, ◌∙◌, subst, true≢false}
use Rattle.std.specs.BTreeSet.{contains}
use Rattle.esr_names.specs.declared.blob.BlobName.{BlobName as CodeName}
use Rattle.esr_formats.specs.Names.{name_of}
use Rattle.esr_reach.specs.Names.{AreOnce}
use Rattle.esr_reach.specs.NameOrder.{name_cmp}
use Rattle.esr_delete.specs.Removed.{IsSetOf, IsWith}
use Rattle.esr_delete.proofs.Once.{there_with, set_push, once_push, push_with}
use Rattle.esr_delete.proofs.remove.push_new.Goals as goal

pub returns-then-contains-clause-with : goal.returns-then-contains-clause-with
returns-then-contains-clause-with c = there_with c.args.once.now c.args.name ((c.requires.set c.args.name).0 (sym c.contains.ensures ∙ c.if-contains.true))

pub returns-clause-set : goal.returns-clause-set
returns-clause-set c =
    subst (λ (l : List CodeName). IsSetOf (contains name_cmp c.insert.new.self) l) (sym c.in_ok-push.ensures.ok)
    (set_push c.args.once.now c.args.name c.args.there.now c.insert.new.self c.in_ok-insert.ensures.updates.0 c.requires.set)

pub returns-clause-once : goal.returns-clause-once
returns-clause-once c =
    subst (λ (l : List CodeName). AreOnce (map name_of l)) (sym c.in_ok-push.ensures.ok)
    (once_push c.args.once.now c.args.name c.requires.once (λ has. true≢false (sym ((c.requires.set c.args.name).1 has) ∙ sym c.contains.ensures ∙ c.if-contains.false)))

pub returns-clause-with : goal.returns-clause-with
returns-clause-with c = subst (λ (l : List CodeName). IsWith c.args.once.now c.args.name l) (sym c.in_ok-push.ensures.ok) (push_with c.args.once.now c.args.name)
