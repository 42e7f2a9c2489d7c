use Rattle.std.proofs.Common.{List, true, false, map, sym, ◌∙◌, refl}
use Rattle.esr_root.specs.declared.indices.RootIndex.{RootIndex}
use Rattle.esr_model.specs.Uploads.{same_bytes}
use Rattle.esr_core.specs.After.{root_index_id}
use Rattle.esr_formats.specs.Roots.{root_index_of}
use Rattle.esr_ops.specs.Lists.{same_bytes-is}
use Rattle.esr_accept.proofs.Firsts.{first_step}
use Rattle.esr_accept.proofs.snapshot.root_id.Goals as goal

pub returns-then-eq : goal.returns-then-eq
returns-then-eq c =
    let x = c.index-item.result in
    let name = c.args.name.now in
    sym (c.loop-index.invariant ∙ first_step (λ (xs : List RootIndex). root_index_id (map root_index_of xs) name) (λ (r : RootIndex). same_bytes r.name name) (λ (r : RootIndex). r.id.number) (λ r rs. refl)
    c.args.indices.now c.loop-index.index-index x true c.loop-index-test.true c.index-item.is (same_bytes-is x.name name ∙ sym c.eq.ensures ∙ c.if-eq.true))

pub loop-index-preserved : goal.loop-index-preserved
loop-index-preserved c =
    let x = c.index-item.result in
    let name = c.args.name.now in
    c.loop-index.invariant ∙ first_step (λ (xs : List RootIndex). root_index_id (map root_index_of xs) name) (λ (r : RootIndex). same_bytes r.name name) (λ (r : RootIndex). r.id.number) (λ r rs. refl)
    c.args.indices.now c.loop-index.index-index x false c.loop-index-test.true c.index-item.is (same_bytes-is x.name name ∙ sym c.eq.ensures ∙ c.if-eq.false)
