use Rattle.std.proofs.Common.{List, false, None, ap, ◌∙◌}
use Rattle.esr_names.specs.declared.index_ref.IndexRef.{IndexRef as CodeRef}
use Rattle.esr_core.specs.World.{ShardWork}
use Rattle.esr_ops.specs.Ops.{op_with}
use Rattle.esr_accept.specs.Asking.{shards_of}
use Rattle.esr_accept.proofs.Begun.{open_begun, works-begun}
use Rattle.esr_accept.proofs.snapshot.begin.Goals as goal

pub new-requires : goal.new-requires
new-requires c =
    open_begun c.args.making c.args.asked.now c.in_ok-places.places c.in_ok-shards.shards.items c.requires.valid c.requires.apart c.requires.same c.in_ok-places.ensures
    (c.in_ok-shards.ensures ∙ ap (λ (refs : List CodeRef). shards_of 0 refs) c.as_slice.ensures)

pub returns : goal.returns
returns c =
    let same =
    works-begun c.args.making.indices c.args.asked.now c.in_ok-places.places c.in_ok-shards.shards.items c.requires.same c.in_ok-places.ensures (c.in_ok-shards.ensures ∙ ap (λ (refs : List CodeRef). shards_of 0 refs) c.as_slice.ensures) in
    c.new.ensures ∙ ap (λ (shards : List ShardWork). (c.args.number, record (op_with c.args.making c.in_ok-places.places c.in_ok-shards.shards.items false None None) { shards = shards })) same
