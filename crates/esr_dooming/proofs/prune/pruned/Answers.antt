use Rattle.std.proofs.Common.{ap, map, sym, subst, ◌∙◌}
use Rattle.std.specs.Ordering.{nat_cmp}
use Rattle.std.specs.BTreeSet.{contains}
use Rattle.esr_root.specs.Root.{Root}
use Rattle.esr_root.specs.Indices.{AreIndices}
use Rattle.esr_formats.specs.Ids.{number_of}
use Rattle.esr_formats.specs.Roots.{root_of}
use Rattle.esr_results.specs.Pruned.{pruned_of}
use Rattle.esr_reach.specs.OnceEach.{indices_once, one_each}
use Rattle.esr_dooming.specs.Pieces.{touches, index_piece}
use Rattle.esr_dooming.specs.Reading.{AreHeldSome}
use Rattle.esr_dooming.proofs.Pruning.{pruned_are}
use Rattle.esr_dooming.proofs.Placed.{AreChosen, chosen, pruned_of_index, pushed_are, named_by, touched_by, pruned_held, writable}
use Rattle.esr_dooming.proofs.prune.pruned.Goals as goal

pub returns-clause-exact : goal.returns-clause-exact
returns-clause-exact c = λ f blobs h.
    pruned_are f blobs c.args.clean c.args.root.now c.args.uuids.now c.as_slice-ids.result.now c.as_slice-snaps.result.now c.as_slice-indices.result.now c.args.read.now (contains nat_cmp c.in_ok-named.named) (contains nat_cmp c.in_ok-listed.listed)
    c.new-shards.result c.push_indices.new.shards c.new-shards.ensures c.as_slice-ids.ensures
    (c.as_slice-snaps.ensures.items ∙ ap (λ (r : Root). r.snapshots) c.root.view_is) (c.as_slice-indices.ensures.items ∙ ap (λ (r : Root). r.indices) c.root.view_is)
    c.in_ok-named.ensures c.in_ok-listed.ensures c.in_ok-push_indices.ensures h

pub returns-clause-each : goal.returns-clause-each
returns-clause-each c =
    let named = contains nat_cmp c.in_ok-named.named in
    let of = index_piece c.args.clean named (contains nat_cmp c.in_ok-listed.listed) c.args.read.now in
    let are =
    pushed_are of c.args.root.now c.as_slice-indices.result.now c.new-shards.result c.push_indices.new.shards c.new-shards.ensures (c.as_slice-indices.ensures.items ∙ ap (λ (r : Root). r.indices) c.root.view_is) c.in_ok-push_indices.ensures in
    (chosen c.args.clean (touches c.args.clean named) of (pruned_of_index c.args.clean named (contains nat_cmp c.in_ok-listed.listed) c.args.read.now) c.args.root.now (map number_of c.args.uuids.now) (map pruned_of c.push_indices.new.shards)
    (touched_by c.args.clean named (map number_of c.args.uuids.now) (named_by c.args.uuids.now c.as_slice-ids.result.now named c.as_slice-ids.ensures c.in_ok-named.ensures))
    (subst AreIndices (ap (λ (r : Root). r.indices) c.root.view_is) c.as_slice-indices.ensures.rule) are).each

pub returns-clause-held : goal.returns-clause-held
returns-clause-held c =
    let named = contains nat_cmp c.in_ok-named.named in
    let listed = contains nat_cmp c.in_ok-listed.listed in
    let are = pushed_are (index_piece c.args.clean named listed c.args.read.now) c.args.root.now c.as_slice-indices.result.now c.new-shards.result c.push_indices.new.shards c.new-shards.ensures
    (c.as_slice-indices.ensures.items ∙ ap (λ (r : Root). r.indices) c.root.view_is) c.in_ok-push_indices.ensures in
    subst (AreHeldSome c.args.read.now) (sym are) (pruned_held c.args.clean named listed c.args.read.now (root_of c.args.root.now).indices)

pub returns-clause-of_root : goal.returns-clause-of_root
returns-clause-of_root c =
    let named = contains nat_cmp c.in_ok-named.named in
    let of = index_piece c.args.clean named (contains nat_cmp c.in_ok-listed.listed) c.args.read.now in
    let are =
    pushed_are of c.args.root.now c.as_slice-indices.result.now c.new-shards.result c.push_indices.new.shards c.new-shards.ensures (c.as_slice-indices.ensures.items ∙ ap (λ (r : Root). r.indices) c.root.view_is) c.in_ok-push_indices.ensures in
    (chosen c.args.clean (touches c.args.clean named) of (pruned_of_index c.args.clean named (contains nat_cmp c.in_ok-listed.listed) c.args.read.now) c.args.root.now (map number_of c.args.uuids.now) (map pruned_of c.push_indices.new.shards)
    (touched_by c.args.clean named (map number_of c.args.uuids.now) (named_by c.args.uuids.now c.as_slice-ids.result.now named c.as_slice-ids.ensures c.in_ok-named.ensures))
    (subst AreIndices (ap (λ (r : Root). r.indices) c.root.view_is) c.as_slice-indices.ensures.rule) are).of_root

pub returns-clause-few : goal.returns-clause-few
returns-clause-few c =
    let named = contains nat_cmp c.in_ok-named.named in
    let of = index_piece c.args.clean named (contains nat_cmp c.in_ok-listed.listed) c.args.read.now in
    let are =
    pushed_are of c.args.root.now c.as_slice-indices.result.now c.new-shards.result c.push_indices.new.shards c.new-shards.ensures (c.as_slice-indices.ensures.items ∙ ap (λ (r : Root). r.indices) c.root.view_is) c.in_ok-push_indices.ensures in
    (chosen c.args.clean (touches c.args.clean named) of (pruned_of_index c.args.clean named (contains nat_cmp c.in_ok-listed.listed) c.args.read.now) c.args.root.now (map number_of c.args.uuids.now) (map pruned_of c.push_indices.new.shards)
    (touched_by c.args.clean named (map number_of c.args.uuids.now) (named_by c.args.uuids.now c.as_slice-ids.result.now named c.as_slice-ids.ensures c.in_ok-named.ensures))
    (subst AreIndices (ap (λ (r : Root). r.indices) c.root.view_is) c.as_slice-indices.ensures.rule) are).few

pub returns-clause-writable : goal.returns-clause-writable
returns-clause-writable c = λ known told blobs h.
    let named = contains nat_cmp c.in_ok-named.named in
    let of = index_piece c.args.clean named (contains nat_cmp c.in_ok-listed.listed) c.args.read.now in
    let shards = map pruned_of c.push_indices.new.shards in
    let us = map number_of c.args.uuids.now in
    let are =
    pushed_are of c.args.root.now c.as_slice-indices.result.now c.new-shards.result c.push_indices.new.shards c.new-shards.ensures (c.as_slice-indices.ensures.items ∙ ap (λ (r : Root). r.indices) c.root.view_is) c.in_ok-push_indices.ensures in
    let facts : AreChosen c.args.clean (root_of c.args.root.now) us shards =
    chosen c.args.clean (touches c.args.clean named) of (pruned_of_index c.args.clean named (contains nat_cmp c.in_ok-listed.listed) c.args.read.now) c.args.root.now us shards
    (touched_by c.args.clean named us (named_by c.args.uuids.now c.as_slice-ids.result.now named c.as_slice-ids.ensures c.in_ok-named.ensures)) (subst AreIndices (ap (λ (r : Root). r.indices) c.root.view_is) c.as_slice-indices.ensures.rule) are in
    writable known told c.args.clean (root_of c.args.root.now) us blobs c.args.read.now shards c.whole.ensures facts.each h

pub returns-clause-one_each : goal.returns-clause-one_each
returns-clause-one_each c = one_each (root_of c.args.root.now).indices (indices_once c.args.root.now.indices (subst AreIndices (ap (λ (r : Root). r.indices) c.root.view_is) c.as_slice-indices.ensures.rule))
