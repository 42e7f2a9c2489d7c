use Rattle.std.proofs.Common.{ap, map, sym, subst, ◌∙◌}
use Rattle.std.specs.Ordering.{nat_cmp}
use Rattle.std.specs.BTreeSet.{contains}
use Rattle.esr_root.specs.Root.{Root}
use Rattle.esr_root.specs.Indices.{AreIndices}
use Rattle.esr_formats.specs.Ids.{number_of}
use Rattle.esr_formats.specs.Roots.{root_of}
use Rattle.esr_results.specs.Pruned.{pruned_of}
use Rattle.esr_dooming.specs.Pieces.{touches, read_index}
use Rattle.esr_dooming.specs.Reading.{HasToRead}
use Rattle.esr_dooming.proofs.Placed.{chosen, read_of_index, pushed_are, named_by, touched_by, has_to_read}
use Rattle.esr_dooming.proofs.touched.to_read.Goals as goal

pub returns-clause-each : goal.returns-clause-each
returns-clause-each c =
    let named = contains nat_cmp c.in_ok-named.named in
    let are = pushed_are (read_index c.args.clean named) c.args.root.now c.as_slice-indices.result.now c.new-shards.result c.push_indices.new.shards c.new-shards.ensures
    (c.as_slice-indices.ensures.items ∙ ap (λ (r : Root). r.indices) c.root.view_is) c.in_ok-push_indices.ensures in
    (chosen c.args.clean (touches c.args.clean named) (read_index c.args.clean named) (read_of_index c.args.clean named) c.args.root.now (map number_of c.args.uuids.now) (map pruned_of c.push_indices.new.shards)
    (touched_by c.args.clean named (map number_of c.args.uuids.now) (named_by c.args.uuids.now c.as_slice-ids.result.now named c.as_slice-ids.ensures c.in_ok-named.ensures))
    (subst AreIndices (ap (λ (r : Root). r.indices) c.root.view_is) c.as_slice-indices.ensures.rule) are).each

pub returns-clause-all : goal.returns-clause-all
returns-clause-all c =
    let named = contains nat_cmp c.in_ok-named.named in
    let us = map number_of c.args.uuids.now in
    let are = pushed_are (read_index c.args.clean named) c.args.root.now c.as_slice-indices.result.now c.new-shards.result c.push_indices.new.shards c.new-shards.ensures
    (c.as_slice-indices.ensures.items ∙ ap (λ (r : Root). r.indices) c.root.view_is) c.in_ok-push_indices.ensures in
    subst (HasToRead c.args.clean (root_of c.args.root.now) us) (sym are)
    (has_to_read c.args.clean named (root_of c.args.root.now) us (named_by c.args.uuids.now c.as_slice-ids.result.now named c.as_slice-ids.ensures c.in_ok-named.ensures))

pub returns-clause-of_root : goal.returns-clause-of_root
returns-clause-of_root c =
    let named = contains nat_cmp c.in_ok-named.named in
    let are = pushed_are (read_index c.args.clean named) c.args.root.now c.as_slice-indices.result.now c.new-shards.result c.push_indices.new.shards c.new-shards.ensures
    (c.as_slice-indices.ensures.items ∙ ap (λ (r : Root). r.indices) c.root.view_is) c.in_ok-push_indices.ensures in
    (chosen c.args.clean (touches c.args.clean named) (read_index c.args.clean named) (read_of_index c.args.clean named) c.args.root.now (map number_of c.args.uuids.now) (map pruned_of c.push_indices.new.shards)
    (touched_by c.args.clean named (map number_of c.args.uuids.now) (named_by c.args.uuids.now c.as_slice-ids.result.now named c.as_slice-ids.ensures c.in_ok-named.ensures))
    (subst AreIndices (ap (λ (r : Root). r.indices) c.root.view_is) c.as_slice-indices.ensures.rule) are).of_root

pub returns-clause-few : goal.returns-clause-few
returns-clause-few c =
    let named = contains nat_cmp c.in_ok-named.named in
    let are = pushed_are (read_index c.args.clean named) c.args.root.now c.as_slice-indices.result.now c.new-shards.result c.push_indices.new.shards c.new-shards.ensures
    (c.as_slice-indices.ensures.items ∙ ap (λ (r : Root). r.indices) c.root.view_is) c.in_ok-push_indices.ensures in
    (chosen c.args.clean (touches c.args.clean named) (read_index c.args.clean named) (read_of_index c.args.clean named) c.args.root.now (map number_of c.args.uuids.now) (map pruned_of c.push_indices.new.shards)
    (touched_by c.args.clean named (map number_of c.args.uuids.now) (named_by c.args.uuids.now c.as_slice-ids.result.now named c.as_slice-ids.ensures c.in_ok-named.ensures))
    (subst AreIndices (ap (λ (r : Root). r.indices) c.root.view_is) c.as_slice-indices.ensures.rule) are).few
