use Rattle.std.proofs.Common.{◌≡◌, List, map, sym, ap, ◌∙◌, subst}
use Rattle.std.specs.Ordering.{nat_cmp}
use Rattle.std.specs.BTreeSet.{contains}
use Rattle.esr_root.specs.Root.{Root as CodeRoot, IsRoot}
use Rattle.esr_formats.specs.Names.{name_of}
use Rattle.esr_formats.specs.Roots.{root_of}
use Rattle.esr_formats.specs.Formats.{formats}
use Rattle.esr_model.specs.Names.{BlobName}
use Rattle.esr_reach.specs.Names.{AreOnce}
use Rattle.esr_reach.specs.Listing.{root_names}
use Rattle.esr_reach.specs.Reached.{root_once}
use Rattle.esr_reach.specs.OnceEach.{one_each}
use Rattle.esr_reach.proofs.Apart.{root_single}
use Rattle.esr_reach.proofs.Ordered.{names_ordered, names_are}
use Rattle.esr_reach.proofs.reached.reach.Goals as goal

order : (c : goal.After-drop-listed-2) → map name_of c.push_indices.new.names ≡ root_names (root_of c.args.root.now) c.args.held.now
order c =
    names_ordered c.args.root.now c.as_slice-snaps.result.now c.as_slice.result.now (contains nat_cmp c.in_ok-listed.listed) c.args.held.now c.new-names.result c.push_snaps.new.names c.push_indices.new.names
    c.new-names.ensures (c.as_slice-snaps.ensures.items ∙ ap (λ (r : CodeRoot). r.snapshots) c.root.view_is) (c.as_slice.ensures.items ∙ ap (λ (r : CodeRoot). r.indices) c.root.view_is)
    c.in_ok-listed.ensures c.in_ok-push_snaps.ensures c.in_ok-push_indices.ensures

pub returns-clause-names : goal.returns-clause-names
returns-clause-names c = λ known told blobs reads.
    let root = c.args.root.now in
    let rule : IsRoot root = subst IsRoot c.root.view_is c.root.invariant in
    let once = one_each (root_of root).indices (root_single root rule.snapshots rule.indices).indices in
    names_are (formats known told) blobs (root_of root) c.args.held.now c.push_indices.new.names (order c) once c.requires reads

pub returns-clause-once : goal.returns-clause-once
returns-clause-once c =
    let root = c.args.root.now in
    let rule : IsRoot root = subst IsRoot c.root.view_is c.root.invariant in
    subst (λ (ns : List BlobName). AreOnce ns) (sym (order c)) (root_once (root_of root) c.args.held.now (root_single root rule.snapshots rule.indices) c.rule.ensures)

pub returns-clause-order : goal.returns-clause-order
returns-clause-order c = order c
