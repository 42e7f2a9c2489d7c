use Rattle.std.proofs.Common.{◌++◌, List, map, ap, ◌∙◌, subst}
use Rattle.std.proofs.lemmas.Result.{IfOk-weaker}
use Rattle.esr_names.specs.declared.blob.BlobName.{BlobName as CodeName}
use Rattle.esr_root.specs.Root.{Root as CodeRoot}
use Rattle.esr_root.specs.Indices.{AreIndices}
use Rattle.esr_root.specs.declared.snaps.RootSnap.{RootSnap as CodeSnap}
use Rattle.esr_root.specs.declared.indices.RootIndex.{RootIndex as CodeIndex}
use Rattle.esr_formats.specs.Names.{name_of}
use Rattle.esr_formats.specs.Roots.{root_of, root_snap_of, root_index_of}
use Rattle.esr_formats.specs.Formats.{formats}
use Rattle.esr_model.specs.Values.{Has}
use Rattle.esr_model.specs.Reach.{Reached}
use Rattle.esr_model.specs.Image.{At}
use Rattle.esr_plain.specs.Exactly.{Always}
use Rattle.esr_plain.specs.Reach.{AreNames, OfSome, OfSnap, OfIndex}
use Rattle.esr_plain.proofs.Standing.{one_each}
use Rattle.esr_plain.proofs.Reaching.{names_both, reached_exactly, names_kept}
use Rattle.esr_plain.proofs.reached.reach.Goals as goal

pub returns-clause-names : goal.returns-clause-names
returns-clause-names c =
    let names = c.extend_from_slice.new.self in
    let snapshots = ap (λ (r : CodeRoot). r.snapshots) c.root.view_is in
    let indices = ap (λ (r : CodeRoot). r.indices) c.root.view_is in
    let snaps_is = c.as_slice-snaps.ensures.items ∙ snapshots in
    let made = c.in_ok-extend_from_slice.ensures.ok ∙ ap (λ (more : List CodeName). c.in_ok-names.names ++ more) c.as_slice-2.ensures in
    let rule = subst AreIndices indices c.root.invariant.indices in
    IfOk-weaker c.each_once.result (λ kept. AreNames kept (Has (map name_of c.as_slice-3.result.now))) (λ kept. Always (λ f. AreNames kept (Reached f (At f c.args.image.now) (root_of c.args.root.now))))
    (λ kept same known told.
    let f = formats known told in
    let has = At f c.args.image.now in
    let root = root_of c.args.root.now in
    let first = subst (λ (ss : List CodeSnap). AreNames c.in_ok-names.names (OfSome OfSnap (map root_snap_of ss))) snaps_is c.in_ok-names.ensures in
    let more = subst (λ (is : List CodeIndex). AreNames c.in_ok-more.more (OfSome (OfIndex f has root.snapshots) (map root_index_of is))) (c.as_slice.ensures.items ∙ indices)
    (subst (λ (ss : List CodeSnap). AreNames c.in_ok-more.more (OfSome (OfIndex f has (map root_snap_of ss)) (map root_index_of c.as_slice.result.now))) snaps_is (c.in_ok-more.ensures known told)) in
    let both = names_both (OfSome OfSnap root.snapshots) (OfSome (OfIndex f has root.snapshots) root.indices) c.in_ok-names.names names c.in_ok-more.more made first more in
    let all = reached_exactly f has root (one_each c.args.root.now.indices rule) names both in
    names_kept (Reached f has root) names kept all (subst (λ (ns : List CodeName). AreNames kept (Has (map name_of ns))) c.as_slice-3.ensures same))
    c.each_once.ensures.same
