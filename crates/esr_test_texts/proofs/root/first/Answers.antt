use Rattle.std.proofs.Common.{◌≡◌, ◌≤◌, List, [], ◌∷◌, ◌++◌, refl, sym, subst, ap, ◌∙◌}
use Rattle.std.specs.Str.{bytes_eq}
use Rattle.esr_names.specs.declared.index_ref.IndexRef.{IndexRef}
use Rattle.esr_root.specs.Ids.{same_id}
use Rattle.esr_root.specs.Root.{Root, empty_root}
use Rattle.esr_root.specs.Changes.{MayAdd}
use Rattle.esr_root.specs.declared.snaps.RootSnap.{RootSnap}
use Rattle.esr_root.specs.Lists.{distinct_one}
use Rattle.esr_test_texts.proofs.root.first.Goals as goal

-- the empty root takes any snapshot of one index
takes_one : (r : Root) (s : RootSnap) (xs : List IndexRef) (x : IndexRef) → r ≡ empty_root → xs ≡ x ∷ [] → x.shards ≤ 1024 → MayAdd r s xs
takes_one r s xs x none one few =
    subst (λ (q : Root). MayAdd q s xs) (sym none) (subst (MayAdd empty_root s) (sym one)
    (record { fresh = refl; names = distinct_one (λ x y. bytes_eq x.name y.name) x; ids = distinct_one (λ x y. same_id x.id y.id) x; known = (tt, tt); few = (few, tt) }))

pub add-requires : goal.add-requires
add-requires c =
    takes_one c.new.result _ c.push.new.self c.args.index c.new.ensures
    (c.in_ok-push.ensures.ok ∙ ap (λ (xs : List IndexRef). xs ++ c.args.index ∷ []) c.new-indices.ensures) c.requires
