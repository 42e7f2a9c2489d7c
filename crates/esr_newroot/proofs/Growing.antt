-- A snapshot can come into the root, and what the root is then.
use Rattle.std.proofs.Common.{◌≡◌, ◌≢◌, ℕ, ◌-◌, ◌≤◌, false, List, [], ◌∷◌, length, map, replicate, Option, Some, None, refl, sym, ap, ◌∙◌, subst, arith, inl, inr}
use Rattle.std.specs.List.{list_any, AllByRecursion}
use Rattle.std.specs.Cmp.{both_ways}
use Rattle.std.proofs.lemmas.Bool.{eqb-true, eq-eqb, false_from_ne_true}
use Rattle.std.proofs.lemmas.List.{length-append, length-replicate}
use Rattle.esr_names.specs.declared.index_ref.IndexRef.{IndexRef as CodeRef}
use Rattle.esr_names.specs.Indices.{AreRefs}
use Rattle.esr_meta.specs.Info.{Info}
use Rattle.esr_root.specs.Ids.{same_id}
use Rattle.esr_root.specs.Snaps.{clashes}
use Rattle.esr_root.specs.Indices.{AreIndices, is_named}
use Rattle.esr_root.specs.Root.{Root}
use Rattle.esr_root.specs.Changes.{Fits, MayAdd, add_of}
use Rattle.esr_root.specs.declared.snaps.RootSnap.{RootSnap as CodeSnap}
use Rattle.esr_root.specs.declared.indices.RootIndex.{RootIndex as CodeIndex}
use Rattle.esr_formats.specs.Refs.{ref_of_code}
use Rattle.esr_formats.specs.Infos.{info_of_code}
use Rattle.esr_formats.specs.Roots.{root_of, root_snap_of, root_index_of}
use Rattle.esr_core.specs.Tracked.{IsOneIndex}
use Rattle.esr_model.specs.Values.{Bytes, Has, RootSnap, RootIndex, ShardResult}
use Rattle.esr_model.specs.Lists.{Has-map}
use Rattle.esr_newroot.specs.NewRoot.{MayFinalize}
use Rattle.esr_newroot.specs.Named.{index_named, ref_named, IsReady}
use Rattle.esr_newroot.specs.ByteTests.{named_so}
use Rattle.esr_newroot.proofs.Choices.{same_names, other_names}
use Rattle.esr_newroot.proofs.Added.{added, named-with_each}
use Rattle.esr_newroot.specs.RefLists.{names_distinct, ids_distinct}
use Rattle.esr_newroot.proofs.Refs.{all_has, refs_few, at_ref, ref_some}
use Rattle.esr_newroot.proofs.Shards.{each_shard}

-- the indices of a root, as the definitions see them
abbrev pub olds : Root → List RootIndex
olds root = map root_index_of root.indices

-- the snapshot that comes in, of the code
abbrev pub snap_is : Info → CodeSnap
snap_is info = record { name = info.name; uuid = info.uuid; state = info.state }

-- ---- what `add` needs

fresh_of : (info : Info) (ss : List CodeSnap) → ((s : RootSnap) → Has (map root_snap_of ss) s → (s.name ≢ info.name) × (s.uuid ≢ info.uuid.number)) → list_any (λ old. clashes old (snap_is info)) ss ≡ false
fresh_of info [] h = refl
fresh_of info (s ∷ ss) h =
    let own = h (root_snap_of s) (inl refl) in
    rw (other_names s.name info.name own.0, false_from_ne_true (same_id s.uuid info.uuid) (λ e. own.1 (eqb-true s.uuid.number info.uuid.number e))) (fresh_of info ss (λ t there. h t (inr there)))

fits_of : (q : CodeRef) (is : List CodeIndex) → ((x : RootIndex) → Has (map root_index_of is) x → IsOneIndex q.name q.id.number x.name x.id) → Fits is q
fits_of q [] h = tt
fits_of q (i ∷ is) h =
    let one = h (root_index_of i) (inl refl) in (
      both_ways (is_named q.name i) (same_id i.id q.id) (λ e. eq-eqb i.id.number q.id.number (sym (one.one_id (sym (same_names i.name q.name e)))))
          (λ e. named_so i.name q.name (sym (one.one_name (sym (eqb-true i.id.number q.id.number e))))),
      fits_of q is (λ x there. h x (inr there)),
    )

pub may_add : (root : Root) (info : Info) (results : List ShardResult) (snap : CodeSnap) → AreRefs [] info.indices → MayFinalize (root_of root) (info_of_code info) results → snap ≡ snap_is info → MayAdd root snap info.indices
may_add root info results snap refs may is =
    subst (λ (s : CodeSnap). MayAdd root s info.indices) (sym is) (record {
      fresh = fresh_of info root.snapshots may.unlisted;
      names = names_distinct info.indices refs;
      ids = ids_distinct info.indices refs;
      known = all_has (Fits root.indices) info.indices (λ q there. fits_of q root.indices (λ x h. may.indices (ref_of_code q) x (Has-map ref_of_code info.indices q there) h));
      few = refs_few [] info.indices refs;
    })

-- ---- the root that it grows

pub grown_named : (root grown : Root) (info : Info) (snap : CodeSnap) → AreIndices root.indices → AreRefs [] info.indices → snap ≡ snap_is info → grown ≡ add_of root snap info.indices
    → (name : Bytes) → index_named name (root_of grown).indices ≡ at_ref (added info.uuid) (ref_named name info.indices) (index_named name (olds root))
grown_named root grown info snap are refs is grows name =
    ap (λ (r : Root). index_named name (root_of r).indices) (grows ∙ ap (λ (s : CodeSnap). add_of root s info.indices) is)
    ∙ named-with_each info.uuid info.indices root.indices name (names_distinct info.indices refs) are.rises

grown_long : (info : Info) (q : CodeRef) (o : Option RootIndex) → (y : RootIndex) × (added info.uuid q o ≡ Some y) × (q.shards ≤ length y.generations)
grown_long info q None = (_, refl, omega (arith, length-replicate {A = Option ℕ} q.shards None))
grown_long info q (Some y) = (_, refl, omega (arith, length-append y.generations (replicate (q.shards - length y.generations) None), length-replicate {A = Option ℕ} (q.shards - length y.generations) None))

pub ready_of : (root grown : Root) (info : Info) (results : List ShardResult) (snap : CodeSnap) → AreIndices root.indices → AreRefs [] info.indices → MayFinalize (root_of root) (info_of_code info) results
    → snap ≡ snap_is info → grown ≡ add_of root snap info.indices → AllByRecursion (IsReady (root_of grown) results) info.indices
ready_of root grown info results snap are refs may is grows =
    all_has (IsReady (root_of grown) results) info.indices ready
  where
    few_of : (qs : List CodeRef) (q : CodeRef) → AllByRecursion (λ (p : CodeRef). p.shards ≤ 1024) qs → Has qs q → q.shards ≤ 1024
    few_of [] q h there = absurd there
    few_of (p ∷ qs) q h (inl e) = subst (λ (r : CodeRef). r.shards ≤ 1024) e h.0
    few_of (p ∷ qs) q h (inr there) = few_of qs q h.1 there

    ready : (q : CodeRef) → Has info.indices q → IsReady (root_of grown) results q
    ready q there =
        let found = grown_long info q (index_named q.name (olds root)) in
        let own : ref_named q.name info.indices ≡ Some q = ref_some info.indices q (names_distinct info.indices refs) there in
        record {
          few = few_of info.indices q (refs_few [] info.indices refs) there;
          has = record {
            index = found.0;
            there = grown_named root grown info snap are refs is grows q.name ∙ ap (λ (o : Option CodeRef). at_ref (added info.uuid) o (index_named q.name (olds root))) own ∙ found.1;
            long = found.2;
          };
          shards = each_shard info.indices results (ids_distinct info.indices refs) may.each q there;
        }
