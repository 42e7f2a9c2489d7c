-- The names of a root, appended to no names.
use Rattle.std.proofs.Common.{◌≡◌, ℕ, Bool, List, [], ◌++◌, flat_map, map, Some, Option, sym, ap, ◌∙◌, subst}
use Rattle.esr_names.specs.declared.blob.BlobName.{BlobName as CodeName}
use Rattle.esr_root.specs.Root.{Root as CodeRoot}
use Rattle.esr_root.specs.declared.snaps.RootSnap.{RootSnap as CodeSnap}
use Rattle.esr_root.specs.declared.indices.RootIndex.{RootIndex as CodeIndex}
use Rattle.esr_formats.specs.Names.{name_of}
use Rattle.esr_formats.specs.Roots.{root_of, root_snap_of, root_index_of}
use Rattle.esr_model.specs.Names.{BlobName}
use Rattle.esr_model.specs.Values.{Bytes, Has, IsOneEach, RootData, Formats}
use Rattle.esr_model.specs.Image.{Blobs, At, IsOne}
use Rattle.esr_model.specs.Reach.{Reached}
use Rattle.esr_reach.specs.Names.{AreNames, Pushed}
use Rattle.esr_reach.specs.Held.{HeldShard}
use Rattle.esr_reach.specs.Listing.{is_listed, snap_names, index_names, root_names}
use Rattle.esr_reach.specs.Reading.{HasEach, ReadsAsHeld}
use Rattle.esr_reach.specs.Reached.{names_reached, reached_names}
use Rattle.esr_reach.specs.NamePieces.{pushed_more}

-- all of them were appended
pub names_ordered : (root : CodeRoot) (snaps : List CodeSnap) (indices : List CodeIndex) (listed : ℕ → Bool) (held : List HeldShard) (first mid new : List CodeName) → first ≡ [] → snaps ≡ root.snapshots → indices ≡ root.indices
    → listed ≡ is_listed (map root_snap_of snaps) → Pushed first mid (flat_map snap_names (map root_snap_of snaps)) → Pushed mid new (flat_map (index_names listed held) (map root_index_of indices))
    → map name_of new ≡ root_names (root_of root) held
names_ordered root snaps indices listed held first mid new none snaps_is indices_is listed_is one two =
    let names : List CodeSnap → List CodeIndex → (ℕ → Bool) → List BlobName = λ ss is p. flat_map snap_names (map root_snap_of ss) ++ flat_map (index_names p held) (map root_index_of is) in
    pushed_more first mid new (flat_map snap_names (map root_snap_of snaps)) (flat_map (index_names listed held) (map root_index_of indices)) one two
    ∙ ap (λ (l : List CodeName). map name_of l ++ names snaps indices listed) none ∙ ap (names snaps indices) listed_is
    ∙ ap (λ (ss : List CodeSnap). names ss indices (is_listed (map root_snap_of ss))) snaps_is ∙ ap (λ (is : List CodeIndex). names root.snapshots is (is_listed (map root_snap_of root.snapshots))) indices_is

some_bytes : (x y : Bytes) → ◌≡◌ {A = Option Bytes} (Some x) (Some y) → x ≡ y
some_bytes x y e = cc

-- a blob of an image has one content
at_one : (f : Formats) (blobs : Blobs) → IsOne (At f blobs)
at_one f blobs name x y here there = some_bytes x y (sym here.0 ∙ there.0)

-- they are those that the root reaches
pub names_are : (f : Formats) (blobs : Blobs) (root : RootData) (held : List HeldShard) (names : List CodeName) → map name_of names ≡ root_names root held → IsOneEach root.indices → HasEach root held → ReadsAsHeld f (At f blobs) root held
    → AreNames names (Reached f (At f blobs) root)
names_are f blobs root held names order once each reads name = (
  λ has. names_reached f (At f blobs) root held once each reads name (subst (λ (ns : List BlobName). Has ns name) order has),
  λ reached. subst (λ (ns : List BlobName). Has ns name) (sym order) (reached_names f (At f blobs) root held once each reads (at_one f blobs) name reached),
)
