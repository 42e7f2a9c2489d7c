-- Each snapshot that an index of a root has is listed, and the names of its indices differ, in what reads as a root.
use Rattle.std.proofs.Common.{◌≡◌, ℕ, true, List, map, Some, option_map, Result, Ok, Err, refl, sym, ap, ◌∙◌, subst}
use Rattle.std.specs.Result.{result_ok}
use Rattle.std.proofs.lemmas.Bool.{eqb-true}
use Rattle.esr_names.specs.declared.ids.Id.{Id}
use Rattle.esr_root.specs.Ids.{same_id}
use Rattle.esr_root.specs.Snaps.{lists}
use Rattle.esr_root.specs.Indices.{IsListed}
use Rattle.esr_root.specs.Root.{Root, IsRoot}
use Rattle.esr_root.specs.Reading.{root_from}
use Rattle.esr_root.specs.declared.snaps.RootSnap.{RootSnap as CodeSnap}
use Rattle.esr_root.specs.ReadRoots.{root_is}
use Rattle.esr_formats.specs.Ids.{number_of}
use Rattle.esr_formats.specs.Roots.{root_of, root_snap_of, root_index_of, root_kind}
use Rattle.esr_model.specs.Values.{Bytes, Has, RootSnap, RootIndex, RootData, Kind}
use Rattle.esr_model.specs.Lists.{Has-map, Has-mapped, all_has, pass_has}
use Rattle.esr_core.specs.Laws.CleanupReach.{any_was}
use Rattle.esr_desk.specs.Start.{Start, formats_of}
use Rattle.esr_quiet.specs.RootNames.{root_kind_is}

-- the root lists each snapshot that one of its indices has
abbrev pub AreListed : RootData → Type 0
AreListed root = (x : RootIndex) (u : ℕ) → Has root.indices x → Has x.snapshots u → (snap : RootSnap) × Has root.snapshots snap × (snap.uuid ≡ u)

-- ---- the snapshots of its indices are listed

listed_id : (snaps : List CodeSnap) (u : Id) → lists snaps u ≡ true → (snap : RootSnap) × Has (map root_snap_of snaps) snap × (snap.uuid ≡ u.number)
listed_id snaps u is =
    let found = any_was (λ (s : CodeSnap). same_id s.uuid u) snaps is in
    (root_snap_of found.0, Has-map root_snap_of snaps found.0 found.1, eqb-true found.0.uuid.number u.number found.2)

are_listed : (root : Root) → IsRoot root → AreListed (root_of root)
are_listed root rule x u there named =
    let index = Has-mapped root_index_of root.indices x there in
    let own = subst (λ (y : RootIndex). Has y.snapshots u) (sym index.2) named in
    let id = Has-mapped number_of index.0.snapshots u own in
    let passes = pass_has (lists root.snapshots) index.0.snapshots id.0 (all_has (IsListed root.snapshots) root.indices index.0 rule.listed index.1) id.1 in
    let snap = listed_id root.snapshots id.0 passes in
    (snap.0, snap.1, snap.2 ∙ id.2)

read_listed : {E : Type 0} (read : Result Root E) (r : RootData) → ((root : Root) → read ≡ Ok root → IsRoot root) → option_map root_of (result_ok read) ≡ Some r → AreListed r
read_listed (Err why) r rule h = absurd cc
read_listed (Ok root) r rule h = let same : root_of root ≡ r = cc in subst AreListed same (are_listed root (rule root refl))

kind_listed : (bytes : Bytes) (r : RootData) → root_kind.read bytes ≡ Some r → AreListed r
unfolding root_kind
kind_listed bytes r h = read_listed (root_from bytes) r (root_is bytes) h

-- what reads as a root lists each snapshot that one of its indices has
pub root_listed : (s : Start) (bytes : Bytes) (r : RootData) → (formats_of s).root.read bytes ≡ Some r → AreListed r
root_listed s bytes r h = kind_listed bytes r (ap (λ (kind : Kind RootData). kind.read bytes) (sym (root_kind_is s)) ∙ h)
