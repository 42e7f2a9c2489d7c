-- The infos of the listed snapshots, and what disagrees with them.
use Rattle.std.proofs.Common.{◌≡◌, ℕ, ◌+◌, ◌<◌, List, [], ◌∷◌, ◌++◌, map, take, length, get_or, sym, subst}
use Rattle.esr_model.specs.Loops.{next as next_item}
use Rattle.esr_meta.specs.Info.{Info}
use Rattle.esr_root.specs.declared.snaps.RootSnap.{RootSnap as CodeSnap}
use Rattle.esr_formats.specs.Infos.{info_of_code}
use Rattle.esr_formats.specs.Roots.{root_snap_of}
use Rattle.esr_model.specs.Names.{BlobName, Root, Snap, Meta, IndexMeta}
use Rattle.esr_model.specs.Values.{Has, IsOneEach, IndexRef, RootSnap, RootData, SnapInfo, GlobalMeta, IndexMetadata}
use Rattle.esr_model.specs.Image.{global_of}
use Rattle.esr_model.specs.Agreement.{Agrees}
use Rattle.esr_model.specs.Lists.{AllPairs-snoc}
use Rattle.esr_core.specs.World.{Caller}
use Rattle.esr_core.specs.Entry.{Moment}
use Rattle.esr_desk.specs.Start.{Start, formats_of}
use Rattle.esr_desk.specs.Own.{caller_of}
use Rattle.esr_desk.specs.Check.Shown.{ReadAs, Disagree, InfoBeside, GlobalBeside, IndexMetaBeside}
use Rattle.esr_check.specs.Went.{Grown, Went}
use Rattle.esr_check.specs.Pieces.{HasRoot, HasMetas, HasInfo, HasInfosOf}
use Rattle.esr_check.proofs.Going.{read_more, infos_more, root_on}
use Rattle.esr_check.proofs.Listing.{map_push}

-- ---- the infos so far

pub infos_next : (s : Start) (c d : Caller) (root : RootData) (items : List CodeSnap) (i : ℕ) (x : CodeSnap) (infos : List Info) (info : Info) → Grown c d → i < length items → x ≡ get_or items i x
    → HasInfosOf s c root (map root_snap_of (take i items)) (map info_of_code infos) → HasInfo s d root (root_snap_of x) (info_of_code info) → HasInfosOf s d root (map root_snap_of (take (i + 1) items)) (map info_of_code (infos ++ info ∷ []))
infos_next s c d root items i x infos info grown less is before here =
    subst (λ (snaps : List RootSnap). HasInfosOf s d root snaps (map info_of_code (infos ++ info ∷ []))) (sym (next_item root_snap_of items i x less is))
    (subst (λ (ys : List SnapInfo). HasInfosOf s d root (map root_snap_of (take i items) ++ root_snap_of x ∷ []) ys) (sym (map_push info_of_code infos info))
    (AllPairs-snoc (HasInfo s d root) (map root_snap_of (take i items)) (map info_of_code infos) (root_snap_of x) (info_of_code info)
    (infos_more s c d grown root (map root_snap_of (take i items)) (map info_of_code infos) before) here))

-- ---- a snapshot, piece by piece

pub has_info : (s : Start) (mid next new : List Moment) (root : RootData) (snap : RootSnap) (info : SnapInfo) (P Q : BlobName → Type 0) → Went s mid next P → Went s next new Q
    → ReadAs s (caller_of s mid) (Snap snap.uuid) (formats_of s).info info → Agrees root snap info
    → ReadAs s (caller_of s next) (Meta snap.uuid) (formats_of s).global (global_of info) → HasMetas s (caller_of s new) snap.uuid info.indices → HasInfo s (caller_of s new) root snap info
has_info s mid next new root snap info P Q first second read agrees global metas = record {
  read = read_more s (caller_of s next) (caller_of s new) second.grown (Snap snap.uuid) (formats_of s).info info (read_more s (caller_of s mid) (caller_of s next) first.grown (Snap snap.uuid) (formats_of s).info info read);
  agrees = agrees;
  global = read_more s (caller_of s next) (caller_of s new) second.grown (Meta snap.uuid) (formats_of s).global (global_of info) global;
  metas = metas;
}

-- ---- what disagrees

-- a root that reads has each index once
pub each_once : (s : Start) (log : List Moment) (n : ℕ) (root : RootData) → HasRoot s log n root → IsOneEach root.indices
each_once s log n root h = (formats_of s).one_each h.read.bytes root h.read.reads

pub info_beside : (s : Start) (old new : List Moment) (P : BlobName → Type 0) (n : ℕ) (root : RootData) (snap : RootSnap) (info : SnapInfo) → Went s old new P → HasRoot s old n root → Has root.snapshots snap
    → ReadAs s (caller_of s new) (Snap snap.uuid) (formats_of s).info info → (Agrees root snap info → ⊥) → Disagree s (caller_of s new) (Snap snap.uuid) (Root n)
info_beside s old new P n root snap info went has listed read differ = InfoBeside n root snap info (root_on s old new P n root went has).read listed read differ

pub global_beside : (s : Start) (old new : List Moment) (P : BlobName → Type 0) (uuid : ℕ) (info : SnapInfo) (meta : GlobalMeta) → Went s old new P → ReadAs s (caller_of s old) (Snap uuid) (formats_of s).info info
    → ReadAs s (caller_of s new) (Meta uuid) (formats_of s).global meta
    → (meta ≡ global_of info → ⊥) → Disagree s (caller_of s new) (Meta uuid) (Snap uuid)
global_beside s old new P uuid info meta went was read differ = GlobalBeside uuid info meta (read_more s (caller_of s old) (caller_of s new) went.grown (Snap uuid) (formats_of s).info info was) read differ

pub meta_beside : (s : Start) (old new : List Moment) (P : BlobName → Type 0) (uuid : ℕ) (info : SnapInfo) (r : IndexRef) (meta : IndexMetadata) → Went s old new P → ReadAs s (caller_of s old) (Snap uuid) (formats_of s).info info
    → Has info.indices r
    → ReadAs s (caller_of s new) (IndexMeta r.id uuid) (formats_of s).index_meta meta → (meta ≡ record { index = r; uuid = uuid } → ⊥) → Disagree s (caller_of s new) (IndexMeta r.id uuid) (Snap uuid)
meta_beside s old new P uuid info r meta went was there read differ = IndexMetaBeside uuid info r meta (read_more s (caller_of s old) (caller_of s new) went.grown (Snap uuid) (formats_of s).info info was) there read differ
