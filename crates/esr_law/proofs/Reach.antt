-- All that the safe root of a lawful world reaches is there.
use Rattle.std.proofs.Common.{◌≡◌, ◌≢◌, ◌⊎◌, ℕ, zero, suc, Bool, true, false, List, [], ◌∷◌, refl, sym, ap, ◌∙◌, subst, inl, inr}
use Rattle.std.specs.Prelude.{leb, if◌then◌else◌}
use Rattle.std.proofs.lemmas.Bool.Decides.{eqb_tells}
use Rattle.std.proofs.lemmas.Option.{same_Some}
use Rattle.esr_model.specs.Lists.{pairs_has}
use Rattle.esr_model.specs.Names.{BlobName, Root, IndexMeta, Snap, Meta, ShardSnap, ShardIndex, File}
use Rattle.esr_model.specs.Values.{Bytes, Has, RootSnap, RootIndex, RootData, FileEntry, Kind, Formats}
use Rattle.esr_model.specs.Shelf.{Shelved}
use Rattle.esr_model.specs.Parts.{part_names, parts_from, part_count}
use Rattle.esr_model.specs.Image.{At, Present, Reads, SnapStands, RootStands, Stands, Picked, RootIs}
use Rattle.esr_model.specs.Reach.{Reached, ReachSnap, ReachMeta, ReachIndexMeta, ReachIndex, ReachShardSnap, ReachPart}
use Rattle.esr_core.specs.World.{World, HeldIn}
use Rattle.esr_core.specs.Ids.{Law}
use Rattle.esr_core.specs.Allowed.{InReach}
use Rattle.esr_law.specs.Reach.{RefusesUnlisted, IsUnlistedMeta, HoldsListedReach, HoldsReach}

-- the uuid is listed, or not
abbrev IsListedIn : List RootSnap → ℕ → Type 0
IsListedIn snaps u = ((s : RootSnap) × Has snaps s × (s.uuid ≡ u)) ⊎ ((s : RootSnap) → Has snaps s → s.uuid ≢ u)

listed_or : (snaps : List RootSnap) (u : ℕ) → IsListedIn snaps u
listed_or [] u = inr (λ s none. absurd none)
listed_or (z ∷ snaps) u = elim (eqb_tells z.uuid u) [
  | inl is ↦ inl (z, inl refl, is.1)
  | inr not ↦ elim (listed_or snaps u) [
    | inl found ↦ inl (found.0, inr found.1, found.2)
    | inr none ↦ inr (λ s h. elim h [ inl is ↦ subst (λ (x : RootSnap). x.uuid ≢ u) is not.1 | inr later ↦ none s later ])
  ]
]

module _ (f : Formats) (w : World) where
  -- what is held is there
  present : {V : Type 0} (name : BlobName) (kind : Kind V) (v : V) → Reads (HeldIn f w) name kind v → Present f w.blobs name
  present name kind v reads = (reads.bytes, reads.there.0)

  -- a blob reads as one value
  one_value : {V : Type 0} (name : BlobName) (kind : Kind V) (a b : V) → Reads (HeldIn f w) name kind a → Reads (At f w.blobs) name kind b → a ≡ b
  one_value name kind a b held there = same_Some a b (sym held.reads ∙ ap kind.read (same_Some held.bytes there.bytes (sym held.there.0.0 ∙ there.there.0)) ∙ there.reads)

  -- what else is known of the snapshots of its indices
  reached_there : (root : RootData) (shelf : List Shelved) → RootStands f (HeldIn f w) root shelf → (Q : BlobName → Type 0)
      → ((x : RootIndex) (u : ℕ) → Has root.indices x → Has x.snapshots u → ((s : RootSnap) × Has root.snapshots s × (s.uuid ≡ u)) ⊎ Q (IndexMeta x.id u)) → (name : BlobName) → Reached f (At f w.blobs) root name
      → Present f w.blobs name ⊎ Q name
  reached_there root shelf stands Q known name reached = by name reached
    where
      of : (s : RootSnap) → Has root.snapshots s → (x : Shelved) × SnapStands f (HeldIn f w) root s x
      of s h = pairs_has (SnapStands f (HeldIn f w) root) root.snapshots shelf s stands.snapshots h

      by : (name : BlobName) → Reached f (At f w.blobs) root name → Present f w.blobs name ⊎ Q name
      by name (ReachSnap s h) = let z = (of s h).1 in inl (present (Snap s.uuid) f.info z.info z.info_reads)
      by name (ReachMeta s h) = let z = (of s h).1 in inl (present (Meta s.uuid) f.global _ z.global_reads)
      by name (ReachIndexMeta x u has_x has_u) = elim (known x u has_x has_u) [
        | inl found ↦
            let (s, h, is) = found in
            let z = (of s h).1 in
            let (r, in_info, name_is, id_is) = z.exact x has_x (subst (Has x.snapshots) (sym is) has_u) in
            let there : Present f w.blobs (IndexMeta r.id s.uuid) = present (IndexMeta r.id s.uuid) f.index_meta _ (z.metas r in_info) in
            inl (subst (λ (i : ℕ). Present f w.blobs (IndexMeta i u)) id_is (subst (λ (v : ℕ). Present f w.blobs (IndexMeta r.id v)) is there))
        | inr q ↦ inr q
      ]
      by name (ReachIndex i k g gen) = let z = stands.indices i k g gen in inl (present (ShardIndex i k g) f.shard_index z.held z.held_reads)
      by name (ReachShardSnap i k g s held l gen reads has_l has_s is) =
          let z = stands.indices i k g gen in
          let one = one_value (ShardIndex i k g) f.shard_index z.held held z.held_reads reads in
          let snap = z.snaps l s (subst (λ h. Has h.snapshots l) (sym one) has_l) has_s is in
          inl (present (ShardSnap i k s.uuid) f.shard_snap snap.0 snap.1)
      by name (ReachPart i k g held e part gen reads has_e has_part) =
          let z = stands.indices i k g gen in
          let one = one_value (ShardIndex i k g) f.shard_index z.held held z.held_reads reads in
          let file = z.files e (subst (λ h. Has h.files e) (sym one) has_e) in
          let piece = pairs_has (HeldIn f w) (part_names i k e) file.1.parts name file.1.there has_part in
          inl (piece.0, piece.1.0)

  -- the safe root stands, and its own name is there
  safe_stands : (shelf : List Shelved) → Law f w shelf → (n : ℕ) → w.safe ≡ suc n → Reads (HeldIn f w) (Root n) f.root w.root × RootStands f (HeldIn f w) w.root shelf
  safe_stands shelf l n safe =
      let picked : Stands f (HeldIn f w) n shelf = subst (λ (k : ℕ). Picked f (HeldIn f w) k shelf) safe l.lawful.sound.rooted.kept.picked in
      let reads : Reads (HeldIn f w) (Root n) f.root w.root = subst (λ (k : ℕ). RootIs f (HeldIn f w) k w.root) safe l.lawful.sound.carried.root_is in
      let one : picked.root ≡ w.root = one_value (Root n) f.root picked.root w.root picked.root_reads (record { bytes = reads.bytes; there = reads.there.0; reads = reads.reads }) in
      (reads, subst (λ (r : RootData). RootStands f (HeldIn f w) r shelf) one picked.stands)

  in_reach_there : (shelf : List Shelved) → Law f w shelf → (Q : BlobName → Type 0)
      → ((n : ℕ) → w.safe ≡ suc n → (x : RootIndex) (u : ℕ) → Has w.root.indices x → Has x.snapshots u → ((s : RootSnap) × Has w.root.snapshots s × (s.uuid ≡ u)) ⊎ Q (IndexMeta x.id u))
      → (name : BlobName) → InReach f w name → Present f w.blobs name ⊎ Q name
  in_reach_there shelf l Q known name (n, safe, h) =
      let root = safe_stands shelf l n safe in
      elim h [
        | inl is ↦ inl (subst (Present f w.blobs) (sym is) (present (Root n) f.root w.root root.0))
        | inr far ↦ reached_there w.root shelf root.1 Q (known n safe) name (subst (λ (r : RootData). Reached f (At f w.blobs) r name) (sym (one_value (Root n) f.root w.root far.0 root.0 far.1)) far.2)
      ]

  pub root_there : (shelf : List Shelved) → Law f w shelf → (n : ℕ) → w.safe ≡ suc n → Present f w.blobs (Root n)
  root_there shelf l n safe = present (Root n) f.root w.root (safe_stands shelf l n safe).0

  pub listed_reach : (shelf : List Shelved) → Law f w shelf → HoldsListedReach f w
  listed_reach shelf l name reach = in_reach_there shelf l (IsUnlistedMeta w.root) known name reach
    where
      known : (n : ℕ) → w.safe ≡ suc n → (x : RootIndex) (u : ℕ) → Has w.root.indices x → Has x.snapshots u → ((s : RootSnap) × Has w.root.snapshots s × (s.uuid ≡ u)) ⊎ IsUnlistedMeta w.root (IndexMeta x.id u)
      known n safe x u has_x has_u = elim (listed_or w.root.snapshots u) [
        | inl found ↦ inl found
        | inr none ↦ inr (record { index = x.id; uuid = u; name_is = refl; unlisted = none })
      ]

  pub whole_reach : (shelf : List Shelved) → Law f w shelf → RefusesUnlisted f → HoldsReach f w
  whole_reach shelf l refuses name reach = elim (in_reach_there shelf l (λ n. ⊥) known name reach) [ inl there ↦ there | inr none ↦ absurd none ]
    where
      known : (n : ℕ) → w.safe ≡ suc n → (x : RootIndex) (u : ℕ) → Has w.root.indices x → Has x.snapshots u → ((s : RootSnap) × Has w.root.snapshots s × (s.uuid ≡ u)) ⊎ ⊥
      known n safe x u has_x has_u = let reads = (safe_stands shelf l n safe).0 in inl (refuses reads.bytes w.root reads.reads x u has_x has_u)

-- ---- no root reaches a root

abbrev pub IsNoRoot : BlobName → Type 0
IsNoRoot (Root n) = ⊥
IsNoRoot name = Unit {0}

parts_no_root : (i k x p n : ℕ) (name : BlobName) → Has (parts_from i k x p n) name → IsNoRoot name
parts_no_root i k x p zero name h = absurd h
parts_no_root i k x p (suc n) name (inl is) = subst IsNoRoot is tt
parts_no_root i k x p (suc n) name (inr h) = parts_no_root i k x (suc p) n name h

piece_no_root : (i k : ℕ) (e : FileEntry) (name : BlobName) → Has (part_names i k e) name → IsNoRoot name
piece_no_root i k e name h = by (leb e.len e.part_size) h
  where
    by : (b : Bool) → Has (if b then File i k e.name ∷ [] else parts_from i k e.name 0 (part_count e.len e.part_size)) name → IsNoRoot name
    by true (inl is) = subst IsNoRoot is tt
    by true (inr none) = absurd none
    by false h = parts_no_root i k e.name 0 (part_count e.len e.part_size) name h

pub reached_no_root : (f : Formats) (has : BlobName → Bytes → Type 0) (root : RootData) (name : BlobName) → Reached f has root name → IsNoRoot name
reached_no_root f has root name (ReachPart i k g held e part gen reads has_e has_part) = piece_no_root i k e part has_part
reached_no_root f has root name h = tt
