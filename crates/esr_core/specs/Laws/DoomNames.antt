-- What a delete dooms, by the old root, the new one and what was read.
use Rattle.std.proofs.Common.{◌≡◌, ℕ, List, false, Some, ap, ◌∙◌, ◌⊎◌, zero, suc, ◌+◌, Bool, true, [], ◌∷◌, ◌++◌, map, Option, None, refl, sym, subst, inl, inr, arith}
use Rattle.std.proofs.lemmas.Option.{same_Some}
use Rattle.std.specs.Prelude.{◌&&◌, if◌then◌else◌}
use Rattle.std.proofs.lemmas.Bool.Decides.{eqb_tells}
use Rattle.std.proofs.lemmas.Bool.{and_parts, cond-true, cond-false, cases_Bool}
use Rattle.esr_model.specs.Names.{BlobName, Root, Snap, Meta, IndexMeta, ShardSnap, ShardIndex}
use Rattle.esr_model.specs.Values.{Formats, Bytes, Has, RootSnap, RootIndex, RootData, FileEntry, SnapList, ShardFiles}
use Rattle.esr_model.specs.Shelf.{names_uuid}
use Rattle.esr_model.specs.Image.{index_at, at_shard, at_shard_of}
use Rattle.esr_model.specs.Delete.{doomed_names, PrunedShard, uuids_of, lists_file, listed_lists, files_read, gone_by, gone_from, gone_shards, doomed_root, doomed_snaps, doomed_metas, doomed_index_metas, doomed_lists, doomed_parts, doomed_files, doomed_shards}
use Rattle.esr_core.specs.World.{Deleting, Ticket, Swap}
use Rattle.esr_core.specs.Pruning.{doomed_as, doomed_by, dooms}
use Rattle.esr_model.specs.Parts.{part_names}
use Rattle.esr_core.specs.Laws.Tests.{clash}
use Rattle.esr_model.specs.Lists.{Has-either, Has-mapped}

-- what a delete with a plan dooms
pub dooms_is : (f : Formats) (t : Ticket) (uuids : List ℕ) (s : Swap) → t.work ≡ Deleting uuids (Some s) → t.clean ≡ false → dooms f t ≡ doomed_names f t.safe t.root s.root uuids t.read
dooms_is f t uuids s work deletes = ap (doomed_by f t) work ∙ ap (doomed_as f t uuids s) deletes

-- a shard of an index of the old root: the new one has none for it, or another
pub record IsGone (new : RootData) (index : ℕ) (gs : List (Option ℕ)) (number : ℕ) (p : PrunedShard) : Type 0 where
  pub index_is : p.index ≡ index
  pub place : ℕ
  pub number_is : p.number ≡ number + place
  pub at : at_shard gs place ≡ Some p.base
  pub none : p.kept ≡ false → at_shard_of (index_at new.indices p.index) p.number ≡ None
  pub other : p.kept ≡ true → at_shard_of (index_at new.indices p.index) p.number ≡ Some p.base → ⊥

no_more : (n : ℕ) → n + 0 ≡ n
no_more n = omega arith

shifted : (a b : ℕ) → a + suc b ≡ suc a + b
shifted a b = omega arith

module _ (new : RootData) where
  by_one : (index number base : ℕ) (gs : List (Option ℕ)) (o : Option ℕ) (rest : List PrunedShard) (p : PrunedShard) → at_shard_of (index_at new.indices index) number ≡ o
      → Has (gone_by base o index number rest) p → IsGone new index (Some base ∷ gs) number p ⊎ Has rest p
  by_one index number base gs None rest p e (inl same) = inl (record {
    index_is = sym (ap (λ (q : PrunedShard). q.index) same);
    place = 0;
    number_is = sym (ap (λ (q : PrunedShard). q.number) same) ∙ sym (no_more number);
    at = ap (λ (q : PrunedShard). Some q.base) same;
    none = λ kept. (λ j. at_shard_of (index_at new.indices (sym same j).index) (sym same j).number) ∙ e;
    other = λ kept. absurd (clash false (ap (λ (q : PrunedShard). q.kept) same ∙ kept) refl);
  })
  by_one index number base gs None rest p e (inr m) = inr m
  by_one index number base gs (Some now) rest p e m = elim (eqb_tells now base) [
    | inl t ↦ inr (subst (λ (l : List PrunedShard). Has l p) (cond-true _ _ _ t.0) m)
    | inr t ↦ elim (subst (λ (l : List PrunedShard). Has l p) (cond-false _ _ _ t.0) m) [
      | inl same ↦ inl (record {
        index_is = sym (ap (λ (q : PrunedShard). q.index) same);
        place = 0;
        number_is = sym (ap (λ (q : PrunedShard). q.number) same) ∙ sym (no_more number);
        at = ap (λ (q : PrunedShard). Some q.base) same;
        none = λ kept. absurd (clash true refl (ap (λ (q : PrunedShard). q.kept) same ∙ kept));
        other = λ kept has. t.1 (same_Some now base (sym e ∙ (λ j. at_shard_of (index_at new.indices (same j).index) (same j).number) ∙ has ∙ ap (λ (q : PrunedShard). Some q.base) (sym same)));
      })
      | inr later ↦ inr later
    ]
  ]

  one_on : (index number : ℕ) (g : Option ℕ) (gs : List (Option ℕ)) (p : PrunedShard) → IsGone new index gs (suc number) p → IsGone new index (g ∷ gs) number p
  one_on index number g gs p h = record { index_is = h.index_is; place = suc h.place; number_is = h.number_is ∙ sym (shifted number h.place); at = h.at; none = h.none; other = h.other }

  of_index : (index number : ℕ) (gs : List (Option ℕ)) (p : PrunedShard) → Has (gone_from new index number gs) p → IsGone new index gs number p
  of_index index number [] p m = absurd m
  of_index index number (None ∷ gs) p m = one_on index number None gs p (of_index index (suc number) gs p m)
  of_index index number (Some base ∷ gs) p m = elim (by_one index number base gs (at_shard_of (index_at new.indices index) number) (gone_from new index (suc number) gs) p refl m) [
    | inl h ↦ h
    | inr later ↦ one_on index number (Some base) gs p (of_index index (suc number) gs p later)
  ]

  pub of_indices : (xs : List RootIndex) (p : PrunedShard) → Has (gone_shards new xs) p → (x : RootIndex) × Has xs x × IsGone new x.id x.generations 0 p
  of_indices [] p m = absurd m
  of_indices (x ∷ xs) p m = elim (Has-either (gone_from new x.id 0 x.generations) (gone_shards new xs) p m) [
    | inl here ↦ (x, inl refl, of_index x.id 0 x.generations p here)
    | inr later ↦ let (y, there, h) = of_indices xs p later in (y, inr there, h)
  ]

pub data IsDoomed (f : Formats) (safe : ℕ) (old new : RootData) (uuids : List ℕ) (read : List (BlobName × Bytes)) : BlobName → Type 0 where
  TheRoot : (n : ℕ) → safe ≡ suc n → IsDoomed f safe old new uuids read (Root n)
  ASnap : (s : RootSnap) → Has old.snapshots s → names_uuid uuids s.uuid ≡ true → IsDoomed f safe old new uuids read (Snap s.uuid)
  AMeta : (s : RootSnap) → Has old.snapshots s → names_uuid uuids s.uuid ≡ true → IsDoomed f safe old new uuids read (Meta s.uuid)
  AnIndexMeta : (x : RootIndex) (u : ℕ) → Has old.indices x → Has x.snapshots u → names_uuid uuids u ≡ true → IsDoomed f safe old new uuids read (IndexMeta x.id u)
  AnIndex : (p : PrunedShard) → Has (gone_shards new old.indices) p → IsDoomed f safe old new uuids read (ShardIndex p.index p.number p.base)
  AList : (p : PrunedShard) (was : ShardFiles) (l : SnapList) → Has (gone_shards new old.indices) p → files_read f read p ≡ Some was → Has was.snapshots l → names_uuid (uuids_of old) l.uuid ≡ true
      → (p.kept ≡ true → names_uuid (uuids_of new) l.uuid ≡ false)
      → IsDoomed f safe old new uuids read (ShardSnap p.index p.number l.uuid)
  APart : (p : PrunedShard) (was : ShardFiles) (e : FileEntry) (name : BlobName) → Has (gone_shards new old.indices) p → files_read f read p ≡ Some was → Has was.files e
      → (p.kept ≡ true → lists_file (listed_lists (uuids_of new) was.snapshots) e ≡ false)
      → Has (part_names p.index p.number e) name → IsDoomed f safe old new uuids read name

-- what keeps a list that the new index hasn't
not_left : (kept named : Bool) → (if kept then (if named then false else true) else true) ≡ true → kept ≡ true → named ≡ false
not_left true true e k = absurd (clash false e refl)
not_left true false e k = refl
not_left false named e k = absurd (clash false k refl)

not_listed : (kept listed : Bool) → (kept && listed) ≡ false → kept ≡ true → listed ≡ false
not_listed true listed e k = e
not_listed false listed e k = absurd (clash false k refl)

module _ (f : Formats) (safe : ℕ) (old new : RootData) (uuids : List ℕ) (read : List (BlobName × Bytes)) where
  root_doomed : (n : ℕ) → safe ≡ n → (name : BlobName) → Has (doomed_root n) name → IsDoomed f safe old new uuids read name
  root_doomed zero e name m = absurd m
  root_doomed (suc n) e name (inl same) = subst (IsDoomed f safe old new uuids read) same (TheRoot n e)
  root_doomed (suc n) e name (inr m) = absurd m

  snaps_doomed : (ss : List RootSnap) → ((s : RootSnap) → Has ss s → Has old.snapshots s) → (name : BlobName) → Has (doomed_snaps uuids ss) name → IsDoomed f safe old new uuids read name
  snaps_doomed [] within name m = absurd m
  snaps_doomed (s ∷ ss) within name m = elim (cases_Bool (names_uuid uuids s.uuid)) [
    | inl b ↦ elim (subst (λ (l : List BlobName). Has l name) (cond-true _ _ _ b) m) [
      | inl same ↦ subst (IsDoomed f safe old new uuids read) same (ASnap s (within s (inl refl)) b)
      | inr more ↦ elim more [
        | inl same ↦ subst (IsDoomed f safe old new uuids read) same (AMeta s (within s (inl refl)) b)
        | inr later ↦ snaps_doomed ss (λ z n. within z (inr n)) name later
      ]
    ]
    | inr b ↦ snaps_doomed ss (λ z n. within z (inr n)) name (subst (λ (l : List BlobName). Has l name) (cond-false _ _ _ b) m)
  ]

  metas_doomed : (x : RootIndex) → Has old.indices x → (us : List ℕ) → ((u : ℕ) → Has us u → Has x.snapshots u) → (name : BlobName) → Has (doomed_metas uuids x.id us) name → IsDoomed f safe old new uuids read name
  metas_doomed x there [] within name m = absurd m
  metas_doomed x there (u ∷ us) within name m = elim (cases_Bool (names_uuid uuids u)) [
    | inl b ↦ elim (subst (λ (l : List BlobName). Has l name) (cond-true _ _ _ b) m) [
      | inl same ↦ subst (IsDoomed f safe old new uuids read) same (AnIndexMeta x u there (within u (inl refl)) b)
      | inr later ↦ metas_doomed x there us (λ v n. within v (inr n)) name later
    ]
    | inr b ↦ metas_doomed x there us (λ v n. within v (inr n)) name (subst (λ (l : List BlobName). Has l name) (cond-false _ _ _ b) m)
  ]

  index_metas_doomed : (xs : List RootIndex) → ((x : RootIndex) → Has xs x → Has old.indices x) → (name : BlobName) → Has (doomed_index_metas uuids xs) name → IsDoomed f safe old new uuids read name
  index_metas_doomed [] within name m = absurd m
  index_metas_doomed (x ∷ xs) within name m = elim (Has-either (doomed_metas uuids x.id x.snapshots) (doomed_index_metas uuids xs) name m) [
    | inl here ↦ metas_doomed x (within x (inl refl)) x.snapshots (λ u n. n) name here
    | inr later ↦ index_metas_doomed xs (λ z n. within z (inr n)) name later
  ]

  module _ (p : PrunedShard) (gone : Has (gone_shards new old.indices) p) (was : ShardFiles) (reads : files_read f read p ≡ Some was) where
    lists_doomed : (lists : List SnapList) → ((l : SnapList) → Has lists l → Has was.snapshots l) → (name : BlobName) → Has (doomed_lists (uuids_of old) (uuids_of new) p lists) name → IsDoomed f safe old new uuids read name
    lists_doomed [] within name m = absurd m
    lists_doomed (l ∷ lists) within name m =
        let left : Bool = if p.kept then (if names_uuid (uuids_of new) l.uuid then false else true) else true in
        elim (cases_Bool (names_uuid (uuids_of old) l.uuid && left)) [
          | inl b ↦ elim (subst (λ (ns : List BlobName). Has ns name) (cond-true _ _ _ b) m) [
            | inl same ↦
                let h = and_parts (names_uuid (uuids_of old) l.uuid) left b in
                subst (IsDoomed f safe old new uuids read) same (AList p was l gone reads (within l (inl refl)) h.0 (not_left p.kept (names_uuid (uuids_of new) l.uuid) h.1))
            | inr later ↦ lists_doomed lists (λ z n. within z (inr n)) name later
          ]
          | inr b ↦ lists_doomed lists (λ z n. within z (inr n)) name (subst (λ (ns : List BlobName). Has ns name) (cond-false _ _ _ b) m)
        ]

    parts_doomed : (files : List FileEntry) → ((e : FileEntry) → Has files e → Has was.files e) → (name : BlobName) → Has (doomed_parts (listed_lists (uuids_of new) was.snapshots) p files) name → IsDoomed f safe old new uuids read name
    parts_doomed [] within name m = absurd m
    parts_doomed (e ∷ files) within name m = elim (cases_Bool (p.kept && lists_file (listed_lists (uuids_of new) was.snapshots) e)) [
      | inl b ↦ parts_doomed files (λ z n. within z (inr n)) name (subst (λ (ns : List BlobName). Has ns name) (cond-true _ _ _ b) m)
      | inr b ↦ elim (Has-either (part_names p.index p.number e) (doomed_parts (listed_lists (uuids_of new) was.snapshots) p files) name (subst (λ (ns : List BlobName). Has ns name) (cond-false _ _ _ b) m)) [
        | inl here ↦ APart p was e name gone reads (within e (inl refl)) (not_listed p.kept (lists_file (listed_lists (uuids_of new) was.snapshots) e) b) here
        | inr later ↦ parts_doomed files (λ z n. within z (inr n)) name later
      ]
    ]

  files_doomed : (p : PrunedShard) → Has (gone_shards new old.indices) p → (o : Option ShardFiles) → files_read f read p ≡ o → (name : BlobName) → Has (doomed_files (uuids_of old) (uuids_of new) p o) name
      → IsDoomed f safe old new uuids read name
  files_doomed p gone None reads name m = absurd m
  files_doomed p gone (Some was) reads name m = elim (Has-either (doomed_lists (uuids_of old) (uuids_of new) p was.snapshots) (doomed_parts (listed_lists (uuids_of new) was.snapshots) p was.files) name m) [
    | inl here ↦ lists_doomed p gone was reads was.snapshots (λ l n. n) name here
    | inr there ↦ parts_doomed p gone was reads was.files (λ e n. n) name there
  ]

  shards_doomed : (shards : List PrunedShard) → ((p : PrunedShard) → Has shards p → Has (gone_shards new old.indices) p) → (name : BlobName) → Has (doomed_shards f read (uuids_of old) (uuids_of new) shards) name
      → IsDoomed f safe old new uuids read name
  shards_doomed [] within name m = absurd m
  shards_doomed (p ∷ shards) within name (inl same) = subst (IsDoomed f safe old new uuids read) same (AnIndex p (within p (inl refl)))
  shards_doomed (p ∷ shards) within name (inr m) = elim (Has-either (doomed_files (uuids_of old) (uuids_of new) p (files_read f read p)) (doomed_shards f read (uuids_of old) (uuids_of new) shards) name m) [
    | inl here ↦ files_doomed p (within p (inl refl)) (files_read f read p) refl name here
    | inr later ↦ shards_doomed shards (λ q n. within q (inr n)) name later
  ]

  pub doomed_is : (name : BlobName) → Has (doomed_names f safe old new uuids read) name → IsDoomed f safe old new uuids read name
  unfolding doomed_names
  doomed_is name m =
      let rest : List BlobName = doomed_shards f read (uuids_of old) (uuids_of new) (gone_shards new old.indices) in
      elim (Has-either (doomed_root safe ++ doomed_snaps uuids old.snapshots ++ doomed_index_metas uuids old.indices) rest name m) [
        | inl x ↦ elim (Has-either (doomed_root safe ++ doomed_snaps uuids old.snapshots) (doomed_index_metas uuids old.indices) name x) [
          | inl y ↦ elim (Has-either (doomed_root safe) (doomed_snaps uuids old.snapshots) name y) [
            | inl a ↦ root_doomed safe refl name a
            | inr b ↦ snaps_doomed old.snapshots (λ s n. n) name b
          ]
          | inr c ↦ index_metas_doomed old.indices (λ z n. n) name c
        ]
        | inr d ↦ shards_doomed (gone_shards new old.indices) (λ p n. n) name d
      ]

pub uuid_of : (ss : List RootSnap) (u : ℕ) → Has (map (λ (s : RootSnap). s.uuid) ss) u → (s : RootSnap) × Has ss s × (s.uuid ≡ u)
uuid_of ss u m = Has-mapped (λ (s : RootSnap). s.uuid) ss u m
