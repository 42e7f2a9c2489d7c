-- What a shard unit found there isn't doomed.
use Rattle.std.proofs.Common.{◌≡◌, ◌∙◌, ap, ℕ, List, [], ◌∷◌, Option, Some, None, refl, sym, subst, inl, inr}
use Rattle.esr_model.specs.Parts.{part_names}
use Rattle.esr_model.specs.Names.{BlobName, ShardSnap, ShardIndex}
use Rattle.esr_model.specs.Values.{Bytes, FileEntry, ShardFiles, ShardResult, Formats}
use Rattle.esr_model.specs.Shelf.{Shelved}
use Rattle.esr_model.specs.Image.{Has, AllPairs, At, Reads, FileStands}
use Rattle.esr_core.specs.World.{World, Op, HeldIn}
use Rattle.esr_core.specs.Ready.{IsShard}
use Rattle.esr_core.specs.Steps.{Drew, DoneShard, ExtendsBase}
use Rattle.esr_core.specs.Turns.{DoneFound, InBase}
use Rattle.esr_core.specs.Generations.{AreFilesOf, ShardLaw, Base}
use Rattle.esr_core.specs.Ids.{OfId, Law}
use Rattle.esr_core.specs.Laws.PartNames.{in_parts}
use Rattle.esr_core.specs.Laws.CloneSources.{SourceStands, source_stands}
use Rattle.esr_core.proofs.Copying.{source_held, source_stand}
use Rattle.esr_model.specs.Lists.{AllPairs-with, pairs_has}

some_same : {A : Type 0} {x y : A} → Some x ≡ Some y → x ≡ y
some_same e = cc

-- the file of a pair
file_of : (f : Formats) (has : BlobName → Bytes → Type 0) (index shard : ℕ) (es : List FileEntry) (files : List (Bytes × Bytes))
    → AllPairs (λ e file. (e.physical ≡ file.0) × FileStands f has index shard e file.1) es files → (e : FileEntry) → Has es e → (bytes : Bytes) × FileStands f has index shard e bytes
file_of f has index shard [] files h e m = absurd m
file_of f has index shard (x ∷ xs) [] h e m = absurd h
file_of f has index shard (x ∷ xs) (y ∷ ys) h e (inl same) = (y.1, subst (λ z. FileStands f has index shard z y.1) same h.0.1)
file_of f has index shard (x ∷ xs) (y ∷ ys) h e (inr m) = file_of f has index shard xs ys h.1 e m

module _ (f : Formats) (w : World) (shelf : List Shelved) (l : Law f w shelf) (k : ℕ) (r : ShardResult) (new : World) (d : DoneFound f w k r new) where
  law : ShardLaw f (HeldIn f w) w.root w.ops k d.t r.index r.shard
  law = l.lawful.sound.carried.shards k d.t d.out.there d.out.out r.index r.shard d.is

  drawn_aside : (name : BlobName) (id : ℕ) → Drew d.t id → OfId name id → Has w.doomed name → ⊥
  drawn_aside name id drew of m = (l.ids.doomed name m).ids k d.t d.out.there d.out.out (subst IsShard (sym d.is) tt) id drew of

  snap_aside : Has w.doomed (ShardSnap r.index r.shard d.t.uuid) → ⊥
  snap_aside m = (l.ids.doomed (ShardSnap r.index r.shard d.t.uuid) m).uuids d.t.op law.op law.op_there (sym law.uuid_is)

  part_aside : (e : FileEntry) → Drew d.t e.name → (name : BlobName) → Has (part_names r.index r.shard e) name → Has w.doomed name → ⊥
  part_aside e drew name part m = elim (in_parts r.index r.shard e name part) [
    | inl h ↦ drawn_aside name e.name drew (subst (λ n. OfId n e.name) (sym h) refl) m
    | inr h ↦ drawn_aside name e.name drew (subst (λ n. OfId n e.name) (sym h.1) refl) m
  ]

  -- what the base has is not doomed
  base_aside : (base : Option ℕ) → Base f (HeldIn f w) w.root w.ops r.index r.shard base → (e : FileEntry) → InBase f (At f w.blobs) r.index r.shard base e → (name : BlobName) → Has (part_names r.index r.shard e) name
      → Has w.doomed name → ⊥
  base_aside None h e there name part m = there
  base_aside (Some b) h e (was, reads, has) name part m =
      let stands = h.1.stands in
      let same : was ≡ stands.held = one_value was stands.held reads stands.held_reads in
      let (bytes, file) = stands.files e (subst (λ (x : ShardFiles). Has x.files e) same has) in
      (pairs_has (HeldIn f w) (part_names r.index r.shard e) file.parts name file.there part).1.1 m
    where
      one_value : (a c : ShardFiles) → Reads (At f w.blobs) (ShardIndex r.index r.shard b) f.shard_index a → Reads (HeldIn f w) (ShardIndex r.index r.shard b) f.shard_index c → a ≡ c
      one_value a c x y = some_same (sym x.reads ∙ ap f.shard_index.read (some_same (sym x.there.0 ∙ y.there.0.0)) ∙ y.reads)

  extends_held : (base : Option ℕ) (held : ShardFiles) (files : List FileEntry) → Base f (HeldIn f w) w.root w.ops r.index r.shard base → ExtendsBase f (At f w.blobs) r.index r.shard base held d.t.uuid files
      → ExtendsBase f (HeldIn f w) r.index r.shard base held d.t.uuid files
  extends_held None held files h x = x
  extends_held (Some b) held files h (was, reads, ext) = (was, record { bytes = reads.bytes; there = (reads.there, h.1.stands.held_reads.there.1); reads = reads.reads }, ext)

  held_pairs : (names : List BlobName) (parts : List Bytes) → ((name : BlobName) → Has names name → Has w.doomed name → ⊥) → AllPairs (At f w.blobs) names parts → AllPairs (HeldIn f w) names parts
  held_pairs names parts aside h = AllPairs-with (At f w.blobs) (HeldIn f w) names parts (λ name b m at. (at, aside name m)) h

  held_file : (e : FileEntry) → Has d.snap.files e → (bytes : Bytes) → FileStands f (At f w.blobs) r.index r.shard e bytes → FileStands f (HeldIn f w) r.index r.shard e bytes
  held_file e m bytes h =
      record {
        parts = h.parts;
        there = held_pairs (part_names r.index r.shard e) h.parts (λ name part. elim (d.reused e m) [ inl drew ↦ part_aside e drew name part | inr base ↦ base_aside d.t.base law.base e base name part ]) h.there;
        full = h.full;
        joined = h.joined;
        len = h.len;
        digest = h.digest;
      }

  -- what a clone's shard copies stands
  source_at : (u : ℕ) → d.op.source ≡ Some u → SourceStands f w d.t r.index r.shard u
  source_at u copies = source_stands f w shelf l k d.t d.out r.index r.shard d.is u (law.source_is ∙ ap (λ (x : Op). x.source) (some_same (sym law.op_there ∙ d.op_there)) ∙ copies)

  files_held : (source : Option ℕ) → d.op.source ≡ source → AreFilesOf f (At f w.blobs) source r.index r.shard d.snap.files → AreFilesOf f (HeldIn f w) source r.index r.shard d.snap.files
  files_held None copies h = (
    h.0,
    AllPairs-with (λ (e : FileEntry) (file : Bytes × Bytes). (e.physical ≡ file.0) × FileStands f (At f w.blobs) r.index r.shard e file.1)
        (λ (e : FileEntry) (file : Bytes × Bytes). (e.physical ≡ file.0) × FileStands f (HeldIn f w) r.index r.shard e file.1) d.snap.files h.0
        (λ e file m p. (p.0, held_file e m file.1 p.1)) h.1,
  )
  files_held (Some u) copies (was, reads, same) = (was, source_held f w d.t r.index r.shard u (source_at u copies) was reads, same)

  files_stand : (source : Option ℕ) → d.op.source ≡ source → AreFilesOf f (At f w.blobs) source r.index r.shard d.snap.files → (e : FileEntry) → Has d.snap.files e → (bytes : Bytes) × FileStands f (HeldIn f w) r.index r.shard e bytes
  files_stand None copies h e m = let (bytes, file) = file_of f (At f w.blobs) r.index r.shard d.snap.files h.0 h.1 e m in (bytes, held_file e m bytes file)
  files_stand (Some u) copies (was, reads, same) e m = source_stand f w d.t r.index r.shard u (source_at u copies) was reads e (subst (λ (xs : List FileEntry). Has xs e) (sym same) m)

  pub found : DoneShard f w k r new
  found =
      record {
        t = d.t;
        out = d.out;
        is = d.is;
        op = d.op;
        op_there = d.op_there;
        drew = d.drew;
        snap = d.snap;
        snap_reads = record { bytes = d.snap_reads.bytes; there = (d.snap_reads.there, snap_aside); reads = d.snap_reads.reads };
        held = d.held;
        held_reads = record { bytes = d.held_reads.bytes; there = (d.held_reads.there, drawn_aside (ShardIndex r.index r.shard r.generation) r.generation d.drew refl); reads = d.held_reads.reads };
        extends = extends_held d.t.base d.held d.snap.files law.base d.extends;
        s = d.s;
        s_there = d.s_there;
        state = d.state;
        files = files_held d.op.source refl d.files;
        stand = files_stand d.op.source refl d.files;
        new_is = d.new_is;
      }
