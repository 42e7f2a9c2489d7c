-- What a clone's ticket wrote is the shard: the files that its source has of it, which its base has, too.
use Rattle.std.proofs.Common.{◌≡◌, ◌⊎◌, ℕ, suc, ◌+◌, false, List, Some, map, refl, sym, ap, ◌∙◌, subst, inl, inr, arith}
use Rattle.std.specs.FinMap as fin
use Rattle.std.proofs.lemmas.Option.{same_Some}
use Rattle.esr_model.specs.Names.{BlobName, ShardSnap, ShardIndex}
use Rattle.esr_model.specs.Values.{Bytes, Has, FileEntry, ShardSnapshot, ShardFiles, ShardResult, Formats}
use Rattle.esr_model.specs.Shelf.{Shelved}
use Rattle.esr_model.specs.Image.{At, Reads}
use Rattle.esr_model.specs.Uploads.{with_snap, clone_blobs}
use Rattle.esr_core.specs.World.{World, Op, ShardWork, Out, Done, Shard, Ticket, marked}
use Rattle.esr_core.specs.Generations.{AreFilesOf}
use Rattle.esr_core.specs.Ready.{IsShard}
use Rattle.esr_core.specs.Steps.{IsOut, Drew, ExtendsBase, completing}
use Rattle.esr_core.specs.Turns.{InBase, DoneFound}
use Rattle.esr_core.specs.Ids.{Law}
use Rattle.esr_core.specs.Written.{WroteLaw}
use Rattle.esr_core.specs.Allowed.{Based, ClonedBy}
use Rattle.esr_core.proofs.Storing.{extended_old}
use Rattle.esr_core.specs.Laws.CloneSources.{SourceStands, source_stands}
use Rattle.esr_core.proofs.Copying.{source_in_base, source_found}

module _ (f : Formats) (w : World) (shelf : List Shelved) (l : Law f w shelf) (k : ℕ) (t : Ticket) (out : IsOut w k t) (r : ShardResult)
    (is : t.work ≡ Shard r.index r.shard) (source : ℕ) (copies : t.source ≡ Some source) (b : ClonedBy f t source r) where
  law : WroteLaw f w.blobs t
  law = l.written k t out.there out.out (subst IsShard (sym is) tt)

  stands : SourceStands f w t r.index r.shard source
  stands = source_stands f w shelf l k t out r.index r.shard is source copies

  there : (name : BlobName) (bytes : Bytes) → Has (clone_blobs f b.base r.index r.shard t.uuid t.first b.was.files) (name, bytes) → At f w.blobs name bytes
  there name bytes m = law.there name bytes (b.wrote name bytes m)

  drew : Drew t r.generation
  drew = let g : r.generation ≡ t.first = b.generation in let d : t.first + t.drawn ≡ suc r.generation = b.drew in record { from = omega (arith, g); below = omega (arith, d) }

  -- what was read of the source is there, and the base
  was_read : Reads (At f w.blobs) (ShardSnap r.index r.shard source) f.shard_snap b.was
  was_read = record { bytes = b.was_read.bytes; there = law.source r.index r.shard source b.was_read.bytes is copies b.was_read.there; reads = b.was_read.reads }

  base_read : Reads (At f w.blobs) (ShardIndex r.index r.shard stands.base) f.shard_index b.base
  base_read =
      let based : Based f t r.index r.shard (Some stands.base) b.base = subst (λ o. Based f t r.index r.shard o b.base) stands.base_is b.based in
      record { bytes = based.0; there = law.base r.index r.shard stands.base based.0 is stands.base_is based.1; reads = based.2 }

  base_is : b.base ≡ stands.stands.held
  base_is = same_Some _ _ (sym base_read.reads ∙ ap f.shard_index.read (same_Some _ _ (sym base_read.there.0 ∙ stands.stands.held_reads.there.0.0)) ∙ stands.stands.held_reads.reads)

  -- each file is one of the base
  pub in_base : (e : FileEntry) → Has b.was.files e → Has b.base.files e
  in_base e m =
      let same : b.was ≡ stands.lists.snap = source_found f w t r.index r.shard source stands b.was was_read in
      subst (λ (h : ShardFiles). Has h.files e) (sym base_is) (source_in_base f w t r.index r.shard source stands e (subst (λ (x : ShardSnapshot). Has x.files e) same m))

  pub cloned_found : (op : Op) → fin.get w.ops t.op ≡ Some op → op.source ≡ Some source → (s : ShardWork) → Has op.shards s → s.state ≡ Out k
      → (new : World) → new ≡ record w {
        ops = fin.insert w.ops t.op (record op { shards = map (marked k (Done r)) op.shards });
        tickets = fin.insert w.tickets k (record t { out = false });
        completed = completing w.completed t.op (map (marked k (Done r)) op.shards);
      }
      → DoneFound f w k r new
  cloned_found op op_there op_copies s s_there state new e =
      let files : List FileEntry = b.was.files in
      record {
        t = t;
        out = out;
        is = is;
        op = op;
        op_there = op_there;
        drew = drew;
        snap = record { uuid = t.uuid; files = files };
        snap_reads = record { bytes = f.shard_snap.text (record { uuid = t.uuid; files = files }); there = there _ _ (inl refl); reads = b.snap_back };
        held = with_snap b.base t.uuid files;
        held_reads = record {
          bytes = f.shard_index.text (with_snap b.base t.uuid files);
          there = subst (λ g. At f w.blobs (ShardIndex r.index r.shard g) (f.shard_index.text (with_snap b.base t.uuid files))) (sym b.generation) (there _ _ (inr (inl refl)));
          reads = b.index_back;
        };
        extends = subst (λ o. ExtendsBase f (At f w.blobs) r.index r.shard o (with_snap b.base t.uuid files) t.uuid files) (sym stands.base_is) (b.base, base_read, extended_old b.base t.uuid files in_base);
        reused = λ x m. inr (subst (λ o. InBase f (At f w.blobs) r.index r.shard o x) (sym stands.base_is) (b.base, base_read, in_base x m));
        s = s;
        s_there = s_there;
        state = state;
        files = subst (λ o. AreFilesOf f (At f w.blobs) o r.index r.shard files) (sym op_copies) (b.was, was_read, refl);
        new_is = e;
      }

-- it wrote two texts
pub wrote_two : (f : Formats) (t : Ticket) (source : ℕ) (r : ShardResult) → ClonedBy f t source r → (name : BlobName) (bytes : Bytes) → Has t.wrote (name, bytes)
    → (name ≡ ShardSnap r.index r.shard t.uuid) ⊎ (name ≡ ShardIndex r.index r.shard r.generation)
wrote_two f t source r b name bytes m = go (b.only name bytes m)
  where
    go : Has (clone_blobs f b.base r.index r.shard t.uuid t.first b.was.files) (name, bytes) → (name ≡ ShardSnap r.index r.shard t.uuid) ⊎ (name ≡ ShardIndex r.index r.shard r.generation)
    go (inl e) = inl (ap (λ (p : BlobName × Bytes). p.0) (sym e))
    go (inr (inl e)) = inr (ap (λ (p : BlobName × Bytes). p.0) (sym e) ∙ ap (ShardIndex r.index r.shard) (sym b.generation))
    go (inr (inr none)) = absurd none
