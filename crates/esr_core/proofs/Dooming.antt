-- Dooming what the safe root doesn't reach keeps the law.
use Rattle.std.proofs.Common.{◌≡◌, ℕ, zero, suc, ◌<◌, List, ◌++◌, refl, sym, subst, inl, inr, arith}
use Rattle.esr_model.specs.Names.{BlobName, Root, Snap}
use Rattle.esr_model.specs.Values.{Bytes, IndexRef, RootSnap, Formats}
use Rattle.esr_model.specs.Shelf.{Shelved}
use Rattle.esr_model.specs.Image.{Has, RootStands, Picked, RootIs}
use Rattle.esr_model.specs.Reach.{Reached, ReachSnap}
use Rattle.esr_core.specs.World.{World, HeldIn, Safely}
use Rattle.esr_core.specs.Generations.{AreIndicesBy}
use Rattle.esr_core.specs.Doomed.{Dooms}
use Rattle.esr_core.specs.Sound.{Sound}
use Rattle.esr_core.specs.Laws.BlobFrames.{reads_kept, root_kept}
use Rattle.esr_model.specs.Lists.{Has-right, Has-either}
use Rattle.esr_core.specs.Laws.OneValue.{held_one, safe_root_stands}
use Rattle.esr_core.proofs.Reading.{safely_one}
use Rattle.esr_core.proofs.Reaching.{root_used, Used}
use Rattle.esr_core.proofs.Opening.{root_carries}

module _ (f : Formats) (w new : World) (shelf : List Shelved) (names : List BlobName) (l : Sound f w shelf) (d : Dooms f w names new) where
  abbrev now : BlobName → Bytes → Type 0
  now = Safely f w.blobs (names ++ w.doomed)

  -- what isn't doomed now wasn't doomed before
  was_held : (m : BlobName) (b : Bytes) → now m b → HeldIn f w m b
  was_held m b h = (h.0, λ q. h.1 (Has-right names w.doomed m q))

  -- what the root reaches is not doomed
  used_now : (m : BlobName) (b : Bytes) → Used f (HeldIn f w) w.root m b → now m b
  used_now m b h = (h.0.0, λ q. elim (Has-either names w.doomed m q) [ inl in_names ↦ d.reach_aside m in_names h.1 | inr was ↦ h.0.1 was ])

  root_now : RootStands f now w.root shelf
  root_now =
      root_kept f (Used f (HeldIn f w) w.root) now used_now w.root shelf
      (root_used f (HeldIn f w) w.root shelf (safe_root_stands f (HeldIn f w) (held_one f w) w.safe w.root shelf l.rooted.kept.picked l.carried.root_is))

  -- nor the info of a listed snapshot
  indices_now : (u : ℕ) (indices : List IndexRef) → (z : RootSnap) × Has w.root.snapshots z × (z.uuid ≡ u) → AreIndicesBy f (HeldIn f w) u indices → AreIndicesBy f now u indices
  indices_now u indices listed c =
      record {
        info = c.info;
        info_reads = record { bytes = c.info_reads.bytes; there = used_now (Snap u) c.info_reads.bytes (c.info_reads.there, subst (λ n. Reached f (HeldIn f w) w.root (Snap n)) listed.2 (ReachSnap listed.0 listed.1)); reads = c.info_reads.reads };
        apart = c.apart;
        named_once = c.named_once;
        among = c.among;
        once = c.once;
      }

  root_is_now : (safe : ℕ) → w.safe ≡ safe → RootIs f (HeldIn f w) safe w.root → RootIs f now safe w.root
  root_is_now zero e h = h
  root_is_now (suc n) e h = record { bytes = h.bytes; there = (h.there.0, λ q. elim (Has-either names w.doomed (Root n) q) [ inl in_names ↦ d.root_aside n e in_names | inr was ↦ h.there.1 was ]); reads = h.reads }

  picked_now : (safe : ℕ) → w.safe ≡ safe → RootIs f (HeldIn f w) safe w.root → Picked f (HeldIn f w) safe shelf → Picked f now safe shelf
  picked_now zero e is h = h
  picked_now (suc n) e is h = record { root = w.root; root_reads = root_is_now (suc n) e is; stands = root_now }

  doomed : Sound f (record w { doomed = names ++ w.doomed }) shelf
  doomed =
      record {
        rooted = record {
          kept = record {
            ordered = l.rooted.kept.ordered;
            picked = picked_now w.safe refl l.carried.root_is l.rooted.kept.picked;
            begun = l.rooted.kept.begun;
            whole = λ n p above. absurd (let h : n < w.pending = l.rooted.kept.begun n p in omega (arith, d.last));
            named = l.rooted.kept.named;
          };
          doomed_begun = λ n q. elim (Has-either names w.doomed (Root n) q) [ inl in_names ↦ d.begun n in_names | inr was ↦ l.rooted.doomed_begun n was ];
          tickets = λ j u e. let old = l.rooted.tickets j u e in record {
            term = old.term;
            raised = old.raised;
            last = old.last;
            shape = old.shape;
            swaps = λ s i c. absurd (d.no_swap j u s e i c);
            clean = λ s i c. absurd (d.no_swap j u s e i c);
            listed = old.listed;
            clean_root = λ n r le. absurd (let h : n < w.pending = old.raised n r in omega (arith, d.last));
          };
          single = l.rooted.single;
        };
        carried = record {
          root_is = root_is_now w.safe refl l.carried.root_is;
          ops = λ o op e. let old = l.carried.ops o op e in record {
            places = old.places;
            copies = λ u has. let c = old.copies u has in record { listed = c.listed; by_info = indices_now u op.indices c.listed c.by_info };
            texts = old.texts;
            unlisted = old.unlisted;
            unused = old.unused;
            one_id = old.one_id;
            distinct = old.distinct;
            same_name = old.same_name;
            done =
                λ s r m state. absurd (d.no_done op.uuid s.ref.id s.number r.generation (record { number = o; op = op; there = e; uuid_is = refl; s = s; s_there = m; r = r; state = state; index_is = refl; shard_is = refl; generation_is = refl }));
          };
          together = l.carried.together;
          carries = λ i k g live. elim live [
            | inl gen ↦ root_carries f now (safely_one f w.blobs (names ++ w.doomed)) w.root shelf root_now w.ops i k g gen (λ u h a. d.no_done u i k h a)
                (λ held reads. (l.carried.carries i k g (inl gen)).own held (reads_kept f now (HeldIn f w) was_held _ _ _ reads))
            | inr a ↦ absurd (d.no_done a.0 i k g a.1)
          ];
          shards = λ j u e out i k is. absurd (d.no_shard j u e out i k is);
          one_shard = l.carried.one_shard;
          finals = l.carried.finals;
          plans = l.carried.plans;
          held = l.carried.held;
        };
        fresh = l.fresh;
      }

pub dooming_sound : (f : Formats) (w new : World) (shelf : List Shelved) (names : List BlobName) → Sound f w shelf → Dooms f w names new → Sound f new shelf
dooming_sound f w new shelf names l d = subst (λ x. Sound f x shelf) (sym d.new_is) (doomed f w new shelf names l d)
