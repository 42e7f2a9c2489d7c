-- `index.latest` is read by nobody: what is known stays where it is put.
use Rattle.std.proofs.Common.{◌≡◌, List, Some, sym, ap, ◌∙◌, subst, inl, inr}
use Rattle.std.specs.FinMap as fin
use Rattle.std.specs.Cmp.Lexicographic.{nat_list_cmp_total}
use Rattle.esr_model.specs.Names.{BlobName, Root, Latest}
use Rattle.esr_model.specs.Values.{Bytes, Formats}
use Rattle.esr_model.specs.Shelf.{Shelved}
use Rattle.esr_model.specs.Image.{Blobs, At}
use Rattle.esr_core.specs.World.{World, HeldIn, Safely, ledger_of}
use Rattle.esr_core.specs.Steps.{PutsLatest}
use Rattle.esr_core.specs.Sound.{Sound}
use Rattle.esr_core.specs.Ids.{Law}
use Rattle.esr_core.specs.Laws.BlobFrames.{text_one, stands_kept, at_back}
use Rattle.esr_core.specs.Laws.Maps.{get_was, get_other, texts_same}
use Rattle.esr_core.proofs.Frames.{picked_kept, ticket_kept}
use Rattle.esr_core.proofs.Grows.{carried_kept}
use Rattle.esr_core.proofs.Below.{ids_blobs}
use Rattle.esr_core.specs.Laws.OneValue.{held_one}
use Rattle.esr_core.proofs.Reading.{safely_one}

module _ (f : Formats) (blobs now : Blobs) (p : PutsLatest f blobs now) where
  at_kept : (m : BlobName) (b : Bytes) → At f blobs m b → At f now m b
  at_kept m b h = elim p [
    | inl e ↦ subst (λ x. At f x m b) (sym e) h
    | inr q ↦ (ap (λ x. fin.get x (f.names.text m)) q.1 ∙ get_other nat_list_cmp_total texts_same blobs (f.names.text Latest) q.0 (f.names.text m) (λ same. h.1.1 (text_one f m Latest h.1.0 q.2 same)) ∙ h.0, h.1)
  ]

module _ (f : Formats) (w : World) (shelf : List Shelved) (l : Law f w shelf) (blobs_now : Blobs) (p : PutsLatest f w.blobs blobs_now) where
  abbrev now : BlobName → Bytes → Type 0
  now = Safely f blobs_now w.doomed

  pub keeps : (m : BlobName) (b : Bytes) → HeldIn f w m b → now m b
  keeps m b h = (at_kept f w.blobs blobs_now p m b h.0, h.1)

  -- a blob that is there is the old one, or `index.latest`
  name_was : (text bytes : Bytes) → fin.get blobs_now text ≡ Some bytes → (name : BlobName) × (f.names.text name ≡ text) × (f.names.read (f.names.text name) ≡ Some name)
  name_was text b there = elim p [
    | inl e ↦ l.lawful.sound.rooted.kept.named text b (subst (λ x. fin.get x text ≡ Some b) e there)
    | inr q ↦ elim (get_was nat_list_cmp_total texts_same w.blobs (f.names.text Latest) q.0 text b (subst (λ x. fin.get x text ≡ Some b) q.1 there)) [
      | inl is ↦ (Latest, sym is.0, q.2)
      | inr was ↦ l.lawful.sound.rooted.kept.named text b was.1
    ]
  ]

  put_sound : Sound f (record w { blobs = blobs_now }) shelf
  put_sound =
      let s = l.lawful.sound in
      record {
        rooted = record {
          kept = record {
            ordered = s.rooted.kept.ordered;
            picked = picked_kept f (HeldIn f w) now keeps w.safe shelf s.rooted.kept.picked;
            begun = λ n q. s.rooted.kept.begun n (q.0, at_back f w.blobs blobs_now p (Root n) q.0 q.1);
            whole = λ n q above. let h = s.rooted.kept.whole n (q.0, at_back f w.blobs blobs_now p (Root n) q.0 q.1) above in (h.0, stands_kept f (HeldIn f w) now keeps n h.0 h.1);
            named = name_was;
          };
          doomed_begun = s.rooted.doomed_begun;
          tickets = λ j u e. ticket_kept f (HeldIn f w) now keeps w.doomed (ledger_of w) shelf u (s.rooted.tickets j u e);
          single = s.rooted.single;
        };
        carried = carried_kept f (HeldIn f w) now (safely_one f blobs_now w.doomed) (held_one f w) keeps w.safe w.term w.root shelf s.rooted.kept.picked w.ops w.tickets s.carried;
        fresh = s.fresh;
      }

  pub put_law : Law f (record w { blobs = blobs_now }) shelf
  put_law =
      record {
        lawful = record { sound = put_sound; queue = l.lawful.queue };
        ids = ids_blobs f w.next_id w.blobs w.doomed w.root w.ops w.tickets l.ids blobs_now (λ name q. inl (q.0, at_back f w.blobs blobs_now p name q.0 q.1));
        deletions = l.deletions;
        in_term = record { from = l.in_term.from; below = l.in_term.below };
        written = λ k t e out shard. let h = l.written k t e out shard in
            record {
              there = λ n b m. at_kept f w.blobs blobs_now p n b (h.there n b m);
              own = h.own;
              base = λ i s g b is at m. at_kept f w.blobs blobs_now p _ b (h.base i s g b is at m);
              source = λ i s u b is at m. at_kept f w.blobs blobs_now p _ b (h.source i s u b is at m);
              fresh = λ i s g held is at reads. h.fresh i s g held is at (record { bytes = reads.bytes; there = at_back f w.blobs blobs_now p _ reads.bytes reads.there; reads = reads.reads });
            };
        texts = record {
          swaps = λ k t info rs made e is n b m at. l.texts.swaps k t info rs made e is n b m (at_back f w.blobs blobs_now p n b at);
          ops = λ o op e n b m at. l.texts.ops o op e n b m (at_back f w.blobs blobs_now p n b at);
          agree = l.texts.agree;
          one = l.texts.one;
          plans = l.texts.plans;
        };
        pruned = record {
          unsettled = λ k t uuids plan e out uns pres is. let old = l.pruned.unsettled k t uuids plan e out uns pres is in record { held = λ n b m. keeps n b (old.held n b m); safe_is = old.safe_is; follows = old.follows };
          settled = l.pruned.settled;
        };
      }
