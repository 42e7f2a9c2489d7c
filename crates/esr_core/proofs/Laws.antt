-- The laws as they are told.
use Rattle.std.proofs.Common.{◌≡◌, ℕ, zero, suc, ◌<◌, ◌≤◌, List, refl, sym, ◌∙◌, subst, inr, arith}
use Rattle.std.proofs.lemmas.Option.{same_Some}
use Rattle.esr_model.specs.Names.{BlobName, Root}
use Rattle.esr_model.specs.Values.{RootData, RecordWork, Creating, Cloning, DeletingOf, Cleaning, Ledger, ReadsBack, Formats}
use Rattle.esr_model.specs.Shelf.{Shelved}
use Rattle.esr_model.specs.Image.{Blobs, RootIs, At, KeptAt, KeptBy, Present}
use Rattle.esr_model.specs.Kept.{first_id, RootIds, WorkIds, Kept}
use Rattle.esr_core.specs.World.{World, image_of, ledger_of, record_of, Safely}
use Rattle.esr_core.specs.Steps.{Raise}
use Rattle.esr_core.specs.Sound.{Sound}
use Rattle.esr_core.specs.Ids.{Law}
use Rattle.esr_core.specs.Laws.OneValue.{reads_one}
use Rattle.esr_core.specs.Laws.IdBounds.{root_up}
use Rattle.esr_core.proofs.Below.{below_up}
use Rattle.esr_core.proofs.Recorded.{record_below}
use Rattle.esr_core.specs.Laws.BlobFrames.{stands_kept}
use Rattle.esr_core.proofs.Frames.{picked_kept}
use Rattle.esr_core.proofs.Law.{raise_law}

pub raise_sound_whole : (f : Formats) (w new : World) (shelf : List Shelved) (k : ℕ) → Sound f w shelf → Raise f w k new → Sound f new shelf
raise_sound_whole f w new shelf k l r = raise_law f w shelf l k new r

pub raise_fresh : (f : Formats) (w new : World) (shelf : List Shelved) (k : ℕ) → Sound f w shelf → Raise f w k new → Present f w.blobs (Root w.pending) → ⊥
raise_fresh f w new shelf k l r p = let h : w.pending < w.pending = l.rooted.kept.begun w.pending p in omega arith

-- a root that may be removed or not reads as one value
root_is_one : (f : Formats) (blobs : Blobs) (doomed : List BlobName) (safe : ℕ) (a b : RootData) → RootIs f (Safely f blobs doomed) safe a → RootIs f (At f blobs) safe b → a ≡ b
root_is_one f blobs doomed zero a b p q = p ∙ sym q
root_is_one f blobs doomed (suc n) a b p q =
    reads_one (At f blobs) (λ name x y h k. same_Some x y (sym h.0 ∙ k.0)) (Root n) f.root a b (record { bytes = p.bytes; there = p.there.0; reads = p.reads }) q

-- what may be removed aside, the image is kept
pub kept_at : (f : Formats) (blobs : Blobs) (doomed : List BlobName) (ledger : Ledger) (shelf : List Shelved) → KeptBy f (Safely f blobs doomed) blobs ledger shelf → KeptAt f blobs ledger shelf
kept_at f blobs doomed ledger shelf k =
    record {
      ordered = k.ordered;
      picked = picked_kept f (Safely f blobs doomed) (At f blobs) (λ m b h. h.0) ledger.safe shelf k.picked;
      begun = k.begun;
      whole = λ n p above. let h = k.whole n p above in (h.0, stands_kept f (Safely f blobs doomed) (At f blobs) (λ m b h. h.0) n h.0 h.1);
      named = k.named;
    }

work_up : (work : RecordWork) (c d : ℕ) → c ≤ d → WorkIds work c → WorkIds work d
work_up (Creating name uuid moment indices) c d le h = (less h.0, λ r m. less (h.1 r m))
  where
    less : {x : ℕ} → x < c → x < d
    less b = omega (arith, le, b)
work_up (Cloning name uuid moment indices source) c d le h = (less h.0, less h.1, λ r m. less (h.2 r m))
  where
    less : {x : ℕ} → x < c → x < d
    less b = omega (arith, le, b)
work_up (DeletingOf uuids) c d le h = λ u m. less (h u m)
  where
    less : {x : ℕ} → x < c → x < d
    less b = omega (arith, le, b)
work_up Cleaning c d le h = tt

-- the image of a lawful world whose record can be written is kept
pub kept_of : (f : Formats) (w : World) (shelf : List Shelved) → Law f w shelf → ReadsBack f.cluster (record_of w) → Kept f (image_of f w) shelf
kept_of f w shelf l back =
    let up : w.next_id ≤ first_id (suc w.term) = let b : w.next_id < first_id (suc w.term) = l.in_term.below in omega (arith, b) in
    inr (record {
      cluster = record_of w;
      text = f.cluster.text (record_of w);
      there = refl;
      reads = back;
      kept = kept_at f w.blobs w.doomed (ledger_of w) shelf l.lawful.sound.rooted.kept;
      names_below = λ name p. below_up name w.next_id (first_id (suc w.term)) up (l.ids.blobs name p);
      root_below = λ root is. subst (λ (r : RootData). RootIds r (first_id (suc w.term))) (root_is_one f w.blobs w.doomed w.safe w.root root l.lawful.sound.carried.root_is is) (root_up w.root w.next_id (first_id (suc w.term)) up l.ids.root);
      ops_below = λ op m. work_up op.1 w.next_id (first_id (suc w.term)) up (record_below f w shelf l op m);
    })
