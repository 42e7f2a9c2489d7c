-- The opened world of a kept image is sound.
use Rattle.std.proofs.Common.{◌≡◌, ℕ, List, [], sym, ◌∙◌, subst, inl, inr, nat_cmp}
use Rattle.std.specs.FinMap.{FinMap}
use Rattle.std.specs.FinMap as fin
use Rattle.std.proofs.lemmas.Option.{same_Some}
use Rattle.esr_model.specs.Places.{shelf_places}
use Rattle.esr_model.specs.Names.{BlobName, Snap}
use Rattle.esr_model.specs.Values.{Bytes, RootData, SnapInfo, Ledger, ClusterRecord, Formats}
use Rattle.esr_model.specs.Shelf.{Shelved}
use Rattle.esr_model.specs.Image.{Blobs, Has, At, IsOne, Generation, ListsAs, KeptAt, RootStands, RootIs}
use Rattle.esr_core.specs.World.{Op, Safely, opened}
use Rattle.esr_core.specs.Generations.{DoneAt, IsOwn, Carries}
use Rattle.esr_core.specs.Sound.{Sound}
use Rattle.esr_core.specs.Laws.BlobFrames.{stands_kept, info_there}
use Rattle.esr_core.specs.Laws.Maps.{nothing}
use Rattle.esr_core.specs.Laws.OneValue.{listed_as, reads_one, safe_root_stands}
use Rattle.esr_core.proofs.Frames.{picked_kept}
use Rattle.esr_core.proofs.Grows.{root_is_kept}
use Rattle.esr_core.proofs.Reading.{safely_one}

-- in a root that stands each generation serves the listed snapshots
pub root_carries : (f : Formats) (has : BlobName → Bytes → Type 0) → IsOne has → (root : RootData) (shelf : List Shelved) → RootStands f has root shelf → (ops : FinMap nat_cmp Op)
    → (index shard g : ℕ) → Generation root index shard g → ((uuid h : ℕ) → DoneAt ops uuid index shard h → ⊥) → IsOwn f has ops index shard g → Carries f has root ops index shard g
root_carries f has func root shelf s ops index shard g is none own =
    record {
      stands = s.indices index shard g is;
      own = own;
      done = λ uuid h d below. absurd (none uuid h d);
      listed = λ above snap m shard_of.
          let (shelved, stands) = info_there f has root root.snapshots shelf s.snapshots snap m in
          let same : shard_of.info ≡ stands.info = reads_one has func (Snap snap.uuid) f.info shard_of.info stands.info shard_of.info_reads stands.info_reads in
          let at : Generation root shard_of.place.0.id shard_of.place.1 g = subst (λ i. Generation root i shard_of.place.1 g) (sym shard_of.index_is) (subst (λ n. Generation root index n g) (sym shard_of.shard_is) is) in
          let as_listed : ListsAs f has shard_of.place.0.id shard_of.place.1 g snap.uuid =
          listed_as f has root snap.uuid (shelf_places stands.info.indices) shelved.shards stands.shards shard_of.place (subst (λ (x : SnapInfo). Has (shelf_places x.indices) shard_of.place) same shard_of.there) g at in
          subst (λ i. ListsAs f has i shard g snap.uuid) shard_of.index_is (subst (λ n. ListsAs f has shard_of.place.0.id n g snap.uuid) shard_of.shard_is as_listed);
    }

pub opening_sound : (f : Formats) (blobs : Blobs) (cluster : ClusterRecord) (root : RootData) (shelf : List Shelved) → KeptAt f blobs cluster.ledger shelf → RootIs f (At f blobs) cluster.ledger.safe root
    → Sound f (opened blobs cluster root) shelf
opening_sound f blobs cluster root shelf k is =
    let ledger : Ledger = cluster.ledger in
    let lift : (m : BlobName) (b : Bytes) → At f blobs m b → Safely f blobs [] m b = λ m b h. (h, λ d. d) in
    let picked = picked_kept f (At f blobs) (Safely f blobs []) lift ledger.safe shelf k.picked in
    let root_is = root_is_kept f (At f blobs) (Safely f blobs []) (safely_one f blobs []) (λ n a b p q. same_Some a b (sym p.0 ∙ q.0)) lift ledger.safe root is in
    let stands : RootStands f (Safely f blobs []) root shelf = safe_root_stands f (Safely f blobs []) (safely_one f blobs []) ledger.safe root shelf picked root_is in
    record {
      rooted = record {
        kept = record { ordered = k.ordered; picked = picked; begun = k.begun; whole = λ n p above. let h = k.whole n p above in (h.0, stands_kept f (At f blobs) (Safely f blobs []) lift n h.0 h.1); named = k.named };
        doomed_begun = λ n d. absurd d;
        tickets = λ j t e. absurd (nothing j t e);
        single = λ i j a b. absurd (nothing i a.t a.there);
      };
      carried = record {
        root_is = root_is;
        ops = λ o op e. absurd (nothing o op e);
        together = λ o p a b apart e h. absurd (nothing o a e);
        carries = λ index shard g live. elim live [
          | inl gen ↦ root_carries f (Safely f blobs []) (safely_one f blobs []) root shelf stands fin.empty index shard g gen (λ u h d. nothing d.number d.op d.there) (λ held reads l m o op e same. absurd (nothing o op e))
          | inr d ↦ absurd (nothing d.1.number d.1.op d.1.there)
        ];
        shards = λ j t e. absurd (nothing j t e);
        one_shard = λ i j t u a. absurd (nothing i t a);
        finals = λ j t e. absurd (nothing j t e);
        plans = λ j t e. absurd (nothing j t e);
        held = λ o op s j e. absurd (nothing o op e);
      };
      fresh = λ j t e. absurd (nothing j t e);
    }
