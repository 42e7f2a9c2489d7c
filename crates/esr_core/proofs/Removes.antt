-- A removal of doomed names keeps the law.
use Rattle.std.proofs.Common.{ℕ, List, sym, subst}
use Rattle.esr_model.specs.Names.{BlobName}
use Rattle.esr_model.specs.Values.{Bytes, Formats}
use Rattle.esr_model.specs.Shelf.{Shelved}
use Rattle.esr_model.specs.Image.{Blobs, Has}
use Rattle.esr_core.specs.World.{World, HeldIn, Safely, ledger_of}
use Rattle.esr_core.specs.Steps.{Removes, Remove}
use Rattle.esr_core.specs.Sound.{Sound}
use Rattle.esr_core.specs.Laws.BlobFrames.{stands_kept}
use Rattle.esr_core.proofs.Frames.{picked_kept, ticket_kept}
use Rattle.esr_core.proofs.Grows.{carried_kept}
use Rattle.esr_core.specs.Laws.OneValue.{held_one}
use Rattle.esr_core.proofs.Reading.{safely_one}

module _ (f : Formats) (w : World) (shelf : List Shelved) (names : List BlobName) (l : Sound f w shelf) (doomed : (name : BlobName) → Has names name → Has w.doomed name) (now_blobs : Blobs) (removes : Removes f w.blobs now_blobs names) where
  abbrev now : BlobName → Bytes → Type 0
  now = Safely f now_blobs w.doomed

  keeps : (m : BlobName) (b : Bytes) → HeldIn f w m b → now m b
  keeps m b h = (removes.stays m b h.0 (λ q. h.1 (doomed m q)), h.1)

  pub removed : Sound f (record w { blobs = now_blobs }) shelf
  removed =
      let kept = l.rooted.kept in
      record {
        rooted = record {
          kept = record {
            ordered = kept.ordered;
            picked = picked_kept f (HeldIn f w) now keeps w.safe shelf kept.picked;
            begun = λ n p. kept.begun n (p.0, (removes.left _ _ p.1.0, p.1.1));
            whole = λ n p above. let h = kept.whole n (p.0, (removes.left _ _ p.1.0, p.1.1)) above in (h.0, stands_kept f (HeldIn f w) now keeps n h.0 h.1);
            named = λ text b h. kept.named text b (removes.left text b h);
          };
          doomed_begun = l.rooted.doomed_begun;
          tickets = λ j u e. ticket_kept f (HeldIn f w) now keeps w.doomed (ledger_of w) shelf u (l.rooted.tickets j u e);
          single = l.rooted.single;
        };
        carried = carried_kept f (HeldIn f w) now (safely_one f now_blobs w.doomed) (held_one f w) keeps w.safe w.term w.root shelf kept.picked w.ops w.tickets l.carried;
        fresh = l.fresh;
      }

pub remove_sound : (f : Formats) (w new : World) (shelf : List Shelved) (k : ℕ) (names : List BlobName) → Sound f w shelf → Remove f w k names new → Sound f new shelf
remove_sound f w new shelf k names l r = subst (λ x. Sound f x shelf) (sym r.new_is) (removed f w shelf names l r.doomed r.now r.removes)
