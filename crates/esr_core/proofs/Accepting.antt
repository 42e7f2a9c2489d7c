-- A snapshot that is accepted is one of the law.
use Rattle.std.proofs.Common.{ℕ, suc, ◌+◌, ◌<◌, ◌≤◌, List, refl, subst, inl, inr, arith}
use Rattle.std.proofs.lemmas.Option.{none-some}
use Rattle.esr_model.specs.Values.{Bytes, IndexRef, Formats}
use Rattle.esr_model.specs.Shelf.{Shelved}
use Rattle.esr_core.specs.World.{World}
use Rattle.esr_core.specs.Ids.{Law}
use Rattle.esr_core.specs.Turns.{AskCreate}
use Rattle.esr_core.specs.Entry.{AskedIndex, Snapshot}
use Rattle.esr_core.specs.After.{new_names, asked_op, asked}
use Rattle.esr_core.specs.Allowed.{Accepts}
use Rattle.esr_core.specs.Laws.SnapshotOps.{IsKnownId, ref_ids, one_name, one_new, all_places, in_all, pending_one}

-- what is accepted is a snapshot with ids of its own
pub accepted : (f : Formats) (w : World) (shelf : List Shelved) → Law f w shelf → (name : Bytes) (indices : List AskedIndex) (moment o : ℕ) → Accepts f w name indices moment o
    → AskCreate f w (asked_op w name indices moment) (asked w (Snapshot name indices moment))
accepted f w shelf l name indices moment o a =
    record {
      no_cleanup = a.no_cleanup;
      pending = λ s m. (in_all w indices (suc w.next_id) s m).0;
      unfailed = refl;
      texts = a.texts;
      places = all_places w indices (suc w.next_id);
      one_name = one_name w indices (suc w.next_id) a.distinct;
      one_new = one_new w known_below indices (suc w.next_id) (omega arith);
      distinct = pending_one w indices (suc w.next_id) a.distinct;
      source = λ u e. absurd (none-some u e);
      copies = λ u e. absurd (none-some u e);
      uuid_is = refl;
      drawn = suc (new_names w indices);
      fits = a.fits;
      some_drawn = omega arith;
      ids = λ r m. elim (ref_ids w indices (suc w.next_id) r m) [
        | inl known ↦ elim known [ inl k ↦ inl k | inr k ↦ inr (inl k) ]
        | inr drawn ↦ let p : suc w.next_id ≤ r.id = drawn.0 in let q : r.id < suc w.next_id + new_names w indices = drawn.1 in inr (inr (omega (arith, p), omega (arith, q)))
      ];
      new_is = refl;
    }
  where
    known_below : (r : IndexRef) → IsKnownId w r → r.id < w.next_id
    known_below r (inl k) = subst (λ x. x < w.next_id) k.3 (l.ids.root.ids k.0 k.1)
    known_below r (inr k) = let (p, q, z, there, zm, zn, zi) = k in subst (λ x. x < w.next_id) zi ((l.ids.ops p q there).indices z zm)
