-- What is read stays, and a ticket goes on: what is still to be written stays free.
use Rattle.std.proofs.Common.{◌≡◌, ◌≢◌, ◌⊎◌, ℕ, suc, ◌+◌, ◌<◌, List, true, false, true≢false, Option, Some, None, refl, sym, subst, inl, inr, arith, le_refl}
use Rattle.std.specs.Ordering.{nat_cmp}
use Rattle.std.specs.FinMap.{FinMap}
use Rattle.std.specs.FinMap as fin
use Rattle.std.proofs.lemmas.Option.{same_Some}
use Rattle.esr_model.specs.Names.{BlobName}
use Rattle.esr_model.specs.Values.{Bytes, Has, Formats}
use Rattle.esr_model.specs.Shelf.{Shelved}
use Rattle.esr_model.specs.Kept.{first_id}
use Rattle.esr_model.specs.Cleanup.{BlobSize}
use Rattle.esr_model.specs.Image.{Blobs}
use Rattle.esr_core.specs.World.{World, Op, ShardWork, Ticket, Restoring, Reader, Caller}
use Rattle.esr_core.specs.Ready.{Waits, IsShard}
use Rattle.esr_core.specs.Steps.{with_ticket, listing}
use Rattle.esr_core.specs.Ids.{Law}
use Rattle.esr_core.specs.After.{with_given, change, committing, fetching, tried}
use Rattle.esr_core.specs.Allowed.{Raises}
use Rattle.esr_quiet.proofs.FreeFrame.{IsFree, own_all, Tests, Follows, Waited, IsNewShard, framed}
use Rattle.esr_quiet.proofs.FreeNames.{drew_same, commits_same, drawn_new}
use Rattle.esr_quiet.proofs.FreeParts.{Were, Back, tests_was, follows_same, came_all, came_put, own_put, own_pending, own_drawn, waited_all}

module _ (f : Formats) (w : World) (shelf : List Shelved) (law : Law f w shelf) (l : IsFree f w) where
  pub waited : (o : ℕ) (op : Op) (s : ShardWork) → fin.get w.ops o ≡ Some op → Has op.shards s → Waits s.state → Waited w op s ⊎ IsNewShard f w op s
  waited o op s there m waits = inl (waited_all w o op s there m waits)

  -- ---- what is read stays

  pub kept : (blobs : Blobs) → Back f blobs w.blobs → IsFree f (record w { blobs = blobs })
  kept blobs back = framed f w (record w { blobs = blobs }) l (came_all f w) (own_all f w l) waited (λ i n g h. inl h) back.were (tests_was f w l blobs back)

  -- restores, their tickets and what who 0 has done may change, and more numbers be given
  pub beside : (restores : FinMap nat_cmp Restoring) (readers : FinMap nat_cmp Reader) (next_op next_ticket : ℕ) (blobs : Blobs) → Were f blobs w.blobs → (caller : Caller) → Tests f blobs caller
      → IsFree f (record w { restores = restores; readers = readers; next_op = next_op; next_ticket = next_ticket; blobs = blobs; caller = caller })
  beside restores readers next_op next_ticket blobs were caller tests =
      framed f w (record w { restores = restores; readers = readers; next_op = next_op; next_ticket = next_ticket; blobs = blobs; caller = caller }) l (came_all f w) (own_all f w l) waited (λ i n g h. inl h) were tests

  pub called : (blobs : Blobs) → Were f blobs w.blobs → (caller : Caller) → Tests f blobs caller → IsFree f (record w { blobs = blobs; caller = caller })
  called blobs were caller tests = beside w.restores w.readers w.next_op w.next_ticket blobs were caller tests

  pub elected : (blobs : Blobs) → Back f blobs w.blobs → IsFree f (record w { term = suc w.term; next_id = first_id (suc w.term); blobs = blobs })
  elected blobs back = framed f w (record w { term = suc w.term; next_id = first_id (suc w.term); blobs = blobs }) l (came_all f w) (own_all f w l) waited (λ i n g h. inl h) back.were (tests_was f w l blobs back)

  -- ---- a ticket that goes on

  pub put : (k : ℕ) (t v : Ticket) → fin.get w.tickets k ≡ Some t → Follows f w t v → v.raised ≡ t.raised → v.first ≡ t.first → v.drawn ≡ t.drawn → (blobs : Blobs) → Back f blobs w.blobs
      → IsFree f (record w { tickets = fin.insert w.tickets k v; blobs = blobs })
  put k t v there like same first drawn blobs back =
      framed f w (record w { tickets = fin.insert w.tickets k v; blobs = blobs }) l (came_put f w k t v there like) (own_put w.tickets (own_all f w l) k t v there same first drawn) waited (λ i n g h. inl h) back.were (tests_was f w l blobs back)

  pub changed : (k : ℕ) (t : Ticket) → fin.get w.tickets k ≡ Some t → (g : Ticket → Ticket) → Follows f w t (g t) → (g t).raised ≡ t.raised → (g t).first ≡ t.first → (g t).drawn ≡ t.drawn → (blobs : Blobs)
      → Back f blobs w.blobs → IsFree f (record (change w k g) { blobs = blobs })
  changed k t there g like same first drawn blobs back = subst (λ o. IsFree f (record (with_given w k g o) { blobs = blobs })) (sym there) (put k t (g t) there like same first drawn blobs back)

  pub ended : (t : Ticket) → Follows f w t (record t { out = false })
  ended t = follows_same f w t (record t { out = false }) refl refl (λ e. absurd (true≢false (sym e))) (λ name h. h) refl refl refl refl

  pub noted : (t : Ticket) (name : BlobName) (o : Option Bytes)
      → Follows f w t (committing name o t) × Has (committing name o t).noted name × ((committing name o t).raised ≡ t.raised) × ((committing name o t).first ≡ t.first) × ((committing name o t).drawn ≡ t.drawn)
  noted t name None = (follows_same f w t (committing name None t) refl refl (λ e. e) (λ m h. inr h) refl refl refl refl, inl refl, refl, refl, refl)
  noted t name (Some bytes) = (follows_same f w t (committing name (Some bytes) t) refl refl (λ e. e) (λ m h. inr h) refl refl refl refl, inl refl, refl, refl, refl)

  pub finds : (k : ℕ) (t : Ticket) → fin.get w.tickets k ≡ Some t → (name : BlobName) (blobs : Blobs) → Back f blobs w.blobs → IsFree f (record (change w k (committing name None)) { blobs = blobs })
  finds k t there name blobs back = let x = noted t name None in changed k t there (committing name None) x.0 x.2 x.3 x.4 blobs back

  pub fetches : (k : ℕ) (t : Ticket) → fin.get w.tickets k ≡ Some t → (name : BlobName) (o : Option Bytes) (blobs : Blobs) → Back f blobs w.blobs → IsFree f (record (change w k (fetching name o)) { blobs = blobs })
  fetches k t there name None blobs back = changed k t there (fetching name None) (follows_same f w t t refl refl (λ e. e) (λ m h. h) refl refl refl refl) refl refl refl blobs back
  fetches k t there name (Some bytes) blobs back = changed k t there (fetching name (Some bytes)) (follows_same f w t (fetching name (Some bytes) t) refl refl (λ e. e) (λ m h. h) refl refl refl refl) refl refl refl blobs back

  pub lists : (k : ℕ) (t : Ticket) → fin.get w.tickets k ≡ Some t → (page : List BlobSize) (blobs : Blobs) → Back f blobs w.blobs → IsFree f (record (change w k (λ (x : Ticket). listing x page)) { blobs = blobs })
  lists k t there page blobs back = changed k t there (λ (x : Ticket). listing x page) (follows_same f w t (listing t page) refl refl (λ e. e) (λ m h. h) refl refl refl refl) refl refl refl blobs back

  pub tries : (k : ℕ) (t : Ticket) → fin.get w.tickets k ≡ Some t → (blobs : Blobs) → Back f blobs w.blobs → IsFree f (record (tried w k) { blobs = blobs })
  tries k t there blobs back =
      changed k t there (λ (x : Ticket). record x { tried_latest = true }) (follows_same f w t (record t { tried_latest = true }) refl refl (λ e. e) (λ m h. h) refl refl refl refl) refl refl refl blobs back

  pub ends : (k : ℕ) (t : Ticket) → fin.get w.tickets k ≡ Some t → (blobs : Blobs) → Back f blobs w.blobs → IsFree f (record (with_ticket w k (record t { out = false })) { blobs = blobs })
  ends k t there blobs back = put k t (record t { out = false }) there (ended t) refl refl refl blobs back

  -- what it draws is above all ids
  pub draws : (k n : ℕ) (t : Ticket) → fin.get w.tickets k ≡ Some t → IsShard t.work → (blobs : Blobs) → Back f blobs w.blobs
      → IsFree f (record (change w k (λ (x : Ticket). record x { first = w.next_id; drawn = n })) { next_id = w.next_id + n; blobs = blobs })
  draws k n t there shard blobs back =
      subst (λ o. IsFree f (record (with_given w k (λ (x : Ticket). record x { first = w.next_id; drawn = n }) o) { next_id = w.next_id + n; blobs = blobs })) (sym there)
      (framed f w (record w { tickets = fin.insert w.tickets k drew; next_id = w.next_id + n; blobs = blobs }) l (came_put f w k t drew there like)
      (own_drawn w.tickets (own_all f w l) k t drew w.next_id there refl (le_refl w.next_id) (λ j u e. (law.ids.tickets j u e).drawn)) waited (λ i m g h. inl h) back.were (tests_was f w l blobs back))
    where
      drew : Ticket
      drew = record t { first = w.next_id; drawn = n }

      like : Follows f w t (record t { first = w.next_id; drawn = n })
      like =
          record {
            work = λ i m e. e;
            plans = λ uuids s e. absurd (subst IsShard e shard);
            base = refl;
            out = λ e. e;
            noted = λ name h. h;
            commits = λ name c. elim (drawn_new t w.next_id n name c) [ inl was ↦ inl was | inr above ↦ inr (λ p. above (law.ids.blobs name p)) ];
            raised = λ m e. inl e;
          }

  -- what it raises is above all roots
  pub raises : (k n : ℕ) (r : Raises f w k n) (blobs : Blobs) → Back f blobs w.blobs → IsFree f (record (change w k (λ (x : Ticket). record x { raised = Some w.pending })) { pending = suc w.pending; blobs = blobs })
  raises k n r blobs back =
      subst (λ o. IsFree f (record (with_given w k (λ (x : Ticket). record x { raised = Some w.pending }) o) { pending = suc w.pending; blobs = blobs })) (sym r.may.out.there)
      (framed f w (record w { tickets = fin.insert w.tickets k (record r.may.t { raised = Some w.pending }); pending = suc w.pending; blobs = blobs }) l
      (came_put f w k r.may.t (record r.may.t { raised = Some w.pending }) r.may.out.there like) (own_pending f w shelf law (own_all f w l) k r.may.t r.may.out.there) waited (λ i m g h. inl h) back.were (tests_was f w l blobs back))
    where
      one : (m : ℕ) → ◌≡◌ {A = Option ℕ} (Some w.pending) (Some m) → w.pending ≡ m
      one m e = same_Some _ _ e

      like : Follows f w r.may.t (record r.may.t { raised = Some w.pending })
      like =
          record {
            work = λ i m e. e;
            plans = λ uuids s e. inl (record { work = e; drew = λ id h. drew_same (record r.may.t { raised = Some w.pending }) r.may.t id refl refl h });
            base = refl;
            out = λ e. e;
            noted = λ name h. h;
            commits = λ name c. inl (commits_same r.may.t (record r.may.t { raised = Some w.pending }) refl refl refl refl name c);
            raised = λ m e. inr (λ p. let b : m < w.pending = law.lawful.sound.rooted.kept.begun m p in let same : w.pending ≡ m = one m e in omega (arith, b, same));
          }
