-- Each step keeps the order of restores and their tickets, whatever the container tells.
use Rattle.std.proofs.Common.{◌≡◌, Bool, ℕ, zero, suc, ◌<◌, ◌≤◌, List, [], ◌∷◌, true, false, true≢false, Option, Some, None, map, refl, sym, ap, ◌∙◌, subst, inl, inr, arith, nat_cmp}
use Rattle.std.specs.Prelude.{if◌then◌else◌}
use Rattle.std.specs.FinMap.{FinMap}
use Rattle.std.specs.FinMap as fin
use Rattle.esr_core.specs.Laws.NumberMaps.{was_in}
use Rattle.esr_model.specs.Names.{BlobName}
use Rattle.esr_model.specs.Values.{Bytes, Has, IndexRef, RootData, ClusterRecord, Formats}
use Rattle.esr_model.specs.Kept.{first_id}
use Rattle.esr_model.specs.Image.{Image, Blobs}
use Rattle.esr_core.specs.World.{World, ReadState, Unread, BeingRead, Restored, NotRestored, RestoreShard, Restoring, Reader, Caller, no_caller, opened}
use Rattle.esr_core.specs.Ready.{AnyReady, ARestore}
use Rattle.esr_core.specs.Restores.{IsReading, AreApart, restore_of, waits, ended, restore_opened, shard_handed, more_read, shard_ended}
use Rattle.esr_core.specs.Past.{with_entry}
use Rattle.esr_core.specs.Entry.{Restore, GivenRestore, Why, Read, ReadBlob, RestoredShard, ReadFails, Step, AskStep, TakeStep, LookStep, ReadStep, DepotFault, Reply, Gave, WasFetched, WasAbsent, HasEnded, Refused, Entry, Moment}
use Rattle.esr_core.specs.After.{told_blob, taken_restore, taken_restore_shard, read_told, shard_over, read_over, read_by, is_heard, caller_told, caller_wrote, caller_by, caller_after, answered, blobs_in, after, test_left}
use Rattle.esr_core.specs.Allowed as allowed
use Rattle.esr_core.specs.Allowed.{GivesRestore, Fetcher, ByReader, ByCheck, ReadAllows, ReadFound, ReadMissing, ReadFault, RestoringShard, ReaderFailing, Allows, Allowed, ByVerify, VerifyAllows, DrawingTest, TestSpent, CommittingTest, CommitTestFails, RemovingTests, VerifyingAll, VerifyFailing}
use Rattle.esr_core.specs.History.{world_from, IsLegal}
use Rattle.esr_core.specs.Tracked.{Tracked}
use Rattle.esr_core.specs.ReadTracked.{RestoresTracked, ReadTracked, FetchesOnce}
use Rattle.esr_core.specs.Laws.Asides.{blocked_stays}
use Rattle.esr_core.specs.Laws.Maps.{nothing}
use Rattle.esr_core.specs.Laws.RestoreMaps.{one_waits, put_was}
use Rattle.esr_core.proofs.ReadTracking.{tracked_up, tracked_opened, tracked_handed, tracked_more, tracked_ended}
use Rattle.esr_core.specs.Laws.RestoreFrames.{Goes, goes_answered}
use Rattle.esr_core.proofs.TrackingSteps.{tracked_step}

-- what holds of what who 0 has done, in this world
pub record CallerTracked (w : World) (caller : Caller) : Type 0 where
  pub once : FetchesOnce caller
  pub drawn : (v : ℕ) → caller.drawn ≡ Some v → v < w.next_id
  pub doomed : (name : BlobName) → Has caller.committed name → Has w.doomed name

caller_of : (w : World) → ReadTracked w → CallerTracked w w.caller
caller_of w l = record { once = l.once; drawn = l.drawn; doomed = l.doomed }

none_drawn : (v : ℕ) → ◌≡◌ {A = Option ℕ} None (Some v) → ⊥
none_drawn v e = cc

once_none : (looked : Bool) → FetchesOnce (record no_caller { looked = looked })
once_none looked = record { fetched = tt; found = tt; from = λ name m. m }

caller_none : (w : World) (looked : Bool) → CallerTracked w (record no_caller { looked = looked })
caller_none w looked = record { once = once_none looked; drawn = λ v e. absurd (none_drawn v e); doomed = λ name m. absurd m }

-- other blobs, and what who 0 has done
pub read_aside : (w : World) → ReadTracked w → (blobs : Blobs) (caller : Caller) (entries : List Entry) → CallerTracked w caller → ReadTracked (record w { blobs = blobs; caller = caller; entries = entries })
read_aside w l blobs caller entries c = record { tracked = l.tracked; apart = record { ops = l.apart.ops; deletes = l.apart.deletes; tickets = l.apart.tickets }; once = c.once; drawn = c.drawn; doomed = c.doomed }

-- a step that has nothing to do with restores
pub read_goes : (w new : World) → ReadTracked w → Goes w new → ReadTracked new
read_goes w new l g =
    record {
      tracked = subst (λ (x : FinMap nat_cmp Restoring). RestoresTracked new.next_op new.next_ticket x new.readers) (sym g.restores)
          (subst (λ (x : FinMap nat_cmp Reader). RestoresTracked new.next_op new.next_ticket w.restores x) (sym g.readers)
          (tracked_up w.next_op w.next_ticket new.next_op new.next_ticket w.restores w.readers g.next_op g.next_ticket l.tracked));
      apart = record {
        ops = λ o r op e there. let was : fin.get w.restores o ≡ Some r = ap (λ (x : FinMap nat_cmp Restoring). fin.get x o) (sym g.restores) ∙ e in elim (g.ops o op there) [
          | inl h ↦ l.apart.ops o r h.0 was h.1
          | inr le ↦ let b : o < w.next_op = l.tracked.numbers o r was in omega (arith, b, le)
        ];
        deletes = λ o r x e there. let was : fin.get w.restores o ≡ Some r = ap (λ (y : FinMap nat_cmp Restoring). fin.get y o) (sym g.restores) ∙ e in elim (g.deletes o x there) [
          | inl h ↦ l.apart.deletes o r h.0 was h.1
          | inr le ↦ let b : o < w.next_op = l.tracked.numbers o r was in omega (arith, b, le)
        ];
        tickets = λ k q t e there. let was : fin.get w.readers k ≡ Some q = ap (λ (y : FinMap nat_cmp Reader). fin.get y k) (sym g.readers) ∙ e in elim (g.tickets k t there) [
          | inl h ↦ l.apart.tickets k q h.0 was h.1
          | inr le ↦ let b : k < w.next_ticket = (l.tracked.tickets k q was).1 in omega (arith, b, le)
        ];
      };
      once = subst FetchesOnce (sym g.caller) l.once;
      drawn = λ v e. let b : v < w.next_id = l.drawn v (ap (λ (x : Caller). x.drawn) (sym g.caller) ∙ e) in let c : w.next_id ≤ new.next_id = g.next_id in omega (arith, b, c);
      doomed = λ name m. g.doomed name (l.doomed name (subst (λ (x : Caller). Has x.committed name) g.caller m));
    }

module _ (f : Formats) (size : ℕ) (w : World) (t : Tracked w) (l : ReadTracked w) where
  abbrev track : RestoresTracked w.next_op w.next_ticket w.restores w.readers
  track = l.tracked

  opens : (uuid : ℕ) (place : Bytes) (indices : List IndexRef) → AreApart indices → ReadTracked (restore_opened w uuid place indices)
  opens uuid place indices apart =
      record {
        tracked = tracked_opened w.next_op w.next_ticket w.restores w.readers track uuid place indices apart;
        apart = record {
          ops = λ o r op e there. elim (put_was w.restores w.next_op (restore_of uuid place indices) o r e) [
            | inl h ↦ let same : o ≡ w.next_op = h.0 in let b : o < w.next_op = t.numbers o op there in omega (arith, b, same)
            | inr h ↦ l.apart.ops o r op h.1 there
          ];
          deletes = λ o r x e there. elim (put_was w.restores w.next_op (restore_of uuid place indices) o r e) [
            | inl h ↦ let same : o ≡ w.next_op = h.0 in let b : o < w.next_op = t.delete_numbers o x there in omega (arith, b, same)
            | inr h ↦ l.apart.deletes o r x h.1 there
          ];
          tickets = l.apart.tickets;
        };
        once = l.once;
        drawn = l.drawn;
        doomed = l.doomed;
      }

  hands : (o index number uuid : ℕ) (g : GivesRestore w o index number uuid) → ReadTracked (shard_handed w o g.r g.s)
  hands o index number uuid g =
      record {
        tracked = tracked_handed w.next_op w.next_ticket w.restores w.readers track o g.r g.s g.ready.there g.ready.s_there g.ready.unread;
        apart = record {
          ops = λ p r op e there. elim (was_in w.restores o _ p r e) [ inl h ↦ l.apart.ops o g.r op g.ready.there (ap (fin.get w.ops) (sym h.0) ∙ there) | inr h ↦ l.apart.ops p r op h.1 there ];
          deletes = λ p r x e there. elim (was_in w.restores o _ p r e) [ inl h ↦ l.apart.deletes o g.r x g.ready.there (ap (fin.get w.deletes) (sym h.0) ∙ there) | inr h ↦ l.apart.deletes p r x h.1 there ];
          tickets = λ k q u e there. elim (was_in w.readers w.next_ticket _ k q e) [
            | inl h ↦ let same : k ≡ w.next_ticket = h.0 in let b : k < w.next_ticket = (t.tickets k u there).0 in omega (arith, b, same)
            | inr h ↦ l.apart.tickets k q u h.1 there
          ];
        };
        once = l.once;
        drawn = l.drawn;
        doomed = l.doomed;
      }

  gives : (o index number uuid : ℕ) (g : GivesRestore w o index number uuid) → ReadTracked (taken_restore w o index number (fin.get w.restores o))
  gives o index number uuid g =
      subst (λ x. ReadTracked (taken_restore w o index number x)) (sym g.ready.there) (subst (λ x. ReadTracked (taken_restore_shard w o g.r x)) (sym g.found) (hands o index number uuid g))

  grows : (k : ℕ) (q : Reader) → fin.get w.readers k ≡ Some q → (name : BlobName) (bytes : Bytes) → ReadTracked (more_read w k q name bytes)
  grows k q there name bytes =
      record {
        tracked = tracked_more w.next_op w.next_ticket w.restores w.readers track k q there name bytes;
        apart = record {
          ops = l.apart.ops;
          deletes = l.apart.deletes;
          tickets = λ j x u e ticket. elim (was_in w.readers k _ j x e) [ inl h ↦ l.apart.tickets k q u there (ap (fin.get w.tickets) (sym h.0) ∙ ticket) | inr h ↦ l.apart.tickets j x u h.1 ticket ];
        };
        once = l.once;
        drawn = l.drawn;
        doomed = l.doomed;
      }

  ends : (k : ℕ) (q : Reader) → fin.get w.readers k ≡ Some q → (r : Restoring) → fin.get w.restores q.op ≡ Some r → (state : ReadState) → waits state ≡ false → ReadTracked (shard_ended w k q r state)
  ends k q q_there r there state over =
      record {
        tracked = tracked_ended w.next_op w.next_ticket w.restores w.readers track k q q_there r there state over;
        apart = record {
          ops = λ p x op e ot. elim (put_was w.restores q.op (record r { shards = map (ended k state) r.shards }) p x e) [ inl h ↦ l.apart.ops q.op r op there (ap (fin.get w.ops) (sym h.0) ∙ ot) | inr h ↦ l.apart.ops p x op h.1 ot ];
          deletes =
              λ p x y e dt. elim (put_was w.restores q.op (record r { shards = map (ended k state) r.shards }) p x e) [ inl h ↦ l.apart.deletes q.op r y there (ap (fin.get w.deletes) (sym h.0) ∙ dt) | inr h ↦ l.apart.deletes p x y h.1 dt ];
          tickets = λ j x u e ticket. elim (was_in w.readers k (record q { out = false }) j x e) [ inl h ↦ l.apart.tickets k q u q_there (ap (fin.get w.tickets) (sym h.0) ∙ ticket) | inr h ↦ l.apart.tickets j x u h.1 ticket ];
        };
        once = l.once;
        drawn = l.drawn;
        doomed = l.doomed;
      }

  over_by : (k : ℕ) (q : Reader) → fin.get w.readers k ≡ Some q → (state : ReadState) → waits state ≡ false → (r : Option Restoring) → fin.get w.restores q.op ≡ r → ReadTracked (shard_over w k state q r)
  over_by k q there state over None is = l
  over_by k q there state over (Some r) is = ends k q there r is state over

  over : (k : ℕ) (state : ReadState) → waits state ≡ false → (q : Option Reader) → fin.get w.readers k ≡ q → ReadTracked (read_over w k state q)
  over k state is_over None is = l
  over k state is_over (Some q) is = over_by k q is state is_over (fin.get w.restores q.op) refl

  told : (k : ℕ) (name : BlobName) (bytes : Option Bytes) (q : Option Reader) → fin.get w.readers k ≡ q → ReadTracked (read_told w k name bytes q)
  told k name bytes None is = l
  told k name None (Some q) is = l
  told k name (Some bytes) (Some q) is = grows k q is name bytes

  -- ---- each answer

  read_found : (k : ℕ) (name : BlobName) (image : Option Image) → ReadTracked (read_by f w k (ReadBlob name) WasFetched image)
  read_found zero name image = l
  read_found (suc k) name image = told (suc k) name (told_blob f image name) (fin.get w.readers (suc k)) refl

  read_missing : (k : ℕ) (name : BlobName) (image : Option Image) → ReadTracked (read_by f w k (ReadBlob name) WasAbsent image)
  read_missing zero name image = l
  read_missing (suc k) name image = l

  read_done : (k files bytes : ℕ) (image : Option Image) → ReadTracked (read_by f w k (RestoredShard files bytes) HasEnded image)
  read_done zero files bytes image = l
  read_done (suc k) files bytes image = over (suc k) (Restored files bytes) refl (fin.get w.readers (suc k)) refl

  read_failed : (k : ℕ) (why : Why) (image : Option Image) → ReadTracked (read_by f w k (ReadFails why) HasEnded image)
  read_failed zero why image = l
  read_failed (suc k) why image = over (suc k) (NotRestored why) refl (fin.get w.readers (suc k)) refl

  reads : (k : ℕ) (read : Read) (reply : Reply) (image : Option Image) → ReadAllows f w k read reply image → ReadTracked (answered f w k (ReadStep read) reply image)
  reads k read reply image (ReadFound j name im stored by found) = read_found j name im
  reads k read reply image (ReadMissing j name im stored by none) = read_missing j name im
  reads k read reply image (RestoringShard j files bytes im q out done) = read_done j files bytes im
  reads k read reply image (ReaderFailing j why im q out) = read_failed j why im
  reads k read reply image other = l

  -- a test blob that may be removed
  dooms : (name : BlobName) → ReadTracked (record w { doomed = name ∷ w.doomed })
  dooms name = record { tracked = l.tracked; apart = record { ops = l.apart.ops; deletes = l.apart.deletes; tickets = l.apart.tickets }; once = l.once; drawn = l.drawn; doomed = λ m has. inr (l.doomed m has) }

  left_by : (name : BlobName) (was now : Option Bytes) → ReadTracked (test_left w name was now)
  left_by name None (Some bytes) = dooms name
  left_by name was now = l

  verifies : (read : Read) (reply : Reply) (image : Option Image) → VerifyAllows f w read reply image → ReadTracked (answered f w 0 (ReadStep read) reply image)
  verifies read reply image (DrawingTest im idle fits same) =
      record { tracked = l.tracked; apart = record { ops = l.apart.ops; deletes = l.apart.deletes; tickets = l.apart.tickets }; once = l.once; drawn = λ v e. let b : v < w.next_id = l.drawn v e in omega (arith, b); doomed = l.doomed }
  verifies read reply image (CommittingTest name bytes im own new adds) = dooms name
  verifies read reply image (CommitTestFails name bytes im own leaves) = left_by name (fin.get w.blobs (f.names.text name)) (told_blob f im name)
  verifies read reply image other = l

  restore_asked : (who : ℕ) (name place : Bytes) (reply : Reply) (image : Option Image) → Allows f size w who (AskStep (Restore name place)) reply image → ReadTracked (answered f w who (AskStep (Restore name place)) reply image)
  restore_asked who name place reply image (allowed.OpeningRestore n at o uuid indices im acc same) = opens uuid at indices acc.indices_of.within.apart
  restore_asked who name place reply image (allowed.Ruled command refusal im (allowed.NotListed n at none) same) = l
  restore_asked who name place reply image (allowed.Ruled command refusal im rule same) = l

  reading : (who : ℕ) (read : Read) (reply : Reply) (image : Option Image) → Allows f size w who (ReadStep read) reply image → ReadTracked (answered f w who (ReadStep read) reply image)
  reading who read reply image (allowed.Reading k r rep im h same) = reads k r rep im h
  reading who read reply image (allowed.Verifying r rep im h) = verifies r rep im h

  unit_given : (who k o index number uuid : ℕ) (image : Option Image) → Allows f size w who TakeStep (Gave k o (GivenRestore index number uuid)) image → GivesRestore w o index number uuid
  unit_given who k o index number uuid image (allowed.Giving j p unit im is lowest g same) = g

  read_answered : (who : ℕ) (step : Step) (reply : Reply) (image : Option Image) → Allows f size w who step reply image → ReadTracked (answered f w who step reply image)
  read_answered who (AskStep (Restore name place)) reply image a = restore_asked who name place reply image a
  read_answered who (ReadStep read) reply image a = reading who read reply image a
  read_answered who TakeStep (Gave k o (GivenRestore index number uuid)) image a = gives o index number uuid (unit_given who k o index number uuid image a)
  read_answered who step reply image a = read_goes w _ l (goes_answered f w (room t.in_term.below) who step reply image tt)
    where
      room : w.next_id < first_id (suc w.term) → w.next_id ≤ first_id (suc w.term)
      room b = omega (arith, b)

-- ---- what who 0 has done

-- one more that is there, or isn't
once_found : (c : Caller) (name : BlobName) → (Has c.fetched name → ⊥) → FetchesOnce c → FetchesOnce (record c { fetched = name ∷ c.fetched; found = name ∷ c.found })
once_found c name new h = record { fetched = (new, h.fetched); found = ((λ m. new (h.from name m)), h.found); from = λ n m. elim m [ inl e ↦ inl e | inr was ↦ inr (h.from n was) ] }

once_missed : (c : Caller) (name : BlobName) → (Has c.fetched name → ⊥) → FetchesOnce c → FetchesOnce (record c { fetched = name ∷ c.fetched })
once_missed c name new h = record { fetched = (new, h.fetched); found = h.found; from = λ n m. inr (h.from n m) }

told_tracked : (w : World) (c : Caller) (name : BlobName) (bytes : Option Bytes) → (Has c.fetched name → ⊥) → CallerTracked w c → CallerTracked w (caller_told c name bytes)
told_tracked w c name None new h = record { once = once_found c name new h.once; drawn = h.drawn; doomed = h.doomed }
told_tracked w c name (Some bytes) new h =
    let o = once_found c name new h.once in record { once = record { fetched = o.fetched; found = o.found; from = o.from }; drawn = h.drawn; doomed = h.doomed }

chosen_tracked : (w : World) (b : Bool) (c d : Caller) → CallerTracked w c → CallerTracked w d → CallerTracked w (if b then c else d)
chosen_tracked w true c d p q = p
chosen_tracked w false c d p q = q

some_drawn : {a b : ℕ} → Some a ≡ Some b → a ≡ b
some_drawn e = cc

module _ (f : Formats) (size : ℕ) (w : World) (t : Tracked w) (l : ReadTracked w) where
  abbrev mine : CallerTracked w w.caller
  mine = record { once = l.once; drawn = l.drawn; doomed = l.doomed }

  no_reader : (q : Reader) → IsReading w 0 q → ⊥
  no_reader q h = let b : 1 ≤ 0 = (l.tracked.tickets 0 q h.there).0 in omega (arith, b)

  -- its world and its caller after a step that reads
  abbrev Heard : ℕ → Read → Reply → Option Image → Type 0
  Heard k read reply image = CallerTracked (answered f w k (ReadStep read) reply image) (caller_by f (answered f w k (ReadStep read) reply image).caller k read reply image)

  found : (k : ℕ) (name : BlobName) (image : Option Image) → Fetcher f w name image k → Heard k (ReadBlob name) WasFetched image
  found zero name image (ByReader j q out may) = absurd (no_reader q out)
  found zero name image (ByCheck may) = told_tracked w w.caller name (told_blob f image name) may.unfetched mine
  found zero name image (ByVerify may) = told_tracked w w.caller name (told_blob f image name) may.once mine
  found (suc k) name image by = caller_of _ (told f size w t l (suc k) name (told_blob f image name) (fin.get w.readers (suc k)) refl)

  missed : (k : ℕ) (name : BlobName) (image : Option Image) → Fetcher f w name image k → Heard k (ReadBlob name) WasAbsent image
  missed zero name image (ByReader j q out may) = absurd (no_reader q out)
  missed zero name image (ByCheck may) = record { once = once_missed w.caller name may.unfetched l.once; drawn = l.drawn; doomed = l.doomed }
  missed zero name image (ByVerify may) = record { once = once_missed w.caller name may.once l.once; drawn = l.drawn; doomed = l.doomed }
  missed (suc k) name image by = mine

  failed : (k : ℕ) (name : BlobName) (image : Option Image) → Heard k (ReadBlob name) (Refused DepotFault) image
  failed zero name image = mine
  failed (suc k) name image = mine

  restored : (k files bytes : ℕ) (image : Option Image) → Heard k (RestoredShard files bytes) HasEnded image
  restored zero files bytes image = mine
  restored (suc k) files bytes image = caller_of _ (over f size w t l (suc k) (Restored files bytes) refl (fin.get w.readers (suc k)) refl)

  failing : (k : ℕ) (why : Why) (image : Option Image) → Heard k (ReadFails why) HasEnded image
  failing zero why image = caller_none w false
  failing (suc k) why image = caller_of _ (over f size w t l (suc k) (NotRestored why) refl (fin.get w.readers (suc k)) refl)

  heard_reads : (k : ℕ) (read : Read) (reply : Reply) (image : Option Image) → ReadAllows f w k read reply image → Heard k read reply image
  heard_reads k read reply image (ReadFound j name im stored by there) = found j name im by
  heard_reads k read reply image (ReadMissing j name im stored by none) = missed j name im by
  heard_reads k read reply image (ReadFault j name im stored by) = failed j name im
  heard_reads k read reply image (RestoringShard j files bytes im q out done) = restored j files bytes im
  heard_reads k read reply image (ReaderFailing j why im q out) = failing j why im
  heard_reads k read reply image other = caller_none w false

  left_caller : (name : BlobName) (was now : Option Bytes) → CallerTracked (test_left w name was now) (test_left w name was now).caller
  left_caller name None (Some bytes) = record { once = l.once; drawn = l.drawn; doomed = λ m has. inr (l.doomed m has) }
  left_caller name was now = mine

  wrote_tracked : (name : BlobName) (bytes : Option Bytes) → CallerTracked (record w { doomed = name ∷ w.doomed }) (caller_wrote w.caller name bytes)
  wrote_tracked name None = record { once = record { fetched = l.once.fetched; found = l.once.found; from = l.once.from }; drawn = l.drawn; doomed = λ m has. elim has [ inl e ↦ inl e | inr was ↦ inr (l.doomed m was) ] }
  wrote_tracked name (Some bytes) = record { once = record { fetched = l.once.fetched; found = l.once.found; from = l.once.from }; drawn = l.drawn; doomed = λ m has. elim has [ inl e ↦ inl e | inr was ↦ inr (l.doomed m was) ] }

  heard_verifies : (read : Read) (reply : Reply) (image : Option Image) → VerifyAllows f w read reply image → Heard 0 read reply image
  heard_verifies read reply image (DrawingTest im idle fits same) =
      record { once = record { fetched = l.once.fetched; found = l.once.found; from = l.once.from }; drawn = λ v e. let same_id : w.next_id ≡ v = some_drawn e in omega (arith, same_id); doomed = l.doomed }
  heard_verifies read reply image (TestSpent im idle spent same) = record { once = record { fetched = l.once.fetched; found = l.once.found; from = l.once.from }; drawn = l.drawn; doomed = l.doomed }
  heard_verifies read reply image (CommittingTest name bytes im own new adds) = wrote_tracked name (told_blob f im name)
  heard_verifies read reply image (CommitTestFails name bytes im own leaves) = left_caller name (fin.get w.blobs (f.names.text name)) (told_blob f im name)
  heard_verifies read reply image (RemovingTests names im may left) = record { once = record { fetched = l.once.fetched; found = l.once.found; from = l.once.from }; drawn = l.drawn; doomed = l.doomed }
  heard_verifies read reply image (VerifyingAll im done same) = caller_none w false
  heard_verifies read reply image (VerifyFailing why im begun same) = caller_none w false
  heard_verifies read reply image other = mine

  heard_read : (who : ℕ) (read : Read) (reply : Reply) (image : Option Image) → Allows f size w who (ReadStep read) reply image → Heard who read reply image
  heard_read who read reply image (allowed.Reading k r rep im h same) = heard_reads k r rep im h
  heard_read who read reply image (allowed.Verifying r rep im h) = heard_verifies r rep im h

  heard_step : (who : ℕ) (step : Step) (reply : Reply) (image : Option Image) → Allows f size w who step reply image → ReadTracked (answered f w who step reply image)
      → CallerTracked (answered f w who step reply image) (caller_after f (answered f w who step reply image).caller who step reply image)
  heard_step who (AskStep command) reply image a now = chosen_tracked _ (is_heard reply) no_caller _ (caller_none _ false) (caller_of _ now)
  heard_step who LookStep reply image a now = chosen_tracked _ (is_heard reply) (record no_caller { looked = true }) _ (caller_none _ true) (caller_of _ now)
  heard_step who (ReadStep read) reply image a now = heard_read who read reply image a
  heard_step who step reply image a now = caller_of _ now

pub read_step_tracked : (f : Formats) (size : ℕ) (w : World) (m : Moment) → Tracked w → ReadTracked w → Allowed f size w m → ReadTracked (after f w m)
read_step_tracked f size w m t l a = elim a.answered [
  | inl alive ↦
      let now : ReadTracked (answered f w m.entry.who m.entry.step m.entry.reply m.image) = read_answered f size w t l m.entry.who m.entry.step m.entry.reply m.image alive.1 in
      read_aside (answered f w m.entry.who m.entry.step m.entry.reply m.image) now (blobs_in m.image w.blobs) (after f w m).caller (after f w m).entries (heard_step f size w t l m.entry.who m.entry.step m.entry.reply m.image alive.1 now)
  | inr dead ↦ subst ReadTracked (sym (blocked_stays f w m dead)) (read_aside w l w.blobs w.caller (with_entry w.entries m.entry) (record { once = l.once; drawn = l.drawn; doomed = l.doomed }))
]

pub read_history_tracked : (f : Formats) (size : ℕ) (log : List Moment) (w : World) → Tracked w → ReadTracked w → IsLegal f size w log → ReadTracked (world_from f w log)
read_history_tracked f size [] w t l legal = l
read_history_tracked f size (m ∷ log) w t l legal = read_history_tracked f size log (after f w m) (tracked_step f size w m t legal.0) (read_step_tracked f size w m t l legal.0) legal.1

pub read_opened_tracked : (blobs : Blobs) (cluster : ClusterRecord) (root : RootData) → ReadTracked (opened blobs cluster root)
read_opened_tracked blobs cluster root =
    record {
      tracked = record {
        first = omega arith;
        numbers = λ o r e. absurd (nothing o r e);
        tickets = λ k q e. absurd (nothing k q e);
        waiting = λ o r e. absurd (nothing o r e);
        readers = λ k q e. absurd (nothing k q e);
        held = λ o r s k e. absurd (nothing o r e);
        distinct = λ o r s z e. absurd (nothing o r e);
      };
      apart = record {
        ops = λ o r op e. absurd (nothing o r e);
        deletes = λ o r x e. absurd (nothing o r e);
        tickets = λ k q t e. absurd (nothing k q e);
      };
      once = once_none false;
      drawn = λ v e. absurd (none_drawn v e);
      doomed = λ name m. absurd m;
    }

-- a restore with no ticket out has a shard that is ready
pub restore_ready : (w : World) (o : ℕ) (r : Restoring) → ReadTracked w → fin.get w.restores o ≡ Some r → ((k : ℕ) (q : Reader) → fin.get w.readers k ≡ Some q → q.out ≡ true → q.op ≡ o → ⊥) → AnyReady w
restore_ready w o r l there idle =
    let (s, m, waiting) = one_waits r.shards (l.tracked.waiting o r there) in
    ready s m s.state refl waiting
  where
    ready : (s : RestoreShard) → Has r.shards s → (state : ReadState) → s.state ≡ state → waits state ≡ true → AnyReady w
    ready s m Unread is waiting = ARestore o r s (record { there = there; s_there = m; unread = is })
    ready s m (BeingRead k) is waiting = let h = l.tracked.held o r s k there m is in absurd (idle k h.q h.there h.out h.op_is)
    ready s m state is waiting = absurd (true≢false (sym waiting))
