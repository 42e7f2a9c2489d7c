-- Over any container the tickets of restores stay what they are given for and are of what was asked, and no shard is restored twice.
use Rattle.std.proofs.Common.{◌≡◌, ◌≢◌, ℕ, zero, suc, ◌<◌, ◌≤◌, List, [], ◌∷◌, ◌++◌, true, false, true≢false, Option, Some, None, map, refl, sym, ap, ◌∙◌, subst, inl, inr, arith, nat_cmp}
use Rattle.std.specs.Prelude.{Bool, T}
use Rattle.std.specs.FinMap.{FinMap}
use Rattle.std.specs.FinMap as fin
use Rattle.std.proofs.lemmas.Option.{same_Some}
use Rattle.esr_core.specs.Laws.NumberMaps.{was_in, same_in, other_in, split_at}
use Rattle.esr_model.specs.Names.{BlobName}
use Rattle.esr_model.specs.Values.{Bytes, Has, IndexRef, Formats}
use Rattle.esr_model.specs.Kept.{first_id}
use Rattle.esr_model.specs.Places.{places}
use Rattle.esr_model.specs.Image.{Image, Blobs}
use Rattle.esr_core.specs.World.{World, ReadState, Unread, BeingRead, Restored, NotRestored, RestoreShard, Restoring, Reader, Caller}
use Rattle.esr_core.specs.Restores.{IsReading, restore_of, waits, put_restore, handed, ended, reader_of, read_more, restore_opened, shard_ended}
use Rattle.esr_core.specs.Entry.{Asked, Restore, LookStep, GivenRestore, Given, Why, Read, ReadBlob, RestoredShard, DrawTest, CommitTest, ReadFails, Step, AskStep, TakeStep, ReadStep, DepotFault, Reply, Gave, DrawnFrom, WasDone, WasFetched, WasAbsent, HasEnded, Refused, AcceptedRestore, Entry, Moment, is_recorded, unrecorded}
use Rattle.esr_core.specs.After.{told_blob, taken_restore, taken_restore_shard, read_told, shard_over, read_over, read_by, faulted, answered, blobs_in, after, test_left}
use Rattle.esr_core.specs.Allowed as allowed
use Rattle.esr_core.specs.Allowed.{GivesRestore, ReadAllows, ReadFound, ReadMissing, RestoringShard, ReaderFailing, Allows, Allowed, VerifyAllows, DrawingTest, CommittingTest, CommitTestFails}
use Rattle.esr_core.specs.Causes.{TakeGave, RestoreBegan}
use Rattle.esr_core.specs.History.{world_from, IsLegal}
use Rattle.esr_core.specs.Tracked.{Tracked}
use Rattle.esr_core.specs.ReadTracked.{ReaderTracked, RestoresTracked, ReadTracked}
use Rattle.esr_core.specs.Laws.RestoreShards.{shard_is}
use Rattle.esr_readers.specs.Order.{OrderLaws}
use Rattle.esr_readers.specs.Readers.{RestoresIn, IsSameReader, IsThereAs, IsGiven, IsReaderOf, IsRestoreOf, ReadsAs}
use Rattle.esr_readers.specs.RestoredShards.{restores_out}
use Rattle.esr_model.specs.Lists.{Has-map, Has-mapped}
use Rattle.esr_core.specs.Laws.Histories.{legal_parts, world_parts}
use Rattle.esr_core.specs.Laws.Asides.{blocked_stays}
use Rattle.esr_core.specs.Laws.RestoreMaps.{LeavesPlace, handed_is, ended_is, handed_place, ended_place, apart_one, put_was, places_mapped, places_begun}
use Rattle.esr_core.specs.Laws.RestoreFrames.{goes_answered}

abbrev Restores : Type 0
Restores = FinMap nat_cmp Restoring

abbrev Readers : Type 0
Readers = FinMap nat_cmp Reader

-- ---- what a step makes of restores and of their tickets

pub data Makes (w new : World) : Type 0 where
  MakesNothing : new.restores ≡ w.restores → new.readers ≡ w.readers → w.next_op ≤ new.next_op → Makes w new
  MakesRestore : (uuid : ℕ) (place : Bytes) (indices : List IndexRef) → new.restores ≡ put_restore w.restores w.next_op (restore_of uuid place indices) → new.readers ≡ w.readers → new.next_op ≡ suc w.next_op → Makes w new
  MakesReader : (o : ℕ) (r : Restoring) (s : RestoreShard) → fin.get w.restores o ≡ Some r → Has r.shards s → s.state ≡ Unread
      → new.restores ≡ fin.insert w.restores o (record r { shards = map (handed w.next_ticket s.ref.id s.number) r.shards }) → new.readers ≡ fin.insert w.readers w.next_ticket (reader_of o r s) → new.next_op ≡ w.next_op → Makes w new
  MakesMore : (k : ℕ) (q : Reader) (name : BlobName) (bytes : Bytes) → fin.get w.readers k ≡ Some q → new.restores ≡ w.restores → new.readers ≡ fin.insert w.readers k (read_more q name bytes) → new.next_op ≡ w.next_op
      → Makes w new
  MakesEnd : (k : ℕ) (q : Reader) (r : Restoring) (state : ReadState) → fin.get w.readers k ≡ Some q → fin.get w.restores q.op ≡ Some r → waits state ≡ false
      → new.restores ≡ put_restore w.restores q.op (record r { shards = map (ended k state) r.shards }) → new.readers ≡ fin.insert w.readers k (record q { out = false }) → new.next_op ≡ w.next_op → Makes w new

makes_same : (w : World) → Makes w w
makes_same w = MakesNothing refl refl (omega arith)

-- other blobs, and what was done so far
makes_aside : (w new : World) (blobs : Blobs) (caller : Caller) (entries : List Entry) → Makes w new → Makes w (record new { blobs = blobs; caller = caller; entries = entries })
makes_aside w new blobs caller entries (MakesNothing a b c) = MakesNothing a b c
makes_aside w new blobs caller entries (MakesRestore uuid place indices a b c) = MakesRestore uuid place indices a b c
makes_aside w new blobs caller entries (MakesReader o r s there s_there unread a b c) = MakesReader o r s there s_there unread a b c
makes_aside w new blobs caller entries (MakesMore k q name bytes there a b c) = MakesMore k q name bytes there a b c
makes_aside w new blobs caller entries (MakesEnd k q r state q_there there over a b c) = MakesEnd k q r state q_there there over a b c

module _ (f : Formats) (size : ℕ) (w : World) (t : Tracked w) where
  gives : (o index number uuid : ℕ) (g : GivesRestore w o index number uuid) → Makes w (taken_restore w o index number (fin.get w.restores o))
  gives o index number uuid g =
      subst (λ x. Makes w (taken_restore w o index number x)) (sym g.ready.there)
      (subst (λ x. Makes w (taken_restore_shard w o g.r x)) (sym g.found) (MakesReader o g.r g.s g.ready.there g.ready.s_there g.ready.unread refl refl refl))

  over_by : (k : ℕ) (q : Reader) → fin.get w.readers k ≡ Some q → (state : ReadState) → waits state ≡ false → (r : Option Restoring) → fin.get w.restores q.op ≡ r → Makes w (shard_over w k state q r)
  over_by k q there state over None is = makes_same w
  over_by k q there state over (Some r) is = MakesEnd k q r state there is over refl refl refl

  over : (k : ℕ) (state : ReadState) → waits state ≡ false → (q : Option Reader) → fin.get w.readers k ≡ q → Makes w (read_over w k state q)
  over k state is_over None is = makes_same w
  over k state is_over (Some q) is = over_by k q is state is_over (fin.get w.restores q.op) refl

  told : (k : ℕ) (name : BlobName) (bytes : Option Bytes) (q : Option Reader) → fin.get w.readers k ≡ q → Makes w (read_told w k name bytes q)
  told k name bytes None is = makes_same w
  told k name None (Some q) is = makes_same w
  told k name (Some bytes) (Some q) is = MakesMore k q name bytes is refl refl refl

  found : (k : ℕ) (name : BlobName) (image : Option Image) → Makes w (read_by f w k (ReadBlob name) WasFetched image)
  found zero name image = makes_same w
  found (suc k) name image = told (suc k) name (told_blob f image name) (fin.get w.readers (suc k)) refl

  missed : (k : ℕ) (name : BlobName) (image : Option Image) → Makes w (read_by f w k (ReadBlob name) WasAbsent image)
  missed zero name image = makes_same w
  missed (suc k) name image = makes_same w

  done : (k files bytes : ℕ) (image : Option Image) → Makes w (read_by f w k (RestoredShard files bytes) HasEnded image)
  done zero files bytes image = makes_same w
  done (suc k) files bytes image = over (suc k) (Restored files bytes) refl (fin.get w.readers (suc k)) refl

  failed : (k : ℕ) (why : Why) (image : Option Image) → Makes w (read_by f w k (ReadFails why) HasEnded image)
  failed zero why image = makes_same w
  failed (suc k) why image = over (suc k) (NotRestored why) refl (fin.get w.readers (suc k)) refl

  reads : (k : ℕ) (read : Read) (reply : Reply) (image : Option Image) → ReadAllows f w k read reply image → Makes w (answered f w k (ReadStep read) reply image)
  reads k read reply image (ReadFound j name im stored by there) = found j name im
  reads k read reply image (ReadMissing j name im stored by none) = missed j name im
  reads k read reply image (RestoringShard j files bytes im q out by) = done j files bytes im
  reads k read reply image (ReaderFailing j why im q out) = failed j why im
  reads k read reply image other = makes_same w

  left_by : (name : BlobName) (was now : Option Bytes) → Makes w (test_left w name was now)
  left_by name None (Some bytes) = MakesNothing refl refl (omega arith)
  left_by name was now = makes_same w

  verifies : (read : Read) (reply : Reply) (image : Option Image) → VerifyAllows f w read reply image → Makes w (answered f w 0 (ReadStep read) reply image)
  verifies read reply image (DrawingTest im idle fits same) = MakesNothing refl refl (omega arith)
  verifies read reply image (CommittingTest name bytes im own new adds) = MakesNothing refl refl (omega arith)
  verifies read reply image (CommitTestFails name bytes im own leaves) = left_by name (fin.get w.blobs (f.names.text name)) (told_blob f im name)
  verifies read reply image other = makes_same w

  restore_asked : (who : ℕ) (name place : Bytes) (reply : Reply) (image : Option Image) → Allows f size w who (AskStep (Restore name place)) reply image → Makes w (answered f w who (AskStep (Restore name place)) reply image)
  restore_asked who name place reply image (allowed.OpeningRestore n at o uuid indices im acc same) = MakesRestore uuid at indices refl refl refl
  restore_asked who name place reply image (allowed.Ruled command refusal im (allowed.NotListed n at none) same) = makes_same w
  restore_asked who name place reply image (allowed.Ruled command refusal im rule same) = makes_same w

  reading : (who : ℕ) (read : Read) (reply : Reply) (image : Option Image) → Allows f size w who (ReadStep read) reply image → Makes w (answered f w who (ReadStep read) reply image)
  reading who read reply image (allowed.Reading k r rep im h same) = reads k r rep im h
  reading who read reply image (allowed.Verifying r rep im h) = verifies r rep im h

  given_by : (who k o index number uuid : ℕ) (image : Option Image) → Allows f size w who TakeStep (Gave k o (GivenRestore index number uuid)) image → GivesRestore w o index number uuid
  given_by who k o index number uuid image (allowed.Giving j p unit im is lowest g same) = g

  makes_answered : (who : ℕ) (step : Step) (reply : Reply) (image : Option Image) → Allows f size w who step reply image → Makes w (answered f w who step reply image)
  makes_answered who (AskStep (Restore name place)) reply image a = restore_asked who name place reply image a
  makes_answered who (ReadStep read) reply image a = reading who read reply image a
  makes_answered who TakeStep (Gave k o (GivenRestore index number uuid)) image a = gives o index number uuid (given_by who k o index number uuid image a)
  makes_answered who step reply image a = let g = goes_answered f w (room t.in_term.below) who step reply image tt in MakesNothing g.restores g.readers g.next_op
    where
      room : w.next_id < first_id (suc w.term) → w.next_id ≤ first_id (suc w.term)
      room b = omega (arith, b)

makes_step : (f : Formats) (size : ℕ) (w : World) (m : Moment) → Tracked w → Allowed f size w m → Makes w (after f w m)
makes_step f size w m t a = elim a.answered [
  | inl alive ↦ makes_aside w (answered f w m.entry.who m.entry.step m.entry.reply m.image) (blobs_in m.image w.blobs) (after f w m).caller (after f w m).entries (makes_answered f size w t m.entry.who m.entry.step m.entry.reply m.image alive.1)
  | inr dead ↦ subst (Makes w) (sym (blocked_stays f w m dead)) (MakesNothing refl refl (omega arith))
]

-- ---- a ticket stays the same

same_reader : (q : Reader) → IsSameReader q q
same_reader q = record { op_is = refl; uuid_is = refl; index_is = refl; number_is = refl; name_is = refl; place_is = refl }

same_reader_trans : (a b c : Reader) → IsSameReader a b → IsSameReader b c → IsSameReader a c
same_reader_trans a b c p q =
    record { op_is = q.op_is ∙ p.op_is; uuid_is = q.uuid_is ∙ p.uuid_is; index_is = q.index_is ∙ p.index_is; number_is = q.number_is ∙ p.number_is; name_is = q.name_is ∙ p.name_is; place_is = q.place_is ∙ p.place_is }

-- where one ticket is put anew as the same
put_same_reader : (readers : Readers) (j : ℕ) (x y : Reader) → fin.get readers j ≡ Some x → IsSameReader x y → (k : ℕ) (q : Reader) → fin.get readers k ≡ Some q
    → (z : Reader) × (fin.get (fin.insert readers j y) k ≡ Some z) × IsSameReader q z
put_same_reader readers j x y there same k q e = elim (split_at k j) [
  | inl at ↦
      let one : x ≡ q = same_Some x q (sym there ∙ ap (fin.get readers) (sym at) ∙ e) in
      (y, ap (fin.get (fin.insert readers j y)) at ∙ same_in readers j y, subst (λ v. IsSameReader v y) one same)
  | inr away ↦ (q, other_in readers j y k away ∙ e, same_reader q)
]

there_on : (w new : World) → RestoresTracked w.next_op w.next_ticket w.restores w.readers → Makes w new → (k : ℕ) (q : Reader) → fin.get w.readers k ≡ Some q → IsThereAs new k q
there_on w new l (MakesNothing a b c) k q e = record { q = q; there = ap (λ (m : Readers). fin.get m k) b ∙ e; same = same_reader q }
there_on w new l (MakesRestore uuid place indices a b c) k q e = record { q = q; there = ap (λ (m : Readers). fin.get m k) b ∙ e; same = same_reader q }
there_on w new l (MakesReader o r s there s_there unread a b c) k q e =
    let away : k ≢ w.next_ticket = λ at. let x : k < w.next_ticket = (l.tickets k q e).1 in omega (arith, x, at) in
    record { q = q; there = ap (λ (m : Readers). fin.get m k) b ∙ other_in w.readers w.next_ticket (reader_of o r s) k away ∙ e; same = same_reader q }
there_on w new l (MakesMore j x name bytes there a b c) k q e =
    let (z, at, same) = put_same_reader w.readers j x (read_more x name bytes) there (record { op_is = refl; uuid_is = refl; index_is = refl; number_is = refl; name_is = refl; place_is = refl }) k q e in
    record { q = z; there = ap (λ (m : Readers). fin.get m k) b ∙ at; same = same }
there_on w new l (MakesEnd j x r state there r_there over a b c) k q e =
    let (z, at, same) = put_same_reader w.readers j x (record x { out = false }) there (record { op_is = refl; uuid_is = refl; index_is = refl; number_is = refl; name_is = refl; place_is = refl }) k q e in
    record { q = z; there = ap (λ (m : Readers). fin.get m k) b ∙ at; same = same }

pub stays_there : (laws : OrderLaws) (f : Formats) (size : ℕ) (w : World) (log : List Moment) (k : ℕ) (q : Reader) → Tracked w → ReadTracked w → IsLegal f size w log → fin.get w.readers k ≡ Some q → IsThereAs (world_from f w log) k q
stays_there laws f size w [] k q t l legal e = record { q = q; there = e; same = same_reader q }
stays_there laws f size w (m ∷ log) k q t l legal e =
    let h = there_on w (after f w m) l.tracked (makes_step f size w m t legal.0) k q e in
    let rest = stays_there laws f size (after f w m) log k h.q (laws.step f size w m t legal.0) (laws.read_step f size w m t l legal.0) legal.1 h.there in
    record { q = rest.q; there = rest.there; same = same_reader_trans q h.q rest.q h.same rest.same }

-- ---- a ticket is given

-- a unit that is given is so by a take
abbrev pub TakesGive : Type 0
TakesGive = (f : Formats) (size : ℕ) (w : World) (m : Moment) (k o : ℕ) (unit : Given) → Allowed f size w m → m.entry.reply ≡ Gave k o unit → TakeGave f w m.entry.who m.entry.step k o unit

-- a restore that is accepted was asked
abbrev pub AsksBegin : Type 0
AsksBegin = (f : Formats) (size : ℕ) (w : World) (m : Moment) (o uuid : ℕ) (indices : List IndexRef) → Allowed f size w m → m.entry.reply ≡ AcceptedRestore o uuid indices → RestoreBegan f w m.entry.who m.entry.step o uuid indices m.image

pub is_given : TakesGive → (f : Formats) (size : ℕ) (w : World) (m : Moment) (k o index number uuid : ℕ) → Allowed f size w m → m.entry.reply ≡ Gave k o (GivenRestore index number uuid) → IsGiven (after f w m) k o index number uuid
is_given takes f size w m k o index number uuid a e =
    let reply : Reply = Gave k o (GivenRestore index number uuid) in
    let at = takes f size w m k o (GivenRestore index number uuid) a e in
    let g : GivesRestore w o index number uuid = at.gives in
    let q : Reader = reader_of o g.r g.s in
    let shard = shard_is g.r.shards index number g.s g.found in
    let now : (after f w m).readers ≡ fin.insert w.readers w.next_ticket q =
    ap (λ x. (answered f w m.entry.who m.entry.step x m.image).readers) e ∙ ap (λ x. (answered f w m.entry.who x reply m.image).readers) at.step_is
    ∙ ap (λ x. (taken_restore w o index number x).readers) g.ready.there ∙ ap (λ x. (taken_restore_shard w o g.r x).readers) g.found in
    record {
      q = q;
      there = ap (λ (x : Readers). fin.get x k) now ∙ ap (fin.get (fin.insert w.readers w.next_ticket q)) at.number ∙ same_in w.readers w.next_ticket q;
      out = refl;
      op_is = refl;
      index_is = shard.0;
      number_is = shard.1;
      uuid_is = sym g.uuid_is;
    }

-- ---- a restore is asked

module _ (begins : AsksBegin) (f : Formats) (size : ℕ) (w : World) (m : Moment) (o uuid : ℕ) (indices : List IndexRef) (a : Allowed f size w m) (e : m.entry.reply ≡ AcceptedRestore o uuid indices) where
  abbrev it : RestoreBegan f w m.entry.who m.entry.step o uuid indices m.image
  it = begins f size w m o uuid indices a e

  opened_is : (name place : Bytes) → m.entry.step ≡ AskStep (Restore name place) → answered f w m.entry.who m.entry.step m.entry.reply m.image ≡ restore_opened w uuid place indices
  opened_is name place is = ap (λ x. answered f w m.entry.who m.entry.step x m.image) e ∙ ap (λ x. answered f w m.entry.who x (AcceptedRestore o uuid indices) m.image) is

  next_is : (name place : Bytes) → m.entry.step ≡ AskStep (Restore name place) → (after f w m).next_op ≡ suc w.next_op
  next_is name place is = ap (λ (x : World). x.next_op) (opened_is name place is)

  pub asked_number : (o ≡ w.next_op) × (o < (after f w m).next_op)
  asked_number =
      let n : o ≡ w.next_op = it.accepts.number in
      let next : (after f w m).next_op ≡ suc w.next_op = next_is it.name it.place it.step_is in
      (n, omega (arith, n, next))

  pub asked_apart : Tracked w → (r q : IndexRef) → Has indices r → Has indices q → r.name ≡ q.name → r ≡ q
  asked_apart t r q rm qm name =
      let within = it.accepts.indices_of.within in
      let (x, xm, x_name, x_id, x_has) = within.listed r rm in
      let (y, ym, y_name, y_id, y_has) = within.listed q qm in
      apart_one indices within.apart r q rm qm (sym x_id ∙ (t.named.root_indices x y xm ym).one_id (x_name ∙ name ∙ sym y_name) ∙ y_id)

  pub asked_one : (r q : IndexRef) → Has indices r → Has indices q → r.id ≡ q.id → r ≡ q
  asked_one r q rm qm id = apart_one indices it.accepts.indices_of.within.apart r q rm qm id

  reads_begun : (name place : Bytes) → m.entry.step ≡ AskStep (Restore name place) → ReadsAs (after f w m) o uuid place indices
  reads_begun name place is =
      record {
        begun = asked_number.1;
        restore = λ r there. elim (put_was w.restores w.next_op (restore_of uuid place indices) o r (sym (ap (λ (x : World). fin.get x.restores o) (opened_is name place is)) ∙ there)) [
          | inl h ↦ subst (λ x. IsRestoreOf x uuid place indices) h.1 (record { uuid_is = refl; place_is = refl; shards = places_begun (places indices) })
          | inr h ↦ absurd (h.0 it.accepts.number)
        ];
      }

-- ---- and is what was asked

restore_left : (uuid : ℕ) (place : Bytes) (indices : List IndexRef) (r : Restoring) (g : RestoreShard → RestoreShard) → LeavesPlace g → IsRestoreOf r uuid place indices → IsRestoreOf (record r { shards = map g r.shards }) uuid place indices
restore_left uuid place indices r g p h = record { uuid_is = h.uuid_is; place_is = h.place_is; shards = places_mapped g p r.shards ∙ h.shards }

module _ (o uuid : ℕ) (place : Bytes) (indices : List IndexRef) where
  reads_on : (w new : World) → Makes w new → ReadsAs w o uuid place indices → ReadsAs new o uuid place indices
  reads_on w new (MakesNothing a b c) h =
      record {
        begun = let x : o < w.next_op = h.begun in omega (arith, x, c);
        restore = λ r e. h.restore r (sym (ap (λ (m : Restores). fin.get m o) a) ∙ e);
      }
  reads_on w new (MakesRestore u l refs a b c) h =
      record {
        begun = let x : o < w.next_op = h.begun in omega (arith, x, c);
        restore = λ r e. elim (put_was w.restores w.next_op (restore_of u l refs) o r (sym (ap (λ (m : Restores). fin.get m o) a) ∙ e)) [
          | inl is ↦ let x : o < w.next_op = h.begun in let at : o ≡ w.next_op = is.0 in absurd (omega (arith, x, at))
          | inr is ↦ h.restore r is.1
        ];
      }
  reads_on w new (MakesReader p x s there s_there unread a b c) h =
      let g : RestoreShard → RestoreShard = handed w.next_ticket s.ref.id s.number in
      record {
        begun = let x : o < w.next_op = h.begun in omega (arith, x, c);
        restore = λ r e. elim (was_in w.restores p (record x { shards = map g x.shards }) o r (sym (ap (λ (m : Restores). fin.get m o) a) ∙ e)) [
          | inl is ↦ subst (λ y. IsRestoreOf y uuid place indices) is.1 (restore_left uuid place indices x g (handed_place w.next_ticket s.ref.id s.number) (h.restore x (ap (fin.get w.restores) is.0 ∙ there)))
          | inr is ↦ h.restore r is.1
        ];
      }
  reads_on w new (MakesMore k q name bytes there a b c) h =
      record {
        begun = let x : o < w.next_op = h.begun in omega (arith, x, c);
        restore = λ r e. h.restore r (sym (ap (λ (m : Restores). fin.get m o) a) ∙ e);
      }
  reads_on w new (MakesEnd k q x state q_there there over a b c) h =
      let g : RestoreShard → RestoreShard = ended k state in
      record {
        begun = let x : o < w.next_op = h.begun in omega (arith, x, c);
        restore = λ r e. elim (put_was w.restores q.op (record x { shards = map g x.shards }) o r (sym (ap (λ (m : Restores). fin.get m o) a) ∙ e)) [
          | inl is ↦ subst (λ y. IsRestoreOf y uuid place indices) is.1 (restore_left uuid place indices x g (ended_place k state) (h.restore x (ap (fin.get w.restores) is.0 ∙ there)))
          | inr is ↦ h.restore r is.1
        ];
      }

  reads_legal : (laws : OrderLaws) (f : Formats) (size : ℕ) (log : List Moment) (w : World) → Tracked w → IsLegal f size w log → ReadsAs w o uuid place indices → ReadsAs (world_from f w log) o uuid place indices
  reads_legal laws f size [] w t legal h = h
  reads_legal laws f size (m ∷ log) w t legal h = reads_legal laws f size log (after f w m) (laws.step f size w m t legal.0) legal.1 (reads_on w (after f w m) (makes_step f size w m t legal.0) h)

  reader_is : (w : World) → ReadTracked w → ReadsAs w o uuid place indices → (k : ℕ) (q : Reader) → IsReading w k q → q.op ≡ o → IsReaderOf q uuid place indices
  reader_is w l h k q reading op =
      let t : ReaderTracked w.restores k q = l.tracked.readers k q reading.there reading.out in
      let i : IsRestoreOf t.r uuid place indices = h.restore t.r (ap (fin.get w.restores) (sym op) ∙ t.there) in
      record {
        uuid_is = t.uuid_is ∙ i.uuid_is;
        place_is = t.place_is ∙ i.place_is;
        shard = (t.s.ref, t.s.number);
        there = subst (λ xs. Has xs (t.s.ref, t.s.number)) i.shards (Has-map (λ (s : RestoreShard). (s.ref, s.number)) t.r.shards t.s t.s_there);
        index_is = t.index_is;
        name_is = t.name_is;
        number_is = t.number_is;
      }

pub readers_are : OrderLaws → AsksBegin → (f : Formats) (size : ℕ) (w : World) (before rest : List Moment) (m : Moment) (name place : Bytes) (o uuid : ℕ) (indices : List IndexRef) (k : ℕ) (q : Reader) → Tracked w → ReadTracked w
    → IsLegal f size w (before ++ m ∷ rest)
    → m.entry.step ≡ AskStep (Restore name place) → m.entry.reply ≡ AcceptedRestore o uuid indices → IsReading (world_from f w (before ++ m ∷ rest)) k q → q.op ≡ o → IsReaderOf q uuid place indices
readers_are laws begins f size w before rest m name place o uuid indices k q t l legal is e reading op =
    let v : World = world_from f w before in
    let parts = legal_parts f size before (m ∷ rest) w legal in
    let tv : Tracked v = laws.history f size w before t parts.0 in
    let lv : ReadTracked v = laws.read_history f size w before t l parts.0 in
    let begun : ReadsAs (after f v m) o uuid place indices = reads_begun begins f size v m o uuid indices parts.1.0 e name place is in
    let last : ReadsAs (world_from f v (m ∷ rest)) o uuid place indices = reads_legal o uuid place indices laws f size rest (after f v m) (laws.step f size v m tv parts.1.0) parts.1.1 begun in
    reader_is o uuid place indices (world_from f v (m ∷ rest)) (laws.read_history f size v (m ∷ rest) tv lv parts.1) last k q (subst (λ x. IsReading x k q) (world_parts f before (m ∷ rest) w) reading) op

-- ---- what was restored waits no more

record IsPast (w : World) (o index number : ℕ) : Type 0 where
  begun : o < w.next_op
  over : (r : Restoring) (s : RestoreShard) → fin.get w.restores o ≡ Some r → Has r.shards s → s.ref.id ≡ index → s.number ≡ number → waits s.state ≡ false

-- where it is unread or being read it waits
not_unread : (s : RestoreShard) → s.state ≡ Unread → waits s.state ≡ false → ⊥
not_unread s e over = true≢false (sym (ap waits e) ∙ over)

not_read : {k : ℕ} (s : RestoreShard) → s.state ≡ BeingRead k → waits s.state ≡ false → ⊥
not_read s e over = true≢false (sym (ap waits e) ∙ over)

module _ (o index number : ℕ) where
  abbrev AreOver : List RestoreShard → Type 0
  AreOver shards = (s : RestoreShard) → Has shards s → s.ref.id ≡ index → s.number ≡ number → waits s.state ≡ false

  handed_over : (k : ℕ) (x : RestoreShard) → x.state ≡ Unread → (shards : List RestoreShard) → Has shards x → AreOver shards → AreOver (map (handed k x.ref.id x.number) shards)
  handed_over k x unread shards m old s sm id num =
      let (z, zm, is) = Has-mapped (handed k x.ref.id x.number) shards s sm in
      elim (handed_is k x.ref.id x.number z) [
        | inl h ↦
            let one : s ≡ record z { state = BeingRead k } = sym is ∙ h.2 in
            absurd (not_unread x unread (old x m (sym h.0 ∙ ap (λ (y : RestoreShard). y.ref.id) (sym one) ∙ id) (sym h.1 ∙ ap (λ (y : RestoreShard). y.number) (sym one) ∙ num)))
        | inr h ↦ let one : s ≡ z = sym is ∙ h.1 in subst (λ (y : RestoreShard). waits y.state ≡ false) (sym one) (old z zm (ap (λ (y : RestoreShard). y.ref.id) (sym one) ∙ id) (ap (λ (y : RestoreShard). y.number) (sym one) ∙ num))
      ]

  ended_over : (k : ℕ) (state : ReadState) → waits state ≡ false → (shards : List RestoreShard) → AreOver shards → AreOver (map (ended k state) shards)
  ended_over k state is_over shards old s sm id num =
      let (z, zm, is) = Has-mapped (ended k state) shards s sm in
      elim (ended_is k state z) [
        | inl h ↦ let one : s ≡ record z { state = state } = sym is ∙ h.1 in ap (λ (y : RestoreShard). waits y.state) one ∙ is_over
        | inr h ↦ let one : s ≡ z = sym is ∙ h.1 in subst (λ (y : RestoreShard). waits y.state ≡ false) (sym one) (old z zm (ap (λ (y : RestoreShard). y.ref.id) (sym one) ∙ id) (ap (λ (y : RestoreShard). y.number) (sym one) ∙ num))
      ]

  past_on : (w new : World) → Makes w new → IsPast w o index number → IsPast new o index number
  past_on w new (MakesNothing a b c) h =
      record {
        begun = let x : o < w.next_op = h.begun in omega (arith, x, c);
        over = λ r s e. h.over r s (sym (ap (λ (m : Restores). fin.get m o) a) ∙ e);
      }
  past_on w new (MakesRestore u l refs a b c) h =
      record {
        begun = let x : o < w.next_op = h.begun in omega (arith, x, c);
        over = λ r s e. elim (put_was w.restores w.next_op (restore_of u l refs) o r (sym (ap (λ (m : Restores). fin.get m o) a) ∙ e)) [
          | inl is ↦ let x : o < w.next_op = h.begun in let at : o ≡ w.next_op = is.0 in absurd (omega (arith, x, at))
          | inr is ↦ h.over r s is.1
        ];
      }
  past_on w new (MakesReader p x z there z_there unread a b c) h =
      record {
        begun = let x : o < w.next_op = h.begun in omega (arith, x, c);
        over = λ r s e. elim (was_in w.restores p (record x { shards = map (handed w.next_ticket z.ref.id z.number) x.shards }) o r (sym (ap (λ (m : Restores). fin.get m o) a) ∙ e)) [
          | inl is ↦ λ m. handed_over w.next_ticket z unread x.shards z_there (λ y. h.over x y (ap (fin.get w.restores) is.0 ∙ there)) s (subst (λ (y : Restoring). Has y.shards s) (sym is.1) m)
          | inr is ↦ h.over r s is.1
        ];
      }
  past_on w new (MakesMore k q name bytes there a b c) h =
      record {
        begun = let x : o < w.next_op = h.begun in omega (arith, x, c);
        over = λ r s e. h.over r s (sym (ap (λ (m : Restores). fin.get m o) a) ∙ e);
      }
  past_on w new (MakesEnd k q x state q_there there over a b c) h =
      record {
        begun = let x : o < w.next_op = h.begun in omega (arith, x, c);
        over = λ r s e. elim (put_was w.restores q.op (record x { shards = map (ended k state) x.shards }) o r (sym (ap (λ (m : Restores). fin.get m o) a) ∙ e)) [
          | inl is ↦ λ m. ended_over k state over x.shards (λ y. h.over x y (ap (fin.get w.restores) is.0 ∙ there)) s (subst (λ (y : Restoring). Has y.shards s) (sym is.1) m)
          | inr is ↦ h.over r s is.1
        ];
      }

  past_legal : (laws : OrderLaws) (f : Formats) (size : ℕ) (log : List Moment) (w : World) → Tracked w → IsLegal f size w log → IsPast w o index number → IsPast (world_from f w log) o index number
  past_legal laws f size [] w t legal h = h
  past_legal laws f size (m ∷ log) w t legal h = past_legal laws f size log (after f w m) (laws.step f size w m t legal.0) legal.1 (past_on w (after f w m) (makes_step f size w m t legal.0) h)

  -- so no ticket is out for it
  none_reads : (w : World) → ReadTracked w → IsPast w o index number → (k : ℕ) (q : Reader) → IsReading w k q → o ≡ q.op → index ≡ q.index → number ≡ q.number → ⊥
  none_reads w l h k q reading op id num =
      let t : ReaderTracked w.restores k q = l.tracked.readers k q reading.there reading.out in
      not_read t.s t.state (h.over t.r t.s (ap (fin.get w.restores) op ∙ t.there) t.s_there (t.index_is ∙ sym id) (t.number_is ∙ sym num))

-- ---- a shard is restored

-- its ticket is out
reader_out : (f : Formats) (size : ℕ) (w : World) (m : Moment) (k files bytes : ℕ) (q : Reader) → Allowed f size w m → RestoresIn m k files bytes → fin.get w.readers k ≡ Some q → IsReading w k q
reader_out f size w m k files bytes q a is there =
    let (z, reading) = restores_out f size w m k files bytes a is in
    record { there = there; out = ap (λ (x : Reader). x.out) (same_Some q z (sym there ∙ reading.there)) ∙ reading.out }

-- the world after it
restored_is : (f : Formats) (w : World) (k files bytes : ℕ) (image : Option Image) (q : Reader) (r : Restoring) → 1 ≤ k → fin.get w.readers k ≡ Some q → fin.get w.restores q.op ≡ Some r
    → answered f w k (ReadStep (RestoredShard files bytes)) HasEnded image ≡ shard_ended w k q r (Restored files bytes)
restored_is f w zero files bytes image q r from there is = absurd (omega (arith, from))
restored_is f w (suc k) files bytes image q r from there is = ap (read_over w (suc k) (Restored files bytes)) there ∙ ap (shard_over w (suc k) (Restored files bytes) q) is

-- the one shard of this index and number is that which was being read
read_ended : (k : ℕ) (q : Reader) (restores : Restores) (t : ReaderTracked restores k q)
    → ((s z : RestoreShard) → fin.get restores q.op ≡ Some t.r → Has t.r.shards s → Has t.r.shards z → s.ref.id ≡ z.ref.id → s.number ≡ z.number → s ≡ z)
    → (state : ReadState) → waits state ≡ false → (s : RestoreShard) → Has (map (ended k state) t.r.shards) s → s.ref.id ≡ q.index → s.number ≡ q.number → waits s.state ≡ false
read_ended k q restores t distinct state over s m id num =
    let (z, zm, is) = Has-mapped (ended k state) t.r.shards s m in
    elim (ended_is k state z) [
      | inl h ↦ ap (λ (y : RestoreShard). waits y.state) (sym is ∙ h.1) ∙ over
      | inr h ↦
          let one : s ≡ z = sym is ∙ h.1 in
          let mine : z ≡ t.s = distinct z t.s t.there zm t.s_there (ap (λ (y : RestoreShard). y.ref.id) (sym one) ∙ id ∙ sym t.index_is) (ap (λ (y : RestoreShard). y.number) (sym one) ∙ num ∙ sym t.number_is) in
          absurd (h.0 (ap (λ (y : RestoreShard). y.state) mine ∙ t.state))
    ]

past_begun : (f : Formats) (size : ℕ) (w : World) (m : Moment) (k files bytes : ℕ) (q : Reader) → ReadTracked w → Allowed f size w m → RestoresIn m k files bytes → fin.get w.readers k ≡ Some q
    → IsPast (after f w m) q.op q.index q.number
past_begun f size w m k files bytes q l a is q_there =
    let reading : IsReading w k q = reader_out f size w m k files bytes q a is q_there in
    let t : ReaderTracked w.restores k q = l.tracked.readers k q q_there reading.out in
    let state : ReadState = Restored files bytes in
    let now : answered f w m.entry.who m.entry.step m.entry.reply m.image ≡ shard_ended w k q t.r state =
    ap (λ (x : Entry). answered f w x.who x.step x.reply m.image) is ∙ restored_is f w k files bytes m.image q t.r (l.tracked.tickets k q q_there).0 q_there t.there in
    record {
      begun = let next : (after f w m).next_op ≡ w.next_op = ap (λ (x : World). x.next_op) now in let b : q.op < w.next_op = l.tracked.numbers q.op t.r t.there in omega (arith, next, b);
      over = λ r s e. elim (put_was w.restores q.op (record t.r { shards = map (ended k state) t.r.shards }) q.op r (sym (ap (λ (x : World). fin.get x.restores q.op) now) ∙ e)) [
        | inl put ↦ λ m id num. read_ended k q w.restores t (l.tracked.distinct q.op t.r) state refl s (subst (λ (y : Restoring). Has y.shards s) (sym put.1) m) id num
        | inr away ↦ absurd (away.0 refl)
      ];
    }

pub once_restored : (laws : OrderLaws) (f : Formats) (size : ℕ) (w : World) (before between : List Moment) (a b : Moment) (j k files bytes more total : ℕ) (p q : Reader) → Tracked w → ReadTracked w
    → IsLegal f size w (before ++ a ∷ between ++ b ∷ [])
    → RestoresIn a j files bytes → RestoresIn b k more total → fin.get (world_from f w before).readers j ≡ Some p → fin.get (world_from f w (before ++ a ∷ between)).readers k ≡ Some q
    → p.op ≡ q.op → p.index ≡ q.index → p.number ≡ q.number → ⊥
once_restored laws f size w before between a b j k files bytes more total p q t l legal a_is b_is p_there q_there op id num =
    let v : World = world_from f w before in
    let log : List Moment = before ++ a ∷ between in
    let last : World = world_from f w log in
    let ends = legal_parts f size log (b ∷ []) w legal in
    let parts = legal_parts f size before (a ∷ between) w ends.0 in
    let tv : Tracked v = laws.history f size w before t parts.0 in
    let lv : ReadTracked v = laws.read_history f size w before t l parts.0 in
    let begun : IsPast (after f v a) p.op p.index p.number = past_begun f size v a j files bytes p lv parts.1.0 a_is p_there in
    let past : IsPast last p.op p.index p.number =
    subst (λ x. IsPast x p.op p.index p.number) (sym (world_parts f before (a ∷ between) w)) (past_legal p.op p.index p.number laws f size between (after f v a) (laws.step f size v a tv parts.1.0) parts.1.1 begun) in
    none_reads p.op p.index p.number last (laws.read_history f size w log t l ends.0) past k q (reader_out f size last b k more total q ends.1.0 b_is q_there) op id num

-- ---- the numbers of ops never fall

rises_on : (w new : World) → Makes w new → w.next_op ≤ new.next_op
rises_on w new (MakesNothing a b c) = c
rises_on w new (MakesRestore u l refs a b c) = omega (arith, c)
rises_on w new (MakesReader p x s there s_there unread a b c) = omega (arith, c)
rises_on w new (MakesMore k q name bytes there a b c) = omega (arith, c)
rises_on w new (MakesEnd k q x state q_there there over a b c) = omega (arith, c)

pub ops_rise : (laws : OrderLaws) (f : Formats) (size : ℕ) (w : World) (log : List Moment) → Tracked w → IsLegal f size w log → w.next_op ≤ (world_from f w log).next_op
ops_rise laws f size w [] t legal = omega arith
ops_rise laws f size w (m ∷ log) t legal =
    let here : w.next_op ≤ (after f w m).next_op = rises_on w (after f w m) (makes_step f size w m t legal.0) in
    let there : (after f w m).next_op ≤ (world_from f (after f w m) log).next_op = ops_rise laws f size (after f w m) log (laws.step f size w m t legal.0) legal.1 in
    omega (arith, here, there)

-- ---- what lines ask for leaves the tickets

module _ (f : Formats) (size : ℕ) (w : World) (t : Tracked w) where
  room_now : w.next_id ≤ first_id (suc w.term)
  room_now = let b : w.next_id < first_id (suc w.term) = t.in_term.below in omega (arith, b)

  restore_asked_leaves : (who : ℕ) (name place : Bytes) (reply : Reply) (image : Option Image) → Allows f size w who (AskStep (Restore name place)) reply image
      → (answered f w who (AskStep (Restore name place)) reply image).readers ≡ w.readers
  restore_asked_leaves who name place reply image (allowed.Ruled command refusal im (allowed.NotListed n at none) same) = refl
  restore_asked_leaves who name place reply image other = refl

  asked_leaves : (who : ℕ) (command : Asked) (reply : Reply) (image : Option Image) → Allows f size w who (AskStep command) reply image → (answered f w who (AskStep command) reply image).readers ≡ w.readers
  asked_leaves who command reply image a = by (is_recorded command) refl
    where
      by : (b : Bool) → is_recorded command ≡ b → (answered f w who (AskStep command) reply image).readers ≡ w.readers
      by true e = (goes_answered f w room_now who (AskStep command) reply image (subst T (sym e) tt)).readers
      by false e =
          let (name, place, is) = unrecorded command e in
          subst (λ (c : Asked). (answered f w who (AskStep c) reply image).readers ≡ w.readers) (sym is)
          (restore_asked_leaves who name place reply image (subst (λ (c : Asked). Allows f size w who (AskStep c) reply image) is a))

pub ask_leaves : (f : Formats) (size : ℕ) (w : World) (m : Moment) (command : Asked) → Tracked w → Allowed f size w m → m.entry.step ≡ AskStep command → (after f w m).readers ≡ w.readers
ask_leaves f size w m command t a e = elim a.answered [
  | inl alive ↦
      ap (λ x. (answered f w m.entry.who x m.entry.reply m.image).readers) e
      ∙ asked_leaves f size w t m.entry.who command m.entry.reply m.image (subst (λ x. Allows f size w m.entry.who x m.entry.reply m.image) e alive.1)
  | inr dead ↦ ap (λ (x : World). x.readers) (blocked_stays f w m dead)
]

pub look_leaves : (f : Formats) (size : ℕ) (w : World) (m : Moment) → Tracked w → Allowed f size w m → m.entry.step ≡ LookStep → (after f w m).readers ≡ w.readers
look_leaves f size w m t a e = ap (λ x. (answered f w m.entry.who x m.entry.reply m.image).readers) e ∙ (goes_answered f w (room_now f size w t) m.entry.who LookStep m.entry.reply m.image tt).readers

-- ---- a step of who 0 that reads

module _ (f : Formats) (w : World) where
  test_readers : (name : BlobName) (was now : Option Bytes) → (test_left w name was now).readers ≡ w.readers
  test_readers name None (Some bytes) = refl
  test_readers name was now = refl

  fault_readers : (read : Read) (image : Option Image) → (faulted f w 0 (ReadStep read) image).readers ≡ w.readers
  fault_readers (CommitTest name) image = test_readers name (fin.get w.blobs (f.names.text name)) (told_blob f image name)
  fault_readers read image = refl

  done_readers : (read : Read) (reply : Reply) (image : Option Image) → (read_by f w 0 read reply image).readers ≡ w.readers
  done_readers DrawTest (DrawnFrom first) image = refl
  done_readers (CommitTest name) WasDone image = refl
  done_readers read reply image = refl

  zero_readers : (read : Read) (reply : Reply) (image : Option Image) → (answered f w 0 (ReadStep read) reply image).readers ≡ w.readers
  zero_readers read (Refused DepotFault) image = fault_readers read image
  zero_readers read (Refused refusal) image = refl
  zero_readers read reply image = done_readers read reply image

pub read_leaves : (f : Formats) (w : World) (m : Moment) (read : Read) → m.entry.who ≡ 0 → m.entry.step ≡ ReadStep read → (after f w m).readers ≡ w.readers
read_leaves f w m read of is = (λ j. (answered f w (of j) (is j) m.entry.reply m.image).readers) ∙ zero_readers f w read m.entry.reply m.image
