-- Who 0 fetches each blob once since it began anew, and what it found was there: so its checks fetch no more than there were blobs, as
-- often as it began anew, and those that found nothing.
use Rattle.std.proofs.Common.{◌≡◌, ◌≢◌, ◌⊎◌, ℕ, zero, suc, ◌+◌, ◌*◌, ◌≤◌, List, [], ◌∷◌, ◌++◌, append-nil, append_assoc, length, map, Bool, true, false, Option, Some, None, refl, sym, ap, ◌∙◌, subst, inl, inr, ⊎_elim, arith}
use Rattle.std.specs.Prelude.{if◌then◌else◌}
use Rattle.std.proofs.lemmas.Bool.Decides.{eqb_tells}
use Rattle.std.proofs.lemmas.Option.{same_Some}
use Rattle.std.proofs.lemmas.List.{length-append, length-map}
use Rattle.std.proofs.Math.Nat.{add-mul}
use Rattle.std.specs.FinMap as fin
use Rattle.esr_model.specs.Lists.{Has-left, Has-mapped}
use Rattle.esr_model.specs.Names.{BlobName, TestMaster, TestNode}
use Rattle.esr_model.specs.Values.{Bytes, Has, Formats}
use Rattle.esr_model.specs.Image.{Blobs, Image, IsStored}
use Rattle.esr_core.specs.World.{World, Reader, Caller, no_caller}
use Rattle.esr_core.specs.Restores.{AreOnce, IsReading}
use Rattle.esr_core.specs.Past.{begins_anew}
use Rattle.esr_core.specs.Tracked.{Tracked}
use Rattle.esr_core.specs.ReadTracked.{ReadTracked}
use Rattle.esr_core.specs.Changes.{StepChange, BlobsChange}
use Rattle.esr_core.specs.Entry.{Read, ReadBlob, CheckedAll, DrawTest, BeginTest, CommitTest, RemoveTests, VerifiedAll, ReadFails, Step, AskStep, LookStep, ReadStep, Reply, WasFetched, Moment}
use Rattle.esr_core.specs.After.{told_blob, is_heard, caller_told, caller_wrote, caller_read, caller_after, answered, after}
use Rattle.esr_core.specs.Allowed as allowed
use Rattle.esr_core.specs.Allowed.{ReadAllows, VerifyAllows, Allows, Allowed}
use Rattle.esr_core.specs.History.{IsLegal, AreTold}
use Rattle.esr_core.specs.Laws.StepFrames.{change_caller}
use Rattle.esr_bounds.specs.Keys.{IsUnheard, AreHeard, IsHeard}
use Rattle.esr_bounds.specs.Clients.{anew_by, anew_in, fetches_at, fetches_by, fetches_in}
use Rattle.esr_bounds.specs.Others.{lost_at, lost_by, most_blobs}
use Rattle.esr_bounds.specs.Laws.{StepLaws}
use Rattle.esr_bounds.proofs.Few.{few_once}
use Rattle.esr_bounds.proofs.Once.{looked_at}
use Rattle.esr_bounds.proofs.Prunes.{Tells, told_is}
use Rattle.esr_bounds.proofs.Verifying.{ask_heard}
use Rattle.esr_bounds.proofs.Listed.{texts, in_texts, written, all_written, length_seen, SeenBlobs, blobs_now}

-- who 0 finds a blob
abbrev found_by : ℕ → Step → Reply → ℕ
found_by zero (ReadStep (ReadBlob name)) WasFetched = 1
found_by who step reply = 0

abbrev found_in : List Moment → ℕ
found_in [] = 0
found_in (m ∷ log) = found_by m.entry.who m.entry.step m.entry.reply + found_in log

-- ---- one step of who 0

-- what it has found was there
abbrev WasThere : Formats → List Bytes → BlobName → Type 0
WasThere f seen name = IsStored f name × Has seen (f.names.text name)

module _ (f : Formats) (size : ℕ) (w : World) (reads : ReadTracked w) (seen : List Bytes) (blobs : SeenBlobs seen w) (most : ℕ) (few : length w.caller.found ≤ most) where
  record NextFound (step : Step) (reply : Reply) (d : Caller) : Type 0 where
    found : (name : BlobName) → Has d.found name → Has w.caller.found name ⊎ WasThere f seen name
    spends : found_by 0 step reply + length w.caller.found ≤ anew_by 0 step * most + length d.found

  same_found : (step : Step) (reply : Reply) (d : Caller) → found_by 0 step reply ≡ 0 → d.found ≡ w.caller.found → NextFound step reply d
  same_found step reply d none same = record {
    found = λ name had. inl (subst (λ (l : List BlobName). Has l name) same had);
    spends = le (found_by 0 step reply) (length w.caller.found) (anew_by 0 step * most) (length d.found) none (ap length same);
  }
    where
      le : (a n x d : ℕ) → a ≡ 0 → d ≡ n → a + n ≤ x + d
      le a n x d p q = let one : a ≡ 0 = p in let two : d ≡ n = q in omega (arith, one, two)

  anew_found : (step : Step) (reply : Reply) (d : Caller) → found_by 0 step reply ≡ 0 → begins_anew 0 step ≡ true → d.found ≡ [] → NextFound step reply d
  anew_found step reply d none begins empty = record {
    found = λ name had. absurd (subst (λ (l : List BlobName). Has l name) empty had);
    spends = subst (λ (b : Bool). found_by 0 step reply + length w.caller.found ≤ (if b then 1 else 0) * most + length d.found) (sym begins) (le (found_by 0 step reply) (length w.caller.found) (length d.found) none few);
  }
    where
      le : (a n d : ℕ) → a ≡ 0 → n ≤ most → a + n ≤ 1 * most + d
      le a n d p q = let one : a ≡ 0 = p in let two : n ≤ most = q in omega (arith, one, two)

  told_list : (c : Caller) (name : BlobName) (b : Option Bytes) → (caller_told c name b).found ≡ name ∷ c.found
  told_list c name None = refl
  told_list c name (Some bytes) = refl

  wrote_list : (c : Caller) (name : BlobName) (b : Option Bytes) → (caller_wrote c name b).found ≡ c.found
  wrote_list c name None = refl
  wrote_list c name (Some bytes) = refl

  one_found : (name : BlobName) (d : Caller) → d.found ≡ name ∷ w.caller.found → WasThere f seen name → NextFound (ReadStep (ReadBlob name)) WasFetched d
  one_found name d more there = record {
    found = λ n had. by n (subst (λ (l : List BlobName). Has l n) more had);
    spends = le (length w.caller.found) (length d.found) (ap length more);
  }
    where
      by : (n : BlobName) → Has (name ∷ w.caller.found) n → Has w.caller.found n ⊎ WasThere f seen n
      by n (inl here) = inr (subst (WasThere f seen) here there)
      by n (inr old) = inl old

      le : (n d : ℕ) → d ≡ suc n → 1 + n ≤ 0 * most + d
      le n d p = let is : d ≡ suc n = p in omega (arith, is)

  by_verify : (read : Read) (reply : Reply) (image : Option Image) → VerifyAllows f w read reply image → NextFound (ReadStep read) reply (caller_read f w.caller read reply image)
  by_verify read reply image (allowed.BeginningTest name im own same) = same_found (ReadStep (BeginTest name)) reply w.caller refl refl
  by_verify read reply image (allowed.BeginTestFails name im own same) = same_found (ReadStep (BeginTest name)) reply w.caller refl refl
  by_verify read reply image (allowed.CommittingTest name bytes im own free adds) = same_found (ReadStep (CommitTest name)) reply (caller_wrote w.caller name (told_blob f im name)) refl (wrote_list w.caller name (told_blob f im name))
  by_verify read reply image (allowed.TestTaken name im own there) = same_found (ReadStep (CommitTest name)) reply w.caller refl refl
  by_verify read reply image (allowed.CommitTestFails name bytes im own leaves) = same_found (ReadStep (CommitTest name)) reply w.caller refl refl
  by_verify read reply image (allowed.RemovingTests names im may left) = same_found (ReadStep (RemoveTests names)) reply (caller_read f w.caller read reply image) refl refl
  by_verify read reply image (allowed.RemoveTestsFails names im may left) = same_found (ReadStep (RemoveTests names)) reply w.caller refl refl
  by_verify read reply image (allowed.VerifyingAll im v same) = anew_found (ReadStep VerifiedAll) reply no_caller refl refl refl
  by_verify read reply image (allowed.VerifyFailing why im v same) = anew_found (ReadStep (ReadFails why)) reply no_caller refl refl refl
  by_verify read reply image other = same_found (ReadStep DrawTest) reply (caller_read f w.caller read reply image) refl refl

  none_reads : (k : ℕ) (q : Reader) → k ≡ 0 → IsReading w k q → ⊥
  none_reads k q nobody reading = let some : 1 ≤ k = (reads.tracked.tickets k q reading.there).0 in let none : k ≡ 0 = nobody in omega (arith, some, none)

  by_read : (k : ℕ) (read : Read) (reply : Reply) (image : Option Image) → k ≡ 0 → Tells image → ReadAllows f w k read reply image → NextFound (ReadStep read) reply (caller_read f w.caller read reply image)
  by_read k read reply image nobody told (allowed.ReadFound j name im stored by there) =
      let was = told_is image told.0 (λ (now : Blobs). (bytes : Bytes) × (fin.get w.blobs (f.names.text name) ≡ Some bytes)) told.1 there in
      one_found name (caller_told w.caller name (told_blob f im name)) (told_list w.caller name (told_blob f im name)) (stored, blobs (f.names.text name) was.0 was.1)
  by_read k read reply image nobody told (allowed.ReadMissing j name im stored by gone) = same_found (ReadStep (ReadBlob name)) reply (caller_read f w.caller read reply image) refl refl
  by_read k read reply image nobody told (allowed.ReadFault j name im stored by) = same_found (ReadStep (ReadBlob name)) reply w.caller refl refl
  by_read k read reply image nobody told (allowed.RestoringShard j files bytes im q reading done) = absurd (none_reads k q nobody reading)
  by_read k read reply image nobody told (allowed.ReaderFailing j why im q reading) = absurd (none_reads k q nobody reading)
  by_read k read reply image nobody told (allowed.CheckingAll snapshots count im c) = anew_found (ReadStep (CheckedAll snapshots count)) reply no_caller refl refl refl
  by_read k read reply image nobody told (allowed.CheckFailing why im o) = anew_found (ReadStep (ReadFails why)) reply no_caller refl refl refl

  read_next : (who : ℕ) (read : Read) (reply : Reply) (image : Option Image) → who ≡ 0 → Tells image → Allows f size w who (ReadStep read) reply image → NextFound (ReadStep read) reply (caller_read f w.caller read reply image)
  read_next who read reply image nobody told (allowed.Verifying r rep im a) = by_verify read reply image a
  read_next who read reply image nobody told (allowed.Reading k r rep im a same) = by_read who read reply image nobody told a

  empty_asked : (b : Bool) → b ≡ true → (if b then no_caller else w.caller).found ≡ []
  empty_asked true is = refl
  empty_asked false is = absurd cc

  empty_looked : (b : Bool) → b ≡ true → (if b then record no_caller { looked = true } else w.caller).found ≡ []
  empty_looked true is = refl
  empty_looked false is = absurd cc

  look_heard : (who : ℕ) (reply : Reply) (image : Option Image) → Allows f size w who LookStep reply image → is_heard reply ≡ true
  look_heard who reply image (allowed.Looking im same) = refl

  step_next : (step : Step) (reply : Reply) (image : Option Image) → Tells image → Allows f size w 0 step reply image → NextFound step reply (caller_after f w.caller 0 step reply image)
  step_next (AskStep command) reply image told a = anew_found (AskStep command) reply (caller_after f w.caller 0 (AskStep command) reply image) refl refl (empty_asked (is_heard reply) (ask_heard f size w 0 command reply image a))
  step_next LookStep reply image told a = anew_found LookStep reply (caller_after f w.caller 0 LookStep reply image) refl refl (empty_looked (is_heard reply) (look_heard 0 reply image a))
  step_next (ReadStep read) reply image told a = read_next 0 read reply image refl told a
  step_next step reply image told a = same_found step reply w.caller refl refl

-- ---- what holds of a world

record ChecksIn (f : Formats) (seen : List Bytes) (w : World) : Type 0 where
  blobs : SeenBlobs seen w
  found : (name : BlobName) → Has w.caller.found name → WasThere f seen name

pub one_name : (f : Formats) (a b : BlobName) → IsStored f a → IsStored f b → f.names.text a ≡ f.names.text b → a ≡ b
one_name f a b p q same = same_Some a b (sym p.0 ∙ ap f.names.read same ∙ q.0)

texts_once : (f : Formats) (seen : List Bytes) (names : List BlobName) → AreOnce names → ((name : BlobName) → Has names name → WasThere f seen name) → AreOnce (map f.names.text names)
texts_once f seen [] once all = tt
texts_once f seen (name ∷ names) once all = (
  (λ had.
      let r = Has-mapped f.names.text names (f.names.text name) had in
      once.0 (subst (Has names) (one_name f r.0 name (all r.0 (inr r.1)).0 (all name (inl refl)).0 r.2) r.1)),
  texts_once f seen names once.1 (λ n had. all n (inr had)),
)

few_found : (f : Formats) (seen : List Bytes) (w : World) → ReadTracked w → ChecksIn f seen w → length w.caller.found ≤ length seen
few_found f seen w reads h =
    subst (λ (n : ℕ). n ≤ length seen) (length-map w.caller.found f.names.text)
    (few_once (map f.names.text w.caller.found) seen (texts_once f seen w.caller.found reads.once.found h.found) (λ x had. let r = Has-mapped f.names.text w.caller.found x had in subst (Has seen) r.2 (h.found r.0 r.1).1))

module _ (f : Formats) (size : ℕ) (laws : StepLaws f size) (change : (w : World) (who : ℕ) (step : Step) (reply : Reply) (image : Option Image) → StepChange f w who step (answered f w who step reply image))
    (others : (w : World) (m : Moment) → Allowed f size w m → m.entry.who ≢ 0 → (after f w m).caller ≡ w.caller)
    (blobs_change : (w : World) (m : Moment) (i : Image) → m.image ≡ Some i → Allowed f size w m → BlobsChange f w m.entry.step i.blobs) where
  record AfterFound (w : World) (m : Moment) (seen : List Bytes) (most : ℕ) : Type 0 where
    now : ChecksIn f (seen ++ written f m.entry.step) (after f w m)
    spends : found_by m.entry.who m.entry.step m.entry.reply + length w.caller.found ≤ anew_by m.entry.who m.entry.step * most + length (after f w m).caller.found

  one_after : (w : World) (m : Moment) → ReadTracked w → Allowed f size w m → (IsUnheard m.entry.reply → ⊥) → Tells m.image → (seen : List Bytes) (most : ℕ) → length w.caller.found ≤ most → ChecksIn f seen w
      → AfterFound w m seen most
  one_after w m reads a heard told seen most few h = elim (eqb_tells m.entry.who 0) [ inl nobody ↦ own nobody.1 | inr other ↦ kept other.1 ]
    where
      now_seen : List Bytes
      now_seen = seen ++ written f m.entry.step

      more : (name : BlobName) → WasThere f seen name → WasThere f (seen ++ written f m.entry.step) name
      more name there = (there.0, Has-left seen (written f m.entry.step) (f.names.text name) there.1)

      now_blobs : SeenBlobs (seen ++ written f m.entry.step) (after f w m)
      now_blobs = blobs_now f size blobs_change w m a told seen h.blobs

      none_found : (who : ℕ) (step : Step) (reply : Reply) → (who ≡ 0 → ⊥) → found_by who step reply ≡ 0
      none_found zero step reply some = absurd (some refl)
      none_found (suc k) step reply some = refl

      kept : (m.entry.who ≡ 0 → ⊥) → AfterFound w m seen most
      kept other =
          let same : (after f w m).caller ≡ w.caller = others w m a other in
          record {
            now = record { blobs = now_blobs; found = λ name had. more name (h.found name (subst (λ (c : Caller). Has c.found name) same had)) };
            spends = le (found_by m.entry.who m.entry.step m.entry.reply) (length w.caller.found) (anew_by m.entry.who m.entry.step * most)
                (length (after f w m).caller.found) (none_found m.entry.who m.entry.step m.entry.reply other) (ap (λ (c : Caller). length c.found) same);
          }
        where
          le : (a n x d : ℕ) → a ≡ 0 → d ≡ n → a + n ≤ x + d
          le a n x d p q = let one : a ≡ 0 = p in let two : d ≡ n = q in omega (arith, one, two)

      own : m.entry.who ≡ 0 → AfterFound w m seen most
      own nobody =
          let next = step_next f size w reads seen h.blobs most few m.entry.step m.entry.reply m.image told (subst (λ (who : ℕ). Allows f size w who m.entry.step m.entry.reply m.image) nobody (looked_at f size laws w m a heard).1) in
          let caller_is : (after f w m).caller ≡ caller_after f w.caller 0 m.entry.step m.entry.reply m.image =
          ap (λ (c : Caller). caller_after f c m.entry.who m.entry.step m.entry.reply m.image)
          (change_caller f w m.entry.who m.entry.step (answered f w m.entry.who m.entry.step m.entry.reply m.image) (change w m.entry.who m.entry.step m.entry.reply m.image))
          ∙ ap (λ (who : ℕ). caller_after f w.caller who m.entry.step m.entry.reply m.image) nobody in
          record {
            now = record {
              blobs = now_blobs;
              found = λ name had. ⊎_elim (λ (old : Has w.caller.found name). more name (h.found name old)) (λ (there : WasThere f seen name). more name there) (next.found name (subst (λ (c : Caller). Has c.found name) caller_is had));
            };
            spends =
                subst (λ (who : ℕ). found_by who m.entry.step m.entry.reply + length w.caller.found ≤ anew_by who m.entry.step * most + length (after f w m).caller.found) (sym nobody)
                (subst (λ (c : Caller). found_by 0 m.entry.step m.entry.reply + length w.caller.found ≤ anew_by 0 m.entry.step * most + length c.found) (sym caller_is) next.spends);
          }

  found_few : (w : World) (log : List Moment) (seen : List Bytes) (most : ℕ) → Tracked w → ReadTracked w → IsLegal f size w log → AreHeard log → AreTold log → length (seen ++ all_written f log) ≤ most → ChecksIn f seen w
      → found_in log + length w.caller.found ≤ anew_in log * most + most
  found_few w [] seen most tracked reads legal heard told fits h = last (length w.caller.found) (length seen) (few_found f seen w reads h) (subst (λ (l : List Bytes). length l ≤ most) (append-nil seen) fits)
    where
      last : (a b : ℕ) → a ≤ b → b ≤ most → 0 + a ≤ 0 * most + most
      last a b p q = let one : a ≤ b = p in let two : b ≤ most = q in omega (arith, one, two)
  found_few w (m ∷ log) seen most tracked reads legal heard told fits h =
      let few : length w.caller.found ≤ most = within (length w.caller.found) (length seen) (length (written f m.entry.step ++ all_written f log))
      (length (seen ++ (written f m.entry.step ++ all_written f log))) (few_found f seen w reads h) (length-append seen (written f m.entry.step ++ all_written f log)) fits in
      let first = one_after w m reads legal.0 (heard m (inl refl)) told.0 seen most few h in
      let rest = found_few (after f w m) log (seen ++ written f m.entry.step) most (laws.tracks w m tracked legal.0) (laws.reads w m tracked reads legal.0) legal.1 (λ n had. heard n (inr had)) told.1
      (subst (λ (l : List Bytes). length l ≤ most) (sym (append_assoc seen (written f m.entry.step) (all_written f log))) fits) first.now in
      subst (λ (n : ℕ). (found_by m.entry.who m.entry.step m.entry.reply + found_in log) + length w.caller.found ≤ n + most) (sym (add-mul (anew_by m.entry.who m.entry.step) (anew_in log) most))
      (both (found_by m.entry.who m.entry.step m.entry.reply) (found_in log) (anew_by m.entry.who m.entry.step * most) (anew_in log * most) (length w.caller.found) (length (after f w m).caller.found) first.spends rest)
    where
      within : (a b c d : ℕ) → a ≤ b → d ≡ b + c → d ≤ most → a ≤ most
      within a b c d p q r = let one : a ≤ b = p in let two : d ≡ b + c = q in let three : d ≤ most = r in omega (arith, one, two, three)

      both : (a b x y n v : ℕ) → a + n ≤ x + v → b + v ≤ y + most → (a + b) + n ≤ (x + y) + most
      both a b x y n v p q = let one : a + n ≤ x + v = p in let two : b + v ≤ y + most = q in omega (arith, one, two)

-- ---- all together

-- the reply of a fetch tells whether it found the blob
one_fetch : (name : BlobName) (reply : Reply) → fetches_at name ≤ found_by 0 (ReadStep (ReadBlob name)) reply + lost_at (ReadStep (ReadBlob name)) reply
one_fetch name WasFetched = few name
  where
    few : (n : BlobName) → fetches_at n ≤ 1 + 0
    few (TestMaster v) = let is : 0 ≤ 1 + 0 = omega arith in is
    few (TestNode v n) = let is : 0 ≤ 1 + 0 = omega arith in is
    few n = let is : 1 ≤ 1 + 0 = omega arith in is
one_fetch name reply = few name
  where
    few : (n : BlobName) → fetches_at n ≤ 0 + 1
    few (TestMaster v) = let is : 0 ≤ 0 + 1 = omega arith in is
    few (TestNode v n) = let is : 0 ≤ 0 + 1 = omega arith in is
    few n = let is : 1 ≤ 0 + 1 = omega arith in is

client_fetch : (step : Step) (reply : Reply) → fetches_by 0 step ≤ found_by 0 step reply + lost_at step reply
client_fetch (ReadStep (ReadBlob name)) reply = one_fetch name reply
client_fetch (ReadStep read) reply = none (found_by 0 (ReadStep read) reply + lost_at (ReadStep read) reply)
  where
    none : (n : ℕ) → 0 ≤ n
    none n = omega arith
client_fetch step reply = none (found_by 0 step reply + lost_at step reply)
  where
    none : (n : ℕ) → 0 ≤ n
    none n = omega arith

none_fetched : (who : ℕ) (step : Step) → (who ≡ 0 → ⊥) → fetches_by who step ≡ 0
none_fetched zero step some = absurd (some refl)
none_fetched (suc k) step some = refl

fetched_few : (log : List Moment) → fetches_in log ≤ found_in log + lost_by log 0
fetched_few [] = let is : 0 ≤ 0 + 0 = omega arith in is
fetched_few (m ∷ log) = elim (eqb_tells m.entry.who 0) [
  | inl nobody ↦
      subst (λ (b : Bool). fetches_by m.entry.who m.entry.step + fetches_in log ≤ (found_by m.entry.who m.entry.step m.entry.reply + found_in log) + (if b then lost_at m.entry.step m.entry.reply + lost_by log 0 else lost_by log 0)) (sym nobody.0)
      (subst (λ (who : ℕ). fetches_by who m.entry.step + fetches_in log ≤ (found_by who m.entry.step m.entry.reply + found_in log) + (lost_at m.entry.step m.entry.reply + lost_by log 0)) (sym nobody.1)
      (both (fetches_by 0 m.entry.step) (fetches_in log) (found_by 0 m.entry.step m.entry.reply) (found_in log) (lost_at m.entry.step m.entry.reply) (lost_by log 0) (client_fetch m.entry.step m.entry.reply) (fetched_few log)))
  | inr other ↦
      subst (λ (b : Bool). fetches_by m.entry.who m.entry.step + fetches_in log ≤ (found_by m.entry.who m.entry.step m.entry.reply + found_in log) + (if b then lost_at m.entry.step m.entry.reply + lost_by log 0 else lost_by log 0)) (sym other.0)
      (more (fetches_by m.entry.who m.entry.step) (fetches_in log) (found_by m.entry.who m.entry.step m.entry.reply) (found_in log) (lost_by log 0) (none_fetched m.entry.who m.entry.step other.1) (fetched_few log))
]
  where
    both : (a b c d e l : ℕ) → a ≤ c + e → b ≤ d + l → a + b ≤ (c + d) + (e + l)
    both a b c d e l p q = let one : a ≤ c + e = p in let two : b ≤ d + l = q in omega (arith, one, two)

    more : (a b c d l : ℕ) → a ≡ 0 → b ≤ d + l → a + b ≤ (c + d) + l
    more a b c d l p q = let one : a ≡ 0 = p in let two : b ≤ d + l = q in omega (arith, one, two)

pub checks_few : (f : Formats) (size : ℕ) (laws : StepLaws f size) (change : (w : World) (who : ℕ) (step : Step) (reply : Reply) (image : Option Image) → StepChange f w who step (answered f w who step reply image))
    (others : (w : World) (m : Moment) → Allowed f size w m → m.entry.who ≢ 0 → (after f w m).caller ≡ w.caller)
    → (blobs_change : (w : World) (m : Moment) (i : Image) → m.image ≡ Some i → Allowed f size w m → BlobsChange f w m.entry.step i.blobs) → (w : World) (log : List Moment) → IsHeard f size w log → AreTold log
    → fetches_in log ≤ anew_in log * most_blobs w log + (most_blobs w log + lost_by log 0)
checks_few f size laws change others blobs_change w log h told =
    sum (fetches_in log) (found_in log) (lost_by log 0) (length w.caller.found) (anew_in log * most_blobs w log) (most_blobs w log) (fetched_few log)
    (found_few f size laws change others blobs_change w log (texts w.blobs) (most_blobs w log) h.tracked h.readers h.legal h.heard told (same (length (texts w.blobs ++ all_written f log)) (most_blobs w log) (length_seen f w log)) start)
  where
    same : (a b : ℕ) → a ≡ b → a ≤ b
    same a b e = let is : a ≡ b = e in omega (arith, is)

    start : ChecksIn f (texts w.blobs) w
    start = record { blobs = λ text bytes is. in_texts w.blobs text bytes is; found = λ name had. absurd (subst (λ (c : Caller). Has c.found name) h.untouched.caller had) }

    sum : (f d l n x m : ℕ) → f ≤ d + l → d + n ≤ x + m → f ≤ x + (m + l)
    sum f d l n x m p q = let one : f ≤ d + l = p in let two : d + n ≤ x + m = q in omega (arith, one, two)
