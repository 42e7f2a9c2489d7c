-- The ticket of a restore fetches each blob once, and what it found was there: so it has made no more steps than there were blobs, and
-- those that found nothing.
use Rattle.std.proofs.Common.{◌≡◌, ◌⊎◌, ℕ, suc, ◌+◌, ◌≤◌, List, [], ◌∷◌, ◌++◌, append-nil, append_assoc, length, Option, Some, refl, sym, ap, ◌∙◌, subst, inl, inr, ⊎_elim, arith}
use Rattle.std.specs.Prelude.{if◌then◌else◌}
use Rattle.std.proofs.lemmas.Bool.Decides.{eqb_tells}
use Rattle.std.proofs.lemmas.List.{length-append}
use Rattle.std.specs.FinMap as fin
use Rattle.esr_model.specs.Lists.{Has-left, Has-either, Has-mapped}
use Rattle.esr_model.specs.Names.{BlobName, ShardSnap}
use Rattle.esr_model.specs.Values.{Bytes, Has, Formats}
use Rattle.esr_model.specs.Image.{Blobs, Image, IsStored}
use Rattle.esr_core.specs.World.{World, Reader}
use Rattle.esr_core.specs.Restores.{AreOnce}
use Rattle.esr_core.specs.Past.{with_entry, entries_by}
use Rattle.esr_core.specs.Changes.{BlobsChange}
use Rattle.esr_core.specs.Entry.{Read, ReadBlob, Step, ReadStep, Reply, WasFetched, Entry, Moment}
use Rattle.esr_core.specs.After.{after}
use Rattle.esr_core.specs.Allowed as allowed
use Rattle.esr_core.specs.Allowed.{ReadAllows, VerifyAllows, Allows, Allowed}
use Rattle.esr_core.specs.History.{world_from, IsLegal, AreTold}
use Rattle.esr_bounds.specs.Keys.{Key, EndKey, ReadKey, key, keys, made_by, IsUnheard, AreHeard, IsHeard}
use Rattle.esr_bounds.specs.Others.{pieces_read, lost_at, lost_by, most_blobs}
use Rattle.esr_bounds.specs.Laws.{StepLaws}
use Rattle.esr_bounds.proofs.Few.{few_once}
use Rattle.esr_bounds.proofs.Once.{Made, made, counted, never_anew, looked_at, heard_kept}
use Rattle.esr_bounds.proofs.Bounded.{made_length}
use Rattle.esr_bounds.proofs.Prunes.{Tells, told_is}
use Rattle.esr_bounds.proofs.Pieces.{reader_keys, few_last}
use Rattle.esr_bounds.proofs.Listed.{texts, in_texts, written, all_written, length_seen, SeenBlobs, blobs_now}
use Rattle.esr_bounds.proofs.Checks.{one_name}

-- ---- what a step has found

abbrev FoundAt : Formats → List Bytes → Step → Reply → Type 0
FoundAt f seen (ReadStep (ReadBlob name)) WasFetched = IsStored f name × Has seen (f.names.text name)
FoundAt f seen step reply = Unit {0}

found_on : (f : Formats) (a b : List Bytes) → ((text : Bytes) → Has a text → Has b text) → (step : Step) (reply : Reply) → FoundAt f a step reply → FoundAt f b step reply
found_on f a b more (ReadStep (ReadBlob name)) WasFetched h = (h.0, more (f.names.text name) h.1)
found_on f a b more step reply h = tt

module _ (f : Formats) (size : ℕ) (w : World) (seen : List Bytes) (blobs : SeenBlobs seen w) where
  verify_found : (read : Read) (reply : Reply) (image : Option Image) → VerifyAllows f w read reply image → FoundAt f seen (ReadStep read) reply
  verify_found read reply image (allowed.DrawingTest im may fits same) = tt
  verify_found read reply image other = tt

  read_found : (k : ℕ) (read : Read) (reply : Reply) (image : Option Image) → Tells image → ReadAllows f w k read reply image → FoundAt f seen (ReadStep read) reply
  read_found k read reply image told (allowed.ReadFound j name im stored by found) =
      let there = told_is image told.0 (λ (now : Blobs). (bytes : Bytes) × (fin.get w.blobs (f.names.text name) ≡ Some bytes)) told.1 found in
      (stored, blobs (f.names.text name) there.0 there.1)
  read_found k read reply image told other = tt

  step_found : (k : ℕ) (step : Step) (reply : Reply) (image : Option Image) → Tells image → Allows f size w k step reply image → FoundAt f seen step reply
  step_found k (ReadStep read) reply image told (allowed.Verifying r rep im h) = verify_found read reply image h
  step_found k (ReadStep read) reply image told (allowed.Reading j r rep im h same) = read_found k read reply image told h
  step_found k step reply image told a = tt

-- ---- what holds of a world

record FoundIn (f : Formats) (seen : List Bytes) (w : World) : Type 0 where
  blobs : SeenBlobs seen w
  found : (k : ℕ) (e : Entry) → 1 ≤ k → Has (entries_by w.entries k) e → FoundAt f seen e.step e.reply

module _ (f : Formats) (size : ℕ) (laws : StepLaws f size) (change : (w : World) (m : Moment) (i : Image) → m.image ≡ Some i → Allowed f size w m → BlobsChange f w m.entry.step i.blobs) where
  found_now : (w : World) (m : Moment) → Allowed f size w m → (IsUnheard m.entry.reply → ⊥) → Tells m.image → (seen : List Bytes) → FoundIn f seen w → FoundIn f (seen ++ written f m.entry.step) (after f w m)
  found_now w m a heard told seen h = record { blobs = blobs_now f size change w m a told seen h.blobs; found = found }
    where
      more : (text : Bytes) → Has seen text → Has (seen ++ written f m.entry.step) text
      more text had = Has-left seen (written f m.entry.step) text had

      on : (step : Step) (reply : Reply) → FoundAt f seen step reply → FoundAt f (seen ++ written f m.entry.step) step reply
      on = found_on f seen (seen ++ written f m.entry.step) more

      own_entries : (k : ℕ) → 1 ≤ k → m.entry.who ≡ k → entries_by (with_entry w.entries m.entry) k ≡ m.entry ∷ entries_by w.entries k
      own_entries k some mine =
          subst (λ (n : ℕ). entries_by (with_entry w.entries m.entry) n ≡ m.entry ∷ entries_by w.entries n) mine
          (laws.own w.entries m.entry (counted m.entry.reply heard) (never_anew m.entry.who m.entry.step (subst (λ (n : ℕ). 1 ≤ n) (sym mine) some)))

      found : (k : ℕ) (e : Entry) → 1 ≤ k → Has (entries_by (after f w m).entries k) e → FoundAt f (seen ++ written f m.entry.step) e.step e.reply
      found k e some had = elim (eqb_tells m.entry.who k) [
        | inl mine ↦ ⊎_elim
            (λ (here : m.entry ≡ e).
            subst (λ (x : Entry). FoundAt f (seen ++ written f m.entry.step) x.step x.reply) here
            (on m.entry.step m.entry.reply (step_found f size w seen h.blobs m.entry.who m.entry.step m.entry.reply m.image told (looked_at f size laws w m a heard).1)))
            (λ (before : Has (entries_by w.entries k) e). on e.step e.reply (h.found k e some before))
            (subst (λ (es : List Entry). Has es e) (own_entries k some mine.1) had)
        | inr other ↦ on e.step e.reply (h.found k e some (subst (λ (es : List Entry). Has es e) (laws.others w.entries m.entry k (λ same. other.1 (sym same))) had))
      ]

  found_from : (w : World) (log : List Moment) (seen : List Bytes) → IsLegal f size w log → AreHeard log → AreTold log → FoundIn f seen w → FoundIn f (seen ++ all_written f log) (world_from f w log)
  found_from w [] seen legal heard told h = subst (λ (l : List Bytes). FoundIn f l w) (sym (append-nil seen)) h
  found_from w (m ∷ log) seen legal heard told h =
      subst (λ (l : List Bytes). FoundIn f l (world_from f (after f w m) log)) (append_assoc seen (written f m.entry.step) (all_written f log))
      (found_from (after f w m) log (seen ++ written f m.entry.step) legal.1 (λ n had. heard n (inr had)) told.1 (found_now w m legal.0 (heard m (inl refl)) told.0 seen h))

-- ---- the texts that were found

abbrev texts_at : Formats → Step → Reply → List Bytes
texts_at f (ReadStep (ReadBlob name)) WasFetched = f.names.text name ∷ []
texts_at f step reply = []

abbrev found_texts : Formats → List Entry → List Bytes
found_texts f [] = []
found_texts f (e ∷ es) = texts_at f e.step e.reply ++ found_texts f es

-- what has the text
record OfText (f : Formats) (step : Step) (reply : Reply) (text : Bytes) : Type 0 where
  name : BlobName
  step_is : step ≡ ReadStep (ReadBlob name)
  reply_is : reply ≡ WasFetched
  text_is : f.names.text name ≡ text

of_text : (f : Formats) (step : Step) (reply : Reply) (text : Bytes) → Has (texts_at f step reply) text → OfText f step reply text
of_text f (ReadStep (ReadBlob name)) WasFetched text (inl e) = record { name = name; step_is = refl; reply_is = refl; text_is = e }
of_text f (ReadStep (ReadBlob name)) WasFetched text (inr h) = absurd h
of_text f step reply text h = absurd h

of_texts : (f : Formats) (es : List Entry) (text : Bytes) → Has (found_texts f es) text → (e : Entry) × Has es e × OfText f e.step e.reply text
of_texts f [] text h = absurd h
of_texts f (e ∷ es) text h = ⊎_elim
    (λ (here : Has (texts_at f e.step e.reply) text). (e, inl refl, of_text f e.step e.reply text here))
    (λ (there : Has (found_texts f es) text). let r = of_texts f es text there in (r.0, inr r.1, r.2))
    (Has-either (texts_at f e.step e.reply) (found_texts f es) text h)

-- it was found under this name
was_found : (f : Formats) (seen : List Bytes) (step : Step) (reply : Reply) (text : Bytes) (o : OfText f step reply text) → FoundAt f seen step reply → IsStored f o.name × Has seen (f.names.text o.name)
was_found f seen step reply text o h = subst (λ (r : Reply). FoundAt f seen (ReadStep (ReadBlob o.name)) r) o.reply_is (subst (λ (s : Step). FoundAt f seen s reply) o.step_is h)

pub has_key : (es : List Entry) (e : Entry) → Has es e → Has (keys es) (key e.step)
has_key [] e h = absurd h
has_key (x ∷ es) e (inl is) = inl (ap (λ (y : Entry). key y.step) is)
has_key (x ∷ es) e (inr h) = inr (has_key es e h)

one_once : (f : Formats) (seen : List Bytes) (step : Step) (reply : Reply) (es : List Entry) → (Has (keys es) (key step) → ⊥) → FoundAt f seen step reply → ((e : Entry) → Has es e → FoundAt f seen e.step e.reply)
    → AreOnce (found_texts f es) → AreOnce (texts_at f step reply ++ found_texts f es)
one_once f seen (ReadStep (ReadBlob name)) WasFetched es fresh found all once = (
  (λ had.
      let r = of_texts f es (f.names.text name) had in
      let was = was_found f seen r.0.step r.0.reply (f.names.text name) r.2 (all r.0 r.1) in
      let same : r.2.name ≡ name = one_name f r.2.name name was.0 found.0 r.2.text_is in
      fresh (subst (Has (keys es)) (ap key r.2.step_is ∙ ap ReadKey same) (has_key es r.0 r.1))),
  once,
)
one_once f seen step reply es fresh found all once = once

texts_once : (f : Formats) (seen : List Bytes) (es : List Entry) → AreOnce (keys es) → ((e : Entry) → Has es e → FoundAt f seen e.step e.reply) → AreOnce (found_texts f es)
texts_once f seen [] once all = tt
texts_once f seen (e ∷ es) once all = one_once f seen e.step e.reply es once.0 (all e (inl refl)) (λ x h. all x (inr h)) (texts_once f seen es once.1 (λ x h. all x (inr h)))

-- ---- each step of a restore's ticket is one of these

abbrev end_of : Key → ℕ
end_of EndKey = 1
end_of x = 0

abbrev ends : List Key → ℕ
ends [] = 0
ends (x ∷ xs) = end_of x + ends xs

abbrev losts : List Entry → ℕ
losts [] = 0
losts (e ∷ es) = lost_at e.step e.reply + losts es

end_or : (x : Key) → (end_of x ≡ 0) ⊎ (x ≡ EndKey)
end_or EndKey = inr refl
end_or x = inl refl

none_end : (xs : List Key) → (Has xs EndKey → ⊥) → ends xs ≡ 0
none_end [] none = refl
none_end (x ∷ xs) none = elim (end_or x) [
  | inl other ↦ both (end_of x) (ends xs) other (none_end xs (λ h. none (inr h)))
  | inr is ↦ absurd (none (inl is))
]
  where
    both : (a b : ℕ) → a ≡ 0 → b ≡ 0 → a + b ≡ 0
    both a b p q = let one : a ≡ 0 = p in let two : b ≡ 0 = q in omega (arith, one, two)

ends_few : (xs : List Key) → AreOnce xs → ends xs ≤ 1
ends_few [] once = let is : 0 ≤ 1 = omega arith in is
ends_few (x ∷ xs) once = elim (end_or x) [
  | inl other ↦ none_here (end_of x) (ends xs) other (ends_few xs once.1)
  | inr is ↦ here (end_of x) (ends xs) (ap end_of is) (none_end xs (λ h. once.0 (subst (Has xs) (sym is) h)))
]
  where
    none_here : (a b : ℕ) → a ≡ 0 → b ≤ 1 → a + b ≤ 1
    none_here a b p q = let one : a ≡ 0 = p in let two : b ≤ 1 = q in omega (arith, one, two)

    here : (a b : ℕ) → a ≡ 1 → b ≡ 0 → a + b ≤ 1
    here a b p q = let one : a ≡ 1 = p in let two : b ≡ 0 = q in omega (arith, one, two)

-- it ends, or fetches a blob
abbrev Kind : Step → Type 0
Kind step = (key step ≡ EndKey) ⊎ ((name : BlobName) × (step ≡ ReadStep (ReadBlob name)))

kind_of : (f : Formats) (q : Reader) (step : Step) → Has (reader_keys f q) (key step) → Kind step
kind_of f q step (inl e) = inl (sym e)
kind_of f q step (inr (inl e)) = inr (ShardSnap q.index q.number q.uuid, subst (Made step) (sym e) (made step))
kind_of f q step (inr (inr h)) = let r = Has-mapped ReadKey (pieces_read f q.index q.number q.read) (key step) h in inr (r.0, subst (Made step) (sym r.2) (made step))

by_blob : (f : Formats) (name : BlobName) (reply : Reply) → 1 ≤ length (texts_at f (ReadStep (ReadBlob name)) reply) + (lost_at (ReadStep (ReadBlob name)) reply + 0)
by_blob f name WasFetched = let is : 1 ≤ 1 + (0 + 0) = omega arith in is
by_blob f name reply = let is : 1 ≤ 0 + (1 + 0) = omega arith in is

by_kind : (f : Formats) (step : Step) (reply : Reply) → Kind step → 1 ≤ length (texts_at f step reply) + (lost_at step reply + end_of (key step))
by_kind f step reply (inl ended) = last (length (texts_at f step reply)) (lost_at step reply) (end_of (key step)) (ap end_of ended)
  where
    last : (a b c : ℕ) → c ≡ 1 → 1 ≤ a + (b + c)
    last a b c p = let is : c ≡ 1 = p in omega (arith, is)
by_kind f step reply (inr blob) = subst (λ (s : Step). 1 ≤ length (texts_at f s reply) + (lost_at s reply + end_of (key s))) (sym blob.1) (by_blob f blob.0 reply)

steps_few : (f : Formats) (es : List Entry) → ((e : Entry) → Has es e → Kind e.step) → length es ≤ length (found_texts f es) + (losts es + ends (keys es))
steps_few f [] kinds = let is : 0 ≤ 0 + (0 + 0) = omega arith in is
steps_few f (e ∷ es) kinds =
    sum (length es) (length (texts_at f e.step e.reply)) (length (found_texts f es)) (length (texts_at f e.step e.reply ++ found_texts f es)) (lost_at e.step e.reply) (losts es) (end_of (key e.step)) (ends (keys es))
    (by_kind f e.step e.reply (kinds e (inl refl))) (steps_few f es (λ x h. kinds x (inr h))) (length-append (texts_at f e.step e.reply) (found_texts f es))
  where
    sum : (n a b c x y u v : ℕ) → 1 ≤ a + (x + u) → n ≤ b + (y + v) → c ≡ a + b → suc n ≤ c + ((x + y) + (u + v))
    sum n a b c x y u v p q r = let one : 1 ≤ a + (x + u) = p in let two : n ≤ b + (y + v) = q in let three : c ≡ a + b = r in omega (arith, one, two, three)

-- ---- all together

module _ (f : Formats) (size : ℕ) (laws : StepLaws f size) where
  lost_made : (w : World) (log : List Moment) (k : ℕ) → 1 ≤ k → AreHeard log → losts (entries_by (world_from f w log).entries k) ≡ lost_by log k + losts (entries_by w.entries k)
  lost_made w [] k some heard = none_more (losts (entries_by w.entries k))
    where
      none_more : (n : ℕ) → n ≡ 0 + n
      none_more n = omega arith
  lost_made w (m ∷ log) k some heard = elim (eqb_tells m.entry.who k) [
    | inl mine ↦
        lost_made (after f w m) log k some (λ n h. heard n (inr h)) ∙ ap (λ (n : ℕ). lost_by log k + n) (ap losts (own mine.1)) ∙ shift (lost_by log k) (lost_at m.entry.step m.entry.reply) (losts (entries_by w.entries k))
        ∙ ap (λ b. (if b then lost_at m.entry.step m.entry.reply + lost_by log k else lost_by log k) + losts (entries_by w.entries k)) (sym mine.0)
    | inr other ↦
        lost_made (after f w m) log k some (λ n h. heard n (inr h)) ∙ ap (λ (n : ℕ). lost_by log k + n) (ap losts (laws.others w.entries m.entry k (λ same. other.1 (sym same))))
        ∙ ap (λ b. (if b then lost_at m.entry.step m.entry.reply + lost_by log k else lost_by log k) + losts (entries_by w.entries k)) (sym other.0)
  ]
    where
      shift : (a b c : ℕ) → a + (b + c) ≡ (b + a) + c
      shift a b c = omega arith

      own : m.entry.who ≡ k → entries_by (with_entry w.entries m.entry) k ≡ m.entry ∷ entries_by w.entries k
      own mine =
          subst (λ (n : ℕ). entries_by (with_entry w.entries m.entry) n ≡ m.entry ∷ entries_by w.entries n) mine
          (laws.own w.entries m.entry (counted m.entry.reply (heard m (inl refl))) (never_anew m.entry.who m.entry.step (subst (λ (n : ℕ). 1 ≤ n) (sym mine) some)))

  pub restore_found : ((w : World) (m : Moment) (i : Image) → m.image ≡ Some i → Allowed f size w m → BlobsChange f w m.entry.step i.blobs) → (w : World) (log : List Moment) → IsHeard f size w log → AreTold log
      → (k : ℕ) (q : Reader) → 1 ≤ k → fin.get (world_from f w log).readers k ≡ Some q → made_by log k ≤ 1 + (most_blobs w log + lost_by log k)
  restore_found change w log h told k q some there =
      sum (made_by log k) (length (entries_by w.entries k)) (length es) (length (found_texts f es)) (losts es) (ends (keys es))
      (lost_by log k) (losts (entries_by w.entries k)) (length seen) (most_blobs w log) (made_length f size laws w log k some h.heard)
      (steps_few f es (λ e had. kind_of f q e.step ((few_last f size laws w log h told).listed k q (key e.step) some there (has_key es e had))))
      (few_once (found_texts f es) seen (texts_once f seen es once (λ e had. last.found k e some had)) (λ x had. let r = of_texts f es x had in subst (Has seen) r.2.text_is (was_found f seen r.0.step r.0.reply x r.2 (last.found k r.0 some r.1)).1))
      (ends_few (keys es) once) (lost_made w log k some h.heard) (ap (λ (xs : List Entry). losts (entries_by xs k)) h.untouched.entries) (length_seen f w log)
    where
      es : List Entry
      es = entries_by (world_from f w log).entries k

      seen : List Bytes
      seen = texts w.blobs ++ all_written f log

      once : AreOnce (keys es)
      once = (heard_kept f size laws w log h).once k some

      start : FoundIn f (texts w.blobs) w
      start = record {
        blobs = λ text bytes is. in_texts w.blobs text bytes is;
        found = λ j e first had. absurd (subst (λ (xs : List Entry). Has (entries_by xs j) e) h.untouched.entries had);
      }

      last : FoundIn f seen (world_from f w log)
      last = found_from f size laws change w log (texts w.blobs) h.legal h.heard told start

      sum : (made before entries found lost ended by start seen most : ℕ) → entries ≡ made + before → entries ≤ found + (lost + ended) → found ≤ seen → ended ≤ 1 → lost ≡ by + start → start ≡ 0 → seen ≡ most
          → made ≤ 1 + (most + by)
      sum made before entries found lost ended by start seen most a b c d e g i =
          let one : entries ≡ made + before = a in
          let two : entries ≤ found + (lost + ended) = b in
          let three : found ≤ seen = c in
          let four : ended ≤ 1 = d in
          let five : lost ≡ by + start = e in
          let six : start ≡ 0 = g in
          let seven : seen ≡ most = i in
          omega (arith, one, two, three, four, five, six, seven)
