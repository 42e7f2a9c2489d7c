-- The ticket of a restore has made no more steps than the snapshot of its shard, as it was read, has parts of files.
use Rattle.std.proofs.Common.{◌≡◌, ◌≢◌, ℕ, zero, suc, ◌+◌, ◌<◌, ◌≤◌, List, [], ◌∷◌, length, map, false, Option, Some, None, refl, sym, ap, ◌∙◌, subst, inl, inr, ⊎_elim, arith}
use Rattle.std.proofs.lemmas.Bool.Decides.{eqb_tells}
use Rattle.std.proofs.lemmas.List.{length-map}
use Rattle.std.specs.FinMap as fin
use Rattle.std.proofs.lemmas.Option.{same_Some}
use Rattle.esr_model.specs.Lists.{Has-left, Has-right, Has-either, Has-map, Has-mapped}
use Rattle.esr_model.specs.Names.{BlobName, ShardSnap}
use Rattle.esr_model.specs.Values.{Bytes, Has, FileEntry, ShardSnapshot, Formats}
use Rattle.esr_model.specs.Parts.{part_names}
use Rattle.esr_model.specs.Image.{Image}
use Rattle.esr_core.specs.World.{World, ReadState, Restored, NotRestored, Restoring, Reader}
use Rattle.esr_core.specs.Past.{entries_by}
use Rattle.esr_core.specs.Restores.{ListsPiece, read_more}
use Rattle.esr_core.specs.Tracked.{Tracked}
use Rattle.esr_core.specs.ReadTracked.{ReadTracked}
use Rattle.esr_core.specs.Changes.{IsReaders, Maker, ClientStep, ReaderStep, UnitStep}
use Rattle.esr_core.specs.Entry.{Read, ReadBlob, RestoredShard, ReadFails, Step, ReadStep, Reply, Entry, Moment}
use Rattle.esr_core.specs.After.{told_blob, read_told, shard_over, read_over, answered, after}
use Rattle.esr_core.specs.Allowed as allowed
use Rattle.esr_core.specs.Allowed.{MayRead, Fetcher, ReadAllows, Allows, Allowed}
use Rattle.esr_core.specs.History.{world_from, IsLegal, AreTold}
use Rattle.esr_bounds.specs.Keys.{Key, ReadKey, EndKey, key, keys, made_by, IsUnheard, AreHeard, IsUntouched, IsHeard}
use Rattle.esr_bounds.specs.Others.{pieces_of, pieces_in, pieces_by, pieces_read, most_of_restore}
use Rattle.esr_bounds.specs.Laws.{StepLaws}
use Rattle.esr_core.specs.Laws.NumberMaps.{same_in, nothing, some_none}
use Rattle.esr_bounds.proofs.Few.{few_once}
use Rattle.esr_bounds.proofs.Once.{Kept, counted, never_anew, blocked_unheard, looked_at, step_kept, untouched_kept, heard_kept}
use Rattle.esr_bounds.proofs.Bounded.{length_keys, made_length}
use Rattle.esr_bounds.proofs.Prunes.{Tells, told_is}

-- ---- the pieces that were listed

in_files : (index number : ℕ) (files : List FileEntry) (e : FileEntry) (name : BlobName) → Has files e → Has (part_names index number e) name → Has (pieces_of index number files) name
in_files index number [] e name h part = absurd h
in_files index number (x ∷ files) e name (inl is) part = Has-left (part_names index number x) (pieces_of index number files) name (subst (λ (y : FileEntry). Has (part_names index number y) name) (sym is) part)
in_files index number (x ∷ files) e name (inr h) part = Has-right (part_names index number x) (pieces_of index number files) name (in_files index number files e name h part)

in_read : (f : Formats) (index number : ℕ) (read : List (BlobName × Bytes)) (b : BlobName × Bytes) (name : BlobName) → Has read b → Has (pieces_by f index number b.0 b.1) name → Has (pieces_read f index number read) name
in_read f index number [] b name h piece = absurd h
in_read f index number (x ∷ read) b name (inl is) piece =
    Has-left (pieces_by f index number x.0 x.1) (pieces_read f index number read) name (subst (λ (y : BlobName × Bytes). Has (pieces_by f index number y.0 y.1) name) (sym is) piece)
in_read f index number (x ∷ read) b name (inr h) piece = Has-right (pieces_by f index number x.0 x.1) (pieces_read f index number read) name (in_read f index number read b name h piece)

of_read : (f : Formats) (index number : ℕ) (read : List (BlobName × Bytes)) (name : BlobName) → Has (pieces_read f index number read) name → (b : BlobName × Bytes) × Has read b × Has (pieces_by f index number b.0 b.1) name
of_read f index number [] name h = absurd h
of_read f index number (x ∷ read) name h = ⊎_elim
    (λ (here : Has (pieces_by f index number x.0 x.1) name). (x, inl refl, here))
    (λ (there : Has (pieces_read f index number read) name). let r = of_read f index number read name there in (r.0, inr r.1, r.2))
    (Has-either (pieces_by f index number x.0 x.1) (pieces_read f index number read) name h)

-- what the ticket read of the snapshot lists it
listed_in : (f : Formats) (q : Reader) (name : BlobName) → ListsPiece f q name → Has (pieces_read f q.index q.number q.read) name
listed_in f q name l =
    in_read f q.index q.number q.read (ShardSnap q.index q.number q.uuid, l.snap_read.bytes) name l.snap_read.there
    (subst (λ (o : Option ShardSnapshot). Has (pieces_in q.index q.number o) name) (sym l.snap_read.reads) (in_files q.index q.number l.snap.files l.e name l.listed l.part))

-- ---- what a restore's ticket may do

abbrev snap_of : Reader → BlobName
snap_of q = ShardSnap q.index q.number q.uuid

abbrev pub reader_keys : Formats → Reader → List Key
reader_keys f q = EndKey ∷ ReadKey (snap_of q) ∷ map ReadKey (pieces_read f q.index q.number q.read)

-- the ticket after its step
record ReadOn (k : ℕ) (q : Reader) (up : World) : Type 0 where
  v : Reader
  at : fin.get up.readers k ≡ Some v
  index : v.index ≡ q.index
  number : v.number ≡ q.number
  uuid : v.uuid ≡ q.uuid
  read : (b : BlobName × Bytes) → Has q.read b → Has v.read b

keys_on : (f : Formats) (k : ℕ) (q : Reader) (up : World) (g : ReadOn k q up) (x : Key) → Has (reader_keys f q) x → Has (reader_keys f g.v) x
keys_on f k q up g x (inl e) = inl e
keys_on f k q up g x (inr (inl e)) = inr (inl (ap ReadKey same ∙ e))
  where
    same : snap_of g.v ≡ snap_of q
    same = λ j. ShardSnap (g.index j) (g.number j) (g.uuid j)
keys_on f k q up g x (inr (inr h)) =
    let r = Has-mapped ReadKey (pieces_read f q.index q.number q.read) x h in
    let b = of_read f q.index q.number q.read r.0 r.1 in
    inr (inr (subst (Has (map ReadKey (pieces_read f g.v.index g.v.number g.v.read))) r.2
    (Has-map ReadKey (pieces_read f g.v.index g.v.number g.v.read) r.0
    (in_read f g.v.index g.v.number g.v.read b.0 r.0 (g.read b.0 b.1)
    (subst (λ (i : ℕ). Has (pieces_by f i g.v.number b.0.0 b.0.1) r.0) (sym g.index) (subst (λ (n : ℕ). Has (pieces_by f q.index n b.0.0 b.0.1) r.0) (sym g.number) b.2))))))

module _ (f : Formats) (size : ℕ) (w : World) (k : ℕ) (q : Reader) (there : fin.get w.readers k ≡ Some q) where
  same_reader : (p : Reader) → fin.get w.readers k ≡ Some p → p ≡ q
  same_reader p at = same_Some p q (sym at ∙ there)

  as_it_was : ReadOn k q w
  as_it_was = record { v = q; at = there; index = refl; number = refl; uuid = refl; read = λ b h. h }

  told_on : (name : BlobName) (b : Option Bytes) → ReadOn k q (read_told w k name b (fin.get w.readers k))
  told_on name b = subst (λ (o : Option Reader). ReadOn k q (read_told w k name b o)) (sym there) (by b)
    where
      by : (o : Option Bytes) → ReadOn k q (read_told w k name o (Some q))
      by None = as_it_was
      by (Some bytes) = record { v = read_more q name bytes; at = same_in w.readers k (read_more q name bytes); index = refl; number = refl; uuid = refl; read = λ b h. inr h }

  over_on : (state : ReadState) → ReadOn k q (read_over w k state (fin.get w.readers k))
  over_on state = subst (λ (o : Option Reader). ReadOn k q (read_over w k state o)) (sym there) (by (fin.get w.restores q.op))
    where
      by : (o : Option Restoring) → ReadOn k q (shard_over w k state q o)
      by None = as_it_was
      by (Some r) = record { v = record q { out = false }; at = same_in w.readers k (record q { out = false }); index = refl; number = refl; uuid = refl; read = λ b h. h }

  -- what it may fetch
  fetches : (p : Reader) (name : BlobName) (image : Option Image) → fin.get w.readers k ≡ Some p → MayRead f p name image → Tells image → Has (reader_keys f q) (ReadKey name)
  fetches p name image at (inl is) told = inr (inl (ap ReadKey (ap snap_of (sym (same_reader p at)) ∙ sym is)))
  fetches p name image at (inr may) told =
      let piece : ListsPiece f p name = told_is image told.0 (λ blobs. ListsPiece f p name) told.1 may.1 in
      inr (inr (Has-map ReadKey (pieces_read f q.index q.number q.read) name (listed_in f q name (subst (λ (x : Reader). ListsPiece f x name) (same_reader p at) piece))))

-- its own step, and what that is
abbrev OwnRead : Formats → World → ℕ → Reader → Read → Reply → Option Image → Type 0
OwnRead f w k q read reply image = ReadOn k q (answered f w k (ReadStep read) reply image) × (Tells image → Has (reader_keys f q) (key (ReadStep read)))

module _ (f : Formats) (size : ℕ) (w : World) where
  by_fetcher : (k : ℕ) (q : Reader) → 1 ≤ k → fin.get w.readers k ≡ Some q → (name : BlobName) (image : Option Image) → Fetcher f w name image k → Tells image → Has (reader_keys f q) (ReadKey name)
  by_fetcher k q some there name image (allowed.ByReader j p reading may) told = fetches f size w k q there p name image reading.there may told
  by_fetcher k q some there name image (allowed.ByCheck may) told = absurd (omega (arith, some))
  by_fetcher k q some there name image (allowed.ByVerify may) told = absurd (omega (arith, some))

  own_reading : (k : ℕ) (q : Reader) → 1 ≤ k → fin.get w.readers k ≡ Some q → (read : Read) (reply : Reply) (image : Option Image) → IsReaders (ReadStep read) → ReadAllows f w k read reply image → OwnRead f w k q read reply image
  own_reading zero q some there read reply image own a = absurd (omega (arith, some))
  own_reading (suc k) q some there (ReadBlob name) reply image own (allowed.ReadFound j n im stored by found) = (told_on f size w (suc k) q there name (told_blob f image name), by_fetcher (suc k) q some there name image by)
  own_reading (suc k) q some there (ReadBlob name) reply image own (allowed.ReadMissing j n im stored by gone) = (as_it_was f size w (suc k) q there, by_fetcher (suc k) q some there name image by)
  own_reading (suc k) q some there (ReadBlob name) reply image own (allowed.ReadFault j n im stored by) = (as_it_was f size w (suc k) q there, by_fetcher (suc k) q some there name image by)
  own_reading (suc k) q some there (RestoredShard files bytes) reply image own (allowed.RestoringShard j fs bs im p reading told) = (over_on f size w (suc k) q there (Restored files bytes), λ tells. inl refl)
  own_reading (suc k) q some there (ReadFails why) reply image own (allowed.ReaderFailing j y im p reading) = (over_on f size w (suc k) q there (NotRestored why), λ tells. inl refl)
  own_reading (suc k) q some there read reply image own a = absurd own

  own_read : (k : ℕ) (q : Reader) → 1 ≤ k → fin.get w.readers k ≡ Some q → (step : Step) (reply : Reply) (image : Option Image) → IsReaders step → Allows f size w k step reply image
      → ReadOn k q (answered f w k step reply image) × (Tells image → Has (reader_keys f q) (key step))
  own_read k q some there (ReadStep read) reply image own (allowed.Reading j r rep im h same) = own_reading k q some there read reply image own h
  own_read k q some there (ReadStep read) reply image own (allowed.Verifying r rep im h) = absurd (omega (arith, some))
  own_read k q some there step reply image own a = absurd own

-- ---- what holds of a world

-- what each ticket of a restore has done is among these; and a number that no ticket has, nor one of a restore, has no entries
pub record FewRead (f : Formats) (w : World) : Type 0 where
  pub listed : (k : ℕ) (q : Reader) (x : Key) → 1 ≤ k → fin.get w.readers k ≡ Some q → Has (keys (entries_by w.entries k)) x → Has (reader_keys f q) x
  pub none : (k : ℕ) → 1 ≤ k → fin.get w.tickets k ≡ None → fin.get w.readers k ≡ None → entries_by w.entries k ≡ []

module _ (f : Formats) (size : ℕ) (laws : StepLaws f size) where
  module _ (w : World) (m : Moment) (tracked : Tracked w) (reads : ReadTracked w) (a : Allowed f size w m) (heard : IsUnheard m.entry.reply → ⊥) (told : Tells m.image) (kept : Kept w) (few : FewRead f w) where
    abbrev new : World
    new = after f w m

    alive : Allows f size w m.entry.who m.entry.step m.entry.reply m.image
    alive = (looked_at f size laws w m a heard).1

    maker : Maker w m.entry.who m.entry.step
    maker = elim (laws.maker w m a) [
      | inl is ↦ is
      | inr dead ↦ absurd (heard (subst IsUnheard (sym dead.refused) (blocked_unheard w m.entry.who m.entry.step dead.refusal dead.blocks)))
    ]

    -- another's
    module _ (k : ℕ) (some : 1 ≤ k) (other : k ≢ m.entry.who) where
      same_entries : entries_by new.entries k ≡ entries_by w.entries k
      same_entries = laws.others w.entries m.entry k other

      next_none : k ≡ w.next_ticket → entries_by new.entries k ≡ []
      next_none is = same_entries ∙ kept.none k some (let same : k ≡ w.next_ticket = is in omega (arith, same))

      other_listed : (v : Reader) (x : Key) → fin.get new.readers k ≡ Some v → Has (keys (entries_by new.entries k)) x → Has (reader_keys f v) x
      other_listed v x there h = elim (eqb_tells k w.next_ticket) [
        | inl given ↦ absurd (subst (λ (es : List Entry). Has (keys es) x) (next_none given.1) h)
        | inr aside ↦ few.listed k v x some (sym ((laws.frame w m).readers k other aside.1) ∙ there) (subst (λ (es : List Entry). Has (keys es) x) same_entries h)
      ]

      other_none : fin.get new.tickets k ≡ None → fin.get new.readers k ≡ None → entries_by new.entries k ≡ []
      other_none no_ticket no_reader = elim (eqb_tells k w.next_ticket) [
        | inl given ↦ next_none given.1
        | inr aside ↦ same_entries ∙ few.none k some (sym ((laws.frame w m).others k other aside.1) ∙ no_ticket) (sym ((laws.frame w m).readers k other aside.1) ∙ no_reader)
      ]

    -- its own
    module _ (some : 1 ≤ m.entry.who) where
      own_listed : (v : Reader) (x : Key) → fin.get new.readers m.entry.who ≡ Some v → Has (keys (entries_by new.entries m.entry.who)) x → Has (reader_keys f v) x
      own_listed v x there h = by maker
        where
          by : Maker w m.entry.who m.entry.step → Has (reader_keys f v) x
          by (ClientStep nobody own) = let no : m.entry.who ≡ 0 = nobody in absurd (omega (arith, some, no))
          by (UnitStep t out own) =
              let stays = (laws.frame w m).stay m.entry.who t (λ is. let below : m.entry.who < w.next_ticket = (tracked.tickets m.entry.who t out.there).0 in let same : m.entry.who ≡ w.next_ticket = is in omega (arith, below, same)) out.there in
              absurd ((laws.reads w m tracked reads a).apart.tickets m.entry.who v stays.0 there stays.1)
          by (ReaderStep q reading own) =
              let step = own_read f size w m.entry.who q some reading.there m.entry.step m.entry.reply m.image own alive in
              subst (λ (u : Reader). Has (reader_keys f u) x) (same_Some step.0.v v (sym step.0.at ∙ there))
              (keys_on f m.entry.who q (answered f w m.entry.who m.entry.step m.entry.reply m.image) step.0 x
              (⊎_elim
              (λ (here : key m.entry.step ≡ x). subst (Has (reader_keys f q)) here (step.1 told))
              (λ (before : Has (keys (entries_by w.entries m.entry.who)) x). few.listed m.entry.who q x some reading.there before)
              (subst (λ (es : List Entry). Has (keys es) x) (laws.own w.entries m.entry (counted m.entry.reply heard) (never_anew m.entry.who m.entry.step some)) h)))

      own_none : fin.get new.tickets m.entry.who ≡ None → fin.get new.readers m.entry.who ≡ None → entries_by new.entries m.entry.who ≡ []
      own_none no_ticket no_reader = by maker
        where
          by : Maker w m.entry.who m.entry.step → entries_by new.entries m.entry.who ≡ []
          by (ClientStep nobody own) = let no : m.entry.who ≡ 0 = nobody in absurd (omega (arith, some, no))
          by (UnitStep t out own) =
              let stays = (laws.frame w m).stay m.entry.who t (λ is. let below : m.entry.who < w.next_ticket = (tracked.tickets m.entry.who t out.there).0 in let same : m.entry.who ≡ w.next_ticket = is in omega (arith, below, same)) out.there in
              absurd (some_none stays.0 (sym stays.1 ∙ no_ticket))
          by (ReaderStep q reading own) =
              let step = own_read f size w m.entry.who q some reading.there m.entry.step m.entry.reply m.image own alive in
              absurd (some_none step.0.v (sym step.0.at ∙ no_reader))

    abbrev FewAt : ℕ → Type 0
    FewAt k =
        ((v : Reader) (x : Key) → fin.get new.readers k ≡ Some v → Has (keys (entries_by new.entries k)) x → Has (reader_keys f v) x) × (fin.get new.tickets k ≡ None → fin.get new.readers k ≡ None → entries_by new.entries k ≡ [])

    few_at : (k : ℕ) → 1 ≤ k → FewAt k
    few_at k some = elim (eqb_tells k m.entry.who) [
      | inl mine ↦ subst FewAt (sym mine.1) (here (subst (λ (n : ℕ). 1 ≤ n) mine.1 some))
      | inr other ↦ (other_listed k some other.1, other_none k some other.1)
    ]
      where
        here : 1 ≤ m.entry.who → FewAt m.entry.who
        here first = (own_listed first, own_none first)

    step_few : FewRead f (after f w m)
    step_few = record { listed = λ k v x some there h. (few_at k some).0 v x there h; none = λ k some no_ticket no_reader. (few_at k some).1 no_ticket no_reader }

  log_few : (w : World) (log : List Moment) → Tracked w → ReadTracked w → Kept w → FewRead f w → IsLegal f size w log → AreHeard log → AreTold log → FewRead f (world_from f w log)
  log_few w [] tracked reads kept few legal heard told = few
  log_few w (m ∷ log) tracked reads kept few legal heard told =
      log_few (after f w m) log (laws.tracks w m tracked legal.0) (laws.reads w m tracked reads legal.0) (step_kept f size laws w m tracked reads legal.0 (heard m (inl refl)) kept)
      (step_few w m tracked reads legal.0 (heard m (inl refl)) told.0 kept few) legal.1 (λ n h. heard n (inr h)) told.1

untouched_few : (f : Formats) (w : World) → IsUntouched w → FewRead f w
untouched_few f w h = record { listed = λ k q x some there has. absurd (nothing w.readers k q h.readers there); none = λ k some no_ticket no_reader. ap (λ (es : List Entry). entries_by es k) h.entries }

-- ---- how many steps it has made

module _ (f : Formats) (size : ℕ) (laws : StepLaws f size) (w : World) (log : List Moment) (h : IsHeard f size w log) (told : AreTold log) where
  pub few_last : FewRead f (world_from f w log)
  few_last = log_few f size laws w log h.tracked h.readers (untouched_kept w h.untouched) (untouched_few f w h.untouched) h.legal h.heard told

  whole : (k : ℕ) → 1 ≤ k → length (entries_by (world_from f w log).entries k) ≡ made_by log k + length (entries_by w.entries k)
  whole k some = made_length f size laws w log k some h.heard

  pub restore_few : (k : ℕ) (q : Reader) → 1 ≤ k → fin.get (world_from f w log).readers k ≡ Some q → made_by log k ≤ most_of_restore f q
  restore_few k q some there =
      sum (made_by log k) (length (entries_by w.entries k)) (length (entries_by (world_from f w log).entries k)) (length (keys (entries_by (world_from f w log).entries k)))
      (length (map ReadKey (pieces_read f q.index q.number q.read))) (length (pieces_read f q.index q.number q.read))
      (whole k some) (length_keys (entries_by (world_from f w log).entries k))
      (few_once (keys (entries_by (world_from f w log).entries k)) (reader_keys f q) ((heard_kept f size laws w log h).once k some) (λ x had. few_last.listed k q x some there had))
      (length-map (pieces_read f q.index q.number q.read) ReadKey)
    where
      sum : (made before entries all mapped pieces : ℕ) → entries ≡ made + before → all ≡ entries → all ≤ suc (suc mapped) → mapped ≡ pieces → made ≤ 2 + pieces
      sum made before entries all mapped pieces a b c d =
          let one : entries ≡ made + before = a in
          let two : all ≡ entries = b in
          let three : all ≤ suc (suc mapped) = c in
          let four : mapped ≡ pieces = d in
          omega (arith, one, two, three, four)

  -- a number that nothing was given makes none
  pub none_made : (k : ℕ) → 1 ≤ k → fin.get (world_from f w log).tickets k ≡ None → fin.get (world_from f w log).readers k ≡ None → made_by log k ≤ 0
  none_made k some no_ticket no_reader =
      sum (made_by log k) (length (entries_by w.entries k)) (length (entries_by (world_from f w log).entries k)) (whole k some) (ap length (few_last.none k some no_ticket no_reader))
    where
      sum : (made before entries : ℕ) → entries ≡ made + before → entries ≡ 0 → made ≤ 0
      sum made before entries a b = let one : entries ≡ made + before = a in let two : entries ≡ 0 = b in omega (arith, one, two)
