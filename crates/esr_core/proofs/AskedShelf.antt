-- What a restore gives is on the shelf as it was when it was asked.
use Rattle.std.proofs.Common.{◌≡◌, ℕ, suc, List, [], ◌∷◌, ◌++◌, false, Option, Some, None, map, refl, ap, ◌∙◌, subst, inl, inr, arith, nat_cmp, sym}
use Rattle.std.specs.FinMap.{FinMap}
use Rattle.std.specs.FinMap as fin
use Rattle.std.proofs.lemmas.Option.{same_Some, none-some}
use Rattle.esr_model.specs.Values.{Bytes, Has, IndexRef, RootSnap, SnapInfo, FileEntry, Formats}
use Rattle.esr_model.specs.Shelf.{Shelved, ShelfShard, shelf_after}
use Rattle.esr_model.specs.Places.{shelf_places}
use Rattle.esr_model.specs.Image.{Image, AllPairs, FileStands, ShardStands}
use Rattle.esr_core.specs.World.{World, Restoring, Reader, HeldIn}
use Rattle.esr_core.specs.Restores.{IsReading, restore_of, restore_opened}
use Rattle.esr_core.specs.Queue.{Lists}
use Rattle.esr_core.specs.Ids.{Law}
use Rattle.esr_core.specs.Entry.{Restore, Step, AskStep, Refusal, Reply, Refused, AcceptedRestore, Moment}
use Rattle.esr_core.specs.After.{answered, after}
use Rattle.esr_core.specs.Allowed as allowed
use Rattle.esr_core.specs.Allowed.{Told, RestoredBy, AcceptsRestore, IsInInfo, Allows, Allowed}
use Rattle.esr_core.specs.History.{world_from, IsLegal, AreTold, commands_at, committed}
use Rattle.esr_core.specs.ReadLaw.{ReadLaw, ReadsShelved, IsOnShelf}
use Rattle.esr_core.specs.Restored.{IsServed, IsShelvedAs}
use Rattle.esr_core.specs.Laws.RestoreMaps.{put_was}
use Rattle.esr_model.specs.Lists.{AllPairs-map}
use Rattle.esr_core.proofs.ListedInfo.{IsListedAs, listed_as, listed_snap, listed_info, made_info}
use Rattle.esr_core.proofs.Shelving.{shelved_one, reads_on}
use Rattle.esr_core.proofs.OnShelf.{on_shelf}
use Rattle.esr_core.proofs.ReadLaws.{Serves, serves_now, serves_snap}
use Rattle.esr_core.proofs.Histories.{Stepped, step_law, lasts, legal_law}
use Rattle.esr_core.proofs.Lists.{shelf_after-append}
use Rattle.esr_core.proofs.ReadHistories.{read_step_law, read_legal}

-- ---- what a ticket may read

module _ (f : Formats) (w : World) (shelf : List Shelved) (l : Law f w shelf) (r : ReadLaw f w) (k : ℕ) (q : Reader) (reading : IsReading w k q) where
  s : Serves f w shelf q
  s = serves_now f w shelf l r k q reading.there reading.out

  contents_of : (index number : ℕ) (es : List FileEntry) (files : List (Bytes × Bytes)) → AllPairs (λ (e : FileEntry) (file : Bytes × Bytes). (e.physical ≡ file.0) × FileStands f (HeldIn f w) index number e file.1) es files
      → AllPairs (FileStands f (HeldIn f w) index number) es (map (λ (file : Bytes × Bytes). file.1) files)
  contents_of index number [] [] h = tt
  contents_of index number (e ∷ es) (y ∷ files) h = (h.0.1, contents_of index number es files h.1)
  contents_of index number es files h = h

  pub served : IsServed f w q
  served =
      record {
        snap = s.found.stands.snap;
        snap_reads = serves_snap f w shelf q s;
        contents = map (λ (file : Bytes × Bytes). file.1) s.found.shard.files;
        stand =
            subst (λ i. AllPairs (FileStands f (HeldIn f w) i q.number) s.found.stands.snap.files (map (λ (file : Bytes × Bytes). file.1) s.found.shard.files)) s.index_is
            (subst (λ n. AllPairs (FileStands f (HeldIn f w) s.place.0.id n) s.found.stands.snap.files (map (λ (file : Bytes × Bytes). file.1) s.found.shard.files)) s.number_is
            (contents_of s.place.0.id s.place.1 s.found.stands.snap.files s.found.shard.files s.found.stands.files));
      }

-- ---- what is asked

told_of : (image : Option Image) (i : Image) (P : Type 0) → image ≡ Some i → Told image (λ blobs. P) → P
told_of None i P is h = absurd (none-some i is)
told_of (Some x) i P is h = h

-- a restore that was accepted
pub record AcceptedAs (f : Formats) (w : World) (m : Moment) (name place : Bytes) (o uuid : ℕ) (indices : List IndexRef) : Type 0 where
  pub alive : w.deposed ≡ false
  pub accepts : AcceptsRestore f w name o uuid indices m.image

allows_by : (f : Formats) (size : ℕ) (w : World) (who : ℕ) (name place : Bytes) (o uuid : ℕ) (indices : List IndexRef) (image : Option Image)
    → Allows f size w who (AskStep (Restore name place)) (AcceptedRestore o uuid indices) image → AcceptsRestore f w name o uuid indices image
allows_by f size w who name place o uuid indices image (allowed.OpeningRestore n at p u refs im acc same) = acc

refused_accepted : (refusal : Refusal) (o uuid : ℕ) (indices : List IndexRef) → Refused refusal ≡ AcceptedRestore o uuid indices → ⊥
refused_accepted refusal o uuid indices e = cc

pub accepted_as : (f : Formats) (size : ℕ) (w : World) (m : Moment) (name place : Bytes) (o uuid : ℕ) (indices : List IndexRef) → Allowed f size w m → m.entry.step ≡ AskStep (Restore name place)
    → m.entry.reply ≡ AcceptedRestore o uuid indices → AcceptedAs f w m name place o uuid indices
accepted_as f size w m name place o uuid indices a step reply = elim a.answered [
  | inl alive ↦
      let allows = subst (λ s. Allows f size w m.entry.who s m.entry.reply m.image) step alive.1 in
      record { alive = alive.0; accepts = allows_by f size w m.entry.who name place o uuid indices m.image (subst (λ r. Allows f size w m.entry.who (AskStep (Restore name place)) r m.image) reply allows) }
  | inr dead ↦ absurd (refused_accepted dead.refusal o uuid indices (sym dead.refused ∙ reply))
]

module _ (f : Formats) (w : World) (shelf : List Shelved) (l : Law f w shelf) (m : Moment) (name place : Bytes) (o uuid : ℕ)
    (indices : List IndexRef) (image : Image) (told : m.image ≡ Some image) (a : AcceptedAs f w m name place o uuid indices) where
  listed : Lists w.root uuid
  listed = (a.accepts.listed.0, a.accepts.listed.1, a.accepts.listed.3)

  info : IsInInfo f w uuid indices
  info = elim a.accepts.indices_of.told [
    | inl made ↦ made_info f w shelf l uuid indices listed made
    | inr there ↦ told_of m.image image (IsInInfo f w uuid indices) told there
  ]

  x : IsListedAs f w shelf uuid
  x = listed_as f w shelf l uuid listed

  -- the info that stands is the one whose indices are told
  same_info : info.0 ≡ x.stands.info
  same_info =
      let reads = listed_info f w shelf uuid x in
      let bytes : info.1.bytes ≡ reads.bytes = same_Some _ _ (sym info.1.there.0 ∙ reads.there.0.0) in
      same_Some _ _ (sym info.1.reads ∙ ap f.info.read bytes ∙ reads.reads)

  shards : AllPairs (λ (p : IndexRef × ℕ) (s : ShelfShard). (s.index ≡ p.0.name) × (s.number ≡ p.1)) (shelf_places indices) x.shelved.shards
  shards =
      subst (λ refs. AllPairs (λ (p : IndexRef × ℕ) (s : ShelfShard). (s.index ≡ p.0.name) × (s.number ≡ p.1)) (shelf_places refs) x.shelved.shards) (ap (λ (i : SnapInfo). i.indices) (sym same_info) ∙ info.2)
      (AllPairs-map (λ p s (h : ShardStands f (HeldIn f w) w.root x.snap.uuid p s). (h.name_is, h.number_is)) (shelf_places x.stands.info.indices) x.shelved.shards x.stands.shards)

  same_snap : x.snap ≡ a.accepts.listed.0
  unfolding x listed
  same_snap = listed_snap f w shelf l uuid (a.accepts.listed.0, a.accepts.listed.1, a.accepts.listed.3)

  pub asked_shelf : IsShelvedAs shelf name uuid indices
  asked_shelf =
      record {
        shelved = x.shelved;
        there = x.there;
        name_is = x.stands.name_is ∙ ap (λ (s : RootSnap). s.name) same_snap ∙ a.accepts.listed.2;
        uuid_is = x.stands.uuid_is ∙ x.uuid_is;
        only = λ y m e. shelved_one f w shelf l y x.shelved m x.there (e ∙ sym (x.stands.uuid_is ∙ x.uuid_is));
        shards = shards;
      }

-- ---- the front of a history

pub legal_front : (f : Formats) (size : ℕ) (w : World) (log rest : List Moment) → IsLegal f size w (log ++ rest) → IsLegal f size w log
legal_front f size w [] rest h = tt
legal_front f size w (m ∷ log) rest h = (h.0, legal_front f size (after f w m) log rest h.1)

pub told_front : (log rest : List Moment) → AreTold (log ++ rest) → AreTold log
told_front [] rest h = tt
told_front (m ∷ log) rest h = (h.0, told_front log rest h.1)

-- ---- what was asked and is read later

module _ (f : Formats) (size : ℕ) (m : Moment) (name place : Bytes) (o uuid : ℕ) (indices : List IndexRef) (step : m.entry.step ≡ AskStep (Restore name place))
    (reply : m.entry.reply ≡ AcceptedRestore o uuid indices) (k : ℕ) (q : Reader) (of : q.op ≡ o) (files bytes : ℕ) (by : RestoredBy f q files bytes) where
  -- the ask counts for nothing
  no_commands : (w : World) (safe : ℕ) → commands_at f safe w m.entry.who m.entry.step m.entry.reply ≡ []
  no_commands w safe = ap (commands_at f safe w m.entry.who m.entry.step) reply

  opened_at : (w : World) → (after f w m).restores ≡ (restore_opened w uuid place indices).restores
  opened_at w = ap (λ (s : Step). (answered f w m.entry.who s m.entry.reply m.image).restores) step ∙ ap (λ (r : Reply). (answered f w m.entry.who (AskStep (Restore name place)) r m.image).restores) reply

  next_at : (w : World) → (after f w m).next_op ≡ suc w.next_op
  next_at w = ap (λ (s : Step). (answered f w m.entry.who s m.entry.reply m.image).next_op) step ∙ ap (λ (r : Reply). (answered f w m.entry.who (AskStep (Restore name place)) r m.image).next_op) reply

  from_ask : (w : World) (shelf : List Shelved) (rest : List Moment) → Law f w shelf → ReadLaw f w → IsLegal f size w (m ∷ rest) → AreTold (m ∷ rest) → IsReading (world_from f (after f w m) rest) k q
      → IsOnShelf f shelf q files bytes by
  from_ask w shelf rest l r legal told reading =
      let a : AcceptedAs f w m name place o uuid indices = accepted_as f size w m name place o uuid indices legal.0 step reply in
      let asked : IsShelvedAs shelf name uuid indices = asked_shelf f w shelf l m name place o uuid indices told.0.0 told.0.1 a in
      let s : Stepped f w shelf m (after f w m) = step_law f size w shelf l m told.0.0 told.0.1 legal.0 in
      let none : s.commands ≡ [] = sym (s.counted (after f w m).safe (omega arith) (λ e. refl)) ∙ no_commands w (after f w m).safe in
      let law : Law f (after f w m) shelf = subst (λ cs. Law f (after f w m) (shelf_after shelf cs)) none s.law in
      let read : ReadLaw f (after f w m) = read_step_law f size w shelf l r m (after f w m) s in
      let number : o ≡ w.next_op = a.accepts.number in
      let next : (after f w m).next_op ≡ suc w.next_op = next_at w in
      let reads : ReadsShelved (after f w m) shelf o asked.shelved = λ y e. elim (put_was w.restores w.next_op (restore_of uuid place indices) o y (ap (λ (x : FinMap nat_cmp Restoring). fin.get x o) (sym (opened_at w)) ∙ e)) [
        | inl is ↦ (asked.uuid_is ∙ ap (λ (z : Restoring). z.uuid) is.1, asked.there)
        | inr is ↦ absurd (is.0 number)
      ] in
      let last : World = world_from f (after f w m) rest in
      let later : List Shelved = shelf_after shelf (committed f last.safe (after f w m) rest) in
      let on : ReadsShelved last later o asked.shelved = reads_on f size shelf (after f w m) rest o asked.shelved law read (omega (arith, number, next)) reads legal.1 told.1 in
      let last_law : Law f last later = legal_law f size rest (after f w m) shelf law legal.1 told.1 in
      let last_read : ReadLaw f last = read_legal f size rest (after f w m) shelf law read legal.1 told.1 in
      let h : IsOnShelf f later q files bytes by = on_shelf f last later last_law last_read k q reading files bytes by in
      let t = last_read.tracked.readers k q reading.there reading.out in
      let here = on t.r (ap (fin.get last.restores) (sym of) ∙ t.there) in
      let uuids : asked.shelved.uuid ≡ q.uuid = here.0 ∙ sym t.uuid_is in
      let same : asked.shelved ≡ h.shelved = h.only asked.shelved here.1 uuids in
      record {
        shelved = asked.shelved;
        there = asked.there;
        uuid_is = uuids;
        only = λ y has e. asked.only y has (e ∙ sym uuids ∙ asked.uuid_is);
        shard = h.shard;
        shard_there = subst (λ (z : Shelved). Has z.shards h.shard) (sym same) h.shard_there;
        index_is = h.index_is;
        number_is = h.number_is;
        names = h.names;
        contents = h.contents;
        files_is = h.files_is;
        bytes_is = h.bytes_is;
      }

  pub from_start : (before rest : List Moment) (w : World) (shelf : List Shelved) → Law f w shelf → ReadLaw f w → IsLegal f size w (before ++ m ∷ rest) → AreTold (before ++ m ∷ rest)
      → IsReading (world_from f w (before ++ m ∷ rest)) k q → IsOnShelf f (shelf_after shelf (committed f (world_from f w before).safe w before)) q files bytes by
  from_start [] rest w shelf l r legal told reading = from_ask w shelf rest l r legal told reading
  from_start (b ∷ before) rest w shelf l r legal told reading =
      let s : Stepped f w shelf b (after f w b) = step_law f size w shelf l b told.0.0 told.0.1 legal.0 in
      let lasting = lasts f size before (after f w b) (shelf_after shelf s.commands) s.law (legal_front f size (after f w b) before (m ∷ rest) legal.1) (told_front before (m ∷ rest) told.1) in
      let ask : World = world_from f (after f w b) before in
      let mine : commands_at f ask.safe w b.entry.who b.entry.step b.entry.reply ≡ s.commands = s.counted ask.safe lasting.rises lasting.alone in
      let h : IsOnShelf f (shelf_after (shelf_after shelf s.commands) (committed f ask.safe (after f w b) before)) q files bytes by =
      from_start before rest (after f w b) (shelf_after shelf s.commands) s.law (read_step_law f size w shelf l r b (after f w b) s) legal.1 told.1 reading in
      subst (λ (x : List Shelved). IsOnShelf f x q files bytes by)
      (sym (shelf_after-append shelf s.commands (committed f ask.safe (after f w b) before)) ∙ ap (λ cs. shelf_after shelf (cs ++ committed f ask.safe (after f w b) before)) (sym mine)) h
