-- Each name that a delete or cleanup dooms is that of a blob that was there.
use Rattle.std.proofs.Common.{◌≡◌, ◌⊎◌, ℕ, zero, suc, ◌+◌, ◌*◌, ◌≤◌, List, [], ◌∷◌, ◌++◌, append-nil, append_assoc, length, Bool, true, false, Option, Some, None, refl, sym, ap, ◌∙◌, subst, inl, inr, ⊎_elim, arith}
use Rattle.std.specs.Prelude.{if◌then◌else◌}
use Rattle.std.specs.FinMap as fin
use Rattle.std.proofs.lemmas.Option.{none-some}
use Rattle.esr_model.specs.Lists.{Has-right, Has-either}
use Rattle.esr_model.specs.Names.{BlobName, Root}
use Rattle.esr_model.specs.Values.{Bytes, Has, RootData, Kind, IsOneEach, Formats}
use Rattle.esr_model.specs.Shelf.{Shelved}
use Rattle.esr_model.specs.Image.{Image, At, Reads, RootIs}
use Rattle.esr_model.specs.Reach as reach
use Rattle.esr_model.specs.Reach.{Reached}
use Rattle.esr_model.specs.Cleanup.{BlobSize, and_name, names_listed, reaches, unreached, cleaned_names}
use Rattle.esr_core.specs.World.{World, Deleting, Ticket, Swap, swap, HeldIn, Opened, record_of, OpenedEmpty, OpenedRecord}
use Rattle.esr_core.specs.Pruning.{doomed_as, doomed_by, dooms}
use Rattle.esr_core.specs.Ids.{Law}
use Rattle.esr_core.specs.Tracked.{Tracked}
use Rattle.esr_core.specs.ReadTracked.{ReadTracked}
use Rattle.esr_core.specs.Changes.{StepChange, Settlement, TestBlob, SwapFault, BlobsChange}
use Rattle.esr_core.specs.Entry.{Read, CommitTest, SettlePruned, Prune, Step, SettleStep, ReadStep, PruneStep, Reply, Moment}
use Rattle.esr_core.specs.After.{settled_by, settled_of, delete_settled_by, delete_settled, has_text, answered, after}
use Rattle.esr_core.specs.Allowed as allowed
use Rattle.esr_core.specs.Allowed.{InReach, ReadAllows, VerifyAllows, SettlesDeletion, PruneAllows, Allows, Allowed}
use Rattle.esr_core.specs.History.{world_from, is_settle, IsLegal, AllKnown, AreTold}
use Rattle.esr_core.specs.Laws.Histories.{legal_parts, told_parts}
use Rattle.esr_core.specs.Laws.NewRoots.{root_one_each}
use Rattle.esr_core.specs.Laws.NumberMaps.{nothing}
use Rattle.esr_core.specs.Laws.CleanupReach.{and_later, and_first, listed_was}
use Rattle.esr_law.specs.Reach.{HoldsReach}
use Rattle.esr_bounds.specs.Keys.{made_by, IsUnheard, AreHeard, IsHeard}
use Rattle.esr_bounds.specs.Others.{most_shards, most_blobs}
use Rattle.esr_bounds.specs.Laws.{StepLaws, MasterLaws}
use Rattle.esr_bounds.proofs.Once.{looked_at}
use Rattle.esr_bounds.proofs.Idle.{NoneAtZero, still_none}
use Rattle.esr_bounds.proofs.Prunes.{Tells}
use Rattle.esr_bounds.proofs.Listed.{texts, in_texts, written, all_written, length_seen, Seen, seen_now, listed_few}
use Rattle.esr_bounds.proofs.FewShards.{delete_by_names}

-- ---- the names that texts read as

abbrev read_names : Formats → List Bytes → List BlobName
read_names f [] = []
read_names f (text ∷ seen) = and_name (f.names.read text) (read_names f seen)

in_names : (f : Formats) (seen : List Bytes) (text : Bytes) (name : BlobName) → Has seen text → f.names.read text ≡ Some name → Has (read_names f seen) name
in_names f [] text name h is = absurd h
in_names f (x ∷ seen) text name (inl e) is = and_first (f.names.read x) (read_names f seen) name (ap f.names.read e ∙ is)
in_names f (x ∷ seen) text name (inr h) is = and_later (f.names.read x) (read_names f seen) name (in_names f seen text name h is)

length_and : (o : Option BlobName) (names : List BlobName) (n : ℕ) → length names ≤ n → length (and_name o names) ≤ suc n
length_and None names n h = let less : length names ≤ n = h in omega (arith, less)
length_and (Some x) names n h = let less : length names ≤ n = h in let is : suc (length names) ≤ suc n = omega (arith, less) in is

names_few : (f : Formats) (seen : List Bytes) → length (read_names f seen) ≤ length seen
names_few f [] = let is : 0 ≤ 0 = omega arith in is
names_few f (text ∷ seen) = length_and (f.names.read text) (read_names f seen) (length seen) (names_few f seen)

more_names : (f : Formats) (seen more : List Bytes) (name : BlobName) → Has (read_names f seen) name → Has (read_names f (seen ++ more)) name
more_names f [] more name h = absurd h
more_names f (text ∷ seen) more name h = by (f.names.read text) h (λ rest. more_names f seen more name rest)
  where
    by : (o : Option BlobName) → Has (and_name o (read_names f seen)) name → (Has (read_names f seen) name → Has (read_names f (seen ++ more)) name) → Has (and_name o (read_names f (seen ++ more))) name
    by None had on = on had
    by (Some x) (inl e) on = inl e
    by (Some x) (inr had) on = inr (on had)

-- ---- what the safe root reaches

module _ (f : Formats) (w : World) where
  reads_at : {V : Type 0} (name : BlobName) (kind : Kind V) (v : V) → Reads (HeldIn f w) name kind v → Reads (At f w.blobs) name kind v
  reads_at name kind v r = record { bytes = r.bytes; there = r.there.0; reads = r.reads }

  reached_at : (root : RootData) (name : BlobName) → Reached f (HeldIn f w) root name → Reached f (At f w.blobs) root name
  reached_at root name (reach.ReachSnap s h) = reach.ReachSnap s h
  reached_at root name (reach.ReachMeta s h) = reach.ReachMeta s h
  reached_at root name (reach.ReachIndexMeta x u h listed) = reach.ReachIndexMeta x u h listed
  reached_at root name (reach.ReachIndex i k g h) = reach.ReachIndex i k g h
  reached_at root name (reach.ReachShardSnap i k g s held l h reads listed snap is) = reach.ReachShardSnap i k g s held l h (reads_at _ f.shard_index held reads) listed snap is
  reached_at root name (reach.ReachPart i k g held e n h reads listed part) = reach.ReachPart i k g held e n h (reads_at _ f.shard_index held reads) listed part

  none_reached : (name : BlobName) → Reached f (HeldIn f w) (record { snapshots = []; indices = [] }) name → ⊥
  none_reached name (reach.ReachSnap s h) = h
  none_reached name (reach.ReachMeta s h) = h
  none_reached name (reach.ReachIndexMeta x u h listed) = h
  none_reached name (reach.ReachIndex i k g h) = none-some g h
  none_reached name (reach.ReachShardSnap i k g s held l h reads listed snap is) = snap
  none_reached name (reach.ReachPart i k g held e n h reads listed part) = none-some g h

  in_reach : (name : BlobName) → RootIs f (HeldIn f w) w.safe w.root → Reached f (HeldIn f w) w.root name ⊎ ((m : ℕ) × (name ≡ Root m) × (w.safe ≡ suc m)) → InReach f w name
  in_reach name root (inr own) = (own.0, own.2, inl own.1)
  in_reach name root (inl reached) = by w.safe refl root
    where
      by : (safe : ℕ) → w.safe ≡ safe → RootIs f (HeldIn f w) safe w.root → InReach f w name
      by zero is none = absurd (none_reached name (subst (λ (r : RootData). Reached f (HeldIn f w) r name) none reached))
      by (suc n) is reads = (n, is, inr (w.root, reads_at (Root n) f.root w.root reads, reached_at w.root name reached))

-- ---- what a cleanup lists

cleaned_from : (f : Formats) (number : Option ℕ) (root : RootData) (read : List (BlobName × Bytes)) (names : List BlobName) (name : BlobName) → Has (unreached f number root read names) name → Has names name
cleaned_from f number root read [] name h = h
cleaned_from f number root read (x ∷ names) name h = by (reaches f number root read x) h (λ rest. cleaned_from f number root read names name rest)
  where
    by : (b : Bool) → Has (if b then unreached f number root read names else x ∷ unreached f number root read names) name → (Has (unreached f number root read names) name → Has names name) → Has (x ∷ names) name
    by true had on = inr (on had)
    by false (inl e) on = inl e
    by false (inr had) on = inr (on had)

cleaned_listed : (f : Formats) (number : Option ℕ) (root : RootData) (read : List (BlobName × Bytes)) (listed : List BlobSize) (name : BlobName) → Has (cleaned_names f number root read listed) name → Has (names_listed f listed) name
unfolding cleaned_names
cleaned_listed f number root read listed name h = cleaned_from f number root read (names_listed f listed) name h

-- ---- what holds of a world

record DoomsIn (f : Formats) (seen : List Bytes) (w : World) : Type 0 where
  seen_in : Seen seen w
  doomed : (name : BlobName) → Has w.doomed name → Has (read_names f seen) name

-- what each settle of a delete dooms was reached
abbrev pub DoomLaw : Formats → Type 0
DoomLaw f = (w : World) (shelf : List Shelved) (k : ℕ) (s : SettlesDeletion f w k) → Law f w shelf → s.t.term ≡ w.term → s.t.clean ≡ false → (name : BlobName) → Has (dooms f s.t) name
    → Reached f (HeldIn f w) w.root name ⊎ ((m : ℕ) × (name ≡ Root m) × (w.safe ≡ suc m))

module _ (f : Formats) (w : World) (seen : List Bytes) (h : Seen seen w) (shelf : List Shelved) (law : Law f w shelf) (holds : HoldsReach f w) (dooming : DoomLaw f) where
  settle_names : (k : ℕ) (s : SettlesDeletion f w k) → s.t.term ≡ w.term → (name : BlobName) → Has (dooms f s.t) name → Has (read_names f seen) name
  settle_names k s present name had = by s.t.clean refl
    where
      by : (clean : Bool) → s.t.clean ≡ clean → Has (read_names f seen) name
      by false deletes =
          let there = holds name (in_reach f w name law.lawful.sound.carried.root_is (dooming w shelf k s law present deletes name had)) in
          in_names f seen (f.names.text name) name (h.blobs (f.names.text name) there.0 there.1.0) there.1.1.0
      by true cleans =
          let was = listed_was f s.t.listed name
          (cleaned_listed f s.t.raised s.s.root (s.s.own ++ s.t.read) s.t.listed name (subst (λ (l : List BlobName). Has l name) (ap (doomed_by f s.t) s.deleting.work ∙ ap (doomed_as f s.t s.uuids s.s) cleans) had)) in
          in_names f seen was.0.text name (h.listed k s.t was.0 s.may.out.there was.1) was.2

  abbrev Keeps : World → Type 0
  Keeps new = (name : BlobName) → Has new.doomed name → Has w.doomed name ⊎ Has (read_names f seen) name

  either_keeps : (up : World) (b : Bool) → Keeps up → Keeps (record (if b then up else w) { deposed = true })
  either_keeps up true keeps name had = keeps name had
  either_keeps up false keeps name had = inl had

  settled_keeps : (k : ℕ) (t : Ticket) (o : Option Swap) (n : Option ℕ) → Keeps (settled_by f w k t o n)
  settled_keeps k t (Some s) (Some n) name had = inl had
  settled_keeps k t o n name had = inl had

  final_keeps : (k : ℕ) (o : Option Ticket) → Keeps (settled_of f w k o)
  final_keeps k None name had = inl had
  final_keeps k (Some t) name had = settled_keeps k t (swap f t) t.raised name had

  pruned_keeps : (k : ℕ) (t : Ticket) → ((name : BlobName) → Has (dooms f t) name → Has (read_names f seen) name) → (o : Option Swap) (n : Option ℕ) → Keeps (delete_settled_by f w k t o n)
  pruned_keeps k t names (Some s) (Some n) name had = ⊎_elim (λ (new : Has (dooms f t) name). inr (names name new)) (λ (old : Has w.doomed name). inl old) (Has-either (dooms f t) w.doomed name had)
  pruned_keeps k t names o n name had = inl had

  delete_keeps : (k : ℕ) (s : SettlesDeletion f w k) → s.t.term ≡ w.term → Keeps (delete_settled f w k (fin.get w.tickets k))
  delete_keeps k s present = subst (λ (o : Option Ticket). Keeps (delete_settled f w k o)) (sym s.may.out.there) (pruned_keeps k s.t (settle_names k s present) (swap f s.t) s.t.raised)

  prune_keeps : (k : ℕ) (prune : Prune) (reply : Reply) (image : Option Image) → prune ≡ SettlePruned → PruneAllows f w k prune reply image → Keeps (answered f w k (PruneStep prune) reply image)
  prune_keeps k SettlePruned reply image is (allowed.SettlingDelete j im s present same) = delete_keeps k s present
  prune_keeps k SettlePruned reply image is (allowed.SettleDeleteStale j im s apart same) = λ name had. inl had
  prune_keeps k SettlePruned reply image is (allowed.SettleDeleteFails j im s present same) =
      either_keeps (delete_settled f w k (fin.get w.tickets k)) (has_text image (f.cluster.text (record_of (delete_settled f w k (fin.get w.tickets k))))) (delete_keeps k s present)
  prune_keeps k prune reply image is a = absurd cc

  settle_prune : (prune : Prune) → is_settle (PruneStep prune) ≡ true → prune ≡ SettlePruned
  settle_prune SettlePruned is = refl
  settle_prune prune is = absurd cc

  by_settle : (size k : ℕ) (step : Step) (reply : Reply) (image : Option Image) → is_settle step ≡ true → Allows f size w k step reply image → Keeps (answered f w k step reply image)
  by_settle size k SettleStep reply image is (allowed.Settling j im s same) = final_keeps k (fin.get w.tickets k)
  by_settle size k SettleStep reply image is (allowed.SettleStale j n t s im may apart same) = λ name had. inl had
  by_settle size k SettleStep reply image is (allowed.SettleFails j im s same) =
      either_keeps (settled_of f w k (fin.get w.tickets k)) (has_text image (f.cluster.text (record_of (settled_of f w k (fin.get w.tickets k))))) (final_keeps k (fin.get w.tickets k))
  by_settle size k (PruneStep prune) reply image is (allowed.Pruning j p rep im a) = prune_keeps k prune reply image (settle_prune prune is) a
  by_settle size k step reply image is a = absurd cc

-- ---- the name of a test blob

module _ (f : Formats) (size : ℕ) (w : World) where
  same_commit : (a b : BlobName) → CommitTest a ≡ CommitTest b → a ≡ b
  same_commit a b e = cc

  commit_verify : (read : Read) (reply : Reply) (image : Option Image) → VerifyAllows f w read reply image → (name : BlobName) → read ≡ CommitTest name → f.names.read (f.names.text name) ≡ Some name
  commit_verify read reply image (allowed.CommittingTest n bytes im own free adds) name is = subst (λ (x : BlobName). f.names.read (f.names.text x) ≡ Some x) (same_commit n name is) own.stored.0
  commit_verify read reply image (allowed.TestTaken n im own there) name is = subst (λ (x : BlobName). f.names.read (f.names.text x) ≡ Some x) (same_commit n name is) own.stored.0
  commit_verify read reply image (allowed.CommitTestFails n bytes im own leaves) name is = subst (λ (x : BlobName). f.names.read (f.names.text x) ≡ Some x) (same_commit n name is) own.stored.0
  commit_verify read reply image other name is = absurd cc

  no_read : (k : ℕ) (read : Read) (reply : Reply) (image : Option Image) → ReadAllows f w k read reply image → (name : BlobName) → read ≡ CommitTest name → ⊥
  no_read k read reply image (allowed.ReadFound j n im stored by found) name is = cc
  no_read k read reply image other name is = cc

  same_read : (a b : Read) → ReadStep a ≡ ReadStep b → a ≡ b
  same_read a b e = cc

  by_commit : (k : ℕ) (step : Step) (reply : Reply) (image : Option Image) → Allows f size w k step reply image → (name : BlobName) → step ≡ ReadStep (CommitTest name) → f.names.read (f.names.text name) ≡ Some name
  by_commit k (ReadStep read) reply image (allowed.Verifying r rep im a) name is = commit_verify read reply image a name (same_read read (CommitTest name) is)
  by_commit k (ReadStep read) reply image (allowed.Reading j r rep im a same) name is = absurd (no_read k read reply image a name (same_read read (CommitTest name) is))
  by_commit k step reply image a name is = absurd cc

  -- what is doomed was so, or is a test blob, or a settle dooms it
  abbrev DoomedFrom : Step → World → Type 0
  DoomedFrom step new = (name : BlobName) → Has new.doomed name → Has w.doomed name ⊎ ((step ≡ ReadStep (CommitTest name)) ⊎ (is_settle step ≡ true))

  doomed_from : (who : ℕ) (step : Step) (new : World) → StepChange f w who step new → DoomedFrom step new
  doomed_from who step new (Settlement settle t s n names deletes there is raised left) name had = inr (inr settle)
  doomed_from who step new (TestBlob test is) name (inl e) = inr (inl (is ∙ ap (λ (n : BlobName). ReadStep (CommitTest n)) e))
  doomed_from who step new (TestBlob test is) name (inr had) = inl had
  doomed_from who step new (SwapFault swaps up change) name had = doomed_from who step up change name had
  doomed_from who step new other name had = inl had

-- ---- over a history

snoc : (f : Formats) (before : List Moment) (m : Moment) (w : World) → world_from f w (before ++ m ∷ []) ≡ after f (world_from f w before) m
snoc f [] m w = refl
snoc f (x ∷ before) m w = snoc f before m (after f w x)

module _ (f : Formats) (size : ℕ) (known : AllKnown f) (laws : StepLaws f size) (masters : MasterLaws f size)
    (blobs_change : (w : World) (m : Moment) (i : Image) → m.image ≡ Some i → Allowed f size w m → BlobsChange f w m.entry.step i.blobs)
    (dooming : DoomLaw f) (holds : (w : World) (shelf : List Shelved) → Law f w shelf → HoldsReach f w) where
  dooms_now : (w : World) (m : Moment) → Tracked w → ReadTracked w → Allowed f size w m → (IsUnheard m.entry.reply → ⊥) → Tells m.image → NoneAtZero w → (shelf : List Shelved) → Law f w shelf → (seen : List Bytes)
      → DoomsIn f seen w → DoomsIn f (seen ++ written f m.entry.step) (after f w m)
  dooms_now w m tracked reads a heard told none shelf law seen h = record {
    seen_in = seen_now f size known laws blobs_change w m tracked reads a heard told none seen h.seen_in;
    doomed = λ name had. ⊎_elim
        (λ (old : Has w.doomed name). more_names f seen (written f m.entry.step) name (h.doomed name old))
        (λ (new : (m.entry.step ≡ ReadStep (CommitTest name)) ⊎ (is_settle m.entry.step ≡ true)). by name had new)
        (doomed_from f size w m.entry.who m.entry.step (answered f w m.entry.who m.entry.step m.entry.reply m.image) (masters.change w m.entry.who m.entry.step m.entry.reply m.image) name had);
  }
    where
      alive : Allows f size w m.entry.who m.entry.step m.entry.reply m.image
      alive = (looked_at f size laws w m a heard).1

      by : (name : BlobName) → Has (answered f w m.entry.who m.entry.step m.entry.reply m.image).doomed name → (m.entry.step ≡ ReadStep (CommitTest name)) ⊎ (is_settle m.entry.step ≡ true)
          → Has (read_names f (seen ++ written f m.entry.step)) name
      by name had (inl commit) =
          in_names f (seen ++ written f m.entry.step) (f.names.text name) name
          (Has-right seen (written f m.entry.step) (f.names.text name) (subst (λ (s : Step). Has (written f s) (f.names.text name)) (sym commit) (inl refl)))
          (by_commit f size w m.entry.who m.entry.step m.entry.reply m.image alive name commit)
      by name had (inr settle) = more_names f seen (written f m.entry.step) name
          (⊎_elim (λ (old : Has w.doomed name). h.doomed name old) (λ (new : Has (read_names f seen) name). new)
          (by_settle f w seen h.seen_in shelf law (holds w shelf law) dooming size m.entry.who m.entry.step m.entry.reply m.image settle alive name had))

  module _ (first : World) (whole : List Moment) (law_at : (before rest : List Moment) → before ++ rest ≡ whole → (shelf : List Shelved) × Law f (world_from f first before) shelf) where
    dooms_from : (before : List Moment) (w : World) (log : List Moment) (seen : List Bytes) → before ++ log ≡ whole → world_from f first before ≡ w → Tracked w → ReadTracked w → IsLegal f size w log → AreHeard log → AreTold log
        → NoneAtZero w → DoomsIn f seen w → DoomsIn f (seen ++ all_written f log) (world_from f w log)
    dooms_from before w [] seen is same tracked reads legal heard told none h = subst (λ (l : List Bytes). DoomsIn f l w) (sym (append-nil seen)) h
    dooms_from before w (m ∷ log) seen is same tracked reads legal heard told none h =
        let law = law_at before (m ∷ log) is in
        subst (λ (l : List Bytes). DoomsIn f l (world_from f (after f w m) log)) (append_assoc seen (written f m.entry.step) (all_written f log))
        (dooms_from (before ++ m ∷ []) (after f w m) log (seen ++ written f m.entry.step) (append_assoc before (m ∷ []) log ∙ is) (snoc f before m first ∙ ap (λ (x : World). after f x m) same)
        (laws.tracks w m tracked legal.0) (laws.reads w m tracked reads legal.0) legal.1 (λ n had. heard n (inr had)) told.1 (still_none f size laws w m tracked none)
        (dooms_now w m tracked reads legal.0 (heard m (inl refl)) told.0 none law.0 (subst (λ (x : World). Law f x law.0) same law.1) seen h))

  pub delete_closed : (w : World) (log : List Moment) (h : IsHeard f size w log) (told : AreTold log) → ((before rest : List Moment) → before ++ rest ≡ log → (shelf : List Shelved) × Law f (world_from f w before) shelf) → w.doomed ≡ []
      → IsOneEach w.root.indices
      → (k : ℕ) (t : Ticket) (uuids : List ℕ) (plan : Option Swap) → 1 ≤ k → fin.get (world_from f w log).tickets k ≡ Some t → t.work ≡ Deleting uuids plan → made_by log k ≤ 15 + (3 * most_shards w log + 2 * most_blobs w log)
  delete_closed w log h told law_at undoomed one_each k t uuids plan some there is =
      sum (made_by log k) (most_shards w log) (length t.listed) (length (read_names f seen)) (length seen) (most_blobs w log)
      (delete_by_names f size known laws masters w log h told one_each k t some there (read_names f seen) (λ name settled had. by plan is name settled had) uuids plan is)
      (listed_few f size known laws blobs_change w log h told k t there) (names_few f seen) (length_seen f w log)
    where
      seen : List Bytes
      seen = texts w.blobs ++ all_written f log

      last : DoomsIn f seen (world_from f w log)
      last = dooms_from w log law_at [] w log (texts w.blobs) refl refl h.tracked h.readers h.legal h.heard told (λ u at. nothing w.tickets 0 u h.untouched.tickets at)
          (record {
            seen_in = record { blobs = λ text bytes at. in_texts w.blobs text bytes at; listed = λ j u b at had. absurd (nothing w.tickets j u h.untouched.tickets at); rising = λ j u at. absurd (nothing w.tickets j u h.untouched.tickets at) };
            doomed = λ name had. absurd (subst (λ (l : List BlobName). Has l name) undoomed had);
          })

      by : (o : Option Swap) → t.work ≡ Deleting uuids o → (name : BlobName) → t.settled ≡ true → Has (dooms f t) name → Has (read_names f seen) name
      by None planless name settled had = absurd (subst (λ (l : List BlobName). Has l name) (ap (doomed_by f t) planless) had)
      by (Some s) plans name settled had = last.doomed name ((law_at log [] (append-nil log)).1.pruned.settled k t uuids s there settled plans name had)

      sum : (m s l d e b : ℕ) → m ≤ 15 + (3 * s + (l + d)) → l ≤ b → d ≤ e → e ≡ b → m ≤ 15 + (3 * s + 2 * b)
      sum m s l d e b p q r u = let one : m ≤ 15 + (3 * s + (l + d)) = p in let two : l ≤ b = q in let three : d ≤ e = r in let four : e ≡ b = u in omega (arith, one, two, three, four)

-- the law holds at each moment
pub law_parts : (f : Formats) (size : ℕ) (w : World) → ((log : List Moment) → IsLegal f size w log → AreTold log → (now : List Shelved) × Law f (world_from f w log) now) → (log : List Moment) → IsLegal f size w log → AreTold log
    → (before rest : List Moment) → before ++ rest ≡ log → (now : List Shelved) × Law f (world_from f w before) now
law_parts f size w law log legal told before rest is =
    law before (legal_parts f size before rest w (subst (IsLegal f size w) (sym is) legal)).0 (told_parts before rest (subst AreTold (sym is) told)).0

-- what an opened world begins with
pub opened_parts : (f : Formats) (image : Image) (w : World) → Opened f image w → (w.doomed ≡ []) × (w.restores ≡ fin.empty) × IsOneEach w.root.indices
opened_parts f image w (OpenedEmpty none) = (refl, refl, λ x y had. absurd had)
opened_parts f image w (OpenedRecord cluster text root there reads root_is) = (refl, refl, root_one_each f (At f image.blobs) cluster.ledger.safe root root_is)
