-- The ticket of a delete or cleanup has made no more steps than its root has shards, and it has listed and doomed names.
use Rattle.std.proofs.Common.{◌≡◌, ◌≢◌, ℕ, suc, ◌+◌, ◌*◌, ◌<◌, ◌≤◌, List, [], ◌∷◌, ◌++◌, length, map, true, Option, Some, None, refl, sym, ap, ◌∙◌, subst, inl, inr, ⊎_elim, arith}
use Rattle.std.proofs.lemmas.Bool.Decides.{eqb_tells}
use Rattle.std.proofs.lemmas.List.{length-append, length-map}
use Rattle.std.specs.FinMap as fin
use Rattle.std.proofs.lemmas.Option.{same_Some, none-some}
use Rattle.esr_model.specs.Lists.{Has-left, Has-right, Has-map}
use Rattle.esr_model.specs.Names.{BlobName, ShardIndex}
use Rattle.esr_model.specs.Values.{Bytes, Has, Formats}
use Rattle.esr_model.specs.Image.{Blobs, Image}
use Rattle.esr_model.specs.Cleanup.{BlobSize}
use Rattle.esr_core.specs.World.{World, Work, Deleting, Ticket, Swap, swap, swap_of}
use Rattle.esr_core.specs.Steps.{IsOut}
use Rattle.esr_core.specs.Past.{entries_by}
use Rattle.esr_core.specs.Pruning.{dooms}
use Rattle.esr_core.specs.Tracked.{Tracked}
use Rattle.esr_core.specs.ReadTracked.{ReadTracked}
use Rattle.esr_core.specs.Changes.{IsUnits, IsNewTicket, SameUnit, Maker, ClientStep, ReaderStep, UnitStep}
use Rattle.esr_core.specs.Entry.{ReadBlob, Prune, FetchShard, RemoveDoomed, Step, ListStep, ReadStep, PruneStep, Reply, Entry, Moment}
use Rattle.esr_core.specs.After.{answered, after}
use Rattle.esr_core.specs.Allowed as allowed
use Rattle.esr_core.specs.Allowed.{Told, FetchesShard, ListsPage, RemovesDoomed, PruneAllows, Allows, Allowed}
use Rattle.esr_core.specs.History.{world_from, IsLegal, AllKnown, AreTold}
use Rattle.esr_bounds.specs.Keys.{Key, IndexKey, PageKey, RemovalKey, key, keys, made_by, IsUnheard, AreHeard, IsUntouched, IsHeard}
use Rattle.esr_bounds.specs.Most.{shard_names, swap_names, names_of, keys_of, IsOfDelete, MayDo}
use Rattle.esr_bounds.specs.Others.{generation_names, start_at, page_starts, DoesPrune, most_of_delete}
use Rattle.esr_bounds.specs.Laws.{StepLaws, MasterLaws}
use Rattle.esr_core.specs.Laws.NumberMaps.{nothing}
use Rattle.esr_bounds.proofs.Few.{few_once}
use Rattle.esr_bounds.proofs.Further.{in_generations, few_plan, Planned, last_start, more_starts, Further}
use Rattle.esr_bounds.proofs.OwnSteps.{page_of, own_step}
use Rattle.esr_bounds.proofs.Once.{Kept, counted, never_anew, blocked_unheard, looked_at, step_kept, untouched_kept, heard_kept}
use Rattle.esr_bounds.proofs.Bounded.{length_keys, few_keys, names_by, bounded, made_within}
use Rattle.esr_bounds.proofs.Given.{by_take}
use Rattle.esr_bounds.proofs.Masters.{ReadyOf, take_ready}

-- ---- the key of a step

-- the container told
abbrev pub Tells : Option Image → Type 0
Tells image = (i : Image) × (image ≡ Some i)

pub told_is : (image : Option Image) (i : Image) (P : Blobs → Type 0) → image ≡ Some i → Told image P → P i.blobs
told_is image i P is h = subst (λ (o : Option Image). Told o P) is h

module _ (f : Formats) (size : ℕ) (w : World) (k : ℕ) (t : Ticket) (there : fin.get w.tickets k ≡ Some t) where
  same_out : (u : Ticket) → IsOut w k u → u ≡ t
  same_out u out = same_Some u t (sym out.there ∙ there)

  fetches : (name : BlobName) → FetchesShard f w k name → Has (generation_names t.root.indices) name
  fetches name g =
      subst (λ (x : Ticket). Has (generation_names x.root.indices) name) (same_out g.t g.deleting.out)
      (subst (Has (generation_names g.t.root.indices)) (ap (λ (i : ℕ). ShardIndex i g.number g.generation) g.to_read.id ∙ sym g.name_is)
      (in_generations g.t.root.indices g.to_read.x g.number g.generation g.to_read.there g.to_read.at))

  lists : (from : Option Bytes) → ListsPage w k from → Has (page_starts t.listed) from
  lists from g = subst (λ (x : Ticket). Has (page_starts x.listed) from) (same_out g.t g.out) (subst (Has (page_starts g.t.listed)) (sym g.from_is) (last_start g.t.listed))

  removes : (name : BlobName) (names : List BlobName) (image : Option Image) → Tells image → RemovesDoomed f w k (name ∷ names) image → (t.settled ≡ true) × Has (dooms f t) name
  removes name names image told r = (
    ap (λ (x : Ticket). x.settled) (sym (same_out r.t r.deleting.out)) ∙ r.settled,
    subst (λ (x : Ticket). Has (dooms f x) name) (same_out r.t r.deleting.out) (told_is image told.0 (λ blobs. (n : BlobName) → Has (name ∷ names) n → Has (dooms f r.t) n) told.1 r.doomed name (inl refl)),
  )

module _ (f : Formats) (size : ℕ) (w : World) where
  prunes : (k : ℕ) (t : Ticket) → fin.get w.tickets k ≡ Some t → (prune : Prune) (reply : Reply) (image : Option Image) → Tells image → PruneAllows f w k prune reply image → DoesPrune f t (key (PruneStep prune))
  prunes k t there (FetchShard name) reply image told (allowed.FetchingShard j n im g found) = fetches f size w k t there name g
  prunes k t there (FetchShard name) reply image told (allowed.ShardMissing j n im g gone) = fetches f size w k t there name g
  prunes k t there (FetchShard name) reply image told (allowed.FetchShardFails j n im g same) = fetches f size w k t there name g
  prunes k t there (RemoveDoomed (name ∷ names)) reply image told (allowed.RemovingDoomed j ns im r removed) = removes f size w k t there name names image told r
  prunes k t there (RemoveDoomed (name ∷ names)) reply image told (allowed.RemoveDoomedFails j ns im r some) = removes f size w k t there name names image told r
  prunes k t there prune reply image told a = tt

  does_prune : (k : ℕ) (t : Ticket) → fin.get w.tickets k ≡ Some t → (step : Step) (reply : Reply) (image : Option Image) → Tells image → Allows f size w k step reply image → DoesPrune f t (key step)
  does_prune k t there (ListStep from) reply image told (allowed.Listing j start page im g shape here) = lists f size w k t there from g
  does_prune k t there (ListStep from) reply image told (allowed.ListFails j start im g same) = lists f size w k t there from g
  does_prune k t there (PruneStep prune) reply image told (allowed.Pruning j p rep im h) = prunes k t there prune reply image told h
  does_prune k t there (ReadStep (ReadBlob name)) reply image told a = tt
  does_prune k t there step reply image told a = tt

-- what it has done stays so
prunes_on : (f : Formats) (t : Ticket) (page : List BlobSize) (v : Ticket) → Further f t page v → (x : Key) → DoesPrune f t x → DoesPrune f v x
prunes_on f t page v g (IndexKey name) h = subst (λ r. Has (generation_names r.indices) name) (sym g.root) h
prunes_on f t page v g (PageKey from) h = subst (λ (l : List BlobSize). Has (page_starts l) from) (sym g.listed) (more_starts t.listed page from h)
prunes_on f t page v g (RemovalKey name) h = (g.settled h.0, subst (λ (l : List BlobName). Has l name) (sym (g.doomed h.0)) h.1)
prunes_on f t page v g x h = tt

-- ---- what holds of a world

pub record Pruned (f : Formats) (w : World) : Type 0 where
  pub few : (k : ℕ) (t : Ticket) → 1 ≤ k → fin.get w.tickets k ≡ Some t → Planned t
  pub listed : (k : ℕ) (t : Ticket) (x : Key) → 1 ≤ k → fin.get w.tickets k ≡ Some t → Has (keys (entries_by w.entries k)) x → DoesPrune f t x

abbrev PrunedAt : Formats → World → ℕ → Ticket → Type 0
PrunedAt f new k v = Planned v × ((x : Key) → Has (keys (entries_by new.entries k)) x → DoesPrune f v x)

module _ (f : Formats) (size : ℕ) (known : AllKnown f) (laws : StepLaws f size) (masters : MasterLaws f size) where
  module _ (w : World) (m : Moment) (tracked : Tracked w) (reads : ReadTracked w) (a : Allowed f size w m) (heard : IsUnheard m.entry.reply → ⊥) (told : Tells m.image) (kept : Kept w) (pruned : Pruned f w) where
    -- one that was just given has no plan
    new_few : (v : Ticket) → fin.get (after f w m).tickets w.next_ticket ≡ Some v → Planned v
    new_few v now uuids s is = absurd (none-some s (sym (unplanned.2)))
      where
        unplanned : ReadyOf w v.op (Deleting uuids (Some s))
        unplanned =
            subst (ReadyOf w v.op) is
            (take_ready f size w tracked v m.entry.who m.entry.step m.entry.reply m.image
            (by_take f w tracked m.entry.who m.entry.step (answered f w m.entry.who m.entry.step m.entry.reply m.image) (masters.change w m.entry.who m.entry.step m.entry.reply m.image) v now) (looked_at f size laws w m a heard).1 now)

    -- another's
    other_at : (k : ℕ) (v : Ticket) → 1 ≤ k → k ≢ m.entry.who → fin.get (after f w m).tickets k ≡ Some v → PrunedAt f (after f w m) k v
    other_at k v some other there = elim (eqb_tells k w.next_ticket) [
      | inl given ↦
          let none : entries_by (after f w m).entries k ≡ [] = laws.others w.entries m.entry k other ∙ kept.none k some (let same : k ≡ w.next_ticket = given.1 in omega (arith, same)) in (
            new_few v (subst (λ (n : ℕ). fin.get (after f w m).tickets n ≡ Some v) given.1 there),
            λ x h. absurd (subst (λ (es : List Entry). Has (keys es) x) none h),
          )
      | inr aside ↦
          let before : fin.get w.tickets k ≡ Some v = sym ((laws.frame w m).others k other aside.1) ∙ there in
          (pruned.few k v some before, λ x h. pruned.listed k v x some before (subst (λ (es : List Entry). Has (keys es) x) (laws.others w.entries m.entry k other) h))
    ]

    -- its own
    own_at : (t v : Ticket) → 1 ≤ m.entry.who → fin.get w.tickets m.entry.who ≡ Some t → IsUnits m.entry.step → fin.get (after f w m).tickets m.entry.who ≡ Some v → PrunedAt f (after f w m) m.entry.who v
    own_at t v some there unit now =
        let alive = (looked_at f size laws w m a heard).1 in
        let own = (own_step f size known w m.entry.who t there m.entry.step m.entry.reply m.image unit alive).0 in
        let page : List BlobSize = page_of m.entry.step m.entry.reply in
        let further : Further f t page v = subst (Further f t page) (same_Some own.v v (sym own.at ∙ now)) own.further in (
          further.plan (pruned.few m.entry.who t some there),
          λ x h. prunes_on f t page v further x
              (⊎_elim
              (λ (here : key m.entry.step ≡ x). subst (DoesPrune f t) here (does_prune f size w m.entry.who t there m.entry.step m.entry.reply m.image told alive))
              (λ (before : Has (keys (entries_by w.entries m.entry.who)) x). pruned.listed m.entry.who t x some there before)
              (subst (λ (es : List Entry). Has (keys es) x) (laws.own w.entries m.entry (counted m.entry.reply heard) (never_anew m.entry.who m.entry.step some)) h)),
        )

    mine_at : (v : Ticket) → 1 ≤ m.entry.who → fin.get (after f w m).tickets m.entry.who ≡ Some v → PrunedAt f (after f w m) m.entry.who v
    mine_at v some now = elim (laws.maker w m a) [
      | inl maker ↦ by maker
      | inr dead ↦ absurd (heard (subst IsUnheard (sym dead.refused) (blocked_unheard w m.entry.who m.entry.step dead.refusal dead.blocks)))
    ]
      where
        by : Maker w m.entry.who m.entry.step → PrunedAt f (after f w m) m.entry.who v
        by (ClientStep nobody own) = let no : m.entry.who ≡ 0 = nobody in absurd (omega (arith, some, no))
        by (UnitStep t out own) = own_at t v some out.there own now
        by (ReaderStep q reading own) = absurd (⊎_elim
            (λ (old : (t : Ticket) × (fin.get w.tickets m.entry.who ≡ Some t) × SameUnit t v). reads.apart.tickets m.entry.who q old.0 reading.there old.1)
            (λ (new : (m.entry.who ≡ w.next_ticket) × IsNewTicket w v).
            let below : m.entry.who < w.next_ticket = (reads.tracked.tickets m.entry.who q reading.there).1 in
            let same : m.entry.who ≡ w.next_ticket = new.0 in
            omega (arith, below, same))
            ((laws.frame w m).come m.entry.who v now))

    pruned_at : (k : ℕ) (v : Ticket) → 1 ≤ k → fin.get (after f w m).tickets k ≡ Some v → PrunedAt f (after f w m) k v
    pruned_at k v some there = elim (eqb_tells k m.entry.who) [
      | inl mine ↦ subst (λ (n : ℕ). PrunedAt f (after f w m) n v) (sym mine.1) (mine_at v (subst (λ (n : ℕ). 1 ≤ n) mine.1 some) (subst (λ (n : ℕ). fin.get (after f w m).tickets n ≡ Some v) mine.1 there))
      | inr other ↦ other_at k v some other.1 there
    ]

    pub step_pruned : Pruned f (after f w m)
    step_pruned = record { few = λ k v some there. (pruned_at k v some there).0; listed = λ k v x some there h. (pruned_at k v some there).1 x h }

  log_pruned : (w : World) (log : List Moment) → Tracked w → ReadTracked w → Kept w → Pruned f w → IsLegal f size w log → AreHeard log → AreTold log → Pruned f (world_from f w log)
  log_pruned w [] tracked reads kept pruned legal heard told = pruned
  log_pruned w (m ∷ log) tracked reads kept pruned legal heard told =
      log_pruned (after f w m) log (laws.tracks w m tracked legal.0) (laws.reads w m tracked reads legal.0) (step_kept f size laws w m tracked reads legal.0 (heard m (inl refl)) kept)
      (step_pruned w m tracked reads legal.0 (heard m (inl refl)) told.0 kept pruned) legal.1 (λ n h. heard n (inr h)) told.1

pub untouched_pruned : (f : Formats) (w : World) → IsUntouched w → Pruned f w
untouched_pruned f w h = record { few = λ k t some there. absurd (nothing w.tickets k t h.tickets there); listed = λ k t x some there has. absurd (nothing w.tickets k t h.tickets there) }

-- ---- how many steps it has made

-- where each index that it may fetch is one of these, and each name that it dooms
abbrev delete_keys : List BlobName → List BlobName → Ticket → List Key
delete_keys indices doomed t = map IndexKey indices ++ (map PageKey (page_starts t.listed) ++ map RemovalKey doomed)

in_delete : (f : Formats) (indices doomed : List BlobName) (t : Ticket) → ((name : BlobName) → Has (generation_names t.root.indices) name → Has indices name)
    → ((name : BlobName) → t.settled ≡ true → Has (dooms f t) name → Has doomed name) → (x : Key) → IsOfDelete x → DoesPrune f t x → Has (delete_keys indices doomed t) x
in_delete f indices doomed t among gone (IndexKey name) own h = Has-left (map IndexKey indices) (map PageKey (page_starts t.listed) ++ map RemovalKey doomed) (IndexKey name) (Has-map IndexKey indices name (among name h))
in_delete f indices doomed t among gone (PageKey from) own h =
    Has-right (map IndexKey indices) (map PageKey (page_starts t.listed) ++ map RemovalKey doomed) (PageKey from)
    (Has-left (map PageKey (page_starts t.listed)) (map RemovalKey doomed) (PageKey from) (Has-map PageKey (page_starts t.listed) from h))
in_delete f indices doomed t among gone (RemovalKey name) own h =
    Has-right (map IndexKey indices) (map PageKey (page_starts t.listed) ++ map RemovalKey doomed) (RemovalKey name)
    (Has-right (map PageKey (page_starts t.listed)) (map RemovalKey doomed) (RemovalKey name) (Has-map RemovalKey doomed name (gone name h.0 h.1)))
in_delete f indices doomed t among gone x own h = absurd own

length_delete : (indices doomed : List BlobName) (t : Ticket) → length (delete_keys indices doomed t) ≡ length indices + (suc (length t.listed) + length doomed)
length_delete indices doomed t =
    length-append (map IndexKey indices) (map PageKey (page_starts t.listed) ++ map RemovalKey doomed)
    ∙ ap (λ (n : ℕ). length (map IndexKey indices) + n) (length-append (map PageKey (page_starts t.listed)) (map RemovalKey doomed))
    ∙ three (length (map IndexKey indices)) (length (map PageKey (page_starts t.listed))) (length (map RemovalKey doomed)) (length indices) (length t.listed) (length doomed)
    (length-map indices IndexKey) (length-map (page_starts t.listed) PageKey ∙ ap suc (length-map t.listed start_at)) (length-map doomed RemovalKey)
  where
    three : (a b c x y z : ℕ) → a ≡ x → b ≡ suc y → c ≡ z → a + (b + c) ≡ x + (suc y + z)
    three a b c x y z p q r = let one : a ≡ x = p in let two : b ≡ suc y = q in let last : c ≡ z = r in omega (arith, one, two, last)

-- a plan writes few names
pub few_swap : (f : Formats) (size : ℕ) (t : Ticket) (uuids : List ℕ) (plan : Option Swap) (n : ℕ) → t.work ≡ Deleting uuids plan → ((s : Swap) → t.work ≡ Deleting uuids (Some s) → length s.own ≤ n)
    → length (shard_names f size t t.work t.first t.drawn) + length (swap_names (swap f t)) ≤ n
few_swap f size t uuids plan n is few = subst (λ (work : Work). length (shard_names f size t work t.first t.drawn) + length (swap_names (swap_of f work t.root)) ≤ n) (sym is) (by plan is)
  where
    zero_le : (a : ℕ) → 0 + 0 ≤ a
    zero_le a = omega arith

    as_many : (a b c : ℕ) → a ≡ b → b ≤ c → 0 + a ≤ c
    as_many a b c same less = let is : a ≡ b = same in let most : b ≤ c = less in omega (arith, is, most)

    by : (o : Option Swap) → t.work ≡ Deleting uuids o → 0 + length (swap_names o) ≤ n
    by None planless = zero_le n
    by (Some s) plans = as_many (length (swap_names (Some s))) (length s.own) n (length-map s.own (λ (b : BlobName × Bytes). b.0)) (few s plans)

module _ (f : Formats) (size : ℕ) (known : AllKnown f) (laws : StepLaws f size) (masters : MasterLaws f size) (w : World) (log : List Moment) (h : IsHeard f size w log) (told : AreTold log) where
  pub pruned_last : Pruned f (world_from f w log)
  pruned_last = log_pruned f size known laws masters w log h.tracked h.readers (untouched_kept w h.untouched) (untouched_pruned f w h.untouched) h.legal h.heard told

  module _ (k : ℕ) (t : Ticket) (some : 1 ≤ k) (there : fin.get (world_from f w log).tickets k ≡ Some t) where
    -- where its root has these indices at most, its plan no more, and it dooms these names
    pub few_by : (indices doomed : List BlobName) → ((name : BlobName) → Has (generation_names t.root.indices) name → Has indices name) → ((name : BlobName) → t.settled ≡ true → Has (dooms f t) name → Has doomed name)
        → (uuids : List ℕ) (plan : Option Swap) → t.work ≡ Deleting uuids plan
        → ((s : Swap) → t.work ≡ Deleting uuids (Some s) → length s.own ≤ length indices) → made_by log k ≤ 15 + (3 * length indices + (length t.listed + length doomed))
    few_by indices doomed among gone uuids plan is own =
        made_within f size known laws w log h k t some there (15 + (3 * length indices + (length t.listed + length doomed)))
        (sum (length (entries_by (world_from f w log).entries k)) (length (keys (entries_by (world_from f w log).entries k)))
        (length (keys_of f size t ++ delete_keys indices doomed t)) (length (keys_of f size t)) (length (delete_keys indices doomed t)) (length (names_of f size t))
        (length indices) (length t.listed) (length doomed) (length_keys (entries_by (world_from f w log).entries k))
        (few_once (keys (entries_by (world_from f w log).entries k)) (keys_of f size t ++ delete_keys indices doomed t)
        ((heard_kept f size laws w log h).once k some) (λ x had. by x had ((bounded f size known laws w log h k t some there).listed k t x some there had)))
        (length-append (keys_of f size t) (delete_keys indices doomed t)) (few_keys f size t) (names_by f size t (length indices) (few_swap f size t uuids plan (length indices) is own)) (length_delete indices doomed t))
      where
        by : (x : Key) → Has (keys (entries_by (world_from f w log).entries k)) x → MayDo f size t x → Has (keys_of f size t ++ delete_keys indices doomed t) x
        by x had (inl mine) = Has-left (keys_of f size t) (delete_keys indices doomed t) x mine
        by x had (inr besides) = Has-right (keys_of f size t) (delete_keys indices doomed t) x (in_delete f indices doomed t among gone x besides.0 (pruned_last.listed k t x some there had))

        sum : (made all both own besides names root listed doomed : ℕ) → all ≡ made → all ≤ both → both ≡ own + besides → own ≤ 12 + 2 * names → names ≤ 1 + root → besides ≡ root + (suc listed + doomed)
            → made ≤ 15 + (3 * root + (listed + doomed))
        sum made all both own besides names root listed doomed a b c d e g =
            let one : all ≡ made = a in
            let two : all ≤ both = b in
            let three : both ≡ own + besides = c in
            let four : own ≤ 12 + 2 * names = d in
            let five : names ≤ 1 + root = e in
            let six : besides ≡ root + (suc listed + doomed) = g in
            omega (arith, one, two, three, four, five, six)

    pub delete_few : (uuids : List ℕ) (plan : Option Swap) → t.work ≡ Deleting uuids plan → made_by log k ≤ most_of_delete f t
    delete_few uuids plan is = few_by (generation_names t.root.indices) (dooms f t) (λ name had. had) (λ name settled had. had) uuids plan is (λ s planned. few_plan t.root uuids s (pruned_last.few k t some there uuids s planned))
