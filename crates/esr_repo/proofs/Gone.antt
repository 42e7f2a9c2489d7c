-- What a step leaves of the plans of deletes and cleanups and of what they found, and that what deletes took away stays gone.
use Rattle.std.proofs.Common.{◌≡◌, ◌≢◌, ◌⊎◌, ℕ, ◌<◌, ◌≤◌, Bool, true, false, List, ◌∷◌, [], ◌++◌, map, Option, Some, None, refl, sym, ap, ◌∙◌, subst, inl, inr, arith}
use Rattle.std.specs.Prelude.{if◌then◌else◌}
use Rattle.std.specs.Ordering.{nat_cmp}
use Rattle.std.specs.FinMap.{FinMap}
use Rattle.std.specs.FinMap as fin
use Rattle.std.proofs.lemmas.Option.{same_Some, none-some}
use Rattle.std.proofs.lemmas.Bool.{cond-true, cond-false, cases_Bool}
use Rattle.esr_model.specs.Names.{BlobName, Snap, File, Part}
use Rattle.esr_model.specs.Values.{Bytes, Has, IndexRef, RootSnap, RootData, FileEntry, Formats}
use Rattle.esr_model.specs.Shelf.{names_uuid}
use Rattle.esr_model.specs.Image.{Image}
use Rattle.esr_model.specs.Parts.{part_names}
use Rattle.esr_model.specs.Finalize.{finalized_root}
use Rattle.esr_model.specs.Delete.{PrunedShard, left_snaps, left_root, deleted_root, doomed_names, uuids_of}
use Rattle.esr_model.specs.Cleanup.{cleaned_names}
use Rattle.esr_core.specs.World.{World, Op, Deleting, Swap, Ticket, info_of, record_of}
use Rattle.esr_core.specs.Pruning.{doomed_as, doomed_by, dooms}
use Rattle.esr_core.specs.Entry.{Prune, SettlePruned, Step, SettleStep, PruneStep, DepotFault, Reply, Refused, Moment}
use Rattle.esr_core.specs.After.{settled_of, delete_settled_by, delete_settled, has_text, fallen, answered, after}
use Rattle.esr_core.specs.Allowed.{Settles, SettlesDeletion, PruneAllows, SettlingDelete, SettleDeleteStale, SettleDeleteFails, Allows, Allowed}
use Rattle.esr_core.specs.Allowed as allowed
use Rattle.esr_core.specs.Tracked.{FinalTracked, DeleteTracked, Tracked}
use Rattle.esr_core.specs.Laws.CleanupReach.{cleaned_was}
use Rattle.esr_core.specs.Laws.DeleteRoots.{has_names, left_has, renewed_snapshots}
use Rattle.esr_model.specs.Lists.{Has-append, Has-map}
use Rattle.esr_core.specs.Laws.DoomNames.{IsDoomed, ASnap, APart, doomed_is}
use Rattle.esr_core.specs.Laws.PartNames.{in_parts}
use Rattle.esr_meta.specs.Info.{Info}
use Rattle.esr_core.specs.Laws.Tests.{clash}
use Rattle.esr_core.specs.Laws.Asides.{block_leaves}
use Rattle.esr_formats.specs.Refs.{ref_of_code}
use Rattle.esr_repo.specs.Repo.{PlannedBy, OwnIndices, TookAway, IsPast, Gone, ListsUuid, FoundBy, MadeOrFound}
use Rattle.esr_repo.specs.Tickets.{AreOfOps}
use Rattle.esr_repo.proofs.Coming.{Came, WasGiven, Stayed, HasPlanned, HasSettled, DeletesCome, come_same, uuids_same}
use Rattle.esr_repo.proofs.Frames.{Frame, frame_settled, frame_pruned, frame_answered, final_plain}
use Rattle.esr_repo.specs.InfosAfter.{LeavesInfos}
use Rattle.esr_repo.proofs.InfosStay.{WorksStay, HasSettled as HasFinalized, made_stays, finalized, new_made, settled_root, root_step, works_step}

-- ---- the plans

pub own_step : (settles : Option ℕ) (w new : World) → DeletesCome settles w.tickets new.tickets → OwnIndices w → OwnIndices new
own_step settles w new come own k v uuids s there work = go (come k v uuids (Some s) there work)
  where
    go : Came settles w.tickets k v uuids (Some s) → PlannedBy v.root uuids s
    go (WasGiven none unsettled) = absurd (none-some s (sym none))
    go (Stayed t is same root settled) = subst (λ (r : RootData). PlannedBy r uuids s) (sym root) (own k t uuids s is same)
    go (HasPlanned t before is same root settled made) = made s refl
    go (HasSettled mine t is same root) = subst (λ (r : RootData). PlannedBy r uuids s) (sym root) (own k t uuids s is same)

-- ---- what is left of a root

pub left_unnamed : (uuids : List ℕ) (snaps : List RootSnap) (s : RootSnap) → Has (left_snaps uuids snaps) s → names_uuid uuids s.uuid ≡ false
left_unnamed uuids [] s m = absurd m
left_unnamed uuids (x ∷ snaps) s m = elim (cases_Bool (names_uuid uuids x.uuid)) [
  | inl b ↦ left_unnamed uuids snaps s (subst (λ (l : List RootSnap). Has l s) (cond-true _ _ _ b) m)
  | inr b ↦ elim (subst (λ (l : List RootSnap). Has l s) (cond-false _ _ _ b) m) [ inl e ↦ ap (λ (y : RootSnap). names_uuid uuids y.uuid) (sym e) ∙ b | inr later ↦ left_unnamed uuids snaps s later ]
]

deleted_snaps : (root : RootData) (uuids : List ℕ) (shards : List PrunedShard) (first : ℕ) → (deleted_root root uuids shards first).snapshots ≡ left_snaps uuids root.snapshots
unfolding deleted_root
deleted_snaps root uuids shards first = renewed_snapshots shards first (left_root root uuids)

pub planned_snaps : (root : RootData) (uuids : List ℕ) (s : Swap) → PlannedBy root uuids s → s.root.snapshots ≡ left_snaps uuids root.snapshots
planned_snaps root uuids s p = ap (λ (r : RootData). r.snapshots) p.root_is ∙ deleted_snaps root uuids p.shards p.first

-- ---- a uuid that is past

not_low : (a next uuid : ℕ) → uuid < next → next ≤ a → a ≢ uuid
not_low a next uuid low high e = absurd (omega (arith, low, high, e))

lower : (a b c : ℕ) → a < b → b ≤ c → a < c
lower a b c low high = omega (arith, low, high)

past_by : (settles : Option ℕ) (w new : World) → Frame settles w new → Tracked w → (uuid : ℕ) → uuid < w.next_id → ((o : ℕ) (op : Op) → fin.get w.ops o ≡ Some op → op.uuid ≢ uuid)
    → ((snap : RootSnap) → Has new.root.snapshots snap → snap.uuid ≢ uuid)
    → IsPast new.root new.ops new.next_id uuid
past_by settles w new frame tracked uuid below unopened unlisted =
    record {
      below = lower uuid w.next_id new.next_id below (frame.next tracked.in_term);
      unlisted = unlisted;
      unopened = λ o op there. elim (frame.uuids o op there) [
        | inl e ↦ let (p, q, is, same) = e in λ mine. unopened p q is (same ∙ mine)
        | inr high ↦ not_low op.uuid w.next_id uuid below high
      ];
    }

-- it was taken away before, but where the step settles
away_by : (settles : Option ℕ) (w : World) (uuid : ℕ) (v : Ticket) (k : ℕ) (uuids : List ℕ) (plan : Option Swap) (t : Ticket) (before : Option Swap) → fin.get w.tickets k ≡ Some t → t.work ≡ Deleting uuids before
    → v.root ≡ t.root → t.settled ≡ true
    → (snap : RootSnap) → Has v.root.snapshots snap → names_uuid uuids snap.uuid ≡ true → snap.uuid ≡ uuid → TookAway w.tickets uuid
away_by settles w uuid v k uuids plan t before there work root settled snap was named is =
    record { k = k; t = t; uuids = uuids; plan = before; there = there; settled = settled; work = work; snap = snap; was = subst (λ (r : RootData). Has r.snapshots snap) root was; named = named; is = is }

-- the ticket that settled took it away just now
pub record Settled (settles : Option ℕ) (w : World) (uuid : ℕ) : Type 0 where
  pub k : ℕ
  pub mine : settles ≡ Some k
  pub t : Ticket
  pub there : fin.get w.tickets k ≡ Some t
  pub uuids : List ℕ
  pub plan : Option Swap
  pub work : t.work ≡ Deleting uuids plan
  pub snap : RootSnap
  pub was : Has t.root.snapshots snap
  pub named : names_uuid uuids snap.uuid ≡ true
  pub is : snap.uuid ≡ uuid

away_was : (settles : Option ℕ) (w new : World) → DeletesCome settles w.tickets new.tickets → (uuid : ℕ) → TookAway new.tickets uuid → TookAway w.tickets uuid ⊎ Settled settles w uuid
away_was settles w new come uuid a = go (come a.k a.t a.uuids a.plan a.there a.work)
  where
    go : Came settles w.tickets a.k a.t a.uuids a.plan → TookAway w.tickets uuid ⊎ Settled settles w uuid
    go (WasGiven none unsettled) = absurd (clash a.t.settled a.settled unsettled)
    go (Stayed t there work root settled) = inl (away_by settles w uuid a.t a.k a.uuids a.plan t a.plan there work root (sym settled ∙ a.settled) a.snap a.was a.named a.is)
    go (HasPlanned t before there work root settled made) = inl (away_by settles w uuid a.t a.k a.uuids a.plan t before there work root (sym settled ∙ a.settled) a.snap a.was a.named a.is)
    go (HasSettled mine t there work root) =
        inr (record { k = a.k; mine = mine; t = t; there = there; uuids = a.uuids; plan = a.plan; work = work; snap = a.snap; was = subst (λ (r : RootData). Has r.snapshots a.snap) root a.was; named = a.named; is = a.is })

none_settled : (w : World) (uuid : ℕ) → Settled None w uuid → ⊥
none_settled w uuid s = none-some s.k s.mine

-- ---- over a step that settles nothing

gone_by : (w new : World) → Frame None w new → Tracked w → new.root ≡ w.root → Gone w → Gone new
gone_by w new frame tracked root gone uuid a = elim (away_was None w new frame.come uuid a) [
  | inl before ↦ let h = gone uuid before in past_by None w new frame tracked uuid h.below h.unopened (λ snap m. h.unlisted snap (subst (λ (r : RootData). Has r.snapshots snap) root m))
  | inr now ↦ absurd (none_settled w uuid now)
]

-- ---- over the settle of a finalization

some_number : (a b : ℕ) → Some a ≡ Some b → a ≡ b
some_number a b e = cc

-- it is of the ticket that settles
settled_ticket : (w : World) (k : ℕ) (t : Ticket) (uuid : ℕ) → fin.get w.tickets k ≡ Some t → (s : Settled (Some k) w uuid) → s.t ≡ t
settled_ticket w k t uuid there s = same_Some s.t t (sym s.there ∙ ap (fin.get w.tickets) (sym (some_number k s.k s.mine)) ∙ there)

module _ (f : Formats) (w : World) (k : ℕ) (tracked : Tracked w) (gone : Gone w) where
  module _ (s : Settles f w k) where
    law : FinalTracked w.root w.ops s.t s.info s.results
    law = tracked.finals k s.t s.info s.results s.made s.may.out.there s.may.out.out s.may.unsettled s.present s.work

    abbrev settled : World
    settled = settled_of f w k (fin.get w.tickets k)

    abbrev add : RootSnap
    add = record { name = law.op.name; uuid = law.op.uuid; state = 1 }

    new_root : settled.root ≡ finalized_root w.root (info_of law.op s.results) s.results
    new_root =
        ap (λ (o : Option Ticket). (settled_of f w k o).root) s.may.out.there
        ∙ settled_root f w k s.n s.t s.info s.results s.made s.work s.may.raised
        ∙ (λ j. finalized_root (law.root_is j) (law.info_is j) s.results)

    new_snaps : settled.root.snapshots ≡ w.root.snapshots ++ add ∷ []
    new_snaps = ap (λ (r : RootData). r.snapshots) new_root ∙ (finalized w.root w.ops w.next_id s.t.op law.op s.results tracked.named law.op_there law.done).snapshots

    pub gone_final : Gone settled
    gone_final uuid a = elim (away_was (Some k) w settled (frame_settled f w k (fin.get w.tickets k) refl).come uuid a) [
      | inl before ↦
          let h = gone uuid before in
          past_by (Some k) w settled (frame_settled f w k (fin.get w.tickets k) refl) tracked uuid h.below h.unopened
          (λ snap m. elim (Has-append w.root.snapshots add snap (subst (λ (xs : List RootSnap). Has xs snap) new_snaps m)) [
            | inl old ↦ h.unlisted snap old
            | inr e ↦ λ same. h.unopened s.t.op law.op law.op_there (ap (λ (x : RootSnap). x.uuid) e ∙ same)
          ])
      | inr now ↦
          let one : now.t ≡ s.t = settled_ticket w k s.t uuid s.may.out.there now in
          absurd (final_plain s.info s.results s.made now.uuids now.plan (sym s.work ∙ ap (λ (x : Ticket). x.work) (sym one) ∙ now.work))
    ]

  -- ---- over the settle of a delete

  module _ (own : OwnIndices w) (s : SettlesDeletion f w k) (present : s.t.term ≡ w.term) where
    delete_law : DeleteTracked w.root w.deletes w.next_id s.t (Some s.s)
    delete_law = tracked.deleting k s.t s.uuids (Some s.s) s.deleting.out.there s.deleting.out.out s.may.unsettled present s.deleting.work

    abbrev pruned : World
    pruned = delete_settled f w k (fin.get w.tickets k)

    left_is : pruned.root.snapshots ≡ left_snaps s.uuids w.root.snapshots
    left_is =
        ap (λ (o : Option Ticket). (delete_settled f w k o).root.snapshots) s.may.out.there
        ∙ ap (λ (o : Option Swap). (delete_settled_by f w k s.t o s.t.raised).root.snapshots) s.may.is
        ∙ ap (λ (n : Option ℕ). (delete_settled_by f w k s.t (Some s.s) n).root.snapshots) s.may.raised
        ∙ planned_snaps s.t.root s.uuids s.s (own k s.t s.uuids s.s s.deleting.out.there s.deleting.work)
        ∙ ap (λ (r : RootData). left_snaps s.uuids r.snapshots) delete_law.root_is

    was_listed : (snap : RootSnap) → Has pruned.root.snapshots snap → Has w.root.snapshots snap
    was_listed snap m = left_has s.uuids w.root.snapshots snap (subst (λ (xs : List RootSnap). Has xs snap) left_is m)

    is_left : (snap : RootSnap) → Has pruned.root.snapshots snap → names_uuid s.uuids snap.uuid ≡ false
    is_left snap m = left_unnamed s.uuids w.root.snapshots snap (subst (λ (xs : List RootSnap). Has xs snap) left_is m)

    -- what it named
    gone_now : (uuid : ℕ) → Settled (Some k) w uuid → IsPast pruned.root pruned.ops pruned.next_id uuid
    gone_now uuid now =
        let one : now.t ≡ s.t = settled_ticket w k s.t uuid s.may.out.there now in
        let uuids : now.uuids ≡ s.uuids = uuids_same now.uuids s.uuids now.plan (Some s.s) (sym now.work ∙ ap (λ (x : Ticket). x.work) one ∙ s.deleting.work) in
        let was : Has w.root.snapshots now.snap = subst (λ (r : RootData). Has r.snapshots now.snap) (ap (λ (x : Ticket). x.root) one ∙ delete_law.root_is) now.was in
        let named : names_uuid s.uuids uuid ≡ true = sym (λ j. names_uuid (uuids j) (now.is j)) ∙ now.named in
        let below : uuid < w.next_id = subst (λ (n : ℕ). n < w.next_id) now.is (tracked.named.root_below.snapshots now.snap was) in
        past_by (Some k) w pruned (frame_pruned f w k (fin.get w.tickets k) refl) tracked uuid below
        (λ o op there same. (tracked.named.unlisted o op now.snap there was).1 (now.is ∙ sym same))
        (λ snap m same. clash (names_uuid s.uuids uuid) named (ap (names_uuid s.uuids) (sym same) ∙ is_left snap m))

    pub gone_pruned : Gone pruned
    gone_pruned uuid a = elim (away_was (Some k) w pruned (frame_pruned f w k (fin.get w.tickets k) refl).come uuid a) [
      | inl before ↦ let h = gone uuid before in past_by (Some k) w pruned (frame_pruned f w k (fin.get w.tickets k) refl) tracked uuid h.below h.unopened (λ snap m. h.unlisted snap (was_listed snap m))
      | inr now ↦ gone_now uuid now
    ]

-- ---- over each step

gone_either : (a b : World) (first : Bool) → Gone a → Gone b → Gone (if first then a else b)
gone_either a b true p q = p
gone_either a b false p q = q

gone_fallen : (f : Formats) (w up : World) (image : Option Image) → Gone w → Gone up → Gone (fallen f w up image)
gone_fallen f w up image p q = gone_either up w (has_text image (f.cluster.text (record_of up))) q p

module _ (f : Formats) (size : ℕ) (w : World) (tracked : Tracked w) (own : OwnIndices w) (gone : Gone w) where
  abbrev moment : ℕ → Step → Reply → Option Image → Moment
  moment who step reply image = record { entry = record { who = who; step = step; reply = reply }; image = image }

  gone_prune : (who : ℕ) (prune : Prune) (reply : Reply) (image : Option Image) → PruneAllows f w who prune reply image → Gone (answered f w who (PruneStep prune) reply image)
  gone_prune who prune reply image (SettlingDelete k im s present same) = gone_pruned f w k tracked gone own s present
  gone_prune who prune reply image (SettleDeleteStale k im s apart same) = gone
  gone_prune who prune reply image (SettleDeleteFails k im s present same) = gone_fallen f w (delete_settled f w k (fin.get w.tickets k)) im gone (gone_pruned f w k tracked gone own s present)
  gone_prune who prune reply image other =
      gone_by w (answered f w who (PruneStep prune) reply image) (frame_answered f w who (PruneStep prune) reply image) tracked (root_step f w (moment who (PruneStep prune) reply image) tracked tt) gone

  gone_answered : (who : ℕ) (step : Step) (reply : Reply) (image : Option Image) → Allows f size w who step reply image → Gone (answered f w who step reply image)
  gone_answered who step reply image (allowed.Settling k im s same) = gone_final f w k tracked gone s
  gone_answered who step reply image (allowed.SettleStale k n t s im may stale same) = gone
  gone_answered who step reply image (allowed.SettleFails k im s same) = gone_fallen f w (settled_of f w k (fin.get w.tickets k)) im gone (gone_final f w k tracked gone s)
  gone_answered who step reply image (allowed.Pruning k prune r im p) = gone_prune k prune r im p
  gone_answered who step reply image other = gone_by w (answered f w who step reply image) (frame_answered f w who step reply image) tracked (root_step f w (moment who step reply image) tracked tt) gone

  pub gone_step : (m : Moment) → Allowed f size w m → Gone (after f w m)
  gone_step m a = elim a.answered [
    | inl alive ↦ gone_answered m.entry.who m.entry.step m.entry.reply m.image alive.1
    | inr dead ↦ subst (λ (r : Reply). Gone (answered f w m.entry.who m.entry.step r m.image)) (sym dead.refused)
        (subst Gone (sym (block_leaves f w m.entry.who m.entry.step dead.refusal m.image dead.blocks)) gone)
  ]

-- ---- what deletes and cleanups found

-- over a step that settles nothing they found what they had found
pub plain_come : (f : Formats) (w : World) (k : ℕ) (step : Step) (reply : Reply) (image : Option Image) → LeavesInfos step reply → DeletesCome None w.tickets (answered f w k step reply image).tickets
plain_come f w k SettleStep (Refused DepotFault) image plain = absurd plain
plain_come f w k SettleStep (Refused refusal) image plain = come_same None w.tickets
plain_come f w k SettleStep reply image plain = absurd plain
plain_come f w k (PruneStep SettlePruned) (Refused DepotFault) image plain = absurd plain
plain_come f w k (PruneStep SettlePruned) (Refused refusal) image plain = come_same None w.tickets
plain_come f w k (PruneStep SettlePruned) reply image plain = absurd plain
plain_come f w k step reply image plain = (frame_answered f w k step reply image).come

found_by : (was now : FinMap nat_cmp Ticket) (uuid : ℕ) → DeletesCome None was now → FoundBy was uuid → FoundBy now uuid
found_by was now uuid come found k v uuids plan there settled work = go (come k v uuids plan there work)
  where
    go : Came None was k v uuids plan → ListsUuid v.root uuid
    go (WasGiven none unsettled) = absurd (clash v.settled settled unsettled)
    go (Stayed t is same root before) = subst (λ (r : RootData). ListsUuid r uuid) (sym root) (found k t uuids plan is (sym before ∙ settled) same)
    go (HasPlanned t old is same root before made) = subst (λ (r : RootData). ListsUuid r uuid) (sym root) (found k t uuids old is (sym before ∙ settled) same)
    go (HasSettled mine t is same root) = absurd (none-some k mine)

pub found_stays : (f : Formats) (w v : World) (uuid : ℕ) (indices : List IndexRef) → WorksStay w v → DeletesCome None w.tickets v.tickets → MadeOrFound f w uuid indices → MadeOrFound f v uuid indices
found_stays f w v uuid indices works come (inl made) = inl (made_stays f w v uuid indices works made)
found_stays f w v uuid indices works come (inr found) = inr (found_by w.tickets v.tickets uuid come found)

pub found_step : (f : Formats) (w : World) (m : Moment) (uuid : ℕ) (indices : List IndexRef) → Tracked w → LeavesInfos m.entry.step m.entry.reply → MadeOrFound f w uuid indices → MadeOrFound f (after f w m) uuid indices
found_step f w m uuid indices tracked plain = found_stays f w (after f w m) uuid indices (works_step f w m tracked plain) (plain_come f w m.entry.who m.entry.step m.entry.reply m.image plain)

-- over the settle of a finalization there is one more
pub found_more : (f : Formats) (w v : World) (k : ℕ) (i : Info) → Tracked w → HasFinalized f w v k i → DeletesCome None w.tickets v.tickets → (infos : List Info)
    → ((j : Info) → Has infos j → MadeOrFound f w j.uuid.number (map ref_of_code j.indices))
    → (j : Info) → Has (infos ++ i ∷ []) j → MadeOrFound f v j.uuid.number (map ref_of_code j.indices)
found_more f w v k i tracked over come infos found j has = elim (Has-append infos i j has) [
  | inl before ↦ found_stays f w v j.uuid.number (map ref_of_code j.indices) over.works come (found j before)
  | inr same ↦ subst (λ (x : Info). MadeOrFound f v x.uuid.number (map ref_of_code x.indices)) same (inl (new_made f w v k i tracked over))
]

-- ---- the infos among what a delete or cleanup dooms

snap_uuid : (u v : ℕ) → Snap u ≡ Snap v → u ≡ v
snap_uuid u v e = cc

-- the info of a snapshot is doomed where its delete named the snapshot
pub snap_doomed : (f : Formats) (safe : ℕ) (old new : RootData) (uuids : List ℕ) (read : List (BlobName × Bytes)) (uuid : ℕ) → Has (doomed_names f safe old new uuids read) (Snap uuid)
    → (snap : RootSnap) × Has old.snapshots snap × (names_uuid uuids snap.uuid ≡ true) × (snap.uuid ≡ uuid)
snap_doomed f safe old new uuids read uuid m = go (Snap uuid) (doomed_is f safe old new uuids read (Snap uuid) m) refl
  where
    no_part : (i k : ℕ) (e : FileEntry) (name : BlobName) → Has (part_names i k e) name → name ≡ Snap uuid → ⊥
    no_part i k e name part is = elim (in_parts i k e name part) [ inl h ↦ file_snap i k e.name (sym h ∙ is) | inr h ↦ part_snap i k e.name h.0 (sym h.1 ∙ is) ]
      where
        file_snap : (i k x : ℕ) → File i k x ≡ Snap uuid → ⊥
        file_snap i k x q = cc

        part_snap : (i k x p : ℕ) → Part i k x p ≡ Snap uuid → ⊥
        part_snap i k x p q = cc

    go : (name : BlobName) → IsDoomed f safe old new uuids read name → name ≡ Snap uuid → (snap : RootSnap) × Has old.snapshots snap × (names_uuid uuids snap.uuid ≡ true) × (snap.uuid ≡ uuid)
    go name (ASnap s there named) e = (s, there, named, snap_uuid s.uuid uuid e)
    go name (APart p was file part is reads has fresh in_it) e = absurd (no_part p.index p.number file part in_it e)
    go name other e = absurd (cc)

-- the root of a cleanup lists what its copy lists
all_left : (snaps : List RootSnap) → left_snaps [] snaps ≡ snaps
all_left [] = refl
all_left (s ∷ snaps) = ap (λ (l : List RootSnap). s ∷ l) (all_left snaps)

-- it dooms the info of no such snapshot
snap_cleaned : (f : Formats) (t : Ticket) (s : Swap) (snap : RootSnap) → PlannedBy t.root [] s → Has t.root.snapshots snap → Has (cleaned_names f t.raised s.root (s.own ++ t.read) t.listed) (Snap snap.uuid) → ⊥
snap_cleaned f t s snap planned listed m =
    let has : Has s.root.snapshots snap = subst (λ (l : List RootSnap). Has l snap) (sym (planned_snaps t.root [] s planned ∙ all_left t.root.snapshots)) listed in
    clash (names_uuid (uuids_of s.root) snap.uuid)
    (has_names (uuids_of s.root) snap.uuid (Has-map (λ (z : RootSnap). z.uuid) s.root.snapshots snap has))
    (cleaned_was f t.raised s.root (s.own ++ t.read) t.listed (Snap snap.uuid) m).1

-- what it dooms is the info of none that is listed, and that each of them found
pub info_spared : (f : Formats) (w : World) (k : ℕ) (t : Ticket) (uuids : List ℕ) (s : Swap) (snap : RootSnap) → OwnIndices w → AreOfOps w → Gone w → fin.get w.tickets k ≡ Some t → t.settled ≡ true
    → t.work ≡ Deleting uuids (Some s)
    → Has w.root.snapshots snap → FoundBy w.tickets snap.uuid → Has (dooms f t) (Snap snap.uuid) → ⊥
info_spared f w k t uuids s snap own of_ops gone there settled work listed found m = by t.clean refl
  where
    by : (b : Bool) → t.clean ≡ b → ⊥
    by false deletes =
        let (x, was, named, is) = snap_doomed f t.safe t.root s.root uuids t.read snap.uuid (subst (λ (l : List BlobName). Has l (Snap snap.uuid)) (ap (doomed_by f t) work ∙ ap (doomed_as f t uuids s) deletes) m) in
        (gone snap.uuid (record { k = k; t = t; uuids = uuids; plan = Some s; there = there; settled = settled; work = work; snap = x; was = was; named = named; is = is })).unlisted snap listed refl
    by true cleans =
        let (x, had, is) = found k t uuids (Some s) there settled work in
        let none : uuids ≡ [] = uuids_same uuids [] (Some s) (of_ops.bare k t there cleans).0 (sym work ∙ (of_ops.bare k t there cleans).1) in
        let doomed = subst (λ (l : List BlobName). Has l (Snap snap.uuid)) (ap (doomed_by f t) work ∙ ap (doomed_as f t uuids s) cleans) m in
        snap_cleaned f t s x (subst (λ (us : List ℕ). PlannedBy t.root us s) none (own k t uuids s there work)) had
        (subst (λ (u : ℕ). Has (cleaned_names f t.raised s.root (s.own ++ t.read) t.listed) (Snap u)) (sym is) doomed)
