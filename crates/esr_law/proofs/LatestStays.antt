-- `index.latest` stays from where a cleanup's ticket replaced it until the ticket's drop.
use Rattle.std.proofs.Common.{◌≡◌, ◌≢◌, ◌⊎◌, ℕ, suc, ◌<◌, ◌≤◌, true, false, true≢false, List, [], ◌∷◌, ◌++◌, Option, Some, refl, sym, ap, ◌∙◌, subst, inl, inr, arith}
use Rattle.std.specs.FinMap as fin
use Rattle.std.specs.Cmp.Lexicographic.{nat_list_cmp_total}
use Rattle.std.proofs.lemmas.Bool.{cases_Bool}
use Rattle.std.proofs.lemmas.Option.{same_Some, none-some}
use Rattle.esr_model.specs.Lists.{Has-either}
use Rattle.esr_model.specs.Names.{BlobName, Latest}
use Rattle.esr_model.specs.Values.{Bytes, Has, ReadsBack, Formats}
use Rattle.esr_model.specs.Cleanup.{BlobSize, IsPageOf}
use Rattle.esr_model.specs.Image.{Blobs, Image}
use Rattle.esr_model.specs.Shelf.{Shelved}
use Rattle.esr_core.specs.World.{World, Ticket}
use Rattle.esr_core.specs.Ready.{IsMaster}
use Rattle.esr_core.specs.Steps.{IsOut, listing}
use Rattle.esr_core.specs.Turns.{cleaning_ticket}
use Rattle.esr_core.specs.Pruning.{dooms}
use Rattle.esr_core.specs.Past.{entries_by, Repeats}
use Rattle.esr_core.specs.Ids.{Law}
use Rattle.esr_core.specs.Tracked.{CleanTracked, Tracked}
use Rattle.esr_core.specs.ReadTracked.{ReadTracked}
use Rattle.esr_core.specs.Changes.{SameUnit, StepChange, Election, SwapFault, BlobsChange, NoBlobChange, NewBlob, NewLatest, Removal, Maker, ClientStep, ReaderStep, UnitStep, IsUnits}
use Rattle.esr_core.specs.Entry.{RemoveTests, Prune, RemoveDoomed, Step, TakeStep, LatestStep, DroppedStep, ReadStep, PruneStep, Refusal, Refused, Reply, WasReplaced, Entry, Moment}
use Rattle.esr_core.specs.After.{answered, after, blobs_in}
use Rattle.esr_core.specs.Allowed as allowed
use Rattle.esr_core.specs.Allowed.{Told, latest_text, Puts, RemovesDoomed, PruneAllows, Allows, IsBlocked, Allowed}
use Rattle.esr_core.specs.History.{world_from, is_settle}
use Rattle.esr_core.specs.Cleaned.{IsLastDrop}
use Rattle.esr_core.specs.Laws.UnitSteps.{other_unit, settle_unit}
use Rattle.esr_core.specs.Laws.BlobFrames.{text_one}
use Rattle.esr_core.specs.Laws.Histories.{world_parts}
use Rattle.esr_law.specs.Cleanups.{IsGivenCleanup, IsEndedCleanup}
use Rattle.esr_law.specs.Latest.{HasLatest}
use Rattle.esr_law.proofs.Maps.{get_put, get_kept}
use Rattle.esr_law.proofs.OwnSteps.{IsCleaning, Own, OnKeep, OnPage, OnSettle, OnFall}
use Rattle.esr_law.proofs.Turns.{StepLaws, Turned, OnBlock, OnOther, OnOwn, blocked_leaves, fresh, turned, cleaning_on, handed_out, cleaning_given}
use Rattle.esr_law.proofs.Worlds.{KnownStep, Along, Tells, along, along_parts}
use Rattle.esr_law.proofs.Callers.{TestsStored, tests_ask, tests_stored}
use Rattle.esr_law.proofs.Doomed.{ListedBack, doomed_apart}
use Rattle.esr_law.proofs.Entries.{entry_now}
use Rattle.esr_law.proofs.Pages.{IsDropped, dropped}

-- the core's laws of what a step changes
pub record ChangeLaws (f : Formats) (size : ℕ) : Type 0 where
  pub steps : StepLaws f size
  pub change : (w : World) (m : Moment) → StepChange f w m.entry.who m.entry.step (answered f w m.entry.who m.entry.step m.entry.reply m.image)
  pub blobs : (w : World) (m : Moment) (i : Image) → m.image ≡ Some i → Allowed f size w m → BlobsChange f w m.entry.step i.blobs

-- ---- terms rise, and a deposed world stays so

term_rises : (f : Formats) (w : World) (who : ℕ) (step : Step) (up : World) → StepChange f w who step up → w.term ≤ up.term
term_rises f w who step up (SwapFault e v h) = term_rises f w who step v h
term_rises f w who step up (Election e) = omega arith
term_rises f w who step up h = omega arith

stays_deposed : (f : Formats) (w : World) (who : ℕ) (step : Step) (up : World) → StepChange f w who step up → w.deposed ≡ true → up.deposed ≡ true
stays_deposed f w who step up (SwapFault e v h) dead = refl
stays_deposed f w who step up h dead = dead

-- the ticket is out, of the present term, in a world that isn't deposed
record IsLive (w : World) (t : Ticket) : Type 0 where
  out : t.out ≡ true
  present : t.term ≡ w.term
  alive : w.deposed ≡ false

-- ---- what conditions say

puts_by : {f : Formats} {size : ℕ} {w : World} {who : ℕ} {image : Option Image} → Allows f size w who LatestStep WasReplaced image
    → (p : Puts f w who) × ReadsBack f.names Latest × Told image (λ blobs. blobs ≡ fin.insert w.blobs (f.names.text Latest) (latest_text p.n))
puts_by (allowed.Replacing k image p named put) = (p, named, put)

abbrev PruneAsks : Formats → World → ℕ → Option Image → Prune → Type 0
PruneAsks f w k image (RemoveDoomed names) = RemovesDoomed f w k names image
PruneAsks f w k image prune = Unit {0}

prune_asks : (f : Formats) (w : World) (k : ℕ) (prune : Prune) (reply : Reply) (image : Option Image) → PruneAllows f w k prune reply image → PruneAsks f w k image prune
prune_asks f w k prune reply image (allowed.RemovingDoomed j names im r removed) = r
prune_asks f w k prune reply image (allowed.RemoveDoomedFails j names im r removes) = r
prune_asks f w k prune reply image h = tt

removes_by : (f : Formats) (size : ℕ) (w : World) (who : ℕ) (prune : Prune) (reply : Reply) (image : Option Image) → Allows f size w who (PruneStep prune) reply image → PruneAsks f w who image prune
removes_by f size w who prune reply image (allowed.Pruning k p rep im h) = prune_asks f w k p rep im h

not_replaced : (refusal : Refusal) → WasReplaced ≡ Refused refusal → ⊥
not_replaced refusal e = cc

not_taken : TakeStep ≡ LatestStep → ⊥
not_taken e = cc

-- ---- what is kept

-- `index.latest` holds the number that the ticket raised
record IsPut (f : Formats) (w : World) (t : Ticket) : Type 0 where
  n : ℕ
  raised : t.raised ≡ Some n
  there : fin.get w.blobs (f.names.text Latest) ≡ Some (latest_text n)
  back : ReadsBack f.names Latest

-- an entry of its replacement
record IsPutEntry (e : Entry) : Type 0 where
  step : e.step ≡ LatestStep
  reply : e.reply ≡ WasReplaced

record PutState (f : Formats) (w : World) (k : ℕ) (t : Ticket) : Type 0 where
  backs : ListedBack f t
  tests : TestsStored f w
  put : (e : Entry) → Has (entries_by w.entries k) e → IsPutEntry e → IsPut f w t
  settled : t.settled ≡ true → (n : ℕ) × (t.raised ≡ Some n) × (w.safe ≡ suc n)

-- it stays where a step neither replaces it nor removes a blob of its text
latest_stays : (f : Formats) (w : World) (step : Step) (now : Blobs) → BlobsChange f w step now → (step ≡ LatestStep → ⊥)
    → ((names : List BlobName) → (step ≡ PruneStep (RemoveDoomed names)) ⊎ (step ≡ ReadStep (RemoveTests names)) → (name : BlobName) → Has names name → f.names.text name ≡ f.names.text Latest → ⊥)
    → (b : Bytes) → fin.get w.blobs (f.names.text Latest) ≡ Some b → fin.get now (f.names.text Latest) ≡ Some b
latest_stays f w step now (NoBlobChange same) no_put no_removal b there = ap (λ (x : Blobs). fin.get x (f.names.text Latest)) same ∙ there
latest_stays f w step now (NewBlob name bytes is stored absent same) no_put no_removal b there =
    ap (λ (x : Blobs). fin.get x (f.names.text Latest)) same ∙ get_kept nat_list_cmp_total w.blobs (f.names.text name) bytes (f.names.text Latest) b absent there
latest_stays f w step now (NewLatest bytes is back same) no_put no_removal b there = absurd (no_put is)
latest_stays f w step now (Removal names is removes) no_put no_removal b there = removes.others (f.names.text Latest) b there (no_removal names is)

module _ (f : Formats) (size : ℕ) (laws : ChangeLaws f size) (w : World) (m : Moment) (s : KnownStep f size w m) (k : ℕ) (t : Ticket)
    (there : fin.get w.tickets k ≡ Some t) (c : IsCleaning t) (first : k ≢ 0) (live : IsLive w t) (st : PutState f w k t) where
  now_blobs : (after f w m).blobs ≡ s.image.blobs
  now_blobs = ap (λ (x : Option Image). blobs_in x w.blobs) s.told

  told_now : (P : Blobs → Type 0) → Told m.image P → P s.image.blobs
  told_now P h = subst (λ (x : Option Image). Told x P) s.told h

  change : BlobsChange f w m.entry.step s.image.blobs
  change = laws.blobs w m s.image s.told s.legal

  tests_now : TestsStored f (after f w m)
  tests_now = tests_stored f size w m (laws.change w m) s.legal st.tests

  -- while the ticket is out no other is
  sole : (j : ℕ) (u : Ticket) → IsOut w j u → j ≡ k
  sole j u out =
      let its : CleanTracked w.term w.deletes w.tickets k t = s.known.tracked.deletions.cleaning k t there live.out live.present c.clean in
      s.known.law.lawful.queue.sole k t there live.out (subst IsMaster (sym c.work) tt) live.present its.x its.there its.cleans j u out.there out.out

  -- no test blob has its text
  no_test : ReadsBack f.names Latest → Allows f size w m.entry.who m.entry.step m.entry.reply m.image → (names : List BlobName) → m.entry.step ≡ ReadStep (RemoveTests names) → (name : BlobName) → Has names name
      → f.names.text name ≡ f.names.text Latest → ⊥
  no_test back allows names is name h same =
      let may = tests_ask f size w m.entry.who (RemoveTests names) m.entry.reply m.image (subst (λ (x : Step). Allows f size w m.entry.who x m.entry.reply m.image) is allows) in
      let stored = st.tests name (may.committed name h) in
      stored.1 (text_one f name Latest stored.0 back same)

  -- the same ticket after a step that leaves what it listed and raised
  put_kept : (v : Ticket) → ((n : ℕ) → t.raised ≡ Some n → v.raised ≡ Some n) → ((b : Bytes) → ReadsBack f.names Latest → fin.get w.blobs (f.names.text Latest) ≡ Some b → fin.get s.image.blobs (f.names.text Latest) ≡ Some b)
      → IsPut f w t → IsPut f (after f w m) v
  put_kept v raises stays p = record { n = p.n; raised = raises p.n p.raised; there = ap (λ (x : Blobs). fin.get x (f.names.text Latest)) now_blobs ∙ stays (latest_text p.n) p.back p.there; back = p.back }

  -- ---- a step that was refused before it was looked at

  blocked_state : IsBlocked w m → PutState f (after f w m) k t
  blocked_state b =
      record {
        backs = st.backs;
        tests = tests_now;
        put = λ e h is. elim (entry_now f w m k e h) [
          | inl own ↦ absurd (not_replaced b.refusal (sym is.reply ∙ ap (λ (x : Entry). x.reply) (sym own.0) ∙ b.refused))
          | inr before ↦ put_kept t (λ n at. at) (λ x back at. ap (λ (y : Blobs). fin.get y (f.names.text Latest)) same ∙ at) (st.put e before is)
        ];
        settled = λ done. let old = st.settled done in (old.0, old.1, ap (λ (x : World). x.safe) (blocked_leaves f w m b) ∙ old.2);
      }
    where
      same : s.image.blobs ≡ w.blobs
      same = told_now (λ blobs. blobs ≡ w.blobs) b.same

  -- ---- a step of another

  other_state : k ≢ m.entry.who → (IsUnits m.entry.step → ⊥) → Allows f size w m.entry.who m.entry.step m.entry.reply m.image → PutState f (after f w m) k t
  other_state apart no_unit allows =
      record {
        backs = st.backs;
        tests = tests_now;
        put = λ e h is. elim (entry_now f w m k e h) [
          | inl own ↦ absurd (apart (sym own.1))
          | inr before ↦ put_kept t (λ n at. at) stays (st.put e before is)
        ];
        settled = λ done. let old = st.settled done in (old.0, old.1, safe ∙ old.2);
      }
    where
      safe : (after f w m).safe ≡ w.safe
      safe = elim (laws.steps.frame w m).root [ inl same ↦ same.0 | inr settle ↦ absurd (no_unit (settle_unit m.entry.step settle)) ]

      stays : (b : Bytes) → ReadsBack f.names Latest → fin.get w.blobs (f.names.text Latest) ≡ Some b → fin.get s.image.blobs (f.names.text Latest) ≡ Some b
      stays b back at =
          latest_stays f w m.entry.step s.image.blobs change (λ is. no_unit (subst IsUnits (sym is) tt))
          (λ names is name h same. elim is [ inl prune ↦ no_unit (subst IsUnits (sym prune) tt) | inr read ↦ no_test back allows names read name h same ]) b at

  by_other : k ≢ m.entry.who → Maker w m.entry.who m.entry.step → Allows f size w m.entry.who m.entry.step m.entry.reply m.image → PutState f (after f w m) k t
  by_other apart (ClientStep who own) allows = other_state apart (other_unit m.entry.step (inl own)) allows
  by_other apart (ReaderStep q reading own) allows = other_state apart (other_unit m.entry.step (inr own)) allows
  by_other apart (UnitStep u out unit) allows = absurd (apart (sym (sole m.entry.who u out)))

  -- ---- its own step

  module _ (mine : m.entry.who ≡ k) (unit : IsUnits m.entry.step) (allows : Allows f size w m.entry.who m.entry.step m.entry.reply m.image) where
    own_same : (u : Ticket) → IsOut w m.entry.who u → u ≡ t
    own_same u out = same_Some u t (sym out.there ∙ ap (fin.get w.tickets) mine ∙ there)

    -- it isn't replaced again, and what the ticket dooms has other texts
    own_stays : (e : Entry) → Has (entries_by w.entries k) e → e.step ≡ LatestStep → (b : Bytes) → ReadsBack f.names Latest → fin.get w.blobs (f.names.text Latest) ≡ Some b → fin.get s.image.blobs (f.names.text Latest) ≡ Some b
    own_stays e before step_is b back at = latest_stays f w m.entry.step s.image.blobs change once none b at
      where
        once : m.entry.step ≡ LatestStep → ⊥
        once is = s.legal.once live.alive e (subst (λ (j : ℕ). Has (entries_by w.entries j) e) (sym mine) before) (subst (λ (x : Step). Repeats e.step x) (sym is) (subst (λ (x : Step). Repeats x LatestStep) (sym step_is) tt))

        none : (names : List BlobName) → (m.entry.step ≡ PruneStep (RemoveDoomed names)) ⊎ (m.entry.step ≡ ReadStep (RemoveTests names)) → (name : BlobName) → Has names name → f.names.text name ≡ f.names.text Latest → ⊥
        none names (inl is) name h same =
            let r = removes_by f size w m.entry.who (RemoveDoomed names) m.entry.reply m.image (subst (λ (x : Step). Allows f size w m.entry.who x m.entry.reply m.image) is allows) in
            let one : r.t ≡ t = own_same r.t r.deleting.out in
            let among : Has (dooms f r.t) name = told_now (λ blobs. (n : BlobName) → Has names n → Has (dooms f r.t) n) r.doomed name h in
            doomed_apart f t c r.uuids r.s (ap (λ (x : Ticket). x.work) (sym one) ∙ r.deleting.work) st.backs back name (subst (λ (x : Ticket). Has (dooms f x) name) one among) same
        none names (inr is) name h same = subst IsUnits is unit

    own_put : (v : Ticket) → ((n : ℕ) → t.raised ≡ Some n → v.raised ≡ Some n) → (e : Entry) → Has (entries_by (after f w m).entries k) e → IsPutEntry e → IsPut f (after f w m) v
    own_put v raises e h is = elim (entry_now f w m k e h) [
      | inl own ↦ new (ap (λ (x : Entry). x.step) own.0 ∙ is.step) (ap (λ (x : Entry). x.reply) own.0 ∙ is.reply)
      | inr before ↦ put_kept v raises (own_stays e before is.step) (st.put e before is)
    ]
      where
        new : m.entry.step ≡ LatestStep → m.entry.reply ≡ WasReplaced → IsPut f (after f w m) v
        new step reply =
            let (p, back, puts) = puts_by (subst (λ (x : Reply). Allows f size w m.entry.who LatestStep x m.image) reply (subst (λ (x : Step). Allows f size w m.entry.who x m.entry.reply m.image) step allows)) in
            let now = told_now (λ blobs. blobs ≡ fin.insert w.blobs (f.names.text Latest) (latest_text p.n)) puts in
            record {
              n = p.n;
              raised = raises p.n (subst (λ (x : Ticket). x.raised ≡ Some p.n) (own_same p.t p.out) p.raised);
              there = ap (λ (x : Blobs). fin.get x (f.names.text Latest)) (now_blobs ∙ now) ∙ get_put nat_list_cmp_total w.blobs (f.names.text Latest) (latest_text p.n);
              back = back;
            }

    own_state : (v : Ticket) → fin.get (after f w m).tickets k ≡ Some v → IsLive (after f w m) v → Own f w m.entry.who t m.entry.step m.entry.reply m.image (answered f w m.entry.who m.entry.step m.entry.reply m.image)
        → PutState f (after f w m) k v
    own_state v at after_live (OnKeep h) =
        subst (PutState f (after f w m) k) (same_Some h.v v (sym h.at ∙ ap (fin.get (after f w m).tickets) mine ∙ at))
        (record {
          backs = λ b listed. st.backs b (subst (λ xs. Has xs b) h.listed listed);
          tests = tests_now;
          put = own_put h.v raises;
          settled = λ done. let old = st.settled (sym h.settled ∙ done) in (old.0, raises old.0 old.1, h.safe ∙ old.2);
        })
      where
        raises : (n : ℕ) → t.raised ≡ Some n → h.v.raised ≡ Some n
        raises n is = elim h.raised [ inl same ↦ same ∙ is | inr none ↦ absurd (none-some n (sym none ∙ is)) ]
    own_state v at after_live (OnPage from page step reply from_is told got safe) =
        subst (PutState f (after f w m) k) (same_Some (listing t page) v (sym got ∙ ap (fin.get (after f w m).tickets) mine ∙ at))
        (record {
          backs = λ b listed. elim (Has-either t.listed page b listed) [ inl before ↦ st.backs b before | inr now ↦ paged b now ];
          tests = tests_now;
          put = own_put (listing t page) (λ n is. is);
          settled = λ done. let old = st.settled done in (old.0, old.1, safe ∙ old.2);
        })
      where
        -- each blob that is there has a name of the layout
        paged : (b : BlobSize) → Has page b → (name : BlobName) × (f.names.text name ≡ b.text) × ReadsBack f.names name
        paged b now =
            let found = (told_now (λ blobs. IsPageOf w.blobs from page × (blobs ≡ w.blobs)) told).0.there b now in
            s.known.law.lawful.sound.rooted.kept.named b.text found.0 found.1
    own_state v at after_live (OnSettle d is got safe) =
        subst (PutState f (after f w m) k) (same_Some (record t { settled = true }) v (sym got ∙ ap (fin.get (after f w m).tickets) mine ∙ at))
        (record {
          backs = st.backs;
          tests = tests_now;
          put = own_put (record t { settled = true }) (λ n at. at);
          settled = λ done. (d.n, subst (λ (x : Ticket). x.raised ≡ Some d.n) is d.may.raised, safe);
        })
    own_state v at after_live (OnFall dead h) = absurd (true≢false (sym dead ∙ after_live.alive))

  state_after : (v : Ticket) → fin.get (after f w m).tickets k ≡ Some v → IsLive (after f w m) v → PutState f (after f w m) k v
  state_after v at after_live = by (turned f size laws.steps w m s.known.tracked s.known.reads s.legal k t there c first)
    where
      by : Turned f size w m k t → PutState f (after f w m) k v
      by (OnBlock b same) = subst (PutState f (after f w m) k) (same_Some t v (sym same ∙ at)) (blocked_state b)
      by (OnOther apart made allows same) = subst (PutState f (after f w m) k) (same_Some t v (sym same ∙ at)) (by_other apart made allows)
      by (OnOwn mine alive unit allows own) = own_state mine unit allows v at after_live own

-- ---- from the ticket to its drop

record AtDrop (f : Formats) (w : World) (k : ℕ) : Type 0 where
  t : Ticket
  there : fin.get w.tickets k ≡ Some t
  cleaning : IsCleaning t
  state : PutState f w k t

-- what replaced `index.latest` had been given before
abbrev NonePut : World → ℕ → Type 0
NonePut w k = (e : Entry) → Has (entries_by w.entries k) e → IsPutEntry e → k < w.next_ticket

module _ (f : Formats) (size : ℕ) (laws : ChangeLaws f size) where
  stays : (w : World) (m : Moment) → KnownStep f size w m → (k : ℕ) (t : Ticket) → fin.get w.tickets k ≡ Some t → (v : Ticket) × (fin.get (after f w m).tickets k ≡ Some v) × SameUnit t v
  stays w m s k t there = (laws.steps.frame w m).stay k t (fresh f size laws.steps w s.known.tracked k t there) there

  -- it was so before
  live_before : (w : World) (m : Moment) → KnownStep f size w m → (k : ℕ) (t v : Ticket) → fin.get w.tickets k ≡ Some t → SameUnit t v → IsLive (after f w m) v → IsLive w t
  live_before w m s k t v there same live =
      let below : t.term ≤ w.term = (s.known.tracked.tickets k t there).1 in
      let rises : w.term ≤ (after f w m).term = term_rises f w m.entry.who m.entry.step (answered f w m.entry.who m.entry.step m.entry.reply m.image) (laws.change w m) in
      let now : v.term ≡ (after f w m).term = live.present in
      let kept : v.term ≡ t.term = same.term in
      record {
        out = same.out live.out;
        present = omega (arith, below, rises, now, kept);
        alive = elim (cases_Bool w.deposed) [
          | inl dead ↦ absurd (true≢false (sym (stays_deposed f w m.entry.who m.entry.step (answered f w m.entry.who m.entry.step m.entry.reply m.image) (laws.change w m) dead) ∙ live.alive))
          | inr alive ↦ alive
        ];
      }

  live_from : (log : List Moment) (w : World) → Along f size w log → (k : ℕ) (t : Ticket) → fin.get w.tickets k ≡ Some t → IsCleaning t
      → ((v : Ticket) → fin.get (world_from f w log).tickets k ≡ Some v → IsCleaning v → IsLive (world_from f w log) v) → IsLive w t
  live_from [] w s k t there c end = end t there c
  live_from (m ∷ log) w s k t there c end =
      let v = stays w m s.0 k t there in live_before w m s.0 k t v.0 there v.2 (live_from log (after f w m) s.1 k v.0 v.1 (cleaning_on t v.0 v.2 c) end)

  states : (log : List Moment) (w : World) → Along f size w log → (k : ℕ) (t : Ticket) → fin.get w.tickets k ≡ Some t → IsCleaning t → k ≢ 0
      → ((v : Ticket) → fin.get (world_from f w log).tickets k ≡ Some v → IsCleaning v → IsLive (world_from f w log) v) → PutState f w k t → AtDrop f (world_from f w log) k
  states [] w s k t there c first end st = record { t = t; there = there; cleaning = c; state = st }
  states (m ∷ log) w s k t there c first end st =
      let v = stays w m s.0 k t there in
      let cleaning = cleaning_on t v.0 v.2 c in
      let after_live : IsLive (after f w m) v.0 = live_from log (after f w m) s.1 k v.0 v.1 cleaning end in
      let live : IsLive w t = live_before w m s.0 k t v.0 there v.2 after_live in
      states log (after f w m) s.1 k v.0 v.1 cleaning first end (state_after f size laws w m s.0 k t there c first live st v.0 v.1 after_live)

  -- ---- and before the ticket was given

  none_put : (w : World) (m : Moment) → KnownStep f size w m → (k : ℕ) → NonePut w k → NonePut (after f w m) k
  none_put w m s k none e h is = elim (entry_now f w m k e h) [
    | inl own ↦ below (subst (λ (j : ℕ). j < w.next_ticket) own.1 (made (ap (λ (x : Entry). x.step) own.0 ∙ is.step) (ap (λ (x : Entry). x.reply) own.0 ∙ is.reply)))
    | inr before ↦ below (none e before is)
  ]
    where
      below : k < w.next_ticket → k < (after f w m).next_ticket
      below b = let up : w.next_ticket ≤ (after f w m).next_ticket = (laws.steps.frame w m).next_ticket in omega (arith, b, up)

      made : m.entry.step ≡ LatestStep → m.entry.reply ≡ WasReplaced → m.entry.who < w.next_ticket
      made step reply = elim s.legal.answered [
        | inl alive ↦
            let p = (puts_by (subst (λ (x : Reply). Allows f size w m.entry.who LatestStep x m.image) reply (subst (λ (x : Step). Allows f size w m.entry.who x m.entry.reply m.image) step alive.1))).0 in
            (s.known.tracked.tickets m.entry.who p.t p.out.there).0
        | inr dead ↦ absurd (not_replaced dead.refusal (sym reply ∙ dead.refused))
      ]

  states_from : (log : List Moment) (w : World) → Along f size w log → (k : ℕ) → TestsStored f w → NonePut w k → (given : Moment) → Has log given → IsGivenCleanup given k
      → ((v : Ticket) → fin.get (world_from f w log).tickets k ≡ Some v → IsCleaning v → IsLive (world_from f w log) v) → AtDrop f (world_from f w log) k
  states_from [] w s k tests none given there gives end = absurd there
  states_from (m ∷ log) w s k tests none given (inl is) gives end =
      let h = handed_out f size laws.steps w m k s.0.known.tracked s.0.legal (subst (λ (x : Moment). IsGivenCleanup x k) (sym is) gives) in
      states log (after f w m) s.1 k (cleaning_ticket w h.op) h.at (cleaning_given w h.op) h.first end
      (record {
        backs = λ b listed. absurd listed;
        tests = tests_stored f size w m (laws.change w m) s.0.legal tests;
        put = λ e now put. elim (entry_now f w m k e now) [
          | inl own ↦ absurd (not_taken (sym h.step ∙ ap (λ (x : Entry). x.step) own.0 ∙ put.step))
          | inr before ↦ absurd (let below : k < w.next_ticket = none e before put in let next : k ≡ w.next_ticket = h.next in omega (arith, below, next))
        ];
        settled = λ done. absurd (true≢false (sym done));
      })
  states_from (m ∷ log) w s k tests none given (inr later) gives end = states_from log (after f w m) s.1 k (tests_stored f size w m (laws.change w m) s.0.legal tests) (none_put w m s.0 k none) given later gives end

  -- ---- the drop

  latest_now : (w : World) (last : Moment) → KnownStep f size w last → (k : ℕ) → IsLastDrop last k → AtDrop f w k → HasLatest f (after f w last)
  latest_now w last one k drop end =
      record {
        n = put.n;
        safe = same_safe ∙ safe.2 ∙ ap suc (same_Some safe.0 put.n (sym safe.1 ∙ put.raised));
        there = ap (λ (x : Blobs). fin.get x (f.names.text Latest)) same_blobs ∙ put.there;
      }
    where
      d : IsDropped f w last k end.t
      d = dropped f size w last k end.t one.legal drop end.there end.cleaning

      put : IsPut f w end.t
      put = end.state.put d.cleaned.latest.entry d.cleaned.latest.there (record { step = d.cleaned.latest.step_is; reply = d.cleaned.latest.reply_is })

      safe : (n : ℕ) × (end.t.raised ≡ Some n) × (w.safe ≡ suc n)
      safe = end.state.settled d.cleaned.settled

      same_blobs : (after f w last).blobs ≡ w.blobs
      same_blobs = ap (λ (x : Option Image). blobs_in x w.blobs) one.told ∙ subst (λ (x : Option Image). Told x (λ blobs. blobs ≡ w.blobs)) one.told d.same

      no_settle : is_settle DroppedStep ≡ true → ⊥
      no_settle e = true≢false (sym e)

      same_safe : (after f w last).safe ≡ w.safe
      same_safe = elim (laws.steps.frame w last).root [ inl same ↦ same.0 | inr settle ↦ absurd (no_settle (sym (ap is_settle drop.step) ∙ settle)) ]

  latest_left : (before : List Moment) (w : World) → Along f size w before → (last : Moment) (k : ℕ) → KnownStep f size (world_from f w before) last → TestsStored f w → w.entries ≡ [] → (given : Moment) → Has before given
      → IsGivenCleanup given k → IsLastDrop last k → HasLatest f (after f (world_from f w before) last)
  latest_left before w s last k one tests no_entry given there gives drop =
      latest_now (world_from f w before) last one k drop (states_from before w s k tests (λ e h is. absurd (subst (λ (es : List Entry). Has (entries_by es k) e) no_entry h)) given there gives live)
    where
      live : (v : Ticket) → fin.get (world_from f w before).tickets k ≡ Some v → IsCleaning v → IsLive (world_from f w before) v
      live v at c = let d = dropped f size (world_from f w before) last k v one.legal drop at c in record { out = d.out; present = d.present; alive = d.alive }

-- ---- the whole history

pub latest_put : (f : Formats) (size : ℕ) (laws : ChangeLaws f size) (w : World) → ((log : List Moment) → Tells f size w log → (shelf : List Shelved) × Law f (world_from f w log) shelf) → Tracked w → ReadTracked w → TestsStored f w
    → w.entries ≡ [] → (before : List Moment) (last : Moment) (k : ℕ) → Tells f size w (before ++ last ∷ []) → IsEndedCleanup before last k → HasLatest f (world_from f w (before ++ last ∷ []))
latest_put f size laws w lawful tracked reads tests no_entry before last k tells e =
    let s = along_parts f size before (last ∷ []) w (along f size w laws.steps.tracks laws.steps.reads lawful (before ++ last ∷ []) tells tracked reads) in
    subst (HasLatest f) (sym (world_parts f before (last ∷ []) w)) (latest_left f size laws before w s.0 last k s.1.0 tests no_entry e.given e.there e.gives e.drop)
