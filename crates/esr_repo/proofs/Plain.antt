-- An entry of a step that doesn't call the container.
use Rattle.std.proofs.Common.{◌≡◌, ◌⊎◌, ℕ, true, false, List, [], ◌∷◌, ◌++◌, Option, Some, None, refl, sym, ap, ◌∙◌, subst, inl, inr, true≢false}
use Rattle.std.specs.Option.{unwrap_or}
use Rattle.std.specs.FinMap as fin
use Rattle.esr_model.specs.Values.{ReadsBack}
use Rattle.esr_model.specs.Image.{Image}
use Rattle.esr_core.specs.World.{World, record_of}
use Rattle.esr_core.specs.Entry.{Step, SettleStep, SettlePruned, PruneStep, Reply, Refused, Refusal, DeposedAt, AbortedBy, DepotFault, Entry, Moment}
use Rattle.esr_core.specs.After.{answered, blobs_in, after}
use Rattle.esr_core.specs.Allowed.{Allows, SameBlobs, IsAborted, ByFailedSwap, ByDelete, IsBlocked, Allowed}
use Rattle.esr_core.specs.Past.{IsNewStep}
use Rattle.esr_core.specs.Tracked.{Tracked}
use Rattle.esr_depot.specs.Look.{Look}
use Rattle.esr_meta.specs.Info.{Info}
use Rattle.esr_core.specs.Laws.Asides.{blobs_stay}
use Rattle.esr_formats.specs.Clusters.{cluster_kind}
use Rattle.esr_ops.specs.Plan.{Plan, IsPlanOf}
use Rattle.esr_desk.specs.declared.refusal.EntryRefusal.{EntryRefusal}
use Rattle.esr_desk.specs.Refusals.{refusal_of}
use Rattle.esr_desk.specs.Once.{IsFresh}
use Rattle.esr_desk.specs.Start.{Start, formats_of, world_of, or_no_ticket, ticket_of}
use Rattle.esr_repo.specs.Log.{asks_container, calls, log_of}
use Rattle.esr_repo.specs.Repo.{Kept, OwnIndices, Gone, AreTests, HasInfos, IsSteady, IsRepo}
use Rattle.esr_repo.specs.Blocks.{block_of}
use Rattle.esr_desk.specs.Own.{or_no_reader, reader_of, caller_of}
use Rattle.esr_repo.specs.Tickets.{AreOfOps}
use Rattle.esr_repo.specs.Client.{ReadsOwn}
use Rattle.esr_repo.specs.Next.{Added, IsLive, GoesOn}
use Rattle.esr_repo.specs.May.{MayNote, MayRefuse}
use Rattle.esr_repo.specs.InfosAfter.{LeavesInfos}
use Rattle.esr_repo.specs.Laws.{Laws}
use Rattle.esr_repo.specs.Grown.{added_ticket, added_reader}
use Rattle.esr_repo.proofs.Frames.{IsPlain, NoSwap, ByRule, plain_is, rests_answered}
use Rattle.esr_repo.proofs.Blocked.{unaborted, one_aborter, Tells, OfSwap, OfDelete, block_none}
use Rattle.esr_repo.proofs.Logs.{goes_same, image_now}
use Rattle.esr_repo.proofs.Repos.{cluster_is, plan_aside, infos_aside, infos_over, kept_now, steady_now, image_same, tells_now, text_same, added, added_repo}

-- what the record, the root and the flag are after a step without a call
record Stays (w new : World) : Type 0 where
  record_is : record_of new ≡ record_of w
  root : new.root ≡ w.root
  deposed : new.deposed ≡ w.deposed

stays_after : (laws : Laws) (s : Start) (w : World) (m : Moment) → calls m.entry.step m.entry.reply ≡ false → Stays w (after (formats_of s) w m)
stays_after laws s w m plain = go (plain_is (formats_of s) w m.entry.who m.entry.step m.entry.reply m.image plain)
  where
    go : IsPlain (formats_of s) w m.entry.who m.entry.step m.entry.reply m.image → Stays w (after (formats_of s) w m)
    go (NoSwap e) =
        let rests = rests_answered (formats_of s) w m.entry.who m.entry.step m.entry.reply m.image e in
        record { record_is = laws.record_stays (formats_of s) w m e; root = rests.root; deposed = rests.deposed }
    go (ByRule e) = record { record_is = ap record_of e; root = ap (λ (x : World). x.root) e; deposed = ap (λ (x : World). x.deposed) e }

-- a step that doesn't ask the container settles nothing
quiet_leaves : (step : Step) (reply : Reply) → asks_container step ≡ false → LeavesInfos step reply
quiet_leaves SettleStep reply e = absurd (true≢false e)
quiet_leaves (PruneStep SettlePruned) reply e = absurd (true≢false e)
quiet_leaves step reply e = tt

noted_leaves : (s : Start) (w : World) (who : ℕ) (step : Step) (reply : Reply) (image : Option Image) → calls step reply ≡ false → (answered (formats_of s) w who step reply image ≡ w) ⊎ LeavesInfos step reply
noted_leaves s w who step (Refused DepotFault) image e = absurd (true≢false e)
noted_leaves s w who step (Refused refusal) image e = inl refl
noted_leaves s w who step reply image e = inr (quiet_leaves step reply e)

-- the infos stay over a step without a call
infos_noted : (s : Start) (w : World) (m : Moment) (infos : List Info) → Tracked w → AreTests w.caller → OwnIndices w → AreOfOps w → Gone w → calls m.entry.step m.entry.reply ≡ false → SameBlobs w m.image
    → Allowed (formats_of s) s.part_size w m
    → HasInfos s w infos → HasInfos s (after (formats_of s) w m) infos
infos_noted s w m infos tracked tests own of_ops gone plain same allowed h = elim (noted_leaves s w m.entry.who m.entry.step m.entry.reply m.image plain) [
  | inl e ↦ infos_aside s w (after (formats_of s) w m) infos (ap (λ (x : World). x.root) e) (ap (λ (x : World). x.tickets) e) (blobs_stay w m.image same) h
  | inr leaves ↦ infos_over s w m infos tracked tests own of_ops gone allowed leaves h
]

-- such a step is allowed where its answer is
allowed_plain : (laws : Laws) (s : Start) (log : List Moment) (l : Look) (e : Entry) → IsSteady s log l → calls e.step e.reply ≡ false
    → (((world_of s log).deposed ≡ false) × Allows (formats_of s) s.part_size (world_of s log) e.who e.step e.reply (image_now l)) ⊎ IsBlocked (world_of s log) (record { entry = e; image = image_now l })
    → ((by : ℕ) → (world_of s log).deposed ≡ false → IsAborted (world_of s log) e.who e.step by → e.reply ≡ Refused (AbortedBy by)) → ((world_of s log).deposed ≡ false → IsNewStep (world_of s log) e.who e.step)
    → Allowed (formats_of s) s.part_size (world_of s log) (record { entry = e; image = image_now l })
allowed_plain laws s log l e h plain answer aborted once =
    let m : Moment = record { entry = e; image = image_now l } in
    let same = (stays_after laws s (world_of s log) m plain).record_is in
    let f = formats_of s in
    record {
      answered = answer;
      aborted = aborted;
      once = once;
      record_back = subst (λ kind. ReadsBack kind (record_of (after f (world_of s log) m))) (sym (cluster_is s)) (subst (λ r. ReadsBack cluster_kind r) (sym same) h.record_back);
      text = λ image is. text_same s log l h image is ∙ ap (λ r. Some (f.cluster.text r)) (sym same);
    }

module _ (laws : Laws) (l : Look) (s : Start) (clock : ℕ) (es mid es' : List Entry) (k : Kept) (d : Option ℕ) (seen : List Moment) (e : Entry)
    (r : IsRepo l s clock es k d) (view : log_of l clock es ≡ seen) (reserved : mid ≡ es) (pushed : es' ≡ mid ++ e ∷ []) where
  more : es' ≡ es ++ e ∷ []
  more = pushed ∙ ap (λ (x : List Entry). x ++ e ∷ []) reserved

  abbrev entry_moment : Moment
  entry_moment = record { entry = e; image = image_now l }

  here : IsSteady s seen l
  here = steady_now l s clock es k d seen r view

  -- ---- a record swap has failed before

  module _ (place : ℕ) (fell : d ≡ Some place) (refused : e.reply ≡ Refused (DeposedAt place)) where
    by_rule : calls e.step e.reply ≡ false
    by_rule = ap (calls e.step) refused

    is_deposed : (world_of s seen).deposed ≡ true
    is_deposed = ap (λ v. (world_of s v).deposed) (sym view) ∙ r.fallen place fell

    deposed_allowed : Allowed (formats_of s) s.part_size (world_of s seen) entry_moment
    deposed_allowed =
        allowed_plain laws s seen l e here by_rule (inr (record { refusal = DeposedAt place; blocks = ByFailedSwap place is_deposed; refused = refused; same = image_same s seen l here }))
        (λ by live x. absurd (both (sym is_deposed ∙ live)))
        (λ live. absurd (both (sym is_deposed ∙ live)))
      where
        both : true ≡ false → ⊥
        both q = cc

    pub deposed_added : Added s seen (log_of l clock es') e.who e.step e.reply
    deposed_added = added l l s clock es es' k k d d seen e laws r view (goes_same l e by_rule) r.tells more deposed_allowed

    pub deposed_repo : ReadsOwn (caller_of s seen) e.who e.step → IsRepo l s clock es' k d
    deposed_repo own =
        added_repo l l s clock es es' k k d d seen e laws r view (goes_same l e by_rule) r.tells more deposed_allowed own
        (λ none. absurd (never place (sym fell ∙ none)))
        (λ other n. (stays_after laws s (world_of s seen) entry_moment by_rule).deposed ∙ is_deposed)
      where
        never : (n : ℕ) → Some n ≡ None → ⊥
        never n q = cc

  -- ---- a delete has aborted the op of the ticket

  module _ (op : ℕ) (live : IsLive s seen) (aborted : IsAborted (world_of s seen) e.who e.step op) (fresh : IsNewStep (world_of s seen) e.who e.step) (refused : e.reply ≡ Refused (AbortedBy op)) where
    so_plain : calls e.step e.reply ≡ false
    so_plain = ap (calls e.step) refused

    aborted_allowed : Allowed (formats_of s) s.part_size (world_of s seen) entry_moment
    aborted_allowed =
        allowed_plain laws s seen l e here so_plain (inr (record { refusal = AbortedBy op; blocks = ByDelete op live aborted; refused = refused; same = image_same s seen l here }))
        (λ by now x. refused ∙ ap (λ (n : ℕ). Refused (AbortedBy n)) (one_aborter (world_of s seen) e.who e.step op by aborted x))
        (λ now. fresh)

    pub aborted_added : Added s seen (log_of l clock es') e.who e.step e.reply
    aborted_added = added l l s clock es es' k k d d seen e laws r view (goes_same l e so_plain) r.tells more aborted_allowed

    pub aborted_repo : ReadsOwn (caller_of s seen) e.who e.step → IsRepo l s clock es' k d
    aborted_repo own =
        let now = kept_now l s clock es k d seen r view live in
        let stays = stays_after laws s (world_of s seen) entry_moment so_plain in
        let w : World = answered (formats_of s) (world_of s seen) e.who e.step e.reply (image_now l) in
        let same : w ≡ world_of s seen = ap (λ (x : Reply). answered (formats_of s) (world_of s seen) e.who e.step x (image_now l)) refused in
        added_repo l l s clock es es' k k d d seen e laws r view (goes_same l e so_plain) r.tells more aborted_allowed own
        (λ none. (
          stays.deposed ∙ live,
          record {
            cluster = now.1.cluster ∙ sym stays.record_is;
            root = now.1.root ∙ sym stays.root;
            plan = plan_aside w (blobs_in (image_now l) (world_of s seen).blobs) w.deposed (after (formats_of s) (world_of s seen) entry_moment).caller
                (after (formats_of s) (world_of s seen) entry_moment).entries k.plan (subst (λ (x : World). IsPlanOf x k.plan) (sym same) now.1.plan);
            next = now.1.next ∙ ap (λ (x : World). x.next_id) (sym same);
          },
          infos_noted s (world_of s seen) entry_moment k.infos here.tracked here.tests here.pruning here.of_ops here.gone so_plain (image_same s seen l here) aborted_allowed now.2,
        ))
        (λ place n. absurd (never place (sym n ∙ now.0)))
      where
        never : (n : ℕ) → Some n ≡ None → ⊥
        never n q = cc

  -- ---- one of both

  is_live : d ≡ None → IsLive s seen
  is_live none = ap (λ v. (world_of s v).deposed) (sym view) ∙ (r.live none).0

  plan_now : d ≡ None → IsPlanOf (world_of s seen) k.plan
  plan_now none = (kept_now l s clock es k d seen r view (is_live none)).1.plan

  pub blocked_added : (refusal : EntryRefusal) → Tells d k.plan e.who e.step refusal → IsNewStep (world_of s seen) e.who e.step → e.reply ≡ Refused (refusal_of refusal) → Added s seen (log_of l clock es') e.who e.step e.reply
  blocked_added refusal (OfSwap place fell) fresh refused = deposed_added place fell refused
  blocked_added refusal (OfDelete op none aborted) fresh refused = aborted_added op (is_live none) (aborted (world_of s seen) (plan_now none)) fresh refused

  pub blocked_repo : (refusal : EntryRefusal) → Tells d k.plan e.who e.step refusal → IsNewStep (world_of s seen) e.who e.step → ReadsOwn (caller_of s seen) e.who e.step → e.reply ≡ Refused (refusal_of refusal) → IsRepo l s clock es' k d
  blocked_repo refusal (OfSwap place fell) fresh own refused = deposed_repo place fell refused own
  blocked_repo refusal (OfDelete op none aborted) fresh own refused = aborted_repo op (is_live none) (aborted (world_of s seen) (plan_now none)) fresh refused own

  -- ---- none has

  module _ (live : IsLive s seen) (plan : Option Plan) (next : ℕ) (may : MayNote s seen e.who e.step e.reply plan next) (goes : GoesOn s seen e.who e.step) (new : Plan) (new_is : new ≡ unwrap_or plan k.plan) where
    abbrev kept_then : Kept
    kept_then = record { cluster = k.cluster; root = k.root; infos = k.infos; plan = new; next = next }

    note_allowed : Allowed (formats_of s) s.part_size (world_of s seen) entry_moment
    note_allowed =
        allowed_plain laws s seen l e here may.plain (inl (live, may.allows (image_now l) (tells_now s l r.tells) (image_same s seen l here)))
        (λ by now x. absurd (goes.unaborted by x)) (λ now. goes.fresh)

    pub note_added : Added s seen (log_of l clock es') e.who e.step e.reply
    note_added = added l l s clock es es' k kept_then d d seen e laws r view (goes_same l e may.plain) r.tells more note_allowed

    pub note_repo : IsRepo l s clock es' kept_then d
    note_repo =
        let now = kept_now l s clock es k d seen r view live in
        let stays = stays_after laws s (world_of s seen) entry_moment may.plain in
        let w : World = answered (formats_of s) (world_of s seen) e.who e.step e.reply (image_now l) in
        added_repo l l s clock es es' k kept_then d d seen e laws r view (goes_same l e may.plain) r.tells more note_allowed goes.own
        (λ none. (
          stays.deposed ∙ live,
          record {
            cluster = now.1.cluster ∙ sym stays.record_is;
            root = now.1.root ∙ sym stays.root;
            plan = plan_aside w (blobs_in (image_now l) (world_of s seen).blobs) w.deposed (after (formats_of s) (world_of s seen) entry_moment).caller
                (after (formats_of s) (world_of s seen) entry_moment).entries new (subst (IsPlanOf w) (sym new_is) (may.plan_is (image_now l) k.plan now.1.plan));
            next = may.next_is (image_now l);
          },
          infos_noted s (world_of s seen) entry_moment k.infos here.tracked here.tests here.pruning here.of_ops here.gone may.plain (image_same s seen l here) note_allowed now.2,
        ))
        (λ place n. absurd (never place (sym n ∙ now.0)))
      where
        never : (n : ℕ) → Some n ≡ None → ⊥
        never n q = cc

-- a step that nothing blocks goes on
pub free_goes : (l : Look) (s : Start) (clock : ℕ) (es : List Entry) (k : Kept) (d : Option ℕ) (seen : List Moment) → IsRepo l s clock es k d → log_of l clock es ≡ seen → (who : ℕ) (step : Step) → block_of d k.plan who step ≡ None
    → IsFresh s seen who step → ReadsOwn (caller_of s seen) who step
    → IsLive s seen × GoesOn s seen who step
free_goes l s clock es k d seen r view who step free fresh own =
    let none : d ≡ None = block_none d k.plan who step free in
    let live : IsLive s seen = ap (λ v. (world_of s v).deposed) (sym view) ∙ (r.live none).0 in
    let now = kept_now l s clock es k d seen r view live in (
      live,
      record { unaborted = unaborted (world_of s seen) k.plan who step now.1.plan (subst (λ (o : Option ℕ). block_of o k.plan who step ≡ None) none free); fresh = fresh; own = own },
    )

-- ---- a refusal by rule

-- it changes nothing but the history
pub refused_answer : (s : Start) (w : World) (who : ℕ) (step : Step) (refusal : Refusal) (image : Option Image) → calls step (Refused refusal) ≡ false → answered (formats_of s) w who step (Refused refusal) image ≡ w
refused_answer s w who step refusal image plain = by refusal plain
  where
    by : (x : Refusal) → calls step (Refused x) ≡ false → answered (formats_of s) w who step (Refused x) image ≡ w
    by DepotFault e = absurd (true≢false e)
    by x e = refl

pub refused_tickets : (s : Start) (old new : List Moment) (who : ℕ) (step : Step) (refusal : Refusal) → calls step (Refused refusal) ≡ false → Added s old new who step (Refused refusal) → (j : ℕ)
    → ticket_of s new j ≡ ticket_of s old j
refused_tickets s old new who step refusal plain a j =
    added_ticket s old new who step (Refused refusal) a j ∙ ap (λ (w : World). or_no_ticket (fin.get w.tickets j)) (refused_answer s (world_of s old) who step refusal a.image plain)

pub refused_readers : (s : Start) (old new : List Moment) (who : ℕ) (step : Step) (refusal : Refusal) → calls step (Refused refusal) ≡ false → Added s old new who step (Refused refusal) → (j : ℕ)
    → reader_of s new j ≡ reader_of s old j
refused_readers s old new who step refusal plain a j =
    added_reader s old new who step (Refused refusal) a j ∙ ap (λ (w : World). or_no_reader (fin.get w.readers j)) (refused_answer s (world_of s old) who step refusal a.image plain)

-- it is a step without a call of the container that leaves what is kept
pub may_refuse : (s : Start) (log : List Moment) (who : ℕ) (step : Step) (refusal : Refusal) (next : ℕ) → next ≡ (world_of s log).next_id → MayRefuse s log who step refusal → MayNote s log who step (Refused refusal) None next
may_refuse s log who step refusal next is may = record {
  plain = may.plain;
  allows = may.allows;
  plan_is = λ image old h. subst (λ (w : World). IsPlanOf w old) (sym (refused_answer s (world_of s log) who step refusal image may.plain)) h;
  next_is = λ image. is ∙ ap (λ (w : World). w.next_id) (sym (refused_answer s (world_of s log) who step refusal image may.plain));
}
