-- A container with its history, after one more entry.
use Rattle.std.proofs.Common.{◌≡◌, ℕ, suc, ◌+◌, ◌≤◌, Bool, true, false, List, [], ◌∷◌, ◌++◌, length, map, Option, Some, None, refl, sym, ap, ◌∙◌, subst, inl, inr, arith, length-append, true≢false}
use Rattle.std.specs.Prelude.{option_map}
use Rattle.std.specs.Ordering.{nat_cmp}
use Rattle.std.specs.FinMap.{FinMap}
use Rattle.std.specs.FinMap as fin
use Rattle.esr_core.specs.Laws.NumberMaps.{some_none}
use Rattle.esr_model.specs.Names.{Snap}
use Rattle.esr_model.specs.Values.{Has, RootData, ReadsBack}
use Rattle.esr_model.specs.Image.{Blobs, Image, At}
use Rattle.esr_core.specs.World.{World, Ticket, Caller, record_of}
use Rattle.esr_core.specs.World as core
use Rattle.esr_core.specs.Entry.{Entry, Moment}
use Rattle.esr_core.specs.After.{blobs_in, after}
use Rattle.esr_core.specs.Pruning.{dooms}
use Rattle.esr_core.specs.Allowed.{SameBlobs, Allowed}
use Rattle.esr_core.specs.Tracked.{Tracked}
use Rattle.esr_core.specs.Ranked.{Ranked}
use Rattle.esr_core.specs.ReadTracked.{ReadTracked}
use Rattle.esr_depot.specs.Image.{Image as Held}
use Rattle.esr_depot.specs.Look.{Look, now}
use Rattle.esr_depot.specs.Calls.{Stays}
use Rattle.esr_meta.specs.Info.{Info}
use Rattle.esr_formats.specs.Formats.{formats}
use Rattle.esr_formats.specs.Clusters.{cluster_kind}
use Rattle.esr_formats.specs.Refs.{ref_of_code}
use Rattle.esr_formats.specs.Names.{name_kind}
use Rattle.esr_ops.specs.Plan.{Plan, IsPlanOf}
use Rattle.esr_desk.specs.Start.{Start, formats_of, world_of, Legal}
use Rattle.esr_repo.specs.Log.{image_of, tick, ticks, log_of}
use Rattle.esr_repo.specs.Repo.{Kept, IsKeptOf, TellsSo, OwnIndices, Gone, AreListed, FoundBy, AreTests, HasInfos, IsSteady, IsRepo}
use Rattle.esr_repo.specs.Next.{Added, IsLive}
use Rattle.esr_desk.specs.Own.{caller_of}
use Rattle.esr_repo.specs.May.{CanTell}
use Rattle.esr_repo.specs.Laws.{Laws}
use Rattle.esr_repo.specs.InfosAfter.{LeavesInfos}
use Rattle.esr_repo.proofs.InfosStay.{WorksStay, infos_stay, infos_step, root_step}
use Rattle.esr_repo.proofs.Coming.{DeletesCome, come_same}
use Rattle.esr_repo.proofs.Frames.{frame_after, settler}
use Rattle.esr_repo.proofs.Gone.{own_step, gone_step, found_stays, found_step, info_spared}
use Rattle.esr_repo.specs.Client.{ReadsOwn, TellsClient}
use Rattle.esr_repo.specs.Tickets.{AreStale, AreOfOps}
use Rattle.esr_repo.proofs.Callers.{tests_step}
use Rattle.esr_repo.proofs.Clients.{client_step}
use Rattle.esr_repo.proofs.Tickets.{stale_step, of_ops_step}
use Rattle.esr_repo.specs.Grown.{legal_step, world_step}
use Rattle.esr_repo.proofs.Logs.{Goes, image_now, log_goes, log_stays, ticks-append}

-- ---- the formats

pub cluster_is : (s : Start) → (formats_of s).cluster ≡ cluster_kind
unfolding formats
cluster_is s = refl

pub names_are : (s : Start) → (formats_of s).names ≡ name_kind
unfolding formats
names_are s = refl

-- ---- what is kept of a world

-- the plan of a world reads neither its blobs nor what was done
pub plan_aside : (w : World) (blobs : Blobs) (deposed : Bool) (caller : Caller) (entries : List Entry) (p : Plan) → IsPlanOf w p → IsPlanOf (record w { blobs = blobs; deposed = deposed; caller = caller; entries = entries }) p
plan_aside w blobs deposed caller entries p h =
    record { ops = h.ops; deletes = h.deletes; completed = h.completed; seats = h.seats; next_op = h.next_op; next_ticket = h.next_ticket; restores = h.restores; restore_count = h.restore_count; readers = h.readers }

-- the infos of a world are told by its root, its tickets and its blobs
pub infos_aside : (s : Start) (w new : World) (infos : List Info) → new.root ≡ w.root → new.tickets ≡ w.tickets → new.blobs ≡ w.blobs → HasInfos s w infos → HasInfos s new infos
infos_aside s w new infos root tickets blobs h =
    let works : WorksStay w new = λ k t there other. (t, ap (λ (m : FinMap nat_cmp Ticket). fin.get m k) tickets ∙ there, refl) in
    record {
      are =
          infos_stay (formats_of s) w new s.tells infos root works
          (λ none k t uuids plan there. none k t uuids plan (ap (λ (m : FinMap nat_cmp Ticket). fin.get m k) tickets ∙ there))
          (λ i has. inr (λ bytes at. subst (λ (b : Blobs). At (formats_of s) b (Snap i.uuid.number) bytes) (sym blobs) at)) h.are;
      listed = subst (λ (r : RootData). AreListed r infos) (sym root) h.listed;
      found = λ i has. found_stays (formats_of s) w new i.uuid.number (map ref_of_code i.indices) works (subst (DeletesCome None w.tickets) (sym tickets) (come_same None w.tickets)) (h.found i has);
    }

-- they stay over a step that settles nothing
pub infos_over : (s : Start) (w : World) (m : Moment) (infos : List Info) → Tracked w → AreTests w.caller → OwnIndices w → AreOfOps w → Gone w → Allowed (formats_of s) s.part_size w m → LeavesInfos m.entry.step m.entry.reply
    → HasInfos s w infos → HasInfos s (after (formats_of s) w m) infos
infos_over s w m infos tracked tests own of_ops gone allowed leaves h = record {
  are =
      infos_step (formats_of s) s.part_size w m s.tells infos tracked tests
      (λ k t uuids plan i there settled work has. elim (h.found i has) [
        | inl made ↦ inl made
        | inr found ↦
            let (snap, listed, is) = h.listed i has in
            inr (λ doomed. info_spared (formats_of s) w k t uuids plan snap own of_ops gone there settled work listed (subst (FoundBy w.tickets) is found) (subst (λ (u : ℕ). Has (dooms (formats_of s) t) (Snap u)) is doomed))
      ])
      allowed leaves h.are;
  listed = subst (λ (r : RootData). AreListed r infos) (sym (root_step (formats_of s) w m tracked leaves)) h.listed;
  found = λ i has. found_step (formats_of s) w m i.uuid.number (map ref_of_code i.indices) tracked leaves (h.found i has);
}

-- where no record swap has failed, what is kept is that of the world
pub kept_now : (l : Look) (s : Start) (clock : ℕ) (es : List Entry) (k : Kept) (d : Option ℕ) (seen : List Moment) → IsRepo l s clock es k d → log_of l clock es ≡ seen → IsLive s seen
    → (d ≡ None) × IsKeptOf (world_of s seen) k × HasInfos s (world_of s seen) k.infos
kept_now l s clock es k d seen r view live = go d refl
  where
    alive : (world_of s (log_of l clock es)).deposed ≡ false
    alive = ap (λ v. (world_of s v).deposed) view ∙ live

    go : (o : Option ℕ) → d ≡ o → (d ≡ None) × IsKeptOf (world_of s seen) k × HasInfos s (world_of s seen) k.infos
    go None e = (e, subst (λ v. IsKeptOf (world_of s v) k) view (r.live e).1, subst (λ v. HasInfos s (world_of s v) k.infos) view (r.live e).2)
    go (Some place) e = absurd (true≢false (sym (r.fallen place e) ∙ alive))

-- and what holds of the world in any case
pub steady_now : (l : Look) (s : Start) (clock : ℕ) (es : List Entry) (k : Kept) (d : Option ℕ) (seen : List Moment) → IsRepo l s clock es k d → log_of l clock es ≡ seen → IsSteady s seen l
steady_now l s clock es k d seen r view = subst (λ v. IsSteady s v l) view r.steady

-- ---- the image

-- what is told of the container's blobs is that of the world
pub image_same : (s : Start) (log : List Moment) (l : Look) → IsSteady s log l → SameBlobs (world_of s log) (image_now l)
image_same s log l h = go (now l) refl
  where
    go : (o : Option Held) → now l ≡ o → SameBlobs (world_of s log) (option_map image_of o)
    go None e = tt
    go (Some i) e = ap (λ (x : Image). x.blobs) (h.image i e)

-- an image of it is told only where it was told that it tells
pub can_tell : (s : Start) (o : Option Held) → ((i : Held) → o ≡ Some i → s.tells ≡ true) → CanTell s (option_map image_of o)
can_tell s None h = λ image e. absurd (some_none image (sym e))
can_tell s (Some i) h = λ image e. h i refl

pub tells_now : (s : Start) (l : Look) → TellsSo l s.tells → CanTell s (image_now l)
tells_now s l tells = can_tell s (now l) tells.told

-- the text of the container's record is that of the world's
pub text_same : (s : Start) (log : List Moment) (l : Look) → IsSteady s log l → (image : Image) → image_now l ≡ Some image → image.text ≡ Some ((formats_of s).cluster.text (record_of (world_of s log)))
text_same s log l h image e = go (now l) refl e
  where
    same : (a b : Image) → Some a ≡ Some b → a ≡ b
    same a b q = cc

    go : (o : Option Held) → now l ≡ o → option_map image_of o ≡ Some image → image.text ≡ Some ((formats_of s).cluster.text (record_of (world_of s log)))
    go None n q = absurd (some_none image (sym q))
    go (Some i) n q = ap (λ (x : Image). x.text) (sym (same (image_of i) image q)) ∙ ap (λ (x : Image). x.text) (h.image i n)

-- ---- one more entry

module _ (old new : Look) (s : Start) (clock : ℕ) (es es' : List Entry) (k k' : Kept) (d d' : Option ℕ) (seen : List Moment) (e : Entry)
    (laws : Laws) (r : IsRepo old s clock es k d) (view : log_of old clock es ≡ seen) (goes : Goes old new e) (tells : TellsSo new s.tells) (pushed : es' ≡ es ++ e ∷ []) where
  abbrev moment : Moment
  moment = record { entry = e; image = image_now new }

  new_log : log_of new clock es' ≡ seen ++ moment ∷ []
  new_log = ap (log_of new clock) pushed ∙ log_goes old new clock es e r.bounded r.clock_is goes ∙ ap (λ (l : List Moment). l ++ moment ∷ []) view

  new_world : world_of s (log_of new clock es') ≡ after (formats_of s) (world_of s seen) moment
  new_world = ap (world_of s) new_log ∙ world_step s seen moment

  module _ (allowed : Allowed (formats_of s) s.part_size (world_of s seen) moment) where
    steady : IsSteady s seen old
    steady = steady_now old s clock es k d seen r view

    new_legal : Legal s (log_of new clock es')
    new_legal = subst (Legal s) (sym new_log) (legal_step s seen moment steady.legal allowed)

    -- the entry was added to the history
    pub added : Added s seen (log_of new clock es') e.who e.step e.reply
    added = record { image = image_now new; is = new_log; legal = new_legal }

    held_is : (i : Held) → now new ≡ Some i → image_of i ≡ core.image_of (formats_of s) (after (formats_of s) (world_of s seen) moment)
    held_is i is =
        let image : image_now new ≡ Some (image_of i) = ap (option_map image_of) is in
        let text = allowed.text (image_of i) image in
        let blobs : blobs_in (image_now new) (world_of s seen).blobs ≡ i.blobs = ap (λ (o : Option Image). blobs_in o (world_of s seen).blobs) image in
        λ j. record { blobs = sym blobs j; text = text j }

    longer : length (log_of new clock es') ≡ suc (length seen)
    longer = ap length new_log ∙ length-append seen (moment ∷ []) ∙ omega arith

    new_steady : ReadsOwn (caller_of s seen) e.who e.step → IsSteady s (log_of new clock es') new
    new_steady own =
        let frame = frame_after (formats_of s) (world_of s seen) moment in
        let w' : World = after (formats_of s) (world_of s seen) moment in
        record {
          legal = new_legal;
          image = λ i is. held_is i is ∙ ap (core.image_of (formats_of s)) (sym new_world);
          record_back = subst (λ (w : World). ReadsBack cluster_kind (record_of w)) (sym new_world) (subst (λ kind. ReadsBack kind (record_of w')) (cluster_is s) allowed.record_back);
          tracked = subst Tracked (sym new_world) (laws.tracked (formats_of s) s.part_size (world_of s seen) moment steady.tracked allowed);
          ranked = subst Ranked (sym new_world) (laws.ranked (formats_of s) s.part_size (world_of s seen) moment steady.tracked steady.ranked allowed);
          pruning = subst (λ (w : World). OwnIndices w) (sym new_world) (own_step (settler e.step e.who) (world_of s seen) w' frame.come steady.pruning);
          gone = subst (λ (w : World). Gone w) (sym new_world) (gone_step (formats_of s) s.part_size (world_of s seen) steady.tracked steady.pruning steady.gone moment allowed);
          read_tracked = subst ReadTracked (sym new_world) (laws.read_tracked (formats_of s) s.part_size (world_of s seen) moment steady.tracked steady.read_tracked allowed);
          tests = subst (λ (w : World). AreTests w.caller) (sym new_world) (tests_step (formats_of s) s.part_size (world_of s seen) moment allowed steady.tests);
          no_entries = steady.no_entries;
          client = subst TellsClient (sym new_world) (client_step (formats_of s) s.part_size (world_of s seen) moment laws steady.of_ops allowed own steady.client);
          stale = subst AreStale (sym new_world) (stale_step (formats_of s) s.part_size (world_of s seen) moment laws steady.tracked allowed steady.stale);
          of_ops = subst AreOfOps (sym new_world) (of_ops_step (formats_of s) s.part_size (world_of s seen) moment laws steady.tracked allowed steady.of_ops);
          few_ops = subst (λ (w : World). w.next_op ≤ s.world.next_op + length (log_of new clock es')) (sym new_world) (omega (arith, frame.ops, steady.few_ops, longer));
          few_tickets = subst (λ (w : World). w.next_ticket ≤ s.world.next_ticket + length (log_of new clock es')) (sym new_world) (omega (arith, frame.tickets, steady.few_tickets, longer));
        }

    -- and it is a container with its history again
    pub added_repo : ReadsOwn (caller_of s seen) e.who e.step
        → (d' ≡ None → ((after (formats_of s) (world_of s seen) moment).deposed ≡ false) × IsKeptOf (after (formats_of s) (world_of s seen) moment) k' × HasInfos s (after (formats_of s) (world_of s seen) moment) k'.infos)
        → ((place : ℕ) → d' ≡ Some place → (after (formats_of s) (world_of s seen) moment).deposed ≡ true) → IsRepo new s clock es' k' d'
    added_repo own live fallen =
        record {
          roomy = r.roomy;
          bounded = r.bounded;
          clock_is = goes.clock ∙ ap (λ t. tick t e) r.clock_is ∙ sym (ticks-append clock es e) ∙ ap (ticks clock) (sym pushed);
          tells = tells;
          steady = new_steady own;
          live = λ n. subst (λ (w : World). (w.deposed ≡ false) × IsKeptOf w k' × HasInfos s w k'.infos) (sym new_world) (live n);
          fallen = λ place n. ap (λ (w : World). w.deposed) new_world ∙ fallen place n;
        }

-- ---- no entry

-- out of memory: nothing changed
pub repo_stays : (old new : Look) (s : Start) (clock : ℕ) (es : List Entry) (k : Kept) (d : Option ℕ) → IsRepo old s clock es k d → Stays old new → IsRepo new s clock es k d
repo_stays old new s clock es k d r n =
    let same : log_of new clock es ≡ log_of old clock es = log_stays old new clock es r.bounded n in
    let here : now new ≡ now old = ap new.at n.clock ∙ n.at old.clock in
    record {
      roomy = r.roomy;
      bounded = r.bounded;
      clock_is = n.clock ∙ r.clock_is;
      tells = record { untold = λ e. r.tells.untold (sym here ∙ e); told = λ i e. r.tells.told i (sym here ∙ e) };
      steady =
          let h = r.steady in
          subst (λ v. IsSteady s v new) (sym same)
          (record {
            legal = h.legal;
            image = λ i e. h.image i (sym here ∙ e);
            record_back = h.record_back;
            tracked = h.tracked;
            ranked = h.ranked;
            pruning = h.pruning;
            gone = h.gone;
            read_tracked = h.read_tracked;
            tests = h.tests;
            no_entries = h.no_entries;
            client = h.client;
            stale = h.stale;
            of_ops = h.of_ops;
            few_ops = h.few_ops;
            few_tickets = h.few_tickets;
          });
      live = λ e. subst (λ v. ((world_of s v).deposed ≡ false) × IsKeptOf (world_of s v) k × HasInfos s (world_of s v) k.infos) (sym same) (r.live e);
      fallen = λ place e. ap (λ v. (world_of s v).deposed) same ∙ r.fallen place e;
    }
