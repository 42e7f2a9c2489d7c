-- Each step where nothing fails keeps what the history tells.
use Rattle.std.proofs.Common.{◌≡◌, ◌⊎◌, ℕ, suc, ◌+◌, ◌<◌, ◌≤◌, Bool, true, false, true≢false, ◌==◌, List, [], ◌∷◌, ◌++◌, Option, Some, None, map, refl, sym, ap, ◌∙◌, subst, inl, inr, arith, le_refl}
use Rattle.std.proofs.lemmas.Bool.Decides.{eqb_tells}
use Rattle.std.specs.FinMap as fin
use Rattle.std.proofs.lemmas.Bool.{cases_Bool, cond-true, cond-false}
use Rattle.std.proofs.lemmas.Option.{same_Some, none-some}
use Rattle.esr_core.specs.Laws.NumberMaps.{was_in, same_in, left_in, stays_in, split_at}
use Rattle.esr_model.specs.Names.{BlobName, Latest}
use Rattle.esr_model.specs.Values.{Bytes, Has, SnapInfo, ShardResult, Formats}
use Rattle.esr_model.specs.Shelf.{Shelved, Command}
use Rattle.esr_model.specs.Delete.{PrunedShard, kept_count}
use Rattle.esr_model.specs.Image.{Image}
use Rattle.esr_core.specs.World.{World, Op, Deletion, ShardWork, Done, Finalize, Deleting, Drop, Swap, Ticket, RestoreShard, Restoring, marked, info_of, made_of}
use Rattle.esr_core.specs.Ready.{ReadyDrop, ReadyDelete, ReadyCleanup}
use Rattle.esr_core.specs.Steps.{with_ticket, shard_ticket, final_ticket, given, listing, plain_ticket}
use Rattle.esr_core.specs.Turns.{cleaning_ticket}
use Rattle.esr_core.specs.Pruning.{planned_work, planned, delete_swap}
use Rattle.esr_core.specs.Deletes.{first_delete, runs_for, named_uuids, waiting_delete, running_delete, number_by, aborts_op, aborted_ops, with_named, delete_merged, delete_by}
use Rattle.esr_core.specs.Ids.{Law}
use Rattle.esr_core.specs.Entry.{AskedIndex, Asked, Snapshot, Clone, CloneOf, DeleteSnapshots, Restore, Cleanup, Given, GivenShard, GivenFinalize, GivenDrop, GivenRestore, GivenClone, GivenDelete, GivenCleanup, Read, ReadBlob, RestoredShard, CheckedAll, DrawTest, BeginTest, CommitTest, RemoveTests, VerifiedAll, ReadFails, Why, Prune, FetchShard, PlanShards, SettlePruned, RemoveDoomed, EndDelete, DeleteFails, Step, AskStep, TakeStep, DrawStep, BeginStep, CommitStep, LatestStep, FetchStep, ListStep, RaiseStep, SettleStep, DoneStep, FinishStep, DroppedStep, ElectStep, LookStep, ReadStep, PruneStep, CleanupRunning, StaleTerm, Reply, Accepted, NothingReady, Gave, DrawnFrom, WasBegun, WasDone, WasThere, WasReplaced, WasFetched, WasAbsent, WasListed, RaisedTo, WasSettled, HasEnded, ElectedTerm, Looked, Refused, WasRemoved, AcceptedRestore, Entry, Moment, Refusal}
use Rattle.esr_core.specs.After.{asked, cleanup_opened, asked_op, cloned_op, taken_by, taken_shard, taken_restore, taken_restore_shard, read_by, with_given, change, committing, fetching, told_blob, settled_of, done_of, done_by, is_stale, dropped_of, delete_settled, delete_failed_by, delete_failed, after}
use Rattle.esr_core.specs.Allowed as allowed
use Rattle.esr_core.specs.Allowed.{NoCleanup, Accepts, Gives, GivesShard, GivesFinalize, GivesRestore, Settles, Dones, HasCleaned, Drops, MayPlan, SettlesDeletion, FailsDeletion, ReadAllows, ReadFound, ReadMissing, ReadFault, RestoringShard, ReaderFailing, CheckingAll, CheckFailing, VerifyAllows, DrawingTest, BeginningTest, CommittingTest, RemovingTests, VerifyingAll, VerifyFailing, PruneAllows, FetchingShard, ShardMissing, Planning, SettlingDelete, SettleDeleteStale, RemovingDoomed, EndingDelete, FailingDelete, Allows, Allowed}
use Rattle.esr_core.specs.Laws.DeleteAsks.{Waits, waits}
use Rattle.esr_core.specs.Laws.Asides.{IsNoTest, aside_by}
use Rattle.esr_core.specs.Laws.Moments.{moment, settled_plain, delete_settled_plain}
use Rattle.esr_core.specs.Laws.Maps.{Deletes, entry_got}
use Rattle.esr_model.specs.Lists.{Has-right}
use Rattle.esr_core.specs.Laws.Tests.{same_number}
use Rattle.esr_report.specs.Cleaned.{cleanup_by, is_cleanup_ticket}
use Rattle.esr_report.specs.Replies as report
use Rattle.esr_report.specs.Replies.{op_by, is_op, uuid_by, name_by, name_of_op, final_out, has_name, abort_by, abort_of, aborts_at, is_over}
use Rattle.esr_report.specs.Aborts.{accepted_by}
use Rattle.esr_complete.proofs.Tickets.{op_stays, uuid_stays, cleanup_stays, cleanup_of, is_cleanup_op, cleans_stays, cleans_given, name_stays, name_given, IsGiftless}
use Rattle.esr_complete.proofs.OpEnds.{IsCalm, calm_unblocked, abort_names}
use Rattle.esr_complete.proofs.Stale.{IsStaleIn}
use Rattle.esr_complete.proofs.Following.{IsSaid, delete_of, IsOpenIn, IsDeleteIn, IsSettledIn, IsPrunedIn, IsCleanedIn, IsAbortedIn, HasName, IsNamedBy, IsNameless, IsToldOp, IsToldDelete, IsFinal, IsOutFinal, IsEndedOr, IsDeletedOr, Follows, FollowsIn, stands_at, stands_on, delete_on, aborted_on, named_on, nameless_on, op_on, delete_told_on, IsKin, kin_same, kin_on, out_same, out_on, IsOne, goes_on, told, gave, given_on, handed_on, follows_aside}
use Rattle.esr_complete.proofs.AbortedOps as aborts
use Rattle.esr_complete.proofs.AbortedOps.{was_op, not_out, names_it}

-- what holds of each world that the history passes: it is lawful, and finalizations that are out by the entries are of the present term
pub record IsSafe (f : Formats) (w : World) (es : List Entry) : Type 0 where
  pub shelf : List Shelved
  pub law : Law f w shelf
  pub present : (o k : ℕ) (t : Ticket) → final_out es o ≡ Some k → fin.get w.tickets k ≡ Some t → t.term ≡ w.term

-- ---- what an entry tells

-- it accepts nothing, gives no ticket, settles no root, and drops no op
abbrev IsPlain : Reply → Step → Type 0
IsPlain (Accepted op) step = ⊥
IsPlain (Gave ticket op unit) step = ⊥
IsPlain WasSettled SettleStep = ⊥
IsPlain WasSettled (PruneStep SettlePruned) = ⊥
IsPlain HasEnded DroppedStep = ⊥
IsPlain reply step = Unit {0}

plain_giftless : (reply : Reply) (step : Step) → IsPlain reply step → IsGiftless reply
plain_giftless (Gave ticket op unit) step plain = absurd plain
plain_giftless reply step plain = tt

none_given : (reply : Reply) (step : Step) → IsPlain reply step → (k : ℕ) → (op_by reply k ≡ None) × (uuid_by reply k ≡ None) × (cleanup_by reply k ≡ false)
none_given (Gave ticket op unit) step plain k = absurd plain
none_given reply step plain k = (refl, refl, refl)

plain_name : (o : ℕ) (step : Step) (reply : Reply) → IsPlain reply step → name_by o step reply ≡ None
plain_name o (AskStep (Snapshot name indices time)) (Accepted op) plain = absurd plain
plain_name o (AskStep (Clone source name names time (Some taken))) (Accepted op) plain = absurd plain
plain_name o step reply plain = refl

plain_cleanup : (o : ℕ) (step : Step) (reply : Reply) → IsPlain reply step → is_op o (cleanup_of step reply) ≡ false
plain_cleanup o (AskStep Cleanup) (Accepted op) plain = absurd plain
plain_cleanup o step reply plain = refl

plain_snapshot : (step : Step) (reply : Reply) → IsPlain reply step → accepted_by step reply ≡ None
plain_snapshot (AskStep (Snapshot name indices time)) (Accepted op) plain = absurd plain
plain_snapshot (AskStep (Clone source name names time (Some taken))) (Accepted op) plain = absurd plain
plain_snapshot step reply plain = refl

plain_delete : (step : Step) (reply : Reply) → IsPlain reply step → delete_of step reply ≡ None
plain_delete (AskStep (DeleteSnapshots names)) (Accepted op) plain = absurd plain
plain_delete (AskStep Cleanup) (Accepted op) plain = absurd plain
plain_delete step reply plain = refl

plain_one : (es : List Entry) (next more : ℕ) (x : Entry) → next ≤ more → IsPlain x.reply x.step → IsSaid x.step x.reply → IsOne es next more x
plain_one es next more x up plain said =
    record {
      up = up;
      giftless = plain_giftless x.reply x.step plain;
      no_ticket = none_given x.reply x.step plain;
      no_name = λ o any. (plain_name o x.step x.reply plain, plain_cleanup o x.step x.reply plain);
      said = said;
      settles = λ step reply. absurd (subst (λ (s : Step). IsPlain WasSettled s) step (subst (λ (r : Reply). IsPlain r x.step) reply plain));
      prunes = λ step reply. absurd (subst (λ (s : Step). IsPlain WasSettled s) step (subst (λ (r : Reply). IsPlain r x.step) reply plain));
      leaves = λ step reply. absurd (subst (λ (s : Step). IsPlain HasEnded s) step (subst (λ (r : Reply). IsPlain r x.step) reply plain));
    }

said_refused : (command : Asked) (refusal : Refusal) → IsSaid (AskStep command) (Refused refusal)
said_refused (Clone source name names time None) refusal = tt
said_refused command refusal = tt

none_is : {A : Type 0} (o : A) (found : Option A) → found ≡ None → found ≡ Some o → ⊥
none_is o found none e = none-some o (sym none ∙ e)

same_delete : (p q : Bool × ℕ) → Some p ≡ Some q → p ≡ q
same_delete p q e = cc

none_delete : (p : Bool × ℕ) (found : Option (Bool × ℕ)) → found ≡ None → found ≡ Some p → ⊥
none_delete p found none e = none-some p (sym none ∙ e)

-- the command asks for a delete of what has one of these names, and tells nothing else
record AsksFor (command : Asked) (names : List Bytes) : Type 0 where
  said : (d : ℕ) → IsSaid (AskStep command) (Accepted d)
  op : (d : ℕ) → delete_of (AskStep command) (Accepted d) ≡ Some (false, d)
  new : (d : ℕ) → accepted_by (AskStep command) (Accepted d) ≡ None
  unnamed : (o d : ℕ) → (name_by o (AskStep command) (Accepted d) ≡ None) × (is_op o (cleanup_of (AskStep command) (Accepted d)) ≡ false)
  aborts : (d : ℕ) (name : Bytes) → has_name names name ≡ true → abort_by name (AskStep command) (Accepted d) ≡ Some (report.Aborted d)

by_names : (names : List Bytes) → AsksFor (DeleteSnapshots names) names
by_names names = record { said = λ d. tt; op = λ d. refl; new = λ d. refl; unnamed = λ o d. (refl, refl); aborts = λ d name named. cond-true (has_name names name) (Some (report.Aborted d)) None named }

-- ---- what tickets are for

final_info : (a b : SnapInfo) (rs qs : List ShardResult) (m n : Command) → Finalize a rs m ≡ Finalize b qs n → a ≡ b
final_info a b rs qs m n e = cc

deleting_drop : (uuids : List ℕ) (plan : Option Swap) → Deleting uuids plan ≡ Drop → ⊥
deleting_drop uuids plan e = cc

deleting_final : (uuids : List ℕ) (plan : Option Swap) (info : SnapInfo) (results : List ShardResult) (made : Command) → Deleting uuids plan ≡ Finalize info results made → ⊥
deleting_final uuids plan info results made e = cc

same_uuids : {a b : List ℕ} {p q : Option Swap} → Deleting a p ≡ Deleting b q → a ≡ b
same_uuids e = cc

-- the running delete is open
running_there : (test : ℕ × Deletion → Bool) (deletes : List (ℕ × Deletion)) (d : ℕ) → first_delete test deletes ≡ Some d → (x : Deletion) × Has deletes (d, x)
running_there test [] d e = absurd (none-some d e)
running_there test (p ∷ deletes) d e = elim (cases_Bool (test p)) [
  | inl b ↦ let same : p.0 ≡ d = same_Some p.0 d (sym (cond-true _ _ _ b) ∙ e) in (p.1, inl (λ i. (same i, p.1)))
  | inr b ↦ let (x, m) = running_there test deletes d (sym (cond-false _ _ _ b) ∙ e) in (x, inr m)
]

-- where an op was aborted it has a name
aborted_name : (es : List Entry) (o : ℕ) → IsAbortedIn es o → HasName es o
aborted_name es o h =
    let (name, is) = abort_names h.front o h.e h.answer h.aborts in
    (name, ap (λ (l : List Entry). name_of_op l o) h.is ∙ name_stays h.front (h.e ∷ h.back) o name is)

-- an op with a name is another than one without
pub apart_name : (es : List Entry) (next : ℕ) (cleans : Bool) (o d : ℕ) → HasName es o → IsNameless es next cleans d → o ≡ d → ⊥
apart_name es next cleans o d name nameless same = no_name name.0 (sym nameless.unnamed ∙ ap (λ (n : ℕ). name_of_op es n) (sym same) ∙ name.1)
  where
    no_name : (name : Bytes) → ◌≡◌ {A = Option Bytes} None (Some name) → ⊥
    no_name name e = cc

one_up : (n : ℕ) → n ≤ suc n
one_up n = omega arith

below_up : (n : ℕ) → n < suc n
below_up n = omega arith

module _ (f : Formats) (size : ℕ) (w : World) (es : List Entry) (h : FollowsIn w es) where
  -- ---- ops and deletes that stay

  ops_stay : (more : ℕ) (x : Entry) → w.next_op ≤ more → ((o : ℕ) → (o < w.next_op) ⊎ (more ≤ o) → (name_by o x.step x.reply ≡ None) × (is_op o (cleanup_of x.step x.reply) ≡ false)) → (o : ℕ) (op : Op)
      → fin.get w.ops o ≡ Some op → IsToldOp (es ++ x ∷ []) more o op
  ops_stay more x up none o op e = op_on es x w.next_op more up none o op op (h.ops o op e) refl refl refl

  deletes_stay : (more : ℕ) (x : Entry) → IsOne es w.next_op more x → (d : ℕ) (y : Deletion) → fin.get w.deletes d ≡ Some y → IsToldDelete (es ++ x ∷ []) more d y
  deletes_stay more x one d y e = delete_told_on es x w.next_op more one.up one.no_name d y y (h.deletes d y e) refl refl

  -- an op goes on with other shards
  shards_on : (more : ℕ) (x : Entry) → w.next_op ≤ more → ((o : ℕ) → (o < w.next_op) ⊎ (more ≤ o) → (name_by o x.step x.reply ≡ None) × (is_op o (cleanup_of x.step x.reply) ≡ false)) → (key : ℕ) (old : Op)
      → fin.get w.ops key ≡ Some old → (shards : List ShardWork)
      → (o : ℕ) (op : Op) → fin.get (fin.insert w.ops key (record old { shards = shards })) o ≡ Some op → IsToldOp (es ++ x ∷ []) more o op
  shards_on more x up none key old there shards o op e = elim (was_in w.ops key (record old { shards = shards }) o op e) [
    | inl is ↦ subst (λ (p : ℕ × Op). IsToldOp (es ++ x ∷ []) more p.0 p.1) (λ i. (sym is.0 i, is.1 i)) (op_on es x w.next_op more up none key old (record old { shards = shards }) (h.ops key old there) refl refl refl)
    | inr is ↦ ops_stay more x up none o op is.1
  ]

  -- some leave
  ops_left : (more : ℕ) (x : Entry) → IsOne es w.next_op more x → (key o : ℕ) (op : Op) → fin.get (fin.remove w.ops key) o ≡ Some op → IsToldOp (es ++ x ∷ []) more o op
  ops_left more x one key o op e = ops_stay more x one.up one.no_name o op (left_in w.ops key o op e).1

  deletes_less : (more : ℕ) (x : Entry) → IsOne es w.next_op more x → (key d : ℕ) (y : Deletion) → fin.get (fin.remove w.deletes key) d ≡ Some y → IsToldDelete (es ++ x ∷ []) more d y
  deletes_less more x one key d y e = deletes_stay more x one d y (left_in w.deletes key d y e).1

  -- where none is named
  stays_named : (cleans : Bool) (key : ℕ) (es_now : List Entry) → IsNameless es w.next_op cleans key → (o : ℕ) → HasName es o → IsOpenIn w.ops o → IsEndedOr (fin.remove w.ops key) es_now o
  stays_named cleans key es_now nameless o name was = elim (split_at o key) [
    | inl same ↦ absurd (apart_name es w.next_op cleans o key name nameless same)
    | inr apart ↦ inl (was.0, stays_in w.ops key o apart ∙ was.1)
  ]

  stays_nameless : (key : ℕ) (es_now : List Entry) → HasName es key → (cleans : Bool) (d : ℕ) → IsNameless es w.next_op cleans d → IsDeleteIn w.deletes d → IsDeletedOr (fin.remove w.deletes key) es_now cleans d
  stays_nameless key es_now name cleans d nameless was = elim (split_at d key) [
    | inl same ↦ absurd (apart_name es w.next_op cleans key d name nameless (sym same))
    | inr apart ↦ inl (was.0, stays_in w.deletes key d apart ∙ was.1)
  ]

  -- ---- a step of which nothing is told

  stays_to : (more : ℕ) → w.next_op ≤ more → (x : Entry) → IsPlain x.reply x.step → IsSaid x.step x.reply → Follows w.deposed w.ops w.deletes w.tickets w.next_ticket more (es ++ x ∷ [])
  stays_to more up x plain said =
      let one : IsOne es w.next_op more x = plain_one es w.next_op more x up plain said in
      goes_on w.deposed w.ops w.ops w.deletes w.deletes w.tickets w.tickets w.next_ticket w.next_op more es x h one (ops_stay more x one.up one.no_name)
      (deletes_stay more x one) (kin_same w.tickets) (out_same w.tickets x) (λ o name was. inl was) (λ cleans d nameless was. inl was)
      (λ o e. absurd (none_is o _ (plain_snapshot x.step x.reply plain) e)) (λ cleans d e. absurd (none_delete (cleans, d) _ (plain_delete x.step x.reply plain) e))

  stays : (x : Entry) → IsPlain x.reply x.step → IsSaid x.step x.reply → FollowsIn w (es ++ x ∷ [])
  stays x plain said = stays_to w.next_op (le_refl w.next_op) x plain said

  -- one ticket goes on
  ticket_on : (k : ℕ) (t v : Ticket) → fin.get w.tickets k ≡ Some t → ((j : ℕ) (u : Ticket) → fin.get (fin.insert w.tickets k v) j ≡ Some u → IsKin w.tickets j u) → v.op ≡ t.op → (x : Entry)
      → (IsOutFinal t → IsOutFinal v ⊎ ((is_over x.step x.reply ≡ true) × (k ≡ x.who)))
      → IsPlain x.reply x.step → IsSaid x.step x.reply → Follows w.deposed w.ops w.deletes (fin.insert w.tickets k v) w.next_ticket w.next_op (es ++ x ∷ [])
  ticket_on k t v there kin op x outs plain said =
      let one : IsOne es w.next_op w.next_op x = plain_one es w.next_op w.next_op x (le_refl w.next_op) plain said in
      goes_on w.deposed w.ops w.ops w.deletes w.deletes w.tickets (fin.insert w.tickets k v) w.next_ticket w.next_op w.next_op es x h one
      (ops_stay w.next_op x one.up one.no_name) (deletes_stay w.next_op x one) kin (out_on w.tickets k t v x there op outs) (λ o name was. inl was)
      (λ cleans d nameless was. inl was) (λ o e. absurd (none_is o _ (plain_snapshot x.step x.reply plain) e)) (λ cleans d e. absurd (none_delete (cleans, d) _ (plain_delete x.step x.reply plain) e))

  changed : (k : ℕ) (t : Ticket) → fin.get w.tickets k ≡ Some t → (g : Ticket → Ticket) → (g t).op ≡ t.op → (g t).clean ≡ t.clean → (g t).work ≡ t.work → (x : Entry)
      → (IsOutFinal t → IsOutFinal (g t) ⊎ ((is_over x.step x.reply ≡ true) × (k ≡ x.who))) → IsPlain x.reply x.step → IsSaid x.step x.reply
      → FollowsIn (change w k g) (es ++ x ∷ [])
  changed k t there g op clean work x outs plain said =
      subst (λ (o : Option Ticket). FollowsIn (with_given w k g o) (es ++ x ∷ [])) (sym there) (ticket_on k t (g t) there (kin_on w.tickets k t (g t) there op clean work) op x outs plain said)

  -- ---- ask

  asks_next : (name : Bytes) (indices : List AskedIndex) (time : ℕ) → FollowsIn (asked w (Snapshot name indices time)) (es ++ told 0 (AskStep (Snapshot name indices time)) (Accepted w.next_op) ∷ [])
  asks_next name indices time =
      goes_on w.deposed w.ops (fin.insert w.ops w.next_op op) w.deletes w.deletes w.tickets w.tickets w.next_ticket w.next_op (suc w.next_op) es x h one told_ops
      (deletes_stay (suc w.next_op) x one) (kin_same w.tickets) (out_same w.tickets x) (λ o named was. inl (stands_on w.ops w.next_op op o was))
      (λ cleans d nameless was. inl was)
      (λ o e. subst (λ (n : ℕ). IsNamedBy (es ++ x ∷ []) n x × IsOpenIn (fin.insert w.ops w.next_op op) n) (same_Some w.next_op o e) ((name, cond-true _ _ _ (same_number w.next_op), named), stands_at w.ops w.next_op op))
      (λ cleans d e. absurd (none_delete (cleans, d) None refl e))
    where
      op : Op
      op = asked_op w name indices time

      x : Entry
      x = told 0 (AskStep (Snapshot name indices time)) (Accepted w.next_op)

      other : (o : ℕ) → (o < w.next_op) ⊎ (suc w.next_op ≤ o) → w.next_op ≡ o → ⊥
      other o (inl below) same = omega (arith, below, same)
      other o (inr above) same = omega (arith, above, same)

      one : IsOne es w.next_op (suc w.next_op) (told 0 (AskStep (Snapshot name indices time)) (Accepted w.next_op))
      one =
          record {
            up = one_up w.next_op;
            giftless = tt;
            no_ticket = λ k. (refl, refl, refl);
            no_name = λ o any. (elim (eqb_tells w.next_op o) [ inl t ↦ absurd (other o any t.1) | inr t ↦ cond-false _ _ _ t.0 ], refl);
            said = tt;
            settles = λ step. absurd cc;
            prunes = λ step. absurd cc;
            leaves = λ step. absurd cc;
          }

      named : name_of_op (es ++ told 0 (AskStep (Snapshot name indices time)) (Accepted w.next_op) ∷ []) w.next_op ≡ Some name
      named = name_given es x w.next_op (h.coming w.next_op (le_refl w.next_op)).0 ∙ cond-true _ _ _ (same_number w.next_op)

      mine : IsToldOp (es ++ told 0 (AskStep (Snapshot name indices time)) (Accepted w.next_op) ∷ []) (suc w.next_op) w.next_op (asked_op w name indices time)
      mine = record { unfailed = refl; aborted = λ by e. absurd (none-some by e); named = named; below = below_up w.next_op }

      told_ops : (o : ℕ) (q : Op) → fin.get (fin.insert w.ops w.next_op (asked_op w name indices time)) o ≡ Some q → IsToldOp (es ++ told 0 (AskStep (Snapshot name indices time)) (Accepted w.next_op) ∷ []) (suc w.next_op) o q
      told_ops o q e = elim (was_in w.ops w.next_op op o q e) [
        | inl is ↦ subst (λ (p : ℕ × Op). IsToldOp (es ++ x ∷ []) (suc w.next_op) p.0 p.1) (λ i. (sym is.0 i, is.1 i)) mine
        | inr is ↦ ops_stay (suc w.next_op) x one.up one.no_name o q is.1
      ]

  asks : (name : Bytes) (indices : List AskedIndex) (time o : ℕ) → Accepts f w name indices time o → FollowsIn (asked w (Snapshot name indices time)) (es ++ told 0 (AskStep (Snapshot name indices time)) (Accepted o) ∷ [])
  asks name indices time o a = subst (λ (n : ℕ). FollowsIn (asked w (Snapshot name indices time)) (es ++ told 0 (AskStep (Snapshot name indices time)) (Accepted n) ∷ [])) (sym a.number) (asks_next name indices time)

  -- ---- a clone is asked for

  -- an op that copies comes as one of a snapshot does
  clones_next : (source name : Bytes) (names : List Bytes) (time : ℕ) (taken : CloneOf)
      → FollowsIn (asked w (Clone source name names time (Some taken))) (es ++ told 0 (AskStep (Clone source name names time (Some taken))) (Accepted w.next_op) ∷ [])
  clones_next source name names time taken =
      goes_on w.deposed w.ops (fin.insert w.ops w.next_op op) w.deletes w.deletes w.tickets w.tickets w.next_ticket w.next_op (suc w.next_op) es x h one told_ops
      (deletes_stay (suc w.next_op) x one) (kin_same w.tickets) (out_same w.tickets x) (λ o named was. inl (stands_on w.ops w.next_op op o was))
      (λ cleans d nameless was. inl was)
      (λ o e. subst (λ (n : ℕ). IsNamedBy (es ++ x ∷ []) n x × IsOpenIn (fin.insert w.ops w.next_op op) n) (same_Some w.next_op o e) ((name, cond-true _ _ _ (same_number w.next_op), named), stands_at w.ops w.next_op op))
      (λ cleans d e. absurd (none_delete (cleans, d) None refl e))
    where
      op : Op
      op = cloned_op w name time taken

      x : Entry
      x = told 0 (AskStep (Clone source name names time (Some taken))) (Accepted w.next_op)

      other : (o : ℕ) → (o < w.next_op) ⊎ (suc w.next_op ≤ o) → w.next_op ≡ o → ⊥
      other o (inl below) same = omega (arith, below, same)
      other o (inr above) same = omega (arith, above, same)

      one : IsOne es w.next_op (suc w.next_op) (told 0 (AskStep (Clone source name names time (Some taken))) (Accepted w.next_op))
      one =
          record {
            up = one_up w.next_op;
            giftless = tt;
            no_ticket = λ k. (refl, refl, refl);
            no_name = λ o any. (elim (eqb_tells w.next_op o) [ inl t ↦ absurd (other o any t.1) | inr t ↦ cond-false _ _ _ t.0 ], refl);
            said = tt;
            settles = λ step. absurd cc;
            prunes = λ step. absurd cc;
            leaves = λ step. absurd cc;
          }

      named : name_of_op (es ++ told 0 (AskStep (Clone source name names time (Some taken))) (Accepted w.next_op) ∷ []) w.next_op ≡ Some name
      named = name_given es x w.next_op (h.coming w.next_op (le_refl w.next_op)).0 ∙ cond-true _ _ _ (same_number w.next_op)

      mine : IsToldOp (es ++ told 0 (AskStep (Clone source name names time (Some taken))) (Accepted w.next_op) ∷ []) (suc w.next_op) w.next_op (cloned_op w name time taken)
      mine = record { unfailed = refl; aborted = λ by e. absurd (none-some by e); named = named; below = below_up w.next_op }

      told_ops : (o : ℕ) (q : Op) → fin.get (fin.insert w.ops w.next_op (cloned_op w name time taken)) o ≡ Some q → IsToldOp (es ++ told 0 (AskStep (Clone source name names time (Some taken))) (Accepted w.next_op) ∷ []) (suc w.next_op) o q
      told_ops o q e = elim (was_in w.ops w.next_op op o q e) [
        | inl is ↦ subst (λ (p : ℕ × Op). IsToldOp (es ++ x ∷ []) (suc w.next_op) p.0 p.1) (λ i. (sym is.0 i, is.1 i)) mine
        | inr is ↦ ops_stay (suc w.next_op) x one.up one.no_name o q is.1
      ]

  clones : (source name : Bytes) (names : List Bytes) (time o : ℕ) (taken : CloneOf) → o ≡ w.next_op
      → FollowsIn (asked w (Clone source name names time (Some taken))) (es ++ told 0 (AskStep (Clone source name names time (Some taken))) (Accepted o) ∷ [])
  clones source name names time o taken is =
      subst (λ (n : ℕ). FollowsIn (asked w (Clone source name names time (Some taken))) (es ++ told 0 (AskStep (Clone source name names time (Some taken))) (Accepted n) ∷ [])) (sym is) (clones_next source name names time taken)

  -- ---- a delete is asked for

  delete_one : (command : Asked) (names : List Bytes) (of : AsksFor command names) (d more : ℕ) → w.next_op ≤ more → IsOne es w.next_op more (told 0 (AskStep command) (Accepted d))
  delete_one command names of d more up =
      record {
        up = up;
        giftless = tt;
        no_ticket = λ k. (refl, refl, refl);
        no_name = λ o any. of.unnamed o d;
        said = of.said d;
        settles = λ step. absurd cc;
        prunes = λ step. absurd cc;
        leaves = λ step. absurd cc;
      }

  -- each open op is as it was, or its abort is told
  module _ (safe : IsSafe f w es) (command : Asked) (names : List Bytes) (of : AsksFor command names) (d more : ℕ) (up : w.next_op ≤ more) where
    abbrev ask : Entry
    ask = told 0 (AskStep command) (Accepted d)

    -- no finalization of one that it aborts is out
    none_out : (o : ℕ) (old : Op) → aborts_op w (named_uuids w names) (o, old) ≡ true → final_out es o ≡ None
    none_out o old aborts = by (final_out es o) refl
      where
        by : (found : Option ℕ) → final_out es o ≡ found → found ≡ None
        by None is = refl
        by (Some k) is = let t = h.final o k is in absurd (not_out w (named_uuids w names) o old k t.t aborts t.there (safe.present o k t.t is t.there) t.op_is t.is)

    abort_is : (o : ℕ) (old : Op) → fin.get w.ops o ≡ Some old → aborts_op w (named_uuids w names) (o, old) ≡ true → aborts_at es o (told 0 (AskStep command) (Accepted d)) ≡ Some (report.Aborted d)
    abort_is o old there aborts =
        (λ i. abort_of ((h.ops o old there).named i) (none_out o old aborts i) (AskStep command) (Accepted d))
        ∙ of.aborts d old.name (names_it f w safe.shelf safe.law names o old there aborts)

    asked_ops : (o : ℕ) (op : Op) → fin.get (aborted_ops w (named_uuids w names) d) o ≡ Some op → IsToldOp (es ++ told 0 (AskStep command) (Accepted d) ∷ []) more o op
    asked_ops o op e =
        let (old, there, how) = was_op w (named_uuids w names) d o op e in
        let was : IsToldOp (es ++ ask ∷ []) more o old = ops_stay more ask up (λ p any. of.unnamed p d) o old there in
        elim how [
          | inl same ↦ subst (IsToldOp (es ++ ask ∷ []) more o) (sym same) was
          | inr now ↦ subst (IsToldOp (es ++ ask ∷ []) more o) (sym now.0) (record {
            unfailed = was.unfailed;
            aborted = λ by is. record { front = es; e = ask; back = []; is = refl; answer = report.Aborted d; aborts = abort_is o old there now.1 };
            named = was.named;
            below = was.below;
          })
        ]

    asked_on : (left : Deletes) → ((e : ℕ) (y : Deletion) → fin.get left e ≡ Some y → IsToldDelete (es ++ told 0 (AskStep command) (Accepted d) ∷ []) more e y)
        → ((e : ℕ) → IsDeleteIn w.deletes e → IsDeleteIn left e)
        → IsNameless (es ++ told 0 (AskStep command) (Accepted d) ∷ []) more false d → IsDeleteIn left d
        → Follows w.deposed (aborted_ops w (named_uuids w names) d) left w.tickets w.next_ticket more (es ++ told 0 (AskStep command) (Accepted d) ∷ [])
    asked_on left told_deletes kept nameless stands =
        goes_on w.deposed w.ops (aborted_ops w (named_uuids w names) d) w.deletes left w.tickets w.tickets w.next_ticket w.next_op more es ask h
        (delete_one command names of d more up) asked_ops told_deletes (kin_same w.tickets) (out_same w.tickets ask)
        (λ o name was. inl (aborts.is_op w (named_uuids w names) d o was.0 was.1)) (λ cleans e was_nameless was. inl (kept e was)) (λ o e. absurd (none-some o (sym (of.new d) ∙ e)))
        (λ cleans e is. subst (λ (p : Bool × ℕ). IsNameless (es ++ ask ∷ []) more p.0 p.1 × IsDeleteIn left p.1) (same_delete (false, d) (cleans, e) (sym (of.op d) ∙ is)) (nameless, stands))

  -- it joins an open delete
  joins : NoCleanup w → (command : Asked) (names : List Bytes) (of : AsksFor command names) (d : ℕ) → IsDeleteIn w.deletes d → FollowsIn w (es ++ told 0 (AskStep command) (Accepted d) ∷ [])
  joins clear command names of d stands =
      let x : Entry = told 0 (AskStep command) (Accepted d) in
      let one : IsOne es w.next_op w.next_op x = delete_one command names of d w.next_op (le_refl w.next_op) in
      let nameless : IsNameless (es ++ x ∷ []) w.next_op false d = subst (λ (b : Bool). IsNameless (es ++ x ∷ []) w.next_op b d) (clear d stands.0 stands.1) (deletes_stay w.next_op x one d stands.0 stands.1).nameless in
      goes_on w.deposed w.ops w.ops w.deletes w.deletes w.tickets w.tickets w.next_ticket w.next_op w.next_op es x h one (ops_stay w.next_op x one.up one.no_name)
      (deletes_stay w.next_op x one) (kin_same w.tickets) (out_same w.tickets x) (λ o name was. inl was) (λ cleans e nameless was. inl was)
      (λ o e. absurd (none-some o (sym (of.new d) ∙ e)))
      (λ cleans e is. subst (λ (p : Bool × ℕ). IsNameless (es ++ x ∷ []) w.next_op p.0 p.1 × IsDeleteIn w.deletes p.1) (same_delete (false, d) (cleans, e) (sym (of.op d) ∙ is)) (nameless, stands))

  -- it is merged into one that waits
  merges : IsSafe f w es → NoCleanup w → (command : Asked) (names : List Bytes) (of : AsksFor command names) (d : ℕ) → Waits w d
      → FollowsIn (delete_merged w names d (fin.get w.deletes d)) (es ++ told 0 (AskStep command) (Accepted d) ∷ [])
  merges safe clear command names of d a =
      let x : Entry = told 0 (AskStep command) (Accepted d) in
      let one : IsOne es w.next_op w.next_op x = delete_one command names of d w.next_op (le_refl w.next_op) in
      let y : Deletion = record a.x { uuids = with_named w a.x.uuids names } in
      let old : IsToldDelete (es ++ x ∷ []) w.next_op d a.x = deletes_stay w.next_op x one d a.x a.there in
      subst (λ (found : Option Deletion). FollowsIn (delete_merged w names d found) (es ++ x ∷ [])) (sym a.there)
      (asked_on safe command names of d w.next_op (le_refl w.next_op) (fin.insert w.deletes d y)
      (λ e z is. elim (was_in w.deletes d y e z is) [
        | inl mine ↦ subst (λ (p : ℕ × Deletion). IsToldDelete (es ++ x ∷ []) w.next_op p.0 p.1) (λ i. (sym mine.0 i, mine.1 i)) (record { unfailed = old.unfailed; nameless = old.nameless })
        | inr other ↦ deletes_stay w.next_op x one e z other.1
      ])
      (delete_on w.deletes d y) (subst (λ (b : Bool). IsNameless (es ++ x ∷ []) w.next_op b d) (clear d a.x a.there) old.nameless) (y, same_in w.deletes d y))

  -- or it is an op of its own
  opens : IsSafe f w es → (command : Asked) (names : List Bytes) (of : AsksFor command names) → FollowsIn (delete_by w names None None) (es ++ told 0 (AskStep command) (Accepted w.next_op) ∷ [])
  opens safe command names of =
      let x : Entry = told 0 (AskStep command) (Accepted w.next_op) in
      let one : IsOne es w.next_op (suc w.next_op) x = delete_one command names of w.next_op (suc w.next_op) (one_up w.next_op) in
      let y : Deletion = record { uuids = named_uuids w names; clean = false; failed = false } in
      let coming = h.coming w.next_op (le_refl w.next_op) in
      let nameless : IsNameless (es ++ x ∷ []) (suc w.next_op) false w.next_op =
      record { unnamed = name_given es x w.next_op coming.0 ∙ (of.unnamed w.next_op w.next_op).0; below = below_up w.next_op; kind = cleans_stays es x w.next_op (of.unnamed w.next_op w.next_op).1 ∙ coming.1 } in
      asked_on safe command names of w.next_op (suc w.next_op) (one_up w.next_op) (fin.insert w.deletes w.next_op y)
      (λ e z is. elim (was_in w.deletes w.next_op y e z is) [
        | inl mine ↦ subst (λ (p : ℕ × Deletion). IsToldDelete (es ++ x ∷ []) (suc w.next_op) p.0 p.1) (λ i. (sym mine.0 i, mine.1 i)) (record { unfailed = refl; nameless = nameless })
        | inr other ↦ deletes_stay (suc w.next_op) x one e z other.1
      ])
      (delete_on w.deletes w.next_op y) nameless (y, same_in w.deletes w.next_op y)

  goes_into : IsSafe f w es → NoCleanup w → (command : Asked) (names : List Bytes) (of : AsksFor command names) (waiting running : Option ℕ) → waiting_delete w ≡ waiting → running_delete w (named_uuids w names) ≡ running
      → FollowsIn (delete_by w names waiting running) (es ++ told 0 (AskStep command) (Accepted (number_by w.next_op waiting running)) ∷ [])
  goes_into safe clear command names of (Some d) running is runs = merges safe clear command names of d (waits w d is)
  goes_into safe clear command names of None (Some d) is runs = let (x, m) = running_there (runs_for w (named_uuids w names)) (fin.entries w.deletes) d runs in joins clear command names of d (x, entry_got w.deletes d x m)
  goes_into safe clear command names of None None is runs = opens safe command names of

  -- ---- a cleanup is asked for

  opens_cleanup : FollowsIn (cleanup_opened w) (es ++ told 0 (AskStep Cleanup) (Accepted w.next_op) ∷ [])
  opens_cleanup =
      goes_on w.deposed w.ops w.ops w.deletes (fin.insert w.deletes w.next_op y) w.tickets w.tickets w.next_ticket w.next_op
      (suc w.next_op) es x h one (ops_stay (suc w.next_op) x one.up one.no_name) told_deletes (kin_same w.tickets) (out_same w.tickets x)
      (λ o name was. inl was) (λ cleans d nameless was. inl (delete_on w.deletes w.next_op y d was)) (λ o e. absurd (none-some o e))
      (λ cleans d e. subst (λ (p : Bool × ℕ). IsNameless (es ++ x ∷ []) (suc w.next_op) p.0 p.1 × IsDeleteIn (fin.insert w.deletes w.next_op y) p.1) (same_delete (true, w.next_op) (cleans, d) e) (mine, (y, same_in w.deletes w.next_op y)))
    where
      x : Entry
      x = told 0 (AskStep Cleanup) (Accepted w.next_op)

      y : Deletion
      y = record { uuids = []; clean = true; failed = false }

      other : (o : ℕ) → (o < w.next_op) ⊎ (suc w.next_op ≤ o) → w.next_op ≡ o → ⊥
      other o (inl below) same = omega (arith, below, same)
      other o (inr above) same = omega (arith, above, same)

      one : IsOne es w.next_op (suc w.next_op) (told 0 (AskStep Cleanup) (Accepted w.next_op))
      one =
          record {
            up = one_up w.next_op;
            giftless = tt;
            no_ticket = λ k. (refl, refl, refl);
            no_name = λ o any. (refl, elim (eqb_tells w.next_op o) [ inl t ↦ absurd (other o any t.1) | inr t ↦ t.0 ]);
            said = tt;
            settles = λ step. absurd cc;
            prunes = λ step. absurd cc;
            leaves = λ step. absurd cc;
          }

      mine : IsNameless (es ++ told 0 (AskStep Cleanup) (Accepted w.next_op) ∷ []) (suc w.next_op) true w.next_op
      mine = record { unnamed = name_given es x w.next_op (h.coming w.next_op (le_refl w.next_op)).0; below = below_up w.next_op; kind = cleans_given es x w.next_op (same_number w.next_op) }

      told_deletes : (d : ℕ) (z : Deletion) → fin.get (fin.insert w.deletes w.next_op (record { uuids = []; clean = true; failed = false })) d ≡ Some z
          → IsToldDelete (es ++ told 0 (AskStep Cleanup) (Accepted w.next_op) ∷ []) (suc w.next_op) d z
      told_deletes d z e = elim (was_in w.deletes w.next_op y d z e) [
        | inl is ↦ subst (λ (p : ℕ × Deletion). IsToldDelete (es ++ x ∷ []) (suc w.next_op) p.0 p.1) (λ i. (sym is.0 i, is.1 i)) (record { unfailed = refl; nameless = mine })
        | inr is ↦ deletes_stay (suc w.next_op) x one d z is.1
      ]

  -- ---- take

  gives_shard : (o index number : ℕ) (base : Option ℕ) → GivesShard w o index number None base → FollowsIn (taken_by f w o (GivenShard index number base) (fin.get w.ops o)) (es ++ gave w.next_ticket o (GivenShard index number base) ∷ [])
  gives_shard o index number base g =
      let x : Entry = gave w.next_ticket o (GivenShard index number base) in
      let shards : List ShardWork = map (given w.next_ticket g.s.ref.id g.s.number) g.op.shards in
      let op : Op = record g.op { shards = shards } in
      subst (λ (y : Option Op). FollowsIn (taken_by f w o (GivenShard index number base) y) (es ++ x ∷ [])) (sym g.ready.op_there)
      (subst (λ (y : Option ShardWork). FollowsIn (taken_shard w o g.op base y) (es ++ x ∷ [])) (sym g.found)
      (given_on w.deposed w.ops (fin.insert w.ops o op) w.deletes w.tickets w.next_ticket w.next_op es o (GivenShard index number base) h
      (shards_on w.next_op x (le_refl w.next_op) (λ q any. (refl, refl)) o g.op g.ready.op_there shards) (stands_on w.ops o op)
      (shard_ticket w o g.op g.s base) refl refl (λ e. absurd cc) (λ info results made e. absurd cc)
      (λ uuids plan e. absurd cc) (λ final. absurd final)
      (λ info results made e. absurd cc)))

  -- a shard of a clone is given as another
  gives_clone : (o index number source : ℕ) (base : Option ℕ) → GivesShard w o index number (Some source) base
      → FollowsIn (taken_by f w o (GivenClone index number source base) (fin.get w.ops o)) (es ++ gave w.next_ticket o (GivenClone index number source base) ∷ [])
  gives_clone o index number source base g =
      let x : Entry = gave w.next_ticket o (GivenClone index number source base) in
      let shards : List ShardWork = map (given w.next_ticket g.s.ref.id g.s.number) g.op.shards in
      let op : Op = record g.op { shards = shards } in
      subst (λ (y : Option Op). FollowsIn (taken_by f w o (GivenClone index number source base) y) (es ++ x ∷ [])) (sym g.ready.op_there)
      (subst (λ (y : Option ShardWork). FollowsIn (taken_shard w o g.op base y) (es ++ x ∷ [])) (sym g.found)
      (given_on w.deposed w.ops (fin.insert w.ops o op) w.deletes w.tickets w.next_ticket w.next_op es o (GivenClone index number source base) h
      (shards_on w.next_op x (le_refl w.next_op) (λ q any. (refl, refl)) o g.op g.ready.op_there shards) (stands_on w.ops o op)
      (shard_ticket w o g.op g.s base) refl refl (λ e. absurd cc) (λ info results made e. absurd cc)
      (λ uuids plan e. absurd cc) (λ final. absurd final)
      (λ info results made e. absurd cc)))

  -- the ops stay as a ticket is given
  ops_given : (k o : ℕ) (unit : Given) (q : ℕ) (op : Op) → fin.get w.ops q ≡ Some op → IsToldOp (es ++ gave k o unit ∷ []) w.next_op q op
  ops_given k o unit q op e = ops_stay w.next_op (gave k o unit) (le_refl w.next_op) (λ p any. (refl, refl)) q op e

  gives_final : (o : ℕ) (info : SnapInfo) (results : List ShardResult) → GivesFinalize f w o info results
      → FollowsIn (taken_by f w o (GivenFinalize info results) (fin.get w.ops o)) (es ++ gave w.next_ticket o (GivenFinalize info results) ∷ [])
  gives_final o info results g =
      let all : List Entry = es ++ gave w.next_ticket o (GivenFinalize info results) ∷ [] in
      subst (λ (x : Option Op). FollowsIn (taken_by f w o (GivenFinalize info results) x) all) (sym g.ready.op_there)
      (given_on w.deposed w.ops w.ops w.deletes w.tickets w.next_ticket w.next_op es o (GivenFinalize info results) h (ops_given w.next_ticket o (GivenFinalize info results)) (λ p was. was) (final_ticket f w o g.op results) refl refl
      (λ e. absurd cc) (λ other rs made e. (g.op.name, (h.ops o g.op g.ready.op_there).named))
      (λ uuids plan e. absurd cc)
      (λ final. record { out = refl; unsettled = refl; final = tt })
      (λ other rs made e. ap (λ (y : SnapInfo). Some y.uuid) (g.info_is ∙ final_info (info_of g.op results) other results rs (made_of f w.blobs g.op) made e)))

  -- what stops an op is that a delete aborted it
  stopped : (o : ℕ) → ReadyDrop w o → IsAbortedIn es o
  stopped o ready = elim ready.stopped [
    | inl z ↦ elim z.2 [
      | inl failed ↦ absurd (true≢false (sym failed ∙ (h.ops o z.0 z.1).unfailed))
      | inr by ↦ (h.ops o z.0 z.1).aborted by.0 by.1
    ]
    | inr z ↦ absurd (true≢false (sym z.2 ∙ (h.deletes o z.0 z.1).unfailed))
  ]

  gives_drop : (o : ℕ) → ReadyDrop w o → FollowsIn (taken_by f w o GivenDrop (fin.get w.ops o)) (es ++ gave w.next_ticket o GivenDrop ∷ [])
  gives_drop o ready =
      given_on w.deposed w.ops w.ops w.deletes w.tickets w.next_ticket w.next_op es o GivenDrop h (ops_given w.next_ticket o GivenDrop) (λ p was. was) (plain_ticket w o Drop) refl refl (λ e. (stopped o ready, refl))
      (λ info results made e. absurd cc) (λ uuids plan e. absurd cc) (λ final. absurd final) (λ info results made e. absurd cc)

  gives_delete : (o : ℕ) (uuids : List ℕ) (x : Deletion) → ReadyDelete w o x → FollowsIn (taken_by f w o (GivenDelete uuids) (fin.get w.ops o)) (es ++ gave w.next_ticket o (GivenDelete uuids) ∷ [])
  gives_delete o uuids x ready =
      given_on w.deposed w.ops w.ops w.deletes w.tickets w.next_ticket w.next_op es o (GivenDelete uuids) h (ops_given w.next_ticket o (GivenDelete uuids))
      (λ p was. was) (plain_ticket w o (Deleting uuids None)) refl refl (λ e. absurd (deleting_drop uuids None e))
      (λ info results made e. absurd (deleting_final uuids None info results made e)) (λ us plan e. subst (λ (b : Bool). IsNameless es w.next_op b o) ready.deletes (h.deletes o x ready.there).nameless) (λ final. absurd final)
      (λ info results made e. absurd (deleting_final uuids None info results made e))

  gives_cleanup : (o : ℕ) (x : Deletion) → ReadyCleanup w o x → FollowsIn (taken_by f w o GivenCleanup (fin.get w.ops o)) (es ++ gave w.next_ticket o GivenCleanup ∷ [])
  gives_cleanup o x ready =
      given_on w.deposed w.ops w.ops w.deletes w.tickets w.next_ticket w.next_op es o GivenCleanup h (ops_given w.next_ticket o GivenCleanup) (λ p was. was) (cleaning_ticket w o) refl refl (λ e. absurd (deleting_drop [] None e))
      (λ info results made e. absurd (deleting_final [] None info results made e)) (λ us plan e. subst (λ (b : Bool). IsNameless es w.next_op b o) ready.cleans (h.deletes o x ready.there).nameless) (λ final. absurd final)
      (λ info results made e. absurd (deleting_final [] None info results made e))

  gives_restore : (o index number uuid : ℕ) → GivesRestore w o index number uuid → FollowsIn (taken_restore w o index number (fin.get w.restores o)) (es ++ gave w.next_ticket o (GivenRestore index number uuid) ∷ [])
  gives_restore o index number uuid g =
      let all : List Entry = es ++ gave w.next_ticket o (GivenRestore index number uuid) ∷ [] in
      subst (λ (x : Option Restoring). FollowsIn (taken_restore w o index number x) all) (sym g.ready.there)
      (subst (λ (x : Option RestoreShard). FollowsIn (taken_restore_shard w o g.r x) all) (sym g.found)
      (handed_on w.deposed w.ops w.deletes w.tickets w.next_ticket w.next_op es o (GivenRestore index number uuid) (λ final. final) h))

  gives : (o : ℕ) (unit : Given) → Gives f w o unit → FollowsIn (taken_by f w o unit (fin.get w.ops o)) (es ++ gave w.next_ticket o unit ∷ [])
  gives o (GivenShard index number base) g = gives_shard o index number base g
  gives o (GivenFinalize info results) g = gives_final o info results g
  gives o GivenDrop g = gives_drop o g
  gives o (GivenRestore index number uuid) g = gives_restore o index number uuid g
  gives o (GivenClone index number source base) g = gives_clone o index number source base g
  gives o (GivenDelete uuids) g = gives_delete o uuids g.0 g.1
  gives o GivenCleanup g = gives_cleanup o g.0 g.1

  gives_as : (k o : ℕ) (unit : Given) → k ≡ w.next_ticket → Gives f w o unit → FollowsIn (taken_by f w o unit (fin.get w.ops o)) (es ++ gave k o unit ∷ [])
  gives_as k o unit is g = subst (λ (j : ℕ). FollowsIn (taken_by f w o unit (fin.get w.ops o)) (es ++ gave j o unit ∷ [])) (sym is) (gives o unit g)

  -- ---- blobs

  commits : (k : ℕ) (t : Ticket) → fin.get w.tickets k ≡ Some t → (name : BlobName) (o : Option Bytes) (x : Entry) → IsPlain x.reply x.step → IsSaid x.step x.reply → FollowsIn (change w k (committing name o)) (es ++ x ∷ [])
  commits k t there name None x plain said = changed k t there (committing name None) refl refl refl x (λ is. inl (record { out = is.out; unsettled = is.unsettled; final = is.final })) plain said
  commits k t there name (Some bytes) x plain said = changed k t there (committing name (Some bytes)) refl refl refl x (λ is. inl (record { out = is.out; unsettled = is.unsettled; final = is.final })) plain said

  fetches : (k : ℕ) (t : Ticket) → fin.get w.tickets k ≡ Some t → (name : BlobName) (o : Option Bytes) (x : Entry) → IsPlain x.reply x.step → IsSaid x.step x.reply → FollowsIn (change w k (fetching name o)) (es ++ x ∷ [])
  fetches k t there name None x plain said = changed k t there (fetching name None) refl refl refl x (λ is. inl is) plain said
  fetches k t there name (Some bytes) x plain said = changed k t there (fetching name (Some bytes)) refl refl refl x (λ is. inl (record { out = is.out; unsettled = is.unsettled; final = is.final })) plain said

  -- ---- the end of a unit

  does : (k : ℕ) (r : ShardResult) (image : Option Image) → Dones f size w k r image → FollowsIn (done_of w k r (fin.get w.tickets k)) (es ++ told k (DoneStep r) HasEnded ∷ [])
  does k r image d =
      let x : Entry = told k (DoneStep r) HasEnded in
      let one : IsOne es w.next_op w.next_op x = plain_one es w.next_op w.next_op x (le_refl w.next_op) tt tt in
      let shards : List ShardWork = map (marked k (Done r)) d.op.shards in
      let op : Op = record d.op { shards = shards } in
      subst (λ (o : Option Ticket). FollowsIn (done_of w k r o) (es ++ x ∷ [])) (sym d.out.there)
      (subst (λ (o : Option Op). FollowsIn (done_by w k r d.t o) (es ++ x ∷ [])) (sym d.op_there)
      (goes_on w.deposed w.ops (fin.insert w.ops d.t.op op) w.deletes w.deletes w.tickets (fin.insert w.tickets k (record d.t { out = false })) w.next_ticket w.next_op w.next_op es x h one
      (shards_on w.next_op x one.up one.no_name d.t.op d.op d.op_there shards) (deletes_stay w.next_op x one)
      (kin_on w.tickets k d.t (record d.t { out = false }) d.out.there refl refl refl) (out_on w.tickets k d.t (record d.t { out = false }) x d.out.there refl (λ is. absurd (subst IsFinal d.is is.final)))
      (λ o name was. inl (stands_on w.ops d.t.op op o was)) (λ cleans e nameless was. inl was)
      (λ o e. absurd (none-some o e)) (λ cleans e is. absurd (none_delete (cleans, e) None refl is))))

  settles : (k : ℕ) → Settles f w k → FollowsIn (settled_of f w k (fin.get w.tickets k)) (es ++ told k SettleStep WasSettled ∷ [])
  settles k s =
      subst (λ (v : World). FollowsIn v (es ++ told k SettleStep WasSettled ∷ [])) (sym (settled_plain f w k s))
      (goes_on w.deposed w.ops (fin.remove w.ops s.t.op) w.deletes (fin.remove w.deletes s.t.op) w.tickets
      (fin.insert w.tickets k (record s.t { settled = true })) w.next_ticket w.next_op w.next_op es x h one (ops_left w.next_op x one s.t.op) (deletes_less w.next_op x one s.t.op)
      (kin_on w.tickets k s.t (record s.t { settled = true }) s.may.out.there refl refl refl) (out_on w.tickets k s.t (record s.t { settled = true }) x s.may.out.there refl (λ is. inr (refl, refl))) leaves
      (stays_nameless s.t.op (es ++ x ∷ []) named) (λ o e. absurd (none-some o e)) (λ cleans d e. absurd (none_delete (cleans, d) None refl e)))
    where
      x : Entry
      x = told k SettleStep WasSettled

      named : HasName es s.t.op
      named = (h.units k s.t s.may.out.there).finals s.info s.results s.made s.work

      one : IsOne es w.next_op w.next_op (told k SettleStep WasSettled)
      one =
          record {
            up = le_refl w.next_op;
            giftless = tt;
            no_ticket = λ j. (refl, refl, refl);
            no_name = λ o any. (refl, refl);
            said = tt;
            settles = λ step reply. (s.t.op, op_stays es (x ∷ []) k s.t.op (h.op_of k s.t s.may.out.there), named_on es x s.t.op named);
            prunes = λ step. absurd cc;
            leaves = λ step. absurd cc;
          }

      it : IsSettledIn (es ++ told k SettleStep WasSettled ∷ []) s.t.op
      it =
          record {
            e = told k SettleStep WasSettled;
            has = Has-right es (told k SettleStep WasSettled ∷ []) (told k SettleStep WasSettled) (inl refl);
            step = refl;
            reply = refl;
            op_is = op_stays es (told k SettleStep WasSettled ∷ []) k s.t.op (h.op_of k s.t s.may.out.there);
            uuid = s.info.uuid;
            uuid_is = uuid_stays es (told k SettleStep WasSettled ∷ []) k s.info.uuid (h.uuid_of k s.t s.info s.results s.made s.may.out.there s.work);
          }

      leaves : (o : ℕ) → HasName es o → IsOpenIn w.ops o → IsEndedOr (fin.remove w.ops s.t.op) (es ++ told k SettleStep WasSettled ∷ []) o
      leaves o name was = elim (split_at o s.t.op) [
        | inl same ↦ inr (inl (subst (IsSettledIn (es ++ told k SettleStep WasSettled ∷ [])) (sym same) it))
        | inr apart ↦ inl (was.0, stays_in w.ops s.t.op o apart ∙ was.1)
      ]

  -- its op leaves with a ticket
  module _ (k : ℕ) (t : Ticket) (there : fin.get w.tickets k ≡ Some t) where
    abbrev last : Entry
    last = told k DroppedStep HasEnded

    -- that of a cleanup has no name
    drop_one : (is_cleanup_ticket es k ≡ true → IsNameless es w.next_op true t.op) → IsOne es w.next_op w.next_op (told k DroppedStep HasEnded)
    drop_one nameless =
        record {
          up = le_refl w.next_op;
          giftless = tt;
          no_ticket = λ j. (refl, refl, refl);
          no_name = λ o any. (refl, refl);
          said = tt;
          settles = λ step. absurd cc;
          prunes = λ step. absurd cc;
          leaves = λ step reply. (
            t.op,
            op_stays es (last ∷ []) k t.op (h.op_of k t there),
            λ cleans. nameless_on es last w.next_op w.next_op (le_refl w.next_op) (λ o any. (refl, refl)) true t.op (nameless (sym (cleanup_stays es last k refl) ∙ cleans)),
          );
        }

    drop_on : IsOne es w.next_op w.next_op (told k DroppedStep HasEnded) → (IsFinal t.work → ⊥) → ((o : ℕ) → HasName es o → IsOpenIn w.ops o → IsEndedOr (fin.remove w.ops t.op) (es ++ told k DroppedStep HasEnded ∷ []) o)
        → ((cleans : Bool) (d : ℕ) → IsNameless es w.next_op cleans d → IsDeleteIn w.deletes d → IsDeletedOr (fin.remove w.deletes t.op) (es ++ told k DroppedStep HasEnded ∷ []) cleans d)
        → FollowsIn (dropped_of w k (fin.get w.tickets k)) (es ++ told k DroppedStep HasEnded ∷ [])
    drop_on one no_final kept kept_deletes =
        subst (λ (o : Option Ticket). FollowsIn (dropped_of w k o) (es ++ told k DroppedStep HasEnded ∷ [])) (sym there)
        (goes_on w.deposed w.ops (fin.remove w.ops t.op) w.deletes (fin.remove w.deletes t.op) w.tickets
        (fin.insert w.tickets k (record t { out = false })) w.next_ticket w.next_op w.next_op es last h one (ops_left w.next_op last one t.op) (deletes_less w.next_op last one t.op)
        (kin_on w.tickets k t (record t { out = false }) there refl refl refl) (out_on w.tickets k t (record t { out = false }) last there refl (λ is. absurd (no_final is.final))) kept kept_deletes
        (λ o e. absurd (none-some o e)) (λ cleans e is. absurd (none_delete (cleans, e) None refl is)))

    -- one that was aborted
    drops_op : t.work ≡ Drop → FollowsIn (dropped_of w k (fin.get w.tickets k)) (es ++ told k DroppedStep HasEnded ∷ [])
    drops_op work =
        drop_on (drop_one (λ cleans. absurd (true≢false (sym cleans ∙ h.cleans k t there ∙ was.1)))) (λ final. subst IsFinal work final) leaves (stays_nameless t.op (es ++ last ∷ []) (aborted_name es t.op was.0))
      where
        was : IsAbortedIn es t.op × (t.clean ≡ false)
        was = (h.units k t there).drops work

        leaves : (o : ℕ) → HasName es o → IsOpenIn w.ops o → IsEndedOr (fin.remove w.ops t.op) (es ++ told k DroppedStep HasEnded ∷ []) o
        leaves o name open_op = elim (split_at o t.op) [
          | inl same ↦ inr (inr (subst (IsAbortedIn (es ++ last ∷ [])) (sym same) (aborted_on es last t.op was.0)))
          | inr apart ↦ inl (open_op.0, stays_in w.ops t.op o apart ∙ open_op.1)
        ]

    -- that of a cleanup which came to its end
    cleans_op : (image : Option Image) → HasCleaned f w k t image → FollowsIn (dropped_of w k (fin.get w.tickets k)) (es ++ told k DroppedStep HasEnded ∷ [])
    cleans_op image c =
        drop_on (drop_one (λ cleans. nameless)) (λ final. subst IsFinal c.work final) (stays_named true t.op (es ++ last ∷ []) nameless) leaves
      where
        nameless : IsNameless es w.next_op true t.op
        nameless = subst (λ (b : Bool). IsNameless es w.next_op b t.op) c.clean ((h.units k t there).deletes c.uuids (Some c.s) c.work)

        it : IsCleanedIn (es ++ told k DroppedStep HasEnded ∷ []) t.op
        it =
            record {
              e = last;
              has = Has-right es (last ∷ []) last (inl refl);
              step = refl;
              reply = refl;
              op_is = op_stays es (last ∷ []) k t.op (h.op_of k t there);
              cleans = cleanup_stays es last k refl ∙ h.cleans k t there ∙ c.clean;
            }

        leaves : (cleans : Bool) (d : ℕ) → IsNameless es w.next_op cleans d → IsDeleteIn w.deletes d → IsDeletedOr (fin.remove w.deletes t.op) (es ++ told k DroppedStep HasEnded ∷ []) cleans d
        leaves true d none was = elim (split_at d t.op) [
          | inl same ↦ inr (subst (IsCleanedIn (es ++ last ∷ [])) (sym same) it)
          | inr apart ↦ inl (was.0, stays_in w.deletes t.op d apart ∙ was.1)
        ]
        leaves false d none was = elim (split_at d t.op) [
          | inl same ↦ absurd (true≢false (sym nameless.kind ∙ ap (is_cleanup_op es) (sym same) ∙ none.kind))
          | inr apart ↦ inl (was.0, stays_in w.deletes t.op d apart ∙ was.1)
        ]

  drops : (k : ℕ) (image : Option Image) → Drops f w k image → FollowsIn (dropped_of w k (fin.get w.tickets k)) (es ++ told k DroppedStep HasEnded ∷ [])
  drops k image d = elim d.may.unit [
    | inl work ↦ drops_op k d.may.t d.may.out.there work
    | inr c ↦ cleans_op k d.may.t d.may.out.there image c
  ]

  -- ---- steps of the ticket of a delete or cleanup

  plans : (k : ℕ) (shards : List PrunedShard) (image : Option Image) (p : MayPlan f w k shards image)
      → FollowsIn (record (change w k (planned f shards w.next_id)) { next_id = w.next_id + kept_count shards }) (es ++ told k (PruneStep (PlanShards shards)) (DrawnFrom w.next_id) ∷ [])
  plans k shards image p =
      let x : Entry = told k (PruneStep (PlanShards shards)) (DrawnFrom w.next_id) in
      subst (λ (o : Option Ticket). FollowsIn (record (with_given w k (planned f shards w.next_id) o) { next_id = w.next_id + kept_count shards }) (es ++ x ∷ [])) (sym p.deleting.out.there)
      (ticket_on k p.t (planned f shards w.next_id p.t) p.deleting.out.there kin refl x (λ is. absurd (subst IsFinal p.deleting.work is.final)) tt tt)
    where
      work_is : (planned f shards w.next_id p.t).work ≡ Deleting p.uuids (Some (delete_swap f p.t.clean p.t.root p.t.read p.uuids shards w.next_id))
      work_is = ap (planned_work f p.t shards w.next_id) p.deleting.work

      kin : (j : ℕ) (u : Ticket) → fin.get (fin.insert w.tickets k (planned f shards w.next_id p.t)) j ≡ Some u → IsKin w.tickets j u
      kin j u e = elim (was_in w.tickets k (planned f shards w.next_id p.t) j u e) [
        | inl is ↦
            let mine : u.work ≡ Deleting p.uuids (Some (delete_swap f p.t.clean p.t.root p.t.read p.uuids shards w.next_id)) = ap (λ (y : Ticket). y.work) (sym is.1) ∙ work_is in
            record {
              was = p.t;
              there = ap (fin.get w.tickets) is.0 ∙ p.deleting.out.there;
              op_is = ap (λ (y : Ticket). y.op) is.1;
              clean_is = ap (λ (y : Ticket). y.clean) is.1;
              drops = λ drop. absurd (deleting_drop p.uuids _ (sym mine ∙ drop));
              finals = λ info results made final. absurd (deleting_final p.uuids _ info results made (sym mine ∙ final));
              deletes = λ uuids plan deleting. (None, p.deleting.work ∙ ap (λ (us : List ℕ). Deleting us None) (same_uuids (sym mine ∙ deleting)));
            }
        | inr is ↦ kin_same w.tickets j u is.1
      ]

  -- the op of a delete leaves with its settle, that of a cleanup stays
  settles_delete : (k : ℕ) → SettlesDeletion f w k → FollowsIn (delete_settled f w k (fin.get w.tickets k)) (es ++ told k (PruneStep SettlePruned) WasSettled ∷ [])
  settles_delete k s =
      subst (λ (v : World). FollowsIn v (es ++ told k (PruneStep SettlePruned) WasSettled ∷ [])) (sym (delete_settled_plain f w k s.n s.t s.s s.may))
      (elim (cases_Bool s.t.clean) [
        | inl clean ↦ subst (λ (left : Deletes). Follows w.deposed (fin.remove w.ops s.t.op) left (fin.insert w.tickets k (record s.t { settled = true })) w.next_ticket w.next_op (es ++ x ∷ []))
            (sym (cond-true s.t.clean w.deletes (fin.remove w.deletes s.t.op) clean))
            (leaves_with w.deletes (deletes_stay w.next_op x one) (λ cleans d none was. inl was))
        | inr deletes ↦ subst (λ (left : Deletes). Follows w.deposed (fin.remove w.ops s.t.op) left (fin.insert w.tickets k (record s.t { settled = true })) w.next_ticket w.next_op (es ++ x ∷ []))
            (sym (cond-false s.t.clean w.deletes (fin.remove w.deletes s.t.op) deletes))
            (leaves_with (fin.remove w.deletes s.t.op) (deletes_less w.next_op x one s.t.op) (leaves deletes))
      ])
    where
      x : Entry
      x = told k (PruneStep SettlePruned) WasSettled

      nameless : IsNameless es w.next_op s.t.clean s.t.op
      nameless = (h.units k s.t s.may.out.there).deletes s.uuids (Some s.s) s.deleting.work

      cleans_is : is_cleanup_ticket (es ++ told k (PruneStep SettlePruned) WasSettled ∷ []) k ≡ s.t.clean
      cleans_is = cleanup_stays es x k refl ∙ h.cleans k s.t s.may.out.there

      one : IsOne es w.next_op w.next_op (told k (PruneStep SettlePruned) WasSettled)
      one =
          record {
            up = le_refl w.next_op;
            giftless = tt;
            no_ticket = λ j. (refl, refl, refl);
            no_name = λ o any. (refl, refl);
            said = tt;
            settles = λ step. absurd cc;
            prunes = λ step reply. (
              s.t.op,
              op_stays es (x ∷ []) k s.t.op (h.op_of k s.t s.may.out.there),
              subst (λ (b : Bool). IsNameless (es ++ x ∷ []) w.next_op b s.t.op) (sym cleans_is) (nameless_on es x w.next_op w.next_op (le_refl w.next_op) (λ o any. (refl, refl)) s.t.clean s.t.op nameless),
            );
            leaves = λ step. absurd cc;
          }

      leaves_with : (left : Deletes) → ((d : ℕ) (y : Deletion) → fin.get left d ≡ Some y → IsToldDelete (es ++ told k (PruneStep SettlePruned) WasSettled ∷ []) w.next_op d y)
          → ((cleans : Bool) (d : ℕ) → IsNameless es w.next_op cleans d → IsDeleteIn w.deletes d → IsDeletedOr left (es ++ told k (PruneStep SettlePruned) WasSettled ∷ []) cleans d)
          → Follows w.deposed (fin.remove w.ops s.t.op) left (fin.insert w.tickets k (record s.t { settled = true })) w.next_ticket w.next_op (es ++ told k (PruneStep SettlePruned) WasSettled ∷ [])
      leaves_with left told_deletes kept =
          goes_on w.deposed w.ops (fin.remove w.ops s.t.op) w.deletes left w.tickets (fin.insert w.tickets k (record s.t { settled = true })) w.next_ticket w.next_op w.next_op es x h one (ops_left w.next_op x one s.t.op) told_deletes
          (kin_on w.tickets k s.t (record s.t { settled = true }) s.may.out.there refl refl refl) (out_on w.tickets k s.t (record s.t { settled = true }) x s.may.out.there refl (λ is. absurd (subst IsFinal s.deleting.work is.final)))
          (stays_named s.t.clean s.t.op (es ++ x ∷ []) nameless) kept
          (λ o e. absurd (none-some o e)) (λ cleans d e. absurd (none_delete (cleans, d) None refl e))

      it : s.t.clean ≡ false → IsPrunedIn (es ++ told k (PruneStep SettlePruned) WasSettled ∷ []) s.t.op
      it deletes =
          record {
            e = x;
            has = Has-right es (x ∷ []) x (inl refl);
            step = refl;
            reply = refl;
            op_is = op_stays es (x ∷ []) k s.t.op (h.op_of k s.t s.may.out.there);
            deletes = cleans_is ∙ deletes;
          }

      leaves : s.t.clean ≡ false → (cleans : Bool) (d : ℕ) → IsNameless es w.next_op cleans d → IsDeleteIn w.deletes d → IsDeletedOr (fin.remove w.deletes s.t.op) (es ++ told k (PruneStep SettlePruned) WasSettled ∷ []) cleans d
      leaves deletes false d none was = elim (split_at d s.t.op) [
        | inl same ↦ inr (subst (IsPrunedIn (es ++ x ∷ [])) (sym same) (it deletes))
        | inr apart ↦ inl (was.0, stays_in w.deletes s.t.op d apart ∙ was.1)
      ]
      leaves deletes true d none was = elim (split_at d s.t.op) [
        | inl same ↦ absurd (true≢false (sym none.kind ∙ ap (is_cleanup_op es) same ∙ nameless.kind ∙ deletes))
        | inr apart ↦ inl (was.0, stays_in w.deletes s.t.op d apart ∙ was.1)
      ]

  -- what a stale ticket tells as failed ends it alone
  fails_delete : (k : ℕ) (why : Why) → FailsDeletion w k → IsStaleIn w k → FollowsIn (delete_failed w k (fin.get w.tickets k)) (es ++ told k (PruneStep (DeleteFails why)) HasEnded ∷ [])
  fails_delete k why c stale =
      subst (λ (o : Option Ticket). FollowsIn (delete_failed w k o) (es ++ x ∷ [])) (sym there)
      (subst (λ (v : World). FollowsIn v (es ++ x ∷ [])) (sym (cond-true (is_stale w c.t c.t.work) (with_ticket w k (record c.t { out = false })) (delete_failed_by w k c.t (fin.get w.deletes c.t.op)) older))
      (ticket_on k c.t (record c.t { out = false }) there (kin_on w.tickets k c.t (record c.t { out = false }) there refl refl refl) refl x (λ out. absurd (subst IsFinal c.deleting.work out.final)) tt tt))
    where
      x : Entry
      x = told k (PruneStep (DeleteFails why)) HasEnded

      there : fin.get w.tickets k ≡ Some c.t
      there = c.deleting.out.there

      apart : (c.t.term == w.term) ≡ false
      apart = elim (eqb_tells c.t.term w.term) [ inl same ↦ absurd (stale c.t there same.1) | inr different ↦ different.0 ]

      older : is_stale w c.t c.t.work ≡ true
      older = ap (is_stale w c.t) c.deleting.work ∙ cond-false (c.t.term == w.term) false true apart

  prunes : (k : ℕ) (prune : Prune) (reply : Reply) (image : Option Image) → PruneAllows f w k prune reply image → IsCalm (IsStaleIn w k) reply (PruneStep prune)
      → FollowsIn (after f w (moment k (PruneStep prune) reply image)) (es ++ told k (PruneStep prune) reply ∷ [])
  prunes k prune reply image (FetchingShard j name im g found) calm = fetches j g.t g.deleting.out.there name (told_blob f im name) (told j (PruneStep (FetchShard name)) WasFetched) tt tt
  prunes k prune reply image (ShardMissing j name im g found) calm = stays (told j (PruneStep (FetchShard name)) WasAbsent) tt tt
  prunes k prune reply image (Planning j shards im p fits back same) calm = plans j shards im p
  prunes k prune reply image (SettlingDelete j im s present same) calm = settles_delete j s
  prunes k prune reply image (RemovingDoomed j names im r left) calm = stays (told j (PruneStep (RemoveDoomed names)) WasRemoved) tt tt
  prunes k prune reply image (EndingDelete j im e same) calm = changed j e.t e.deleting.out.there (λ t. record t { out = false }) refl refl refl (told j (PruneStep EndDelete) HasEnded) (λ is. absurd (subst IsFinal e.deleting.work is.final)) tt tt
  prunes k prune reply image (SettleDeleteStale j im s apart same) calm = stays (told j (PruneStep SettlePruned) (Refused (StaleTerm s.t.term w.term))) tt tt
  prunes k prune reply image (FailingDelete j why im c same) calm = fails_delete j why c calm
  prunes k prune reply image other calm = absurd calm

  -- ---- restores, and what is read

  reads_on : (k : ℕ) (read : Read) (reply : Reply) (image : Option Image) → IsNoTest read → IsPlain reply (ReadStep read) → FollowsIn (read_by f w k read reply image) (es ++ told k (ReadStep read) reply ∷ [])
  reads_on k read reply image no_test plain = follows_aside w (read_by f w k read reply image) (es ++ told k (ReadStep read) reply ∷ []) (aside_by f w k read reply image no_test) (stays (told k (ReadStep read) reply) plain tt)

  reads : (stale : Type 0) (k : ℕ) (read : Read) (reply : Reply) (image : Option Image) → ReadAllows f w k read reply image → IsCalm stale reply (ReadStep read)
      → FollowsIn (after f w (moment k (ReadStep read) reply image)) (es ++ told k (ReadStep read) reply ∷ [])
  reads stale k read reply image (ReadFound j name im stored by found) calm = reads_on j (ReadBlob name) WasFetched im tt tt
  reads stale k read reply image (ReadMissing j name im stored by none) calm = reads_on j (ReadBlob name) WasAbsent im tt tt
  reads stale k read reply image (ReadFault j name im stored by) calm = absurd calm
  reads stale k read reply image (RestoringShard j files bytes im q out done) calm = reads_on j (RestoredShard files bytes) HasEnded im tt tt
  reads stale k read reply image (ReaderFailing j why im q out) calm = reads_on j (ReadFails why) HasEnded im tt tt
  reads stale k read reply image (CheckingAll snapshots blobs im checks) calm = reads_on 0 (CheckedAll snapshots blobs) HasEnded im tt tt
  reads stale k read reply image (CheckFailing why im looked) calm = reads_on 0 (ReadFails why) HasEnded im tt tt

  verifies : (stale : Type 0) (read : Read) (reply : Reply) (image : Option Image) → VerifyAllows f w read reply image → IsCalm stale reply (ReadStep read)
      → FollowsIn (after f w (moment 0 (ReadStep read) reply image)) (es ++ told 0 (ReadStep read) reply ∷ [])
  verifies stale read reply image (DrawingTest im idle fits same) calm = stays (told 0 (ReadStep DrawTest) (DrawnFrom w.next_id)) tt tt
  verifies stale read reply image (BeginningTest name im own same) calm = stays (told 0 (ReadStep (BeginTest name)) WasBegun) tt tt
  verifies stale read reply image (CommittingTest name bytes im own new adds) calm = stays (told 0 (ReadStep (CommitTest name)) WasDone) tt tt
  verifies stale read reply image (RemovingTests names im may left) calm = stays (told 0 (ReadStep (RemoveTests names)) WasRemoved) tt tt
  verifies stale read reply image (VerifyingAll im done same) calm = stays (told 0 (ReadStep VerifiedAll) HasEnded) tt tt
  verifies stale read reply image (VerifyFailing why im begun same) calm = stays (told 0 (ReadStep (ReadFails why)) HasEnded) tt tt
  verifies stale read reply image other calm = absurd calm

  -- ---- each answer

  follows_by : (who : ℕ) (step : Step) (reply : Reply) (image : Option Image) → Allows f size w who step reply image → IsCalm (IsStaleIn w who) reply step → IsSafe f w es
      → FollowsIn (after f w (moment who step reply image)) (es ++ told who step reply ∷ [])
  follows_by who step reply image (allowed.Accepting name indices time o im acc same) calm safe = asks name indices time o acc
  follows_by who step reply image (allowed.GivingNothing im none same) calm safe = stays (told 0 TakeStep NothingReady) tt tt
  follows_by who step reply image (allowed.Giving k o unit im is lowest g same) calm safe = gives_as k o unit is g
  follows_by who step reply image (allowed.Drawing k n first im d same) calm safe =
      changed k d.may.t d.may.out.there (λ t. record t { first = w.next_id; drawn = n }) refl refl refl (told k (DrawStep n) (DrawnFrom first)) (λ is. inl (record { out = is.out; unsettled = is.unsettled; final = is.final })) tt tt
  follows_by who step reply image (allowed.Beginning k name im c same) calm safe = stays (told k (BeginStep name) WasBegun) tt tt
  follows_by who step reply image (allowed.BeginningLatest k im c same) calm safe = stays (told k (BeginStep Latest) WasBegun) tt tt
  follows_by who step reply image (allowed.Committing k name im c adds) calm safe = commits k c.t c.out.there name (told_blob f im name) (told k (CommitStep name) WasDone) tt tt
  follows_by who step reply image (allowed.Finding k name im c found) calm safe = commits k c.t c.out.there name None (told k (CommitStep name) WasThere) tt tt
  follows_by who step reply image (allowed.Replacing k im c named puts) calm safe =
      changed k c.t c.out.there (λ t. record t { tried_latest = true }) refl refl refl (told k LatestStep WasReplaced) (λ is. inl (record { out = is.out; unsettled = is.unsettled; final = is.final })) tt tt
  follows_by who step reply image (allowed.Fetching k name im g found) calm safe = fetches k g.t g.out.there name (told_blob f im name) (told k (FetchStep name) WasFetched) tt tt
  follows_by who step reply image (allowed.Missing k name im g found) calm safe = stays (told k (FetchStep name) WasAbsent) tt tt
  follows_by who step reply image (allowed.Listing k from page im g shape here) calm safe =
      changed k g.t g.out.there (λ t. listing t page) refl refl refl (told k (ListStep from) (WasListed page)) (λ is. inl (record { out = is.out; unsettled = is.unsettled; final = is.final })) tt tt
  follows_by who step reply image (allowed.Raising k n im r same) calm safe =
      changed k r.may.t r.may.out.there (λ t. record t { raised = Some w.pending }) refl refl refl (told k RaiseStep (RaisedTo n)) (λ is. inl (record { out = is.out; unsettled = is.unsettled; final = is.final })) tt tt
  follows_by who step reply image (allowed.Settling k im s same) calm safe = settles k s
  follows_by who step reply image (allowed.Doing k r im d same) calm safe = does k r im d
  follows_by who step reply image (allowed.Finishing k im c same) calm safe = changed k c.t c.out.there (λ t. record t { out = false }) refl refl refl (told k FinishStep HasEnded) (λ is. inr (refl, refl)) tt tt
  follows_by who step reply image (allowed.Dropping k im c same) calm safe = drops k im c
  follows_by who step reply image (allowed.Electing im room same) calm safe = stays (told 0 ElectStep (ElectedTerm (suc w.term))) tt tt
  follows_by who step reply image (allowed.Looking im same) calm safe = stays (told 0 LookStep (Looked w.root.snapshots w.safe)) tt tt
  follows_by who step reply image (allowed.OpeningRestore name place o uuid indices im acc same) calm safe = stays_to (suc w.next_op) (one_up w.next_op) (told 0 (AskStep (Restore name place)) (AcceptedRestore o uuid indices)) tt tt
  follows_by who step reply image (allowed.OpeningClone source name names time o t im acc same) calm safe = clones source name names time o t acc.number
  follows_by who step reply image (allowed.GoingInto names im acc same) calm safe = goes_into safe acc.may.no_cleanup (DeleteSnapshots names) names (by_names names) (waiting_delete w) (running_delete w (named_uuids w names)) refl refl
  follows_by who step reply image (allowed.OpeningCleanup im acc same) calm safe = opens_cleanup
  follows_by who step reply image (allowed.Reading k read rep im a same) calm safe = reads (IsStaleIn w k) k read rep im a calm
  follows_by who step reply image (allowed.Verifying read rep im a) calm safe = verifies (IsStaleIn w 0) read rep im a calm
  follows_by who step reply image (allowed.Ruled command refusal im (allowed.Cleaning c d x recorded untaken there clean) same) calm safe = stays (told 0 (AskStep c) (Refused (CleanupRunning d))) tt (said_refused c (CleanupRunning d))
  follows_by who step reply image (allowed.Ruled command refusal im rule same) calm safe = stays (told 0 (AskStep command) (Refused refusal)) tt tt
  follows_by who step reply image (allowed.Pruning k prune rep im p) calm safe = prunes k prune rep im p calm
  follows_by who step reply image (allowed.RaiseStale k im may apart same) calm safe = stays (told k RaiseStep (Refused (StaleTerm may.t.term w.term))) tt tt
  follows_by who step reply image (allowed.SettleStale k n t swapped im may apart same) calm safe = stays (told k SettleStep (Refused (StaleTerm t.term w.term))) tt tt
  follows_by who step reply image (allowed.DropStale k im may apart same) calm safe = stays (told k DroppedStep (Refused (StaleTerm may.t.term w.term))) tt tt
  follows_by who step reply image other calm safe = absurd calm

pub follows_step : (f : Formats) (size : ℕ) (w : World) (es : List Entry) → FollowsIn w es → (m : Moment) → Allowed f size w m → IsCalm (IsStaleIn w m.entry.who) m.entry.reply m.entry.step → IsSafe f w es
    → FollowsIn (after f w m) (es ++ m.entry ∷ [])
follows_step f size w es h m a calm safe = elim a.answered [
  | inl alive ↦ follows_by f size w es h m.entry.who m.entry.step m.entry.reply m.image alive.1 calm safe
  | inr dead ↦
      absurd (calm_unblocked (IsStaleIn w m.entry.who) w m.entry.who m.entry.step dead.refusal h.live (subst (λ (r : Reply). IsCalm (IsStaleIn w m.entry.who) r m.entry.step) dead.refused calm) dead.blocks)
]
