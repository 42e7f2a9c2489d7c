-- What each entry of a history where nothing fails answers to a line.
use Rattle.std.proofs.Common.{◌≡◌, ◌⊎◌, ◌&&◌, ◌==◌, ℕ, Bool, true, false, true≢false, List, [], ◌∷◌, ◌++◌, Option, Some, None, refl, sym, ap, ◌∙◌, subst, inl, inr}
use Rattle.std.proofs.lemmas.Option.{same_Some}
use Rattle.std.proofs.lemmas.Bool.{cond-true, false_from_ne_true}
use Rattle.esr_model.specs.Values.{Bytes, Has}
use Rattle.esr_core.specs.Entry as entry
use Rattle.esr_core.specs.Entry.{AskedIndex, CloneOf, Asked, Snapshot, Clone, DeleteSnapshots, Cleanup, SettlePruned, Restore, Step, AskStep, SettleStep, DroppedStep, ElectStep, LookStep, PruneStep, Refusal, CleanupRunning, DeposedAt, StaleTerm, DepotFault, Accepted, WasSettled, HasEnded, AcceptedRestore, ElectedTerm, Looked, Entry, Moment}
use Rattle.esr_core.specs.After.{or_else}
use Rattle.esr_core.specs.Ready.{IsOpen}
use Rattle.esr_core.specs.World.{World}
use Rattle.esr_script.specs.declared.item.AskedIndex.{AskedIndex as LineIndex}
use Rattle.esr_script.specs.declared.item.Item.{Item}
use Rattle.esr_script.specs.declared.item.Item.TheVariants as items
use Rattle.esr_script.specs.declared.item.ScriptLine.{ScriptLine}
use Rattle.esr_report.specs.Cleaned.{is_cleanup_ticket}
use Rattle.esr_report.specs.Replies.{Reply, Deleted, Cleaned, Refused, refused_reply, name_by, name_of_op, names_it, fails_swap, has_fallen, deposed_by, end_of_op, restore_reply, ask_reply, look_reply, is_election_step, is_election, election_reply}
use Rattle.esr_report.specs.Aborts.{accepted_by}
use Rattle.esr_desk.specs.Start.{Start, world_of}
use Rattle.esr_core.specs.Refusing.{IsByRule}
use Rattle.esr_quiet.specs.Refusals.{IsOfCleanup, IsOfRule, IsOfTerm, AreByRule}
use Rattle.esr_core.specs.Laws.Rules.{never_rule}
use Rattle.esr_quiet.specs.Smooth.{IsSmooth, NoneFailed, NoneUndeleted, NoneUnrestored}
use Rattle.esr_complete.specs.Lines.{entries_of}
use Rattle.esr_complete.specs.Answers.{IsIdle, IsDeletedBy, IsCleaningBy, IsAnswer}
use Rattle.esr_core.specs.Laws.Tests.{same_number}
use Rattle.esr_model.specs.Lists.{Has-mapped}
use Rattle.esr_complete.proofs.Tickets.{is_cleanup_op}
use Rattle.esr_complete.proofs.OpEnds.{IsCalm, AreCalmIn, IsPruned, IsSettled, IsDropped, IsOver, IsOverBy, IsOfKind, WasAborted, IsEnded, EndsIn, aborted_in, end_found, settled_in, over_found, prune_deleted, drop_cleaned}
use Rattle.esr_complete.proofs.Following.{IsSaid, delete_of, HasName, IsNameless, IsOverIn, FollowsIn}
use Rattle.esr_complete.proofs.Steps.{apart_name}
use Rattle.esr_complete.proofs.RestoreTickets.{IsRestoredReply, restored_reply}
use Rattle.esr_complete.proofs.FollowingRestores.{AskedRestore, opens}
use Rattle.esr_complete.proofs.Histories.{Laws, parted, calm_of, all_told, all_closed, follows_all}
use Rattle.esr_complete.proofs.RestoreHistories.{all_restored}

-- there is an answer, and it is one of the line
abbrev pub IsAnswerOf : List ScriptLine → List ScriptLine → Item → Option Reply → Type 0
IsAnswerOf script before item None = ⊥
IsAnswerOf script before item (Some reply) = IsAnswer script before item reply

-- a cleanup that runs is one for which a line before asks
abbrev pub IsCleaningIn : List ScriptLine → entry.Reply → Type 0
IsCleaningIn before (entry.Refused refusal) = IsCleaningBy before refusal
IsCleaningIn before reply = Unit {0}

-- it was asked before
abbrev pub IsAskedIn : List Entry → entry.Reply → Type 0
IsAskedIn front (entry.Refused (CleanupRunning op)) = (x : Entry) × Has front x × (x.who ≡ 0) × (x.step ≡ AskStep Cleanup)
IsAskedIn front reply = Unit {0}

pub record Fact (script : List ScriptLine) (all : List Entry) (e : Entry) : Type 0 where
  pub unfallen : fails_swap e.step e.reply ≡ false
  pub asked : (before : List ScriptLine) → IsCleaningIn before e.reply → (of : Bytes) (refs : List AskedIndex) (moment : ℕ) → e.step ≡ AskStep (Snapshot of refs moment) → (indices : List LineIndex)
      → IsAnswerOf script before (items.Snapshot of indices) (ask_reply all e.reply)
  pub cloned : (before : List ScriptLine) → IsCleaningIn before e.reply → (source of : Bytes) (names : List Bytes) (moment : ℕ) (taken : Option CloneOf) → e.step ≡ AskStep (Clone source of names moment taken)
      → (from : Bytes) (indices : List Bytes) → IsAnswerOf script before (items.Clone from of indices) (ask_reply all e.reply)
  pub deleted : (before : List ScriptLine) → IsCleaningIn before e.reply → (names : List Bytes) → e.step ≡ AskStep (DeleteSnapshots names) → IsAnswerOf script before (items.Delete names) (ask_reply all e.reply)
  pub cleaned : (before : List ScriptLine) → IsCleaningIn before e.reply → e.step ≡ AskStep Cleanup → IsAnswerOf script before items.Cleanup (ask_reply all e.reply)
  pub restored : (before : List ScriptLine) (of place : Bytes) → e.step ≡ AskStep (Restore of place) → (name at : Bytes) → IsAnswerOf script before (items.Restore name at) (ask_reply all e.reply)
  pub looked : (before : List ScriptLine) → e.step ≡ LookStep → IsAnswerOf script before items.List (look_reply e.reply)
  pub elected : (before : List ScriptLine) → is_election e ≡ true → IsAnswerOf script before items.Failover (election_reply e.reply)
  pub cleaning : (front back : List Entry) → all ≡ front ++ e ∷ back → IsAskedIn front e.reply

-- what a rule refused is answered so
ruled_reply : (command : Asked) (refusal : Refusal) → IsByRule command refusal → refused_reply refusal ≡ Refused refusal
ruled_reply command DepotFault rule = absurd (never_rule command DepotFault refl rule)
ruled_reply command (DeposedAt place) rule = absurd (never_rule command (DeposedAt place) refl rule)
ruled_reply command refusal rule = refl

unfallen_by : (reply : entry.Reply) (step : Step) → IsCalm (Unit {0}) reply step → fails_swap step reply ≡ false
unfallen_by (entry.Refused DepotFault) (AskStep command) calm = absurd (never_rule command DepotFault refl calm)
unfallen_by (entry.Refused DepotFault) step calm = absurd calm
unfallen_by reply step calm = refl

-- ---- commands

-- what is asked of deletes are lines of the script
abbrev pub AsksAll : List ScriptLine → List Entry → Type 0
AsksAll script all = (e : Entry) (command : Asked) (name : Bytes) → Has all e → e.step ≡ AskStep command → names_it command name ≡ true → IsDeletedBy script name

-- the snapshot or the clone of each that was accepted was made or aborted
abbrev AreEnded : List Entry → Step → entry.Reply → Type 0
AreEnded all step reply = (o : ℕ) → accepted_by step reply ≡ Some o → (name : Bytes) × (name_by o step reply ≡ Some name) × (name_of_op all o ≡ Some name) × IsEnded all o (end_of_op all o [] all)

-- a delete for which the script asks aborted it
deleted_line : (script : List ScriptLine) (all : List Entry) (o : ℕ) (name : Bytes) (answer : Option Reply) → AsksAll script all → name_of_op all o ≡ Some name → WasAborted all o answer → IsDeletedBy script name
deleted_line script all o name answer asks is h =
    let same : h.of ≡ name = same_Some h.of name (sym h.of_is ∙ is) in
    asks h.e h.command name h.has h.step (subst (λ (n : Bytes). names_it h.command n ≡ true) same h.named)

asked_by : (script before : List ScriptLine) (all : List Entry) (of : Bytes) (refs : List AskedIndex) (moment : ℕ) (reply : entry.Reply) (indices : List LineIndex) → IsCalm (Unit {0}) reply (AskStep (Snapshot of refs moment))
    → IsSaid (AskStep (Snapshot of refs moment)) reply → IsCleaningIn before reply → AsksAll script all
    → AreEnded all (AskStep (Snapshot of refs moment)) reply → IsAnswerOf script before (items.Snapshot of indices) (ask_reply all reply)
asked_by script before all of refs moment (Accepted op) indices calm said cleaning asks ended =
    let (name, by, is, how) = ended op refl in
    let same : of ≡ name = same_Some of name (sym (cond-true _ _ _ (same_number op)) ∙ by) in
    elim how [
      | inl made ↦ subst (λ (a : Option Reply). IsAnswerOf script before (items.Snapshot of indices) (or_else a (deposed_by (has_fallen all)))) (sym made.is) tt
      | inr aborted ↦ subst (λ (a : Option Reply). IsAnswerOf script before (items.Snapshot of indices) (or_else a (deposed_by (has_fallen all))))
          (sym aborted.is) (subst (IsDeletedBy script) (sym same) (deleted_line script all op name (end_of_op all op [] all) asks is aborted))
    ]
asked_by script before all of refs moment (entry.Refused refusal) indices calm said cleaning asks ended =
    subst (λ (r : Reply). IsAnswerOf script before (items.Snapshot of indices) (Some r)) (sym (ruled_reply (Snapshot of refs moment) refusal calm)) (calm, cleaning)
asked_by script before all of refs moment reply indices calm said cleaning asks ended = absurd said

cloned_by : (script before : List ScriptLine) (all : List Entry) (source of : Bytes) (names : List Bytes) (moment : ℕ) (taken : Option CloneOf) (reply : entry.Reply) (from : Bytes) (indices : List Bytes)
    → IsCalm (Unit {0}) reply (AskStep (Clone source of names moment taken))
    → IsSaid (AskStep (Clone source of names moment taken)) reply → IsCleaningIn before reply → AsksAll script all → AreEnded all (AskStep (Clone source of names moment taken)) reply
    → IsAnswerOf script before (items.Clone from of indices) (ask_reply all reply)
cloned_by script before all source of names moment (Some taken) (Accepted op) from indices calm said cleaning asks ended =
    let (name, by, is, how) = ended op refl in
    let same : of ≡ name = same_Some of name (sym (cond-true _ _ _ (same_number op)) ∙ by) in
    elim how [
      | inl made ↦ subst (λ (a : Option Reply). IsAnswerOf script before (items.Clone from of indices) (or_else a (deposed_by (has_fallen all)))) (sym made.is) tt
      | inr aborted ↦ subst (λ (a : Option Reply). IsAnswerOf script before (items.Clone from of indices) (or_else a (deposed_by (has_fallen all))))
          (sym aborted.is) (subst (IsDeletedBy script) (sym same) (deleted_line script all op name (end_of_op all op [] all) asks is aborted))
    ]
cloned_by script before all source of names moment taken (entry.Refused refusal) from indices calm said cleaning asks ended =
    subst (λ (r : Reply). IsAnswerOf script before (items.Clone from of indices) (Some r)) (sym (ruled_reply (Clone source of names moment taken) refusal calm)) (calm, cleaning)
cloned_by script before all source of names moment taken reply from indices calm said cleaning asks ended = absurd said

-- the delete of each that was accepted was carried out, and the cleanup came to its end
abbrev AreDeleted : List Entry → Step → entry.Reply → Type 0
AreDeleted all step reply = (cleans : Bool) (d : ℕ) → delete_of step reply ≡ Some (cleans, d) → IsOverBy cleans (end_of_op all d [] all)

delete_answer : (script before : List ScriptLine) (names : List Bytes) (reply : Reply) → IsOver false reply → IsAnswer script before (items.Delete names) reply
delete_answer script before names (Deleted op) over = tt
delete_answer script before names reply over = absurd over

cleanup_answer : (script before : List ScriptLine) (reply : Reply) → IsOver true reply → IsAnswer script before items.Cleanup reply
cleanup_answer script before (Cleaned blobs bytes) over = tt
cleanup_answer script before reply over = absurd over

deleted_by : (script before : List ScriptLine) (all : List Entry) (names : List Bytes) (reply : entry.Reply) → IsCalm (Unit {0}) reply (AskStep (DeleteSnapshots names)) → IsSaid (AskStep (DeleteSnapshots names)) reply
    → IsCleaningIn before reply → AreDeleted all (AskStep (DeleteSnapshots names)) reply
    → IsAnswerOf script before (items.Delete names) (ask_reply all reply)
deleted_by script before all names (Accepted op) calm said cleaning deleted =
    let h = deleted false op refl in
    subst (λ (a : Option Reply). IsAnswerOf script before (items.Delete names) (or_else a (deposed_by (has_fallen all)))) (sym h.is) (delete_answer script before names h.reply h.over)
deleted_by script before all names (entry.Refused refusal) calm said cleaning deleted =
    subst (λ (r : Reply). IsAnswerOf script before (items.Delete names) (Some r)) (sym (ruled_reply (DeleteSnapshots names) refusal calm)) (calm, cleaning)
deleted_by script before all names reply calm said cleaning deleted = absurd said

cleaned_by : (script before : List ScriptLine) (all : List Entry) (reply : entry.Reply) → IsCalm (Unit {0}) reply (AskStep Cleanup) → IsSaid (AskStep Cleanup) reply → IsCleaningIn before reply → AreDeleted all (AskStep Cleanup) reply
    → IsAnswerOf script before items.Cleanup (ask_reply all reply)
cleaned_by script before all (Accepted op) calm said cleaning deleted =
    let h = deleted true op refl in
    subst (λ (a : Option Reply). IsAnswerOf script before items.Cleanup (or_else a (deposed_by (has_fallen all)))) (sym h.is) (cleanup_answer script before h.reply h.over)
cleaned_by script before all (entry.Refused refusal) calm said cleaning deleted =
    subst (λ (r : Reply). IsAnswerOf script before items.Cleanup (Some r)) (sym (ruled_reply Cleanup refusal calm)) (calm, cleaning)
cleaned_by script before all reply calm said cleaning deleted = absurd said

-- the restore of each that was accepted is answered
abbrev IsAnswered : List Entry → entry.Reply → Type 0
IsAnswered all reply = (a : AskedRestore) → opens reply ≡ Some a → IsRestoredReply (restore_reply all a.op a.uuid a.indices)

restored_by : (script before : List ScriptLine) (all : List Entry) (of place : Bytes) (reply : entry.Reply) (name at : Bytes) → IsCalm (Unit {0}) reply (AskStep (Restore of place)) → IsSaid (AskStep (Restore of place)) reply
    → IsAnswered all reply → IsAnswerOf script before (items.Restore name at) (ask_reply all reply)
restored_by script before all of place (AcceptedRestore op uuid indices) name at calm said made =
    subst (λ (a : Option Reply). IsAnswerOf script before (items.Restore name at) (or_else a (deposed_by (has_fallen all)))) (sym (made (record { op = op; uuid = uuid; indices = indices }) refl).is) tt
restored_by script before all of place (entry.Refused refusal) name at calm said made =
    subst (λ (r : Reply). IsAnswerOf script before (items.Restore name at) (Some r)) (sym (ruled_reply (Restore of place) refusal calm)) calm
restored_by script before all of place reply name at calm said made = absurd said

looked_by : (script before : List ScriptLine) (reply : entry.Reply) → IsSaid LookStep reply → IsAnswerOf script before items.List (look_reply reply)
looked_by script before (Looked snapshots safe) said = tt
looked_by script before reply said = absurd said

-- an election that isn't refused begins a term
elected_by : (script before : List ScriptLine) (reply : entry.Reply) → IsCalm (Unit {0}) reply ElectStep → IsSaid ElectStep reply → IsAnswerOf script before items.Failover (election_reply reply)
elected_by script before (ElectedTerm term) calm said = tt
elected_by script before (entry.Refused (StaleTerm own now)) calm said = absurd calm
elected_by script before (entry.Refused refusal) calm said = absurd calm
elected_by script before reply calm said = absurd said

elects_by : (who : Bool) (step : Step) → (who && is_election_step step) ≡ true → step ≡ ElectStep
elects_by true ElectStep e = refl
elects_by who step e = absurd (true≢false (sym e))

fact_by : (script : List ScriptLine) (all : List Entry) (e : Entry) → IsCalm (Unit {0}) e.reply e.step → IsSaid e.step e.reply → ((front back : List Entry) → all ≡ front ++ e ∷ back → IsAskedIn front e.reply) → AsksAll script all
    → AreEnded all e.step e.reply → AreDeleted all e.step e.reply → IsAnswered all e.reply
    → Fact script all e
fact_by script all e calm said asks_before asks ended deleted answered =
    record {
      unfallen = unfallen_by e.reply e.step calm;
      asked = λ before cleaning of refs moment is indices.
          asked_by script before all of refs moment e.reply indices (subst (IsCalm (Unit {0}) e.reply) is calm) (subst (λ (step : Step). IsSaid step e.reply) is said) cleaning asks (subst (λ (step : Step). AreEnded all step e.reply) is ended);
      cloned = λ before cleaning source of names moment taken is from indices.
          cloned_by script before all source of names moment taken e.reply from indices (subst (IsCalm (Unit {0}) e.reply) is calm)
          (subst (λ (step : Step). IsSaid step e.reply) is said) cleaning asks (subst (λ (step : Step). AreEnded all step e.reply) is ended);
      deleted = λ before cleaning names is.
          deleted_by script before all names e.reply (subst (IsCalm (Unit {0}) e.reply) is calm) (subst (λ (step : Step). IsSaid step e.reply) is said) cleaning (subst (λ (step : Step). AreDeleted all step e.reply) is deleted);
      cleaned =
          λ before cleaning is. cleaned_by script before all e.reply (subst (IsCalm (Unit {0}) e.reply) is calm) (subst (λ (step : Step). IsSaid step e.reply) is said) cleaning (subst (λ (step : Step). AreDeleted all step e.reply) is deleted);
      restored = λ before of place is name at. restored_by script before all of place e.reply name at (subst (IsCalm (Unit {0}) e.reply) is calm) (subst (λ (step : Step). IsSaid step e.reply) is said) answered;
      looked = λ before is. looked_by script before e.reply (subst (λ (step : Step). IsSaid step e.reply) is said);
      elected = λ before elects.
          let is : e.step ≡ ElectStep = elects_by (e.who == 0) e.step elects in
          elected_by script before e.reply (subst (IsCalm (Unit {0}) e.reply) is calm) (subst (λ (step : Step). IsSaid step e.reply) is said);
      cleaning = asks_before;
    }

-- ---- of a history

pruned_is : (step : Step) (reply : entry.Reply) → IsPruned step reply → (step ≡ PruneStep SettlePruned) × (reply ≡ WasSettled)
pruned_is (PruneStep SettlePruned) WasSettled is = (refl, refl)
pruned_is step reply is = absurd is

settled_is : (step : Step) (reply : entry.Reply) → IsSettled step reply → (step ≡ SettleStep) × (reply ≡ WasSettled)
settled_is SettleStep WasSettled is = (refl, refl)
settled_is step reply is = absurd is

dropped_is : (step : Step) (reply : entry.Reply) → IsDropped step reply → (step ≡ DroppedStep) × (reply ≡ HasEnded)
dropped_is DroppedStep HasEnded is = (refl, refl)
dropped_is step reply is = absurd is

module _ (w : World) (all : List Entry) (h : FollowsIn w all) (calm : AreCalmIn all) (closed : (o : ℕ) → IsOpen w o → ⊥) where
  -- an op with a name ends as a snapshot
  ends_named : (o : ℕ) → HasName all o → EndsIn all o [] all → IsEnded all o (end_of_op all o [] all)
  ends_named o name ends =
      end_found all o [] all refl calm
      (λ e has of pruned.
      let is = pruned_is e.step e.reply pruned in
      let (d, op, nameless) = h.prunes e has is.0 is.1 in
      apart_name all w.next_op (is_cleanup_ticket all e.who) o d name nameless (same_Some o d (sym of ∙ op)))
      (λ e has of dropped.
      let is = dropped_is e.step e.reply dropped in
      let (d, op, nameless) = h.leaves e has is.0 is.1 in
      false_from_ne_true (is_cleanup_ticket all e.who) (λ cleans. apart_name all w.next_op true o d name (nameless cleans) (same_Some o d (sym of ∙ op))))
      ends

  ended : (e : Entry) → Has all e → AreEnded all e.step e.reply
  ended e has o accepted =
      let (name, how) = h.ended e o has accepted in (
        name.0,
        name.1,
        name.2,
        ends_named o (name.0, name.2) (elim how [
          | inl stands ↦ absurd (closed o (inl stands))
          | inr over ↦ elim over [
            | inl s ↦ settled_in all o s.uuid s.e s.has s.op_is s.uuid_is s.step s.reply
            | inr a ↦ subst (EndsIn all o []) (sym a.is) (aborted_in all o [] a.front a.e a.back a.answer a.aborts)
          ]
        ]),
      )

  -- what each entry answers an op without a name
  kind_of : (cleans : Bool) (d : ℕ) → IsNameless all w.next_op cleans d → (e : Entry) → Has all e → IsOfKind cleans all d e
  kind_of cleans d nameless e has =
      record {
        unsettled = λ of settled.
            let is = settled_is e.step e.reply settled in
            let (o, op, name) = h.settles e has is.0 is.1 in
            apart_name all w.next_op cleans o d name nameless (same_Some o d (sym op ∙ of));
        pruned = λ of pruned.
            let is = pruned_is e.step e.reply pruned in
            let (o, op, other) = h.prunes e has is.0 is.1 in
            sym other.kind ∙ ap (is_cleanup_op all) (same_Some o d (sym op ∙ of)) ∙ nameless.kind;
        dropped = λ of dropped is_cleanup.
            let is = dropped_is e.step e.reply dropped in
            let (o, op, other) = h.leaves e has is.0 is.1 in
            sym nameless.kind ∙ ap (is_cleanup_op all) (same_Some d o (sym of ∙ op)) ∙ (other is_cleanup).kind;
      }

  over_in : (cleans : Bool) (d : ℕ) → IsNameless all w.next_op cleans d → IsOverIn all cleans d → IsOverBy cleans (end_of_op all d [] all)
  over_in false d nameless p = over_found false all d [] all refl calm nameless.unnamed (kind_of false d nameless) p.e p.has (prune_deleted all d p.e p.op_is p.deletes p.step p.reply)
  over_in true d nameless p = over_found true all d [] all refl calm nameless.unnamed (kind_of true d nameless) p.e p.has (drop_cleaned all d p.e p.op_is p.cleans p.step p.reply)

  deleted : (e : Entry) → Has all e → AreDeleted all e.step e.reply
  deleted e has cleans d accepted =
      let (nameless, how) = h.deleted e cleans d has accepted in
      elim how [
        | inl stands ↦ absurd (closed d (inr stands))
        | inr over ↦ over_in cleans d nameless over
      ]

of_cleanup : (s : Start) (front : List Moment) (m : Moment) (refusal : Refusal) → IsOfRule front m refusal ⊎ IsOfTerm s front m refusal → IsOfCleanup front refusal
of_cleanup s front m refusal (inl rule) = rule.2
of_cleanup s front m refusal (inr old) = subst (IsOfCleanup front) (sym old.is) tt

has_entry : (log : List Moment) (m : Moment) → Has log m → Has (entries_of log) m.entry
has_entry [] m h = absurd h
has_entry (n ∷ log) m (inl e) = inl (ap (λ (x : Moment). x.entry) e)
has_entry (n ∷ log) m (inr h) = inr (has_entry log m h)

-- a cleanup runs only where one was asked before
asked_in : (front : List Moment) (reply : entry.Reply) → ((refusal : Refusal) → reply ≡ entry.Refused refusal → IsOfCleanup front refusal) → IsAskedIn (entries_of front) reply
asked_in front (entry.Refused (CleanupRunning op)) by_rule = let (m, has, who, step) = by_rule (CleanupRunning op) refl in (m.entry, has_entry front m has, who, step)
asked_in front (entry.Refused refusal) by_rule = tt
asked_in front reply by_rule = tt

pub facts : Laws → (script : List ScriptLine) (s : Start) (log : List Moment) → IsSmooth s log → NoneFailed log → NoneUndeleted s log → NoneUnrestored log → AreByRule s log → IsIdle s log → AsksAll script (entries_of log)
    → (e : Entry) → Has (entries_of log) e → Fact script (entries_of log) e
facts laws script s log smooth none undeleted unrestored by_rule idle asks e has =
    fact_by script (entries_of log) e calm (h.said e has) asks_before asks (ended (world_of s log) (entries_of log) h told closed e has) (deleted (world_of s log) (entries_of log) h told closed e has)
    (λ a opened. restored_reply (entries_of log) a.op a.uuid a.indices (all_restored laws s log smooth none undeleted unrestored by_rule idle e a has opened))
  where
    h : FollowsIn (world_of s log) (entries_of log)
    h = follows_all laws s log smooth none undeleted by_rule

    told : AreCalmIn (entries_of log)
    told = all_told s log none by_rule smooth undeleted

    closed : (o : ℕ) → IsOpen (world_of s log) o → ⊥
    closed o stands = all_closed laws s log smooth idle o stands

    calm : IsCalm (Unit {0}) e.reply e.step
    calm = let (m, there, is) = Has-mapped (λ (y : Moment). y.entry) log e has in subst (λ (y : Entry). IsCalm (Unit {0}) y.reply y.step) is (calm_of s log none by_rule m there)

    asks_before : (front back : List Entry) → entries_of log ≡ front ++ e ∷ back → IsAskedIn front e.reply
    asks_before front back is =
        let p = parted log front e back is in
        subst (λ (y : Entry). IsAskedIn front y.reply) p.own
        (subst (λ (l : List Entry). IsAskedIn l p.moment.entry.reply) p.front_is
        (asked_in p.front p.moment.entry.reply (λ refusal refused. of_cleanup s p.front p.moment refusal (by_rule p.front p.back p.moment refusal p.is refused))))
