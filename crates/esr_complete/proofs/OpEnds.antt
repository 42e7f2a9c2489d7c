-- How the op of a snapshot and that of a delete or a cleanup end where nothing fails.
use Rattle.std.proofs.Common.{◌≡◌, ◌⊎◌, ℕ, Bool, true, false, true≢false, List, [], ◌∷◌, ◌++◌, append-nil, append_assoc, Option, Some, None, option_map, if◌then◌else◌, refl, sym, ap, ◌∙◌, subst, inl, inr}
use Rattle.std.proofs.lemmas.Bool.{eqb-true, cond-true, cond-false, cases_Bool}
use Rattle.std.proofs.lemmas.Option.{none-some}
use Rattle.esr_model.specs.Values.{Bytes, Has}
use Rattle.esr_core.specs.Entry.{DeleteFails, Asked, SettlePruned, Step, AskStep, SettleStep, FailedStep, DroppedStep, PruneStep, Refusal, AbortedBy, StaleTerm, Reply, Accepted, WasSettled, HasEnded, Refused, Entry}
use Rattle.esr_core.specs.World.{World}
use Rattle.esr_core.specs.Allowed.{Blocks, ByFailedSwap, ByDelete}
use Rattle.esr_core.specs.After.{or_else}
use Rattle.esr_core.specs.Laws.Tests.{same_number}
use Rattle.esr_core.specs.Refusing.{IsByRule}
use Rattle.esr_quiet.specs.Refusals.{IsSwapStep}
use Rattle.esr_core.specs.Laws.Rules.{never_rule}
use Rattle.esr_report.specs.Cleaned.{is_cleanup_ticket, blobs_gone, bytes_gone}
use Rattle.esr_report.specs.Replies as report
use Rattle.esr_report.specs.Replies.{Made, Deleted, Cleaned, Aborted, op_of_ticket, uuid_of_ticket, is_op, is_stale, fails_by, delete_of_ticket, cleaned_by, ends_by, ends_at, name_of_op, final_out, names_it, abort_of, aborts_at, end_of_op}
use Rattle.esr_complete.proofs.Tickets.{name_stays, name_before}

-- no unit failed by this entry, nor a delete or a cleanup but where this is so, and no refusal but that of a command by a rule, or of a
-- stale ticket's swap
abbrev pub IsCalm : Type 0 → Reply → Step → Type 0
IsCalm stale (Refused refusal) (AskStep command) = IsByRule command refusal
IsCalm stale (Refused (StaleTerm own now)) step = IsSwapStep step
IsCalm stale (Refused refusal) step = ⊥
IsCalm stale HasEnded (FailedStep why) = ⊥
IsCalm stale HasEnded (PruneStep (DeleteFails why)) = stale
IsCalm stale reply step = Unit {0}

-- each entry is so, of those that tell a failure the ticket being stale
abbrev pub AreCalmIn : List Entry → Type 0
AreCalmIn all = (before : List Entry) (e : Entry) (back : List Entry) → all ≡ before ++ e ∷ back → IsCalm (is_stale before e.who ≡ true) e.reply e.step

-- what is calm nothing blocks
pub calm_unblocked : (stale : Type 0) (w : World) (who : ℕ) (step : Step) (refusal : Refusal) → w.deposed ≡ false → IsCalm stale (Refused refusal) step → Blocks w who step refusal → ⊥
calm_unblocked stale w who step _ alive calm (ByFailedSwap place deposed) = true≢false (sym deposed ∙ alive)
calm_unblocked stale w who (AskStep command) _ alive calm (ByDelete op undeposed aborted) = never_rule command (AbortedBy op) refl calm
calm_unblocked stale w who step _ alive calm (ByDelete op undeposed aborted) = calm

-- ---- what an entry answers an op

-- the entry settles the root of a delete or a cleanup
abbrev pub IsPruned : Step → Reply → Type 0
IsPruned (PruneStep SettlePruned) WasSettled = Unit {0}
IsPruned step reply = ⊥

-- or of a snapshot
abbrev pub IsSettled : Step → Reply → Type 0
IsSettled SettleStep WasSettled = Unit {0}
IsSettled step reply = ⊥

-- or an op leaves by it
abbrev pub IsDropped : Step → Reply → Type 0
IsDropped DroppedStep HasEnded = Unit {0}
IsDropped step reply = ⊥

-- the snapshot was made
pub record IsMade (answer : Option report.Reply) : Type 0 where
  pub uuid : ℕ
  pub is : answer ≡ Some (Made uuid)

-- the reply says that the delete was carried out, or where this is true that the cleanup came to its end
abbrev pub IsOver : Bool → report.Reply → Type 0
IsOver false (Deleted op) = Unit {0}
IsOver true (Cleaned blobs bytes) = Unit {0}
IsOver cleans reply = ⊥

pub record IsOverBy (cleans : Bool) (answer : Option report.Reply) : Type 0 where
  pub reply : report.Reply
  pub is : answer ≡ Some reply
  pub over : IsOver cleans reply

abbrev MadeOrNone : Option report.Reply → Type 0
MadeOrNone None = Unit {0}
MadeOrNone (Some (Made uuid)) = Unit {0}
MadeOrNone (Some reply) = ⊥

abbrev OverOrNone : Bool → Option report.Reply → Type 0
OverOrNone cleans None = Unit {0}
OverOrNone cleans (Some reply) = IsOver cleans reply

of_uuid : (uuid : Option ℕ) → MadeOrNone (option_map Made uuid)
of_uuid None = tt
of_uuid (Some u) = tt

-- of a cleanup's settle nothing is answered
of_op : (cleans : Bool) (op : Option ℕ) → OverOrNone cleans (option_map Deleted (if cleans then None else op))
of_op false None = tt
of_op cleans op = tt

of_drop : (all : List Entry) (who : ℕ) (cleans is_cleanup : Bool) → (is_cleanup ≡ true → cleans ≡ true) → OverOrNone cleans (cleaned_by all who is_cleanup)
of_drop all who true true cleans_is = tt
of_drop all who false true cleans_is = absurd (true≢false (sym (cleans_is refl)))
of_drop all who cleans false cleans_is = tt

made_by : (all : List Entry) (stale : Bool) (who : ℕ) (step : Step) (reply : Reply) → IsCalm (stale ≡ true) reply step → (IsPruned step reply → ⊥) → (IsDropped step reply → is_cleanup_ticket all who ≡ false)
    → MadeOrNone (ends_by all stale who step reply)
made_by all stale who SettleStep WasSettled calm other left = of_uuid (uuid_of_ticket all who)
made_by all stale who (FailedStep why) HasEnded calm other left = absurd calm
made_by all stale who (PruneStep SettlePruned) WasSettled calm other left = absurd (other tt)
made_by all stale who (PruneStep (DeleteFails why)) HasEnded calm other left = subst (λ (b : Bool). MadeOrNone (fails_by b why (delete_of_ticket all who))) (sym calm) tt
made_by all stale who DroppedStep HasEnded calm other left = subst (λ (b : Bool). MadeOrNone (cleaned_by all who b)) (sym (left tt)) tt
made_by all stale who step reply calm other left = tt

over_by : (cleans : Bool) (all : List Entry) (stale : Bool) (who : ℕ) (step : Step) (reply : Reply) → IsCalm (stale ≡ true) reply step → (IsSettled step reply → ⊥) → (IsPruned step reply → is_cleanup_ticket all who ≡ cleans)
    → (IsDropped step reply → is_cleanup_ticket all who ≡ true → cleans ≡ true)
    → OverOrNone cleans (ends_by all stale who step reply)
over_by cleans all stale who SettleStep WasSettled calm other pruned left = absurd (other tt)
over_by cleans all stale who (FailedStep why) HasEnded calm other pruned left = absurd calm
over_by cleans all stale who (PruneStep SettlePruned) WasSettled calm other pruned left = subst (λ (b : Bool). OverOrNone cleans (option_map Deleted (if b then None else op_of_ticket all who))) (sym (pruned tt)) (of_op cleans (op_of_ticket all who))
over_by cleans all stale who (PruneStep (DeleteFails why)) HasEnded calm other pruned left = subst (λ (b : Bool). OverOrNone cleans (fails_by b why (delete_of_ticket all who))) (sym calm) tt
over_by cleans all stale who DroppedStep HasEnded calm other pruned left = of_drop all who cleans (is_cleanup_ticket all who) (left tt)
over_by cleans all stale who step reply calm other pruned left = tt

-- a ticket of the op
is_own : (o : ℕ) (found : Option ℕ) → is_op o found ≡ true → found ≡ Some o
is_own o None e = absurd (no_op e)
  where
    no_op : false ≡ true → ⊥
    no_op h = cc
is_own o (Some p) e = ap (λ (n : ℕ). Some n) (eqb-true p o e)

made_at : (all before : List Entry) (o : ℕ) (e : Entry) → IsCalm (is_stale before e.who ≡ true) e.reply e.step → (op_of_ticket all e.who ≡ Some o → IsPruned e.step e.reply → ⊥)
    → (op_of_ticket all e.who ≡ Some o → IsDropped e.step e.reply → is_cleanup_ticket all e.who ≡ false) → MadeOrNone (ends_at all before o e)
made_at all before o e calm other left = elim (cases_Bool (is_op o (op_of_ticket all e.who))) [
  | inl own ↦
      let of : op_of_ticket all e.who ≡ Some o = is_own o (op_of_ticket all e.who) own in
      subst MadeOrNone (sym (cond-true _ _ _ own)) (made_by all (is_stale before e.who) e.who e.step e.reply calm (other of) (left of))
  | inr none ↦ subst MadeOrNone (sym (cond-false _ _ _ none)) tt
]

-- what the entries of a delete's or a cleanup's ticket are
pub record IsOfKind (cleans : Bool) (all : List Entry) (o : ℕ) (e : Entry) : Type 0 where
  pub unsettled : op_of_ticket all e.who ≡ Some o → IsSettled e.step e.reply → ⊥
  pub pruned : op_of_ticket all e.who ≡ Some o → IsPruned e.step e.reply → is_cleanup_ticket all e.who ≡ cleans
  pub dropped : op_of_ticket all e.who ≡ Some o → IsDropped e.step e.reply → is_cleanup_ticket all e.who ≡ true → cleans ≡ true

over_at : (cleans : Bool) (all before : List Entry) (o : ℕ) (e : Entry) → IsCalm (is_stale before e.who ≡ true) e.reply e.step → IsOfKind cleans all o e → OverOrNone cleans (ends_at all before o e)
over_at cleans all before o e calm h = elim (cases_Bool (is_op o (op_of_ticket all e.who))) [
  | inl own ↦
      let of : op_of_ticket all e.who ≡ Some o = is_own o (op_of_ticket all e.who) own in
      subst (OverOrNone cleans) (sym (cond-true _ _ _ own)) (over_by cleans all (is_stale before e.who) e.who e.step e.reply calm (h.unsettled of) (h.pruned of) (h.dropped of))
  | inr none ↦ subst (OverOrNone cleans) (sym (cond-false _ _ _ none)) tt
]

-- ---- aborts

-- the answer of an abort: a delete that names this was accepted
pub record IsAbort (name : Option Bytes) (step : Step) (reply : Reply) (answer : report.Reply) : Type 0 where
  pub by : ℕ
  pub of : Bytes
  pub command : Asked
  pub name_is : name ≡ Some of
  pub step_is : step ≡ AskStep command
  pub reply_is : reply ≡ Accepted by
  pub named : names_it command of ≡ true
  pub answer_is : answer ≡ Aborted by

one_reply : (a b : report.Reply) → Some a ≡ Some b → a ≡ b
one_reply a b e = cc

abort_told : (name : Option Bytes) (k : Option ℕ) (step : Step) (reply : Reply) (answer : report.Reply) → abort_of name k step reply ≡ Some answer → IsAbort name step reply answer
abort_told (Some name) None (AskStep command) (Accepted d) answer e = elim (cases_Bool (names_it command name)) [
  | inl t ↦ record { by = d; of = name; command = command; name_is = refl; step_is = refl; reply_is = refl; named = t; answer_is = sym (one_reply (Aborted d) answer (sym (cond-true _ _ _ t) ∙ e)) }
  | inr t ↦ absurd (none-some answer (sym (cond-false _ _ _ t) ∙ e))
]
abort_told name k step reply answer e = absurd (none-some answer e)

-- it is of an op with a name
pub abort_names : (front : List Entry) (o : ℕ) (e : Entry) (answer : report.Reply) → aborts_at front o e ≡ Some answer → (name : Bytes) × (name_of_op front o ≡ Some name)
abort_names front o e answer is = let h = abort_told (name_of_op front o) (final_out front o) e.step e.reply answer is in (h.of, h.name_is)

unnamed_abort : (name : Option Bytes) (k : Option ℕ) (step : Step) (reply : Reply) → name ≡ None → abort_of name k step reply ≡ None
unnamed_abort None k step reply e = refl
unnamed_abort (Some name) k step reply e = absurd (none-some name (sym e))

-- ---- the end of a snapshot

has_here : (before es : List Entry) (x : Entry) → Has (before ++ x ∷ es) x
has_here [] es x = inl refl
has_here (y ∷ before) es x = inr (has_here before es x)

-- it was made, or a delete aborted it: one that was accepted in the history, and that names it
pub record WasAborted (all : List Entry) (o : ℕ) (answer : Option report.Reply) : Type 0 where
  pub by : ℕ
  pub is : answer ≡ Some (Aborted by)
  pub e : Entry
  pub has : Has all e
  pub command : Asked
  pub step : e.step ≡ AskStep command
  pub of : Bytes
  pub of_is : name_of_op all o ≡ Some of
  pub named : names_it command of ≡ true

abbrev pub IsEnded : List Entry → ℕ → Option report.Reply → Type 0
IsEnded all o answer = IsMade answer ⊎ WasAborted all o answer

-- an entry of these ends the op, or aborts it
abbrev pub EndsIn : List Entry → ℕ → List Entry → List Entry → Type 0
EndsIn all o before [] = ⊥
EndsIn all o before (x ∷ es) = IsMade (ends_at all before o x) ⊎ (((answer : report.Reply) × (aborts_at before o x ≡ Some answer)) ⊎ EndsIn all o (before ++ x ∷ []) es)

made_in : (all : List Entry) (o : ℕ) (before es : List Entry) (e : Entry) → Has es e → ((b : List Entry) → IsMade (ends_at all b o e)) → EndsIn all o before es
made_in all o before [] e has made = absurd has
made_in all o before (x ∷ es) e (inl same) made = inl (subst (λ (y : Entry). IsMade (ends_at all before o y)) (sym same) (made before))
made_in all o before (x ∷ es) e (inr has) made = inr (inr (made_in all o (before ++ x ∷ []) es e has made))

pub aborted_in : (all : List Entry) (o : ℕ) (before front : List Entry) (e : Entry) (back : List Entry) (answer : report.Reply) → aborts_at (before ++ front) o e ≡ Some answer → EndsIn all o before (front ++ e ∷ back)
aborted_in all o before [] e back answer is = inr (inl (answer, ap (λ (l : List Entry). aborts_at l o e) (sym (append-nil before)) ∙ is))
aborted_in all o before (x ∷ front) e back answer is = inr (inr (aborted_in all o (before ++ x ∷ []) front e back answer (ap (λ (l : List Entry). aborts_at l o e) (append_assoc before (x ∷ []) front) ∙ is)))

-- the first of these answers it
pub end_found : (all : List Entry) (o : ℕ) (before es : List Entry) → all ≡ before ++ es → AreCalmIn all → ((e : Entry) → Has es e → op_of_ticket all e.who ≡ Some o → IsPruned e.step e.reply → ⊥)
    → ((e : Entry) → Has es e → op_of_ticket all e.who ≡ Some o → IsDropped e.step e.reply → is_cleanup_ticket all e.who ≡ false) → EndsIn all o before es → IsEnded all o (end_of_op all o before es)
end_found all o before [] is calm other left found = absurd found
end_found all o before (x ∷ es) is calm other left found =
    by_end (λ behind. end_found all o (before ++ x ∷ []) es (is ∙ sym (append_assoc before (x ∷ []) es)) calm (λ e m. other e (inr m)) (λ e m. left e (inr m)) behind)
    (ends_at all before o x) refl (made_at all before o x (calm before x es is) (other x (inl refl)) (left x (inl refl)))
  where
    later : (EndsIn all o (before ++ x ∷ []) es → IsEnded all o (end_of_op all o (before ++ x ∷ []) es)) → (ends_at all before o x ≡ None) → (aborts_at before o x ≡ None) → IsEnded all o (end_of_op all o (before ++ x ∷ []) es)
    later on none unaborted = elim found [
      | inl made ↦ absurd (none-some (Made made.uuid) (sym none ∙ made.is))
      | inr more ↦ elim more [
        | inl abort ↦ absurd (none-some abort.0 (sym unaborted ∙ abort.1))
        | inr behind ↦ on behind
      ]
    ]

    by_abort : (EndsIn all o (before ++ x ∷ []) es → IsEnded all o (end_of_op all o (before ++ x ∷ []) es)) → (a : Option report.Reply) → aborts_at before o x ≡ a → ends_at all before o x ≡ None
        → IsEnded all o (or_else a (end_of_op all o (before ++ x ∷ []) es))
    by_abort on None unaborted none = later on none unaborted
    by_abort on (Some answer) aborted none =
        let h : IsAbort (name_of_op before o) x.step x.reply answer = abort_told (name_of_op before o) (final_out before o) x.step x.reply answer aborted in
        inr (record {
          by = h.by;
          is = ap (λ (r : report.Reply). Some r) h.answer_is;
          e = x;
          has = subst (λ (l : List Entry). Has l x) (sym is) (has_here before es x);
          command = h.command;
          step = h.step_is;
          of = h.of;
          of_is = ap (λ (l : List Entry). name_of_op l o) is ∙ name_stays before (x ∷ es) o h.of h.name_is;
          named = h.named;
        })

    by_end : (EndsIn all o (before ++ x ∷ []) es → IsEnded all o (end_of_op all o (before ++ x ∷ []) es)) → (a : Option report.Reply) → ends_at all before o x ≡ a → MadeOrNone a
        → IsEnded all o (or_else a (or_else (aborts_at before o x) (end_of_op all o (before ++ x ∷ []) es)))
    by_end on None none made = by_abort on (aborts_at before o x) refl none
    by_end on (Some (Made u)) ends made = inl (record { uuid = u; is = refl })
    by_end on (Some answer) ends made = absurd made

-- a settle of the op makes its snapshot
settle_made : (all : List Entry) (o uuid : ℕ) (e : Entry) → op_of_ticket all e.who ≡ Some o → uuid_of_ticket all e.who ≡ Some uuid → e.step ≡ SettleStep → e.reply ≡ WasSettled → (b : List Entry) → IsMade (ends_at all b o e)
settle_made all o uuid e op_is uuid_is step reply b =
    record {
      uuid = uuid;
      is =
          ap (λ (a : Option ℕ). if is_op o a then ends_by all (is_stale b e.who) e.who e.step e.reply else None) op_is
          ∙ ap (λ (own : Bool). if own then ends_by all (is_stale b e.who) e.who e.step e.reply else None) (same_number o)
          ∙ ap (λ (x : Step). ends_by all (is_stale b e.who) e.who x e.reply) step
          ∙ ap (λ (x : Reply). ends_by all (is_stale b e.who) e.who SettleStep x) reply
          ∙ ap (option_map Made) uuid_is;
    }

pub settled_in : (all : List Entry) (o uuid : ℕ) (e : Entry) → Has all e → op_of_ticket all e.who ≡ Some o → uuid_of_ticket all e.who ≡ Some uuid → e.step ≡ SettleStep → e.reply ≡ WasSettled → EndsIn all o [] all
settled_in all o uuid e has op_is uuid_is step reply = made_in all o [] all e has (settle_made all o uuid e op_is uuid_is step reply)

-- ---- the end of a delete or a cleanup

pub over_found : (cleans : Bool) (all : List Entry) (o : ℕ) (before es : List Entry) → all ≡ before ++ es → AreCalmIn all → name_of_op all o ≡ None → ((e : Entry) → Has es e → IsOfKind cleans all o e)
    → (e : Entry) → Has es e → ((b : List Entry) → IsOverBy cleans (ends_at all b o e)) → IsOverBy cleans (end_of_op all o before es)
over_found cleans all o before [] is calm unnamed kinds e has over = absurd has
over_found cleans all o before (x ∷ es) is calm unnamed kinds e has over =
    by_end (λ behind. over_found cleans all o (before ++ x ∷ []) es (is ∙ sym (append_assoc before (x ∷ []) es)) calm unnamed (λ y m. kinds y (inr m)) e behind over)
    (ends_at all before o x) refl (over_at cleans all before o x (calm before x es is) (kinds x (inl refl)))
  where
    unaborted : aborts_at before o x ≡ None
    unaborted = unnamed_abort (name_of_op before o) (final_out before o) x.step x.reply (name_before before (x ∷ es) o (ap (λ (l : List Entry). name_of_op l o) (sym is) ∙ unnamed))

    later : (Has es e → IsOverBy cleans (end_of_op all o (before ++ x ∷ []) es)) → ends_at all before o x ≡ None → IsOverBy cleans (end_of_op all o (before ++ x ∷ []) es)
    later on none = elim has [
      | inl same ↦ absurd (none-some (over before).reply (sym none ∙ ap (λ (y : Entry). ends_at all before o y) same ∙ (over before).is))
      | inr behind ↦ on behind
    ]

    by_end : (Has es e → IsOverBy cleans (end_of_op all o (before ++ x ∷ []) es)) → (a : Option report.Reply) → ends_at all before o x ≡ a → OverOrNone cleans a
        → IsOverBy cleans (or_else a (or_else (aborts_at before o x) (end_of_op all o (before ++ x ∷ []) es)))
    by_end on None none ok = subst (λ (a : Option report.Reply). IsOverBy cleans (or_else a (end_of_op all o (before ++ x ∷ []) es))) (sym unaborted) (later on none)
    by_end on (Some answer) ends ok = record { reply = answer; is = refl; over = ok }

-- what an entry of the ticket of an op answers
own_end : (all : List Entry) (o : ℕ) (e : Entry) (b : List Entry) → op_of_ticket all e.who ≡ Some o → ends_at all b o e ≡ ends_by all (is_stale b e.who) e.who e.step e.reply
own_end all o e b op_is =
    ap (λ (a : Option ℕ). if is_op o a then ends_by all (is_stale b e.who) e.who e.step e.reply else None) op_is ∙ ap (λ (own : Bool). if own then ends_by all (is_stale b e.who) e.who e.step e.reply else None) (same_number o)

-- the settle of its ticket carries a delete out
pub prune_deleted : (all : List Entry) (o : ℕ) (e : Entry) → op_of_ticket all e.who ≡ Some o → is_cleanup_ticket all e.who ≡ false → e.step ≡ PruneStep SettlePruned → e.reply ≡ WasSettled → (b : List Entry)
    → IsOverBy false (ends_at all b o e)
prune_deleted all o e op_is deletes step reply b =
    record {
      reply = Deleted o;
      is =
          own_end all o e b op_is
          ∙ ap (λ (x : Step). ends_by all (is_stale b e.who) e.who x e.reply) step
          ∙ ap (λ (x : Reply). ends_by all (is_stale b e.who) e.who (PruneStep SettlePruned) x) reply
          ∙ ap (λ (c : Bool). option_map Deleted (if c then None else op_of_ticket all e.who)) deletes
          ∙ ap (option_map Deleted) op_is;
      over = tt;
    }

-- and the drop of its op ends a cleanup
pub drop_cleaned : (all : List Entry) (o : ℕ) (e : Entry) → op_of_ticket all e.who ≡ Some o → is_cleanup_ticket all e.who ≡ true → e.step ≡ DroppedStep → e.reply ≡ HasEnded → (b : List Entry) → IsOverBy true (ends_at all b o e)
drop_cleaned all o e op_is cleans step reply b =
    record {
      reply = Cleaned (blobs_gone all e.who) (bytes_gone all e.who);
      is =
          own_end all o e b op_is
          ∙ ap (λ (x : Step). ends_by all (is_stale b e.who) e.who x e.reply) step
          ∙ ap (λ (x : Reply). ends_by all (is_stale b e.who) e.who DroppedStep x) reply
          ∙ ap (cleaned_by all e.who) cleans;
      over = tt;
    }
