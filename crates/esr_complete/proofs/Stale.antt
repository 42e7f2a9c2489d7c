-- A ticket that isn't stale by the history is of the present term, and so is that of a finalization that is out.
use Rattle.std.proofs.Common.{◌≡◌, ◌≢◌, ◌⊎◌, ℕ, suc, Bool, true, false, true≢false, ◌||◌, ◌&&◌, if◌then◌else◌, List, [], ◌∷◌, ◌++◌, append-nil, append_assoc, Option, Some, None, refl, sym, ap, ◌∙◌, subst, inl, inr}
use Rattle.std.specs.FinMap as fin
use Rattle.std.proofs.lemmas.Bool.{or_right, or_parts}
use Rattle.std.proofs.lemmas.Option.{none-some}
use Rattle.std.proofs.Math.Bool.{or-false}
use Rattle.esr_core.specs.Laws.NumberMaps.{was_in}
use Rattle.esr_model.specs.Values.{RootData, ClusterRecord, Formats}
use Rattle.esr_model.specs.Image.{Blobs, Image}
use Rattle.esr_core.specs.World.{World, Op, ShardWork, RestoreShard, Restoring, Work, Shard, Finalize, Deleting, Drop, Ticket, opened, Opened, OpenedEmpty, OpenedRecord, no_record, no_root}
use Rattle.esr_core.specs.Steps.{shard_ticket, final_ticket, plain_ticket}
use Rattle.esr_core.specs.Turns.{cleaning_ticket}
use Rattle.esr_core.specs.Entry.{Why, Given, GivenShard, GivenFinalize, GivenDrop, GivenRestore, GivenClone, GivenDelete, GivenCleanup, DeleteFails, Step, TakeStep, ElectStep, PruneStep, DepotFault, Reply, Gave, HasEnded, ElectedTerm, Refused, Entry, Moment}
use Rattle.esr_core.specs.After.{taken_by, taken_shard, taken_restore, taken_restore_shard, answered, after}
use Rattle.esr_core.specs.Allowed as allowed
use Rattle.esr_core.specs.Allowed.{Gives, GivesShard, Allows, Allowed}
use Rattle.esr_core.specs.Changes.{SameUnit, StepChange, NewTicket, OwnTicket, Settlement, UnitEnd, DeletionFailure, OpDrop, SwapFault}
use Rattle.esr_core.specs.History.{world_from, IsLegal}
use Rattle.esr_core.specs.Laws.Asides.{blocked_stays}
use Rattle.esr_core.specs.Laws.TakeAnswers.{take_gave}
use Rattle.esr_core.specs.Laws.ChangeLaws.{same_unit, over_unit, settled_unit, change_of}
use Rattle.esr_core.specs.Laws.Maps.{nothing, Tickets}
use Rattle.esr_core.specs.Laws.StepFrames.{step_frame}
use Rattle.esr_core.specs.Laws.Tests.{same_number}
use Rattle.esr_desk.specs.Start.{Start, formats_of, world_of}
use Rattle.esr_quiet.specs.Smooth.{AreCalm, IsSmooth}
use Rattle.esr_quiet.specs.PrefixLaws.{quiet_at, legal_at, smooth_front}
use Rattle.esr_quiet.specs.DeleteTells.{fails_at}
use Rattle.esr_report.specs.Replies.{is_of_term, takes_of_term, begins_term, has_term, is_stale, final_step, final_out}
use Rattle.esr_complete.specs.Lines.{entries_of}
use Rattle.esr_complete.proofs.Tickets.{IsGiftless, final_on, final_was, final_gave}

-- the ticket of who is of an older term
abbrev pub IsStaleIn : World → ℕ → Type 0
IsStaleIn w who = (t : Ticket) → fin.get w.tickets who ≡ Some t → t.term ≢ w.term

-- ---- what a longer history tells

or_assoc : (a b c : Bool) → (a || (b || c)) ≡ ((a || b) || c)
or_assoc true b c = refl
or_assoc false b c = refl

-- a take gave the ticket a unit of its term
abbrev pub has_take : List Entry → ℕ → Bool
has_take [] k = false
has_take (e ∷ es) k = takes_of_term e.reply k || has_take es k

take_append : (es : List Entry) (x : Entry) (k : ℕ) → has_take (es ++ x ∷ []) k ≡ (has_take es k || takes_of_term x.reply k)
take_append [] x k = or-false (takes_of_term x.reply k)
take_append (e ∷ es) x k = ap (λ (b : Bool). takes_of_term e.reply k || b) (take_append es x k) ∙ or_assoc (takes_of_term e.reply k) (has_take es k) (takes_of_term x.reply k)

take_stays : (es : List Entry) (x : Entry) (k : ℕ) → has_take es k ≡ true → has_take (es ++ x ∷ []) k ≡ true
take_stays es x k e = take_append es x k ∙ ap (λ (b : Bool). b || takes_of_term x.reply k) e

take_here : (es : List Entry) (x : Entry) (k : ℕ) → takes_of_term x.reply k ≡ true → has_take (es ++ x ∷ []) k ≡ true
take_here es x k e = take_append es x k ∙ or_right (has_take es k) (takes_of_term x.reply k) e

term_append : (es : List Entry) (x : Entry) → has_term (es ++ x ∷ []) ≡ (has_term es || begins_term x.reply)
term_append [] x = or-false (begins_term x.reply)
term_append (e ∷ es) x = ap (λ (b : Bool). begins_term e.reply || b) (term_append es x) ∙ or_assoc (begins_term e.reply) (has_term es) (begins_term x.reply)

-- one that was given is stale where it was, or where a term begins
stale_on : (es : List Entry) (x : Entry) (k : ℕ) → has_take es k ≡ true → is_stale (es ++ x ∷ []) k ≡ (is_stale es k || begins_term x.reply)
stale_on [] x k e = absurd (true≢false (sym e))
stale_on (y ∷ es) x k e = by (takes_of_term y.reply k) (λ later. stale_on es x k later) e
  where
    by : (b : Bool) → (has_take es k ≡ true → is_stale (es ++ x ∷ []) k ≡ (is_stale es k || begins_term x.reply)) → (b || has_take es k) ≡ true
        → (if b then has_term (es ++ x ∷ []) else is_stale (es ++ x ∷ []) k) ≡ ((if b then has_term es else is_stale es k) || begins_term x.reply)
    by true on h = term_append es x
    by false on h = on h

-- ---- units of a term

-- they belong to the term in which they were given
abbrev pub IsTermWork : Work → Type 0
IsTermWork (Shard index number) = ⊥
IsTermWork (Finalize info results made) = Unit {0}
IsTermWork (Deleting uuids plan) = Unit {0}
IsTermWork Drop = Unit {0}

work_was : (t v : Ticket) → SameUnit t v → IsTermWork v.work → IsTermWork t.work
work_was t v unit of = elim unit.work [ inl same ↦ subst IsTermWork same of | inr planned ↦ subst IsTermWork (sym planned.3) tt ]

-- A ticket of such a unit was given by a take, and is of the present term where it isn't stale by the entries; so is that of a finalization
-- that is out by them.
pub record TellsTerms (tickets : Tickets) (term : ℕ) (es : List Entry) : Type 0 where
  pub given : (k : ℕ) (t : Ticket) → fin.get tickets k ≡ Some t → IsTermWork t.work → has_take es k ≡ true
  pub present : (k : ℕ) (t : Ticket) → fin.get tickets k ≡ Some t → IsTermWork t.work → is_stale es k ≡ false → t.term ≡ term
  pub final : (o k : ℕ) (t : Ticket) → final_out es o ≡ Some k → fin.get tickets k ≡ Some t → t.term ≡ term

abbrev pub TellsTermsIn : World → List Entry → Type 0
TellsTermsIn w es = TellsTerms w.tickets w.term es

-- each ticket was there as the same unit
abbrev CameFrom : Tickets → Tickets → Type 0
CameFrom was now = (k : ℕ) (v : Ticket) → fin.get now k ≡ Some v → (t : Ticket) × (fin.get was k ≡ Some t) × SameUnit t v

came_same : (tickets : Tickets) → CameFrom tickets tickets
came_same tickets k v e = (v, e, same_unit v)

came_put : (tickets : Tickets) (who : ℕ) (t u : Ticket) → fin.get tickets who ≡ Some t → SameUnit t u → CameFrom tickets (fin.insert tickets who u)
came_put tickets who t u there unit k v e = elim (was_in tickets who u k v e) [
  | inl is ↦ (t, ap (fin.get tickets) is.0 ∙ there, subst (SameUnit t) is.1 unit)
  | inr is ↦ (v, is.1, same_unit v)
]

-- ---- each step

module _ (tickets : Tickets) (term : ℕ) (es : List Entry) (h : TellsTerms tickets term es) (x : Entry) where
  -- tickets go on in the same term, and no finalization comes
  on : (now : Tickets) → CameFrom tickets now → ((o k : ℕ) → final_out (es ++ x ∷ []) o ≡ Some k → final_out es o ≡ Some k) → TellsTerms now term (es ++ x ∷ [])
  on now came finals =
      record {
        given = λ k v e of. let (t, there, unit) = came k v e in take_stays es x k (h.given k t there (work_was t v unit of));
        present = λ k v e of fresh.
            let (t, there, unit) = came k v e in
            let was : IsTermWork t.work = work_was t v unit of in
            unit.term ∙ h.present k t there was (or_parts (is_stale es k) (begins_term x.reply) (sym (stale_on es x k (h.given k t there was)) ∙ fresh)).0;
        final = λ o k v out e. let (t, there, unit) = came k v e in unit.term ∙ h.final o k t (finals o k out) there;
      }

  giftless_finals : IsGiftless x.reply → (o k : ℕ) → final_out (es ++ x ∷ []) o ≡ Some k → final_out es o ≡ Some k
  giftless_finals giftless o k out = (final_was o (final_out es o) x x.reply k giftless (sym (final_on o es x) ∙ out)).0

  -- a step that gives no ticket
  goes_on : (now : Tickets) → CameFrom tickets now → IsGiftless x.reply → TellsTerms now term (es ++ x ∷ [])
  goes_on now came giftless = on now came (giftless_finals giftless)

  -- a term begins
  begins : (later : ℕ) → (begins_term x.reply ≡ true) → ((o k : ℕ) → final_out (es ++ x ∷ []) o ≡ Some k → ⊥) → TellsTerms tickets later (es ++ x ∷ [])
  begins later begun none =
      record {
        given = λ k t there of. take_stays es x k (h.given k t there of);
        present = λ k t there of fresh. absurd (true≢false (sym begun ∙ (or_parts (is_stale es k) (begins_term x.reply) (sym (stale_on es x k (h.given k t there of)) ∙ fresh)).1));
        final = λ o k t out there. absurd (none o k out);
      }

takes_here : (ticket op : ℕ) (unit : Given) → is_of_term unit ≡ true → takes_of_term (Gave ticket op unit) ticket ≡ true
takes_here ticket op unit of = ap (λ (b : Bool). b && is_of_term unit) (same_number ticket) ∙ of

module _ (tickets : Tickets) (term next : ℕ) (es : List Entry) (h : TellsTerms tickets term es) (x : Entry) (op : ℕ) (unit : Given) (gives : x.reply ≡ Gave next op unit) where
  gave_final : (o k : ℕ) → final_out (es ++ x ∷ []) o ≡ Some k → (final_out es o ≡ Some k) ⊎ (next ≡ k)
  gave_final o k out = elim (final_gave o (final_out es o) op unit next k (sym (final_on o es x ∙ by_reply) ∙ out)) [ inl before ↦ inl before | inr mine ↦ inr mine.1 ]
    where
      by_reply : final_step o (final_out es o) x x.reply ≡ final_step o (final_out es o) x (Gave next op unit)
      by_reply = ap (final_step o (final_out es o) x) gives

  -- a ticket comes
  comes : (t : Ticket) → t.term ≡ term → (IsTermWork t.work → is_of_term unit ≡ true) → TellsTerms (fin.insert tickets next t) term (es ++ x ∷ [])
  comes t of_term of_unit =
      record {
        given = λ k v e of. elim (was_in tickets next t k v e) [
          | inl is ↦ take_here es x k (ap (λ (r : Reply). takes_of_term r k) gives ∙ ap (takes_of_term (Gave next op unit)) is.0 ∙ takes_here next op unit (of_unit (subst (λ (y : Ticket). IsTermWork y.work) (sym is.1) of)))
          | inr is ↦ take_stays es x k (h.given k v is.1 of)
        ];
        present = λ k v e of fresh. elim (was_in tickets next t k v e) [
          | inl is ↦ ap (λ (y : Ticket). y.term) (sym is.1) ∙ of_term
          | inr is ↦ h.present k v is.1 of (or_parts (is_stale es k) (begins_term x.reply) (sym (stale_on es x k (h.given k v is.1 of)) ∙ fresh)).0
        ];
        final = λ o k v out e. elim (was_in tickets next t k v e) [
          | inl is ↦ ap (λ (y : Ticket). y.term) (sym is.1) ∙ of_term
          | inr is ↦ elim (gave_final o k out) [ inl before ↦ h.final o k v before is.1 | inr mine ↦ absurd (is.0 (sym mine)) ]
        ];
      }

-- no ticket comes with a shard of a restore
no_final : (tickets : Tickets) (term next : ℕ) (es : List Entry) → TellsTerms tickets term es → (x : Entry) (op index number uuid : ℕ) → x.reply ≡ Gave next op (GivenRestore index number uuid) → TellsTerms tickets term (es ++ x ∷ [])
no_final tickets term next es h x op index number uuid gives =
    on tickets term es h x tickets (came_same tickets)
    (λ o k out. elim (final_gave o (final_out es o) op (GivenRestore index number uuid) next k (sym (final_on o es x ∙ ap (final_step o (final_out es o) x) gives) ∙ out)) [ inl before ↦ before | inr mine ↦ absurd mine.2 ])

abbrev IsTake : Step → Type 0
IsTake TakeStep = Unit {0}
IsTake step = ⊥

-- what an election may be answered
abbrev IsElectReply : Step → Reply → Type 0
IsElectReply ElectStep (ElectedTerm term) = Unit {0}
IsElectReply ElectStep (Refused refusal) = Unit {0}
IsElectReply ElectStep reply = ⊥
IsElectReply step reply = Unit {0}

-- no other step gives a ticket or begins a term
abbrev IsOther : Step → Type 0
IsOther TakeStep = ⊥
IsOther ElectStep = ⊥
IsOther step = Unit {0}

elect_told : (f : Formats) (size : ℕ) (w : World) (who : ℕ) (step : Step) (reply : Reply) (image : Option Image) → Allows f size w who step reply image → IsElectReply step reply
elect_told f size w who step reply image (allowed.Electing im room same) = tt
elect_told f size w who step reply image a = tt

giftless_by : (reply : Reply) → ((k o : ℕ) (unit : Given) → reply ≡ Gave k o unit → ⊥) → IsGiftless reply
giftless_by (Gave k o unit) none = absurd (none k o unit refl)
giftless_by reply none = tt

module _ (f : Formats) (w : World) (es : List Entry) (h : TellsTermsIn w es) where
  -- but by a take no ticket comes
  came : (who : ℕ) (step : Step) (new : World) → StepChange f w who step new → (IsTake step → ⊥) → CameFrom w.tickets new.tickets
  came who step new (NewTicket take t is ops same) none k v e = absurd (none (subst IsTake (sym take) tt))
  came who step new (OwnTicket t u there unit settled next_id pending id_above above) none k v e = came_put w.tickets who t u there unit k v e
  came who step new (Settlement is t s n names deletes there swapped raised left) none k v e = came_put w.tickets who t (record t { settled = true }) there (settled_unit t) k v e
  came who step new (UnitEnd t op u completed there found same) none k v e = came_put w.tickets who t (record t { out = false }) there (over_unit t) k v e
  came who step new (DeletionFailure t x there found) none k v e = came_put w.tickets who t (record t { out = false }) there (over_unit t) k v e
  came who step new (OpDrop is t there) none k v e = came_put w.tickets who t (record t { out = false }) there (over_unit t) k v e
  came who step new (SwapFault is up change) none k v e = came who step up change none k v e
  came who step new other none k v e = (v, e, same_unit v)

  gives_shard : (x : Entry) (o index number : ℕ) (source base : Option ℕ) (unit : Given) → x.reply ≡ Gave w.next_ticket o unit → (g : GivesShard w o index number source base)
      → TellsTermsIn (taken_shard w o g.op base (Some g.s)) (es ++ x ∷ [])
  gives_shard x o index number source base unit gives g = comes w.tickets w.term w.next_ticket es h x o unit gives (shard_ticket w o g.op g.s base) refl (λ of. absurd of)

  gives_by : (x : Entry) (o : ℕ) (unit : Given) → x.reply ≡ Gave w.next_ticket o unit → Gives f w o unit → TellsTermsIn (taken_by f w o unit (fin.get w.ops o)) (es ++ x ∷ [])
  gives_by x o (GivenShard index number base) gives g =
      subst (λ (y : Option Op). TellsTermsIn (taken_by f w o (GivenShard index number base) y) (es ++ x ∷ [])) (sym g.ready.op_there)
      (subst (λ (y : Option ShardWork). TellsTermsIn (taken_shard w o g.op base y) (es ++ x ∷ [])) (sym g.found) (gives_shard x o index number None base (GivenShard index number base) gives g))
  gives_by x o (GivenClone index number source base) gives g =
      subst (λ (y : Option Op). TellsTermsIn (taken_by f w o (GivenClone index number source base) y) (es ++ x ∷ [])) (sym g.ready.op_there)
      (subst (λ (y : Option ShardWork). TellsTermsIn (taken_shard w o g.op base y) (es ++ x ∷ [])) (sym g.found) (gives_shard x o index number (Some source) base (GivenClone index number source base) gives g))
  gives_by x o (GivenFinalize info results) gives g =
      subst (λ (y : Option Op). TellsTermsIn (taken_by f w o (GivenFinalize info results) y) (es ++ x ∷ [])) (sym g.ready.op_there)
      (comes w.tickets w.term w.next_ticket es h x o (GivenFinalize info results) gives (final_ticket f w o g.op results) refl (λ of. refl))
  gives_by x o GivenDrop gives g = comes w.tickets w.term w.next_ticket es h x o GivenDrop gives (plain_ticket w o Drop) refl (λ of. refl)
  gives_by x o (GivenDelete uuids) gives g = comes w.tickets w.term w.next_ticket es h x o (GivenDelete uuids) gives (plain_ticket w o (Deleting uuids None)) refl (λ of. refl)
  gives_by x o GivenCleanup gives g = comes w.tickets w.term w.next_ticket es h x o GivenCleanup gives (cleaning_ticket w o) refl (λ of. refl)
  gives_by x o (GivenRestore index number uuid) gives g =
      subst (λ (y : Option Restoring). TellsTermsIn (taken_restore w o index number y) (es ++ x ∷ [])) (sym g.ready.there)
      (subst (λ (y : Option RestoreShard). TellsTermsIn (taken_restore_shard w o g.r y) (es ++ x ∷ [])) (sym g.found) (no_final w.tickets w.term w.next_ticket es h x o index number uuid gives))

  -- the world stays
  still : (x : Entry) → IsGiftless x.reply → TellsTermsIn w (es ++ x ∷ [])
  still x giftless = goes_on w.tickets w.term es h x w.tickets (came_same w.tickets) giftless

  take : (who : ℕ) (reply : Reply) (image : Option Image) → ((k o : ℕ) (unit : Given) → reply ≡ Gave k o unit → (k ≡ w.next_ticket) × Gives f w o unit)
      → TellsTermsIn (answered f w who TakeStep reply image) (es ++ record { who = who; step = TakeStep; reply = reply } ∷ [])
  take who (Gave k o unit) image given =
      let g = given k o unit refl in gives_by (record { who = who; step = TakeStep; reply = Gave k o unit }) o unit (ap (λ (j : ℕ). Gave j o unit) g.0) g.1
  take who (Refused DepotFault) image given = still (record { who = who; step = TakeStep; reply = Refused DepotFault }) tt
  take who (Refused refusal) image given = still (record { who = who; step = TakeStep; reply = Refused refusal }) tt
  take who reply image given = still (record { who = who; step = TakeStep; reply = reply }) tt

  none_out : (who : ℕ) (term o k : ℕ) → final_out (es ++ record { who = who; step = ElectStep; reply = ElectedTerm term } ∷ []) o ≡ Some k → ⊥
  none_out who term o k out = none-some k (sym (final_on o es (record { who = who; step = ElectStep; reply = ElectedTerm term })) ∙ out)

  elect : (who : ℕ) (reply : Reply) (image : Option Image) → IsElectReply ElectStep reply → reply ≢ Refused DepotFault
      → TellsTermsIn (answered f w who ElectStep reply image) (es ++ record { who = who; step = ElectStep; reply = reply } ∷ [])
  elect who (ElectedTerm term) image told calm = begins w.tickets w.term es h (record { who = who; step = ElectStep; reply = ElectedTerm term }) (suc w.term) refl (none_out who term)
  elect who (Refused DepotFault) image told calm = absurd (calm refl)
  elect who (Refused refusal) image told calm = still (record { who = who; step = ElectStep; reply = Refused refusal }) tt
  elect who reply image told calm = absurd told

  -- neither a take nor an election
  other : (who : ℕ) (step : Step) (reply : Reply) (image : Option Image) → (IsTake step → ⊥) → IsGiftless reply → (answered f w who step reply image).term ≡ w.term
      → TellsTermsIn (answered f w who step reply image) (es ++ record { who = who; step = step; reply = reply } ∷ [])
  other who step reply image no_take giftless same =
      subst (λ (term : ℕ). TellsTerms (answered f w who step reply image).tickets term (es ++ record { who = who; step = step; reply = reply } ∷ [])) (sym same)
      (goes_on w.tickets w.term es h (record { who = who; step = step; reply = reply }) (answered f w who step reply image).tickets (came who step (answered f w who step reply image) (change_of f w who step reply image) no_take) giftless)

  by_step : (who : ℕ) (step : Step) (reply : Reply) (image : Option Image) → ((k o : ℕ) (unit : Given) → reply ≡ Gave k o unit → (k ≡ w.next_ticket) × Gives f w o unit) → IsElectReply step reply → reply ≢ Refused DepotFault
      → (IsOther step → IsGiftless reply × ((answered f w who step reply image).term ≡ w.term)) → TellsTermsIn (answered f w who step reply image) (es ++ record { who = who; step = step; reply = reply } ∷ [])
  by_step who TakeStep reply image given told calm rest = take who reply image given
  by_step who ElectStep reply image given told calm rest = elect who reply image told calm
  by_step who step reply image given told calm rest = let r = rest tt in other who step reply image (λ x. x) r.0 r.1

terms_step : (f : Formats) (size : ℕ) (w : World) (es : List Entry) → TellsTermsIn w es → (m : Moment) → Allowed f size w m → m.entry.reply ≢ Refused DepotFault → TellsTermsIn (after f w m) (es ++ m.entry ∷ [])
terms_step f size w es h m a calm = elim a.answered [
  | inl alive ↦
      by_step f w es h m.entry.who m.entry.step m.entry.reply m.image (λ k o unit gave. let g = take_gave f size w m k o unit a gave in (g.number, g.gives)) (elect_told f size w m.entry.who m.entry.step m.entry.reply m.image alive.1) calm
      (λ other_step. (
        giftless_by m.entry.reply (λ k o unit gave. subst IsOther (take_gave f size w m k o unit a gave).step_is other_step),
        elim (step_frame f w m).term [ inl same ↦ same | inr elects ↦ absurd (subst IsOther elects other_step) ],
      ))
  | inr dead ↦ subst (λ (v : World). TellsTermsIn v (es ++ m.entry ∷ [])) (sym (blocked_stays f w m dead)) (still f w es h m.entry (subst IsGiftless (sym dead.refused) tt))
]

-- ---- over a history

terms_opened : (blobs : Blobs) (cluster : ClusterRecord) (root : RootData) → TellsTermsIn (opened blobs cluster root) []
terms_opened blobs cluster root = record { given = λ k t e of. absurd (nothing k t e); present = λ k t e of fresh. absurd (nothing k t e); final = λ o k t out e. absurd (nothing k t e) }

terms_start : (f : Formats) (image : Image) (w : World) → Opened f image w → TellsTermsIn w []
terms_start f image w (OpenedEmpty none) = terms_opened image.blobs no_record no_root
terms_start f image w (OpenedRecord cluster text root is reads root_is) = terms_opened image.blobs cluster root

terms_history : (f : Formats) (size : ℕ) (log : List Moment) (w : World) (es : List Entry) → TellsTermsIn w es → IsLegal f size w log → AreCalm log → TellsTermsIn (world_from f w log) (es ++ entries_of log)
terms_history f size [] w es h legal calm = subst (TellsTermsIn w) (sym (append-nil es)) h
terms_history f size (m ∷ log) w es h legal calm =
    subst (TellsTermsIn (world_from f (after f w m) log)) (append_assoc es (m.entry ∷ []) (entries_of log))
    (terms_history f size log (after f w m) (es ++ m.entry ∷ []) (terms_step f size w es h m legal.0 (calm m (inl refl))) legal.1 (λ n has. calm n (inr has)))

-- at each place of a history where no call fails
pub terms_at : (s : Start) (log : List Moment) → IsSmooth s log → (front back : List Moment) → log ≡ front ++ back → TellsTermsIn (world_of s front) (entries_of front)
terms_at s log smooth front back is =
    let h = smooth_front s log smooth front back is in
    terms_history (formats_of s) s.part_size front s.world [] (terms_start (formats_of s) h.image s.world h.opened) h.legal h.calm

-- a ticket that tells that a delete or cleanup failed is stale by the history where it is of an older term
pub stale_told : (s : Start) (log : List Moment) → IsSmooth s log → (front back : List Moment) (m : Moment) (why : Why) → log ≡ front ++ m ∷ back → m.entry.step ≡ PruneStep (DeleteFails why) → m.entry.reply ≡ HasEnded
    → IsStaleIn (world_of s front) m.entry.who → is_stale (entries_of front) m.entry.who ≡ true
stale_told s log smooth front back m why is step reply stale = by (is_stale (entries_of front) m.entry.who) refl
  where
    by : (b : Bool) → is_stale (entries_of front) m.entry.who ≡ b → is_stale (entries_of front) m.entry.who ≡ true
    by true told = told
    by false told =
        let fails = fails_at (formats_of s) s.part_size (world_of s front) m why (quiet_at s log smooth front (m ∷ back) is).present (legal_at s log smooth front back m is) step reply in
        let tells = terms_at s log smooth front (m ∷ back) is in
        absurd (stale fails.t fails.deleting.out.there (tells.present m.entry.who fails.t fails.deleting.out.there (subst IsTermWork (sym fails.deleting.work) tt) told))
