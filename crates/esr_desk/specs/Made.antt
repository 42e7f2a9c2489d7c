-- The steps that someone has made, as the history goes on.
use Rattle.std.specs.Prelude.{◌≡◌, ◌⊎◌, ℕ, zero, suc, ◌≤◌, Bool, true, false, ◌==◌, if◌then◌else◌, List, [], ◌∷◌, ◌++◌}
use Rattle.std.proofs.Common.{refl, sym, ap, ◌∙◌, subst, inl, inr, ⊎_elim, append-nil, arith}
use Rattle.std.proofs.lemmas.Bool.Decides.{eqb_tells}
use Rattle.esr_model.specs.Names.{BlobName}
use Rattle.esr_model.specs.Values.{Has, Formats}
use Rattle.esr_core.specs.World.{World}
use Rattle.esr_core.specs.Entry.{ReadBlob, ReadStep, Step, DeposedAt, Reply, Refused, Entry, Moment}
use Rattle.esr_core.specs.After.{after}
use Rattle.esr_core.specs.History.{world_from}
use Rattle.esr_core.specs.Past.{is_counted, with_entry, begins_anew, entries_by, Repeats}
use Rattle.esr_desk.specs.Start.{Start, formats_of, world_of}
use Rattle.esr_desk.specs.Own.{made_of, MadeLast}
use Rattle.esr_desk.specs.Once.{WasMade, HasMadeNone, IsFresh}
use Rattle.esr_desk.specs.Outcome.{Waited, Stepped}

-- ---- entries

-- with one more each is that, or one before it
entry_or_before : (x : Entry) (entries : List Entry) (who : ℕ) (e : Entry) → Has (entries_by (x ∷ entries) who) e → (x ≡ e) ⊎ Has (entries_by entries who) e
entry_or_before x entries who e m = by (x.who == who) (begins_anew who x.step) m
  where
    by : (mine anew : Bool) → Has (if mine then (if anew then [] else x ∷ entries_by entries who) else entries_by entries who) e → (x ≡ e) ⊎ Has (entries_by entries who) e
    by true true m = absurd m
    by true false m = m
    by false anew m = inr m

pub counted_or_before : (entries : List Entry) (x : Entry) (who : ℕ) (e : Entry) → Has (entries_by (with_entry entries x) who) e → (x ≡ e) ⊎ Has (entries_by entries who) e
counted_or_before entries x who e m = by (is_counted x.reply) m
  where
    by : (b : Bool) → Has (entries_by (if b then x ∷ entries else entries) who) e → (x ≡ e) ⊎ Has (entries_by entries who) e
    by true m = entry_or_before x entries who e m
    by false m = inr m

-- that of another is none of its own
others_entry : (entries : List Entry) (x : Entry) (who : ℕ) → (x.who ≡ who → is_counted x.reply ≡ true → ⊥) → entries_by (with_entry entries x) who ≡ entries_by entries who
others_entry entries x who other = by (is_counted x.reply) refl
  where
    away : is_counted x.reply ≡ true → entries_by (x ∷ entries) who ≡ entries_by entries who
    away counted = ⊎_elim
        (λ (same : ((x.who == who) ≡ true) × (x.who ≡ who)). absurd (other same.1 counted))
        (λ (apart : ((x.who == who) ≡ false) × (x.who ≡ who → ⊥)). ap (λ (b : Bool). if b then (if begins_anew who x.step then [] else x ∷ entries_by entries who) else entries_by entries who) apart.0)
        (eqb_tells x.who who)

    by : (b : Bool) → is_counted x.reply ≡ b → entries_by (if b then x ∷ entries else entries) who ≡ entries_by entries who
    by true counted = away counted
    by false counted = refl

counted_made : (reply : Reply) → is_counted reply ≡ true → WasMade reply
counted_made reply counted place is = cc

-- ---- worlds

pub world_more : (f : Formats) (w : World) (old more : List Moment) → world_from f w (old ++ more) ≡ world_from f (world_from f w old) more
world_more f w [] more = refl
world_more f w (m ∷ old) more = world_more f (after f w m) old more

pub others_leave : (f : Formats) (w : World) (others : List Moment) (who : ℕ) → HasMadeNone others who → entries_by (world_from f w others).entries who ≡ entries_by w.entries who
others_leave f w [] who none = refl
others_leave f w (m ∷ others) who none =
    others_leave f (after f w m) others who (λ n has by made. none n (inr has) by made)
    ∙ others_entry w.entries m.entry who (λ by counted. none m (inl refl) by (counted_made m.entry.reply counted))

-- ---- what others and its own step make of it

pub waited_made : (s : Start) (old new : List Moment) (who : ℕ) → 1 ≤ who → Waited s old new who → made_of s new who ≡ made_of s old who
waited_made s old new who ticket h =
    ap (λ (log : List Moment). made_of s log who) h.grew
    ∙ ap (λ (w : World). entries_by w.entries who) (world_more (formats_of s) s.world old h.others)
    ∙ others_leave (formats_of s) (world_of s old) h.others who (h.besides ticket)

stepped_world : (s : Start) (old new : List Moment) (who : ℕ) (step : Step) (reply : Reply) (h : Stepped s old new who step reply)
    → world_of s new ≡ after (formats_of s) (world_of s h.front) (record { entry = record { who = who; step = step; reply = reply }; image = h.image })
stepped_world s old new who step reply h =
    ap (λ (log : List Moment). world_of s log) h.is
    ∙ world_more (formats_of s) s.world h.front (record { entry = record { who = who; step = step; reply = reply }; image = h.image } ∷ [])

last_or_before : (s : Start) (old new : List Moment) (who : ℕ) (step : Step) (reply : Reply) (h : Stepped s old new who step reply) (e : Entry) → Has (made_of s new who) e → (e ≡ record { who = who; step = step; reply = reply })
    ⊎ Has (made_of s h.front who) e
last_or_before s old new who step reply h e has =
    let last : Entry = record { who = who; step = step; reply = reply } in
    ⊎_elim
    (λ (same : last ≡ e). inl (sym same))
    (λ (before : Has (made_of s h.front who) e). inr before)
    (counted_or_before (world_of s h.front).entries last who e (subst (λ (w : World). Has (entries_by w.entries who) e) (stepped_world s old new who step reply h) has))

own_or_before : (s : Start) (old new : List Moment) (who : ℕ) (step : Step) (reply : Reply) (h : Stepped s old new who step reply) (e : Entry) → Has (made_of s new who) e → (e.step ≡ step) ⊎ Has (made_of s h.front who) e
own_or_before s old new who step reply h e has =
    let last : Entry = record { who = who; step = step; reply = reply } in
    ⊎_elim
    (λ (same : e ≡ last). inl (ap (λ (x : Entry). x.step) same))
    (λ (before : Has (made_of s h.front who) e). inr before)
    (last_or_before s old new who step reply h e has)

-- each step that a ticket has made it made before, or is this one
pub stepped_made : (s : Start) (old new : List Moment) (who : ℕ) (step : Step) (reply : Reply) → 1 ≤ who → Stepped s old new who step reply → (e : Entry) → Has (made_of s new who) e → Has (made_of s old who) e ⊎ (e.step ≡ step)
stepped_made s old new who step reply ticket h e has = ⊎_elim
    (λ here. inr here)
    (λ (before : Has (made_of s h.front who) e). inl (subst (λ (entries : List Entry). Has entries e) (waited_made s old h.front who ticket h.waited) before))
    (own_or_before s old new who step reply h e has)

-- each entry of a ticket was there before, or is this one
pub stepped_entry : (s : Start) (old new : List Moment) (who : ℕ) (step : Step) (reply : Reply) → 1 ≤ who → Stepped s old new who step reply → (e : Entry) → Has (made_of s new who) e → Has (made_of s old who) e
    ⊎ (e ≡ record { who = who; step = step; reply = reply })
stepped_entry s old new who step reply ticket h e has =
    let last : Entry = record { who = who; step = step; reply = reply } in
    ⊎_elim
    (λ (here : e ≡ last). inr here)
    (λ (before : Has (made_of s h.front who) e). inl (subst (λ (entries : List Entry). Has entries e) (waited_made s old h.front who ticket h.waited) before))
    (last_or_before s old new who step reply h e has)

-- a step of who 0 it made before, or it is this one, where nobody else makes a step
pub client_made : (s : Start) (old new : List Moment) (step : Step) (reply : Reply) → s.alone ≡ true → Stepped s old new 0 step reply → (e : Entry) → Has (made_of s new 0) e → Has (made_of s old 0) e ⊎ (e.step ≡ step)
client_made s old new step reply alone h e has =
    let front : h.front ≡ old = h.waited.grew ∙ ap (λ (others : List Moment). old ++ others) (h.waited.nobody alone) ∙ append-nil old in
    ⊎_elim
    (λ here. inr here)
    (λ (before : Has (made_of s h.front 0) e). inl (subst (λ (log : List Moment). Has (made_of s log 0) e) front before))
    (own_or_before s old new 0 step reply h e has)

-- ---- what it made before stays

keeps : (entries : List Entry) (x : Entry) (who : ℕ) (e : Entry) → begins_anew who x.step ≡ false → Has (entries_by entries who) e → Has (entries_by (with_entry entries x) who) e
keeps entries x who e old h = by (is_counted x.reply)
  where
    there : (mine anew : Bool) → anew ≡ false → Has (if mine then (if anew then [] else x ∷ entries_by entries who) else entries_by entries who) e
    there true true anew = absurd cc
    there true false anew = inr h
    there false anew is = h

    by : (b : Bool) → Has (entries_by (if b then x ∷ entries else entries) who) e
    by true = there (x.who == who) (begins_anew who x.step) old
    by false = h

-- unless who 0 begins anew
pub kept_made : (s : Start) (old new : List Moment) (who : ℕ) (step : Step) (reply : Reply) → 1 ≤ who → begins_anew who step ≡ false → Stepped s old new who step reply → (e : Entry) → Has (made_of s old who) e
    → Has (made_of s new who) e
kept_made s old new who step reply ticket old_one h e has =
    let last : Entry = record { who = who; step = step; reply = reply } in
    let front : Has (made_of s h.front who) e = subst (λ (entries : List Entry). Has entries e) (sym (waited_made s old h.front who ticket h.waited)) has in
    subst (λ (w : World). Has (entries_by w.entries who) e) (sym (stepped_world s old new who step reply h)) (keeps (world_of s h.front).entries last who e old_one front)

-- ---- its own step is the last of them

own_first : (entries : List Entry) (x : Entry) → is_counted x.reply ≡ true → begins_anew x.who x.step ≡ false → entries_by (with_entry entries x) x.who ≡ x ∷ entries_by entries x.who
own_first entries x counted old = by (is_counted x.reply) counted
  where
    there : (mine anew : Bool) → mine ≡ true → anew ≡ false → (if mine then (if anew then [] else x ∷ entries_by entries x.who) else entries_by entries x.who) ≡ x ∷ entries_by entries x.who
    there true false mine anew = refl
    there other rest mine anew = absurd cc

    here : entries_by (x ∷ entries) x.who ≡ x ∷ entries_by entries x.who
    here = ⊎_elim
        (λ (same : ((x.who == x.who) ≡ true) × (x.who ≡ x.who)). there (x.who == x.who) (begins_anew x.who x.step) same.0 old)
        (λ (apart : ((x.who == x.who) ≡ false) × (x.who ≡ x.who → ⊥)). absurd (apart.1 refl))
        (eqb_tells x.who x.who)

    by : (b : Bool) → b ≡ true → entries_by (if b then x ∷ entries else entries) x.who ≡ x ∷ entries_by entries x.who
    by true yes_is = here
    by false yes_is = absurd cc

has_own : (entries : List Entry) (x : Entry) → is_counted x.reply ≡ true → begins_anew x.who x.step ≡ false → Has (entries_by (with_entry entries x) x.who) x
has_own entries x counted old = subst (λ (l : List Entry). Has l x) (sym (own_first entries x counted old)) (inl refl)

-- it is, unless who 0 begins anew by it, or it was refused since a record swap had failed
pub made_last : (s : Start) (old new : List Moment) (who : ℕ) (step : Step) (reply : Reply) → is_counted reply ≡ true → begins_anew who step ≡ false → Stepped s old new who step reply → MadeLast s new who step reply
made_last s old new who step reply counted old_one h =
    let last : Entry = record { who = who; step = step; reply = reply } in
    record {
      before = made_of s h.front who;
      is = ap (λ (w : World). entries_by w.entries who) (stepped_world s old new who step reply h) ∙ own_first (world_of s h.front).entries last counted old_one;
    }

-- its own step is among those that it has made
pub own_made : (s : Start) (old new : List Moment) (who : ℕ) (step : Step) (reply : Reply) → is_counted reply ≡ true → begins_anew who step ≡ false → Stepped s old new who step reply
    → Has (made_of s new who) (record { who = who; step = step; reply = reply })
own_made s old new who step reply counted old_one h =
    let last : Entry = record { who = who; step = step; reply = reply } in
    subst (λ (w : World). Has (entries_by w.entries who) last) (sym (stepped_world s old new who step reply h)) (has_own (world_of s h.front).entries last counted old_one)

-- ---- what a ticket made stands there

pub ticket_stays : (who : ℕ) (step : Step) → 1 ≤ who → begins_anew who step ≡ false
ticket_stays zero step some = absurd (omega (arith, some))
ticket_stays (suc k) step some = refl

made_counted : (reply : Reply) → WasMade reply → is_counted reply ≡ true
made_counted (Refused (DeposedAt place)) made = absurd (made place refl)
made_counted reply made = refl

stays_there : (f : Formats) (w : World) (log : List Moment) (who : ℕ) (e : Entry) → 1 ≤ who → Has (entries_by w.entries who) e → Has (entries_by (world_from f w log).entries who) e
stays_there f w [] who e some h = h
stays_there f w (m ∷ log) who e some h = stays_there f (after f w m) log who e some (keeps w.entries m.entry who e (ticket_stays who m.entry.step some) h)

pub made_there : (f : Formats) (w : World) (log : List Moment) (m : Moment) → 1 ≤ m.entry.who → WasMade m.entry.reply → Has log m → Has (entries_by (world_from f w log).entries m.entry.who) m.entry
made_there f w [] m some made h = absurd h
made_there f w (x ∷ log) m some made (inl same) =
    subst (λ (n : Moment). Has (entries_by (world_from f (after f w n) log).entries m.entry.who) m.entry) (sym same)
    (stays_there f (after f w m) log m.entry.who m.entry some (has_own w.entries m.entry (made_counted m.entry.reply made) (ticket_stays m.entry.who m.entry.step some)))
made_there f w (x ∷ log) m some made (inr h) = made_there f (after f w x) log m some made h

-- ---- what is fresh

-- to one that has made no step each is
pub none_fresh : (s : Start) (log : List Moment) (who : ℕ) (step : Step) → made_of s log who ≡ [] → IsFresh s log who step
none_fresh s log who step none e has same = absurd (subst (λ (entries : List Entry). Has entries e) none has)

-- it stays so after a step that it doesn't repeat
pub fresh_after : (s : Start) (old new : List Moment) (who : ℕ) (step other : Step) (reply : Reply) → 1 ≤ who → (Repeats other step → ⊥) → IsFresh s old who step → Stepped s old new who other reply → IsFresh s new who step
fresh_after s old new who step other reply ticket differ fresh h e has same = ⊎_elim
    (λ (before : Has (made_of s old who) e). fresh e before same)
    (λ (here : e.step ≡ other). differ (subst (λ (x : Step). Repeats x step) here same))
    (stepped_made s old new who other reply ticket h e has)

-- ---- steps that only read

-- since then it has only fetched such blobs
abbrev pub ReadsOnly : Start → List Moment → List Moment → ℕ → (BlobName → Type 0) → Type 0
ReadsOnly s old new who P = (e : Entry) → Has (made_of s new who) e → Has (made_of s old who) e ⊎ ((name : BlobName) × (e.step ≡ ReadStep (ReadBlob name)) × P name)

pub reads_none : (s : Start) (log : List Moment) (who : ℕ) (P : BlobName → Type 0) → ReadsOnly s log log who P
reads_none s log who P e has = inl has

pub reads_on : (s : Start) (old mid new : List Moment) (who : ℕ) (P : BlobName → Type 0) → ReadsOnly s old mid who P → ReadsOnly s mid new who P → ReadsOnly s old new who P
reads_on s old mid new who P first second e has = ⊎_elim (λ (before : Has (made_of s mid who) e). first e before) (λ here. inr here) (second e has)

pub reads_more : (s : Start) (old new : List Moment) (who : ℕ) (P Q : BlobName → Type 0) → ((name : BlobName) → P name → Q name) → ReadsOnly s old new who P → ReadsOnly s old new who Q
reads_more s old new who P Q wider reads e has =
    ⊎_elim (λ before. inl before) (λ (here : (name : BlobName) × (e.step ≡ ReadStep (ReadBlob name)) × P name). inr (here.0, here.1, wider here.0 here.2)) (reads e has)

pub read_once : (s : Start) (old new : List Moment) (who : ℕ) (name : BlobName) (reply : Reply) → 1 ≤ who → Stepped s old new who (ReadStep (ReadBlob name)) reply → ReadsOnly s old new who (λ n. n ≡ name)
read_once s old new who name reply ticket h e has = ⊎_elim
    (λ before. inl before)
    (λ (here : e.step ≡ ReadStep (ReadBlob name)). inr (name, here, refl))
    (stepped_made s old new who (ReadStep (ReadBlob name)) reply ticket h e has)

-- where only other blobs were fetched one that was new still is
pub still_unread : (s : Start) (old new : List Moment) (who : ℕ) (name : BlobName) (P : BlobName → Type 0) → IsFresh s old who (ReadStep (ReadBlob name)) → ReadsOnly s old new who P → (P name → ⊥)
    → IsFresh s new who (ReadStep (ReadBlob name))
still_unread s old new who name P fresh reads other e has same = ⊎_elim
    (λ (before : Has (made_of s old who) e). fresh e before same)
    (λ (here : (n : BlobName) × (e.step ≡ ReadStep (ReadBlob n)) × P n). other (subst P (subst (λ (x : Step). Repeats x (ReadStep (ReadBlob name))) here.1 same) here.2))
    (reads e has)
