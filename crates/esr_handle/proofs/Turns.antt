-- A turn: what others did meanwhile leaves what is a worker's own, and what the desk under the lock learns by a step the worker learns.
use Rattle.std.proofs.Common.{◌≡◌, ◌≢◌, ℕ, zero, suc, ◌+◌, ◌-◌, ◌<◌, ◌≤◌, ◌^◌, lt-ltb, le-ltb, cond, List, [], ◌∷◌, ◌++◌, length, drop, drop_at, Bool, true, false, not, Option, Some, None, Result, Ok, Err, IfOk, IfSome, refl, sym, ap, ◌∙◌, subst, inl, inr, ⊎_elim, length-append, append_assoc, append-nil, arith}
use Rattle.std.proofs.lemmas.List.{append_cancel_left}
use Rattle.std.specs.FinMap as fin
use Rattle.std.proofs.lemmas.Bool.{not-false}
use Rattle.esr_model.specs.Lists.{Has-right}
use Rattle.esr_model.specs.Values.{Has, Formats}
use Rattle.esr_model.specs.Image.{Image}
use Rattle.esr_turns.specs.Histories.{said, StartsWith, Grows, gained}
use Rattle.esr_turns.specs.Tickets.{Together, MayAdd}
use Rattle.esr_turns.specs.Passes.{LockId}
use Rattle.esr_core.specs.World.{World}
use Rattle.esr_core.specs.Entry.{Entry, Step, TakeStep, Reply, Given, Gave, NothingReady, Refusal, Refused, Moment}
use Rattle.esr_core.specs.After.{after}
use Rattle.esr_core.specs.Changes.{StepFrame}
use Rattle.esr_core.specs.History.{world_from}
use Rattle.esr_ops.specs.Units.{given_of}
use Rattle.esr_desk.specs.declared.hand.Hand.{Hand}
use Rattle.esr_desk.specs.declared.hand.Hand.TheVariants as hands
use Rattle.esr_desk.specs.declared.unit.Unit.{Unit as Taken}
use Rattle.esr_desk.specs.declared.refusal.EntryRefusal.TheVariants as refusals
use Rattle.esr_desk.specs.declared.refusal.StepRefusal.{StepRefusal}
use Rattle.esr_desk.specs.declared.refusal.StepRefusal.TheVariants as steps
use Rattle.esr_desk.specs.Refusals.{refusal_of, told_refusal}
use Rattle.esr_desk.specs.Start.{Start, formats_of, world_of, or_no_ticket, Legal}
use Rattle.esr_desk.specs.Own.{own_of, or_no_reader, as_client, caller_of}
use Rattle.esr_desk.specs.Numbered.{Numbered}
use Rattle.esr_desk.specs.Evidence.{NeverFailed}
use Rattle.esr_desk.specs.Calls.{Call, call_of, call_at, calls_at, with_call, HasTaken, IsMine, called, called_by}
use Rattle.esr_desk.specs.Outcome.{Waited, Stepped, Refusing, IsOfOp, Grounds, Outcome, take_reply}
use Rattle.esr_desk.specs.Made.{world_more}
use Rattle.esr_handle.specs.Owned.{ticket_of_moment, given_by, ticket_given, IsOwn, AreBelow, calls_in}
use Rattle.esr_handle.specs.Turned.{shared, Seen, IsFit, IsSeat, IsLent, Turned, was_told, Came, Homed}
use Rattle.esr_handle.proofs.Owned.{none_some, some_same, was_given, ticket_is, own_longer, none_own, own_ticket, taken_among, calls_longer, calls_more, below_longer, below_last}

-- what a step leaves, and which numbers tickets have
abbrev pub Frames : Type 0
Frames = (f : Formats) (w : World) (m : Moment) → StepFrame w (after f w m) m.entry.who m.entry.step

abbrev pub AreBelowNext : Type 0
AreBelowNext = (s : Start) (log : List Moment) (m : Moment) (ticket op : ℕ) (unit : Given) → Numbered 1 s.world → Legal s log → Has log m → m.entry.reply ≡ Gave ticket op unit → ticket < (world_of s log).next_ticket

abbrev pub AreNext : Type 0
AreNext = (s : Start) (log : List Moment) (m : Moment) (ticket op : ℕ) (unit : Given) → Legal s (log ++ m ∷ []) → m.entry.reply ≡ Gave ticket op unit → ticket ≡ (world_of s log).next_ticket

-- ---- others' steps leave an own ticket

pub record Left (w new : World) (who : ℕ) : Type 0 where
  pub tickets : fin.get new.tickets who ≡ fin.get w.tickets who
  pub readers : fin.get new.readers who ≡ fin.get w.readers who

left_by : Frames → (f : Formats) (others : List Moment) (w : World) (who : ℕ) → ((m : Moment) → Has others m → m.entry.who ≢ who) → who < w.next_ticket → Left w (world_from f w others) who
left_by frames f [] w who others less = record { tickets = refl; readers = refl }
left_by frames f (m ∷ more) w who others less =
    let frame = frames f w m in
    let apart : who ≢ m.entry.who = λ same. others m (inl refl) (sym same) in
    let new : who ≢ w.next_ticket = λ same. absurd (omega (arith, less, same)) in
    let next : w.next_ticket ≤ (after f w m).next_ticket = frame.next_ticket in
    let rest = left_by frames f more (after f w m) who (λ x has. others x (inr has)) (omega (arith, less, next)) in
    record { tickets = rest.tickets ∙ frame.others who apart new; readers = rest.readers ∙ frame.readers who apart new }

client_none : (s : Start) (old new : List Moment) (who : ℕ) → 1 ≤ who → as_client who (caller_of s new) ≡ as_client who (caller_of s old)
client_none s old new zero some = absurd (omega (arith, some))
client_none s old new (suc k) some = refl

own_left : (s : Start) (old others new : List Moment) (who : ℕ) → 1 ≤ who → new ≡ old ++ others → Left (world_of s old) (world_from (formats_of s) (world_of s old) others) who → own_of s new who ≡ own_of s old who
own_left s old others new who some is left =
    let world : world_of s new ≡ world_from (formats_of s) (world_of s old) others = ap (λ (log : List Moment). world_of s log) is ∙ world_more (formats_of s) s.world old others in
    let tickets : fin.get (world_of s new).tickets who ≡ fin.get (world_of s old).tickets who = ap (λ (w : World). fin.get w.tickets who) world ∙ left.tickets in
    let readers : fin.get (world_of s new).readers who ≡ fin.get (world_of s old).readers who = ap (λ (w : World). fin.get w.readers who) world ∙ left.readers in
    λ i. record { ticket = or_no_ticket (tickets i); reader = or_no_reader (readers i); caller = client_none s old new who some i }

-- ---- a turn

module _ (s : Start) (before : List Moment) (pass turn : Seen) (value : List Moment) (history : drop (length before) value ≡ turn.seen) (begins : StartsWith value before) (starts : StartsWith turn.seen pass.seen) (same : turn.mine ≡ pass.mine)
    (together : Together ticket_of_moment ticket_given turn.seen turn.mine) (fit : IsFit s before pass) (legal : Legal s value) (numbered : Numbered 1 s.world) (alone : s.alone ≡ true) (frames : Frames) (below_next : AreBelowNext) where
  abbrev others : List Moment
  others = starts.0

  is_whole : value ≡ before ++ turn.seen
  is_whole =
      let rest : turn.seen ≡ begins.0 = sym history ∙ ap (drop (length before)) begins.1 ∙ drop_at before begins.0 (length before) refl in
      begins.1 ∙ ap (λ (log : List Moment). before ++ log) (sym rest)

  is_more : value ≡ (before ++ pass.seen) ++ others
  is_more = is_whole ∙ ap (λ (log : List Moment). before ++ log) starts.1 ∙ sym (append_assoc before pass.seen others)

  with_others : Together ticket_of_moment ticket_given (pass.seen ++ others) pass.mine
  with_others = subst (λ (log : List Moment). Together ticket_of_moment ticket_given log pass.mine) starts.1 (subst (λ (mine : List ℕ). Together ticket_of_moment ticket_given turn.seen mine) same together)

  others_apart : (who : ℕ) → 1 ≤ who → IsOwn pass.seen pass.mine who → (m : Moment) → Has others m → m.entry.who ≢ who
  others_apart who some own = none_own pass.seen others pass.mine who some fit.below own with_others

  given_before : (i ticket : ℕ) → said ticket_given pass.seen i ≡ Some ticket → ticket < (world_of s (before ++ pass.seen)).next_ticket
  given_before i ticket is =
      let entry = was_given pass.seen i ticket is in
      below_next s (before ++ pass.seen) entry.0 ticket entry.2.0 entry.2.1 numbered fit.legal (Has-right before pass.seen entry.0 entry.1) entry.2.2

  has_waited : (who : ℕ) → (1 ≤ who → IsOwn pass.seen pass.mine who) → Waited (shared s) (before ++ pass.seen) value who
  has_waited who own = record {
    others = others;
    grew = is_more;
    alone = λ some. own_left (shared s) (before ++ pass.seen) others value who some is_more
        (left_by frames (formats_of s) others (world_of s (before ++ pass.seen)) who (others_apart who some (own some)) (given_before (own some).0 who (own some).1));
    besides = λ some m has by made. others_apart who some (own some) m has by;
    nobody = λ not. absurd cc;
    legal = legal;
  }

  own_now : (who : ℕ) → IsOwn pass.seen pass.mine who → IsOwn turn.seen turn.mine who
  own_now who own = subst (λ (mine : List ℕ). IsOwn turn.seen mine who) (sym same) (subst (λ (log : List Moment). IsOwn log pass.mine who) (sym starts.1) (own_longer pass.seen others pass.mine who own))

  taken_now : (who : ℕ) → HasTaken (calls_in (length before) pass.seen pass.mine) who → HasTaken (calls_at 0 value) who
  taken_now who taken = subst (λ (log : List Moment). HasTaken (calls_at 0 log) who) (sym (is_whole ∙ ap (λ (log : List Moment). before ++ log) starts.1)) (taken_among before pass.seen others pass.mine who taken)

  calls_now : calls_in (length before) turn.seen turn.mine ≡ calls_in (length before) pass.seen pass.mine
  calls_now =
      ap (λ (log : List Moment). calls_in (length before) log turn.mine) starts.1
      ∙ ap (λ (mine : List ℕ). calls_in (length before) (pass.seen ++ others) mine) same
      ∙ calls_longer (length before) pass.seen others pass.mine fit.below

  given_now : (i ticket : ℕ) → said ticket_given turn.seen i ≡ Some ticket → ticket < (world_of s value).next_ticket
  given_now i ticket is =
      let entry = was_given turn.seen i ticket is in
      below_next s value entry.0 ticket entry.2.0 entry.2.1 numbered legal (subst (λ (log : List Moment). Has log entry.0) (sym is_whole) (Has-right before turn.seen entry.0 entry.1)) entry.2.2

  pub is_turned : Turned s before pass turn value
  is_turned = record {
    whole = is_whole;
    mine = same;
    legal = legal;
    numbered = numbered;
    alone = alone;
    waited = has_waited;
    own = own_now;
    taken = taken_now;
    calls = calls_now;
    given = given_now;
  }

pub is_lent : (s : Start) (before : List Moment) (lock own : LockId) (total : ℕ) (pass turn : Seen) → IsSeat s before lock total own false pass → turn.lock ≡ own → StartsWith turn.seen pass.seen → turn.mine ≡ pass.mine
    → (turn.left + 1 ≡ pass.left) × (turn.used ≡ pass.used + 1) → IsLent s lock total own turn
is_lent s before lock own total pass turn seat own_is starts same turns =
    let longer : length turn.seen ≡ length pass.seen + length starts.0 = ap length starts.1 ∙ length-append pass.seen starts.0 in
    let all : pass.left + pass.used ≡ total = seat.turns in
    let used : pass.used ≤ length pass.seen = seat.used refl in
    let left : turn.left + 1 ≡ pass.left = turns.0 in
    let more : turn.used ≡ pass.used + 1 = turns.1 in
    record {
      own_is = own_is;
      lock_is = seat.lock_is;
      turns = omega (arith, all, left, more);
      much = seat.much;
      used = omega (arith, longer, used, more);
      below = subst (AreBelow (length turn.seen)) (sym same) (below_longer (length pass.seen) (length turn.seen) pass.mine (omega (arith, longer)) seat.fit.below);
    }

-- where none is taken
pub stays : (s : Start) (before seen : List Moment) (who : ℕ) → Legal s (before ++ seen) → Waited (shared s) (before ++ seen) (before ++ seen) who
stays s before seen who legal = record { others = []; grew = sym (append-nil (before ++ seen)); alone = λ some. refl; besides = λ some m none by made. none; nobody = λ not. refl; legal = legal }

pub spends : (s : Start) (before : List Moment) (lock own : LockId) (total : ℕ) (is_over : Bool) (pass : Seen) → IsSeat s before lock total own is_over pass → is_over ≡ false → pass.left ≡ 0
    → 2 ^ 33 ≤ s.earlier_turns + length (before ++ pass.seen)
spends s before lock own total is_over pass seat going none =
    let longer : length (before ++ pass.seen) ≡ length before + length pass.seen = length-append before pass.seen in
    let all : pass.left + pass.used ≡ total = seat.turns in
    let much : 2 ^ 33 ≤ s.earlier_turns + total = seat.much in
    let used : pass.used ≤ length pass.seen = seat.used going in
    omega (arith, longer, all, much, used, none)

-- ---- the end of a turn

not_longer : (log : List Moment) (m : Moment) → log ≡ log ++ m ∷ [] → ⊥
not_longer log m same = let a : length log ≡ length (log ++ m ∷ []) = ap length same in let b = length-append log (m ∷ []) in omega arith

first_same : (m e : Moment) → m ∷ [] ≡ e ∷ [] → m ≡ e
first_same m e same = cc

gained_none : (log : List Moment) → gained log log ≡ []
gained_none log = ap (λ (b : Bool). cond b (length log ∷ []) []) (le-ltb (length log) (length log) (omega arith))

gained_one : (log : List Moment) (m : Moment) → gained log (log ++ m ∷ []) ≡ length log ∷ []
gained_one log m =
    let longer = length-append log (m ∷ []) in
    ap (λ (b : Bool). cond b (length log ∷ []) []) (lt-ltb (length log) (length (log ++ m ∷ [])) (omega arith))

-- what came since, by what the whole history is
module _ (before : List Moment) (turn : Seen) (value : List Moment) where
  rest_same : value ≡ before ++ turn.seen → drop (length before) value ≡ turn.seen
  rest_same is = ap (drop (length before)) is ∙ drop_at before turn.seen (length before) refl

  rest_more : (m : Moment) → value ≡ (before ++ turn.seen) ++ m ∷ [] → drop (length before) value ≡ turn.seen ++ m ∷ []
  rest_more m is = ap (drop (length before)) (is ∙ append_assoc before turn.seen (m ∷ [])) ∙ drop_at before (turn.seen ++ m ∷ []) (length before) refl

  pub has_grown : (told : Bool) → Came before turn value told → Grows turn.seen (drop (length before) value)
  has_grown told came = ⊎_elim
      (λ (same : (value ≡ before ++ turn.seen) × (told ≡ false)). inl (rest_same same.0))
      (λ (more : (m : Moment) × (value ≡ (before ++ turn.seen) ++ m ∷ []) × MayAdd ticket_of_moment ticket_given turn.seen turn.mine m × (told ≡ true)). inr (more.0, rest_more more.0 more.1))
      came

  pub may_come : (told : Bool) → Came before turn value told → (e : Moment) → drop (length before) value ≡ turn.seen ++ e ∷ [] → MayAdd ticket_of_moment ticket_given turn.seen turn.mine e
  may_come told came e is = ⊎_elim
      (λ (same : (value ≡ before ++ turn.seen) × (told ≡ false)). absurd (not_longer turn.seen e (sym (rest_same same.0) ∙ is)))
      (λ (more : (m : Moment) × (value ≡ (before ++ turn.seen) ++ m ∷ []) × MayAdd ticket_of_moment ticket_given turn.seen turn.mine m × (told ≡ true)).
      subst (MayAdd ticket_of_moment ticket_given turn.seen turn.mine) (first_same more.0 e (append_cancel_left turn.seen (more.0 ∷ []) (e ∷ []) (sym (rest_more more.0 more.1) ∙ is))) more.2)
      came

  module _ (pass : Seen) (below : AreBelow (length turn.seen) turn.mine) (seen : pass.seen ≡ drop (length before) value) (mine : pass.mine ≡ turn.mine ++ gained turn.seen (drop (length before) value)) where
    mine_same : value ≡ before ++ turn.seen → pass.mine ≡ turn.mine
    mine_same is = mine ∙ ap (λ (log : List Moment). turn.mine ++ gained turn.seen log) (rest_same is) ∙ ap (λ (new : List ℕ). turn.mine ++ new) (gained_none turn.seen) ∙ append-nil turn.mine

    mine_more : (m : Moment) → value ≡ (before ++ turn.seen) ++ m ∷ [] → pass.mine ≡ turn.mine ++ length turn.seen ∷ []
    mine_more m is = mine ∙ ap (λ (log : List Moment). turn.mine ++ gained turn.seen log) (rest_more m is) ∙ ap (λ (new : List ℕ). turn.mine ++ new) (gained_one turn.seen m)

    home_whole : (told : Bool) → Came before turn value told → before ++ pass.seen ≡ value
    home_whole told came = ⊎_elim
        (λ (same : (value ≡ before ++ turn.seen) × (told ≡ false)). ap (λ (log : List Moment). before ++ log) (seen ∙ rest_same same.0) ∙ sym same.0)
        (λ (more : (m : Moment) × (value ≡ (before ++ turn.seen) ++ m ∷ []) × MayAdd ticket_of_moment ticket_given turn.seen turn.mine m × (told ≡ true)).
        ap (λ (log : List Moment). before ++ log) (seen ∙ rest_more more.0 more.1) ∙ sym (append_assoc before turn.seen (more.0 ∷ [])) ∙ sym more.1)
        came

    pub is_homed : (told : Bool) → Came before turn value told → Homed before turn value pass
    is_homed told came = record {
      whole = home_whole told came;
      same = λ is. ap (λ (log : List Moment). calls_in (length before) log pass.mine) (seen ∙ rest_same is) ∙ ap (calls_in (length before) turn.seen) (mine_same is);
      more = λ m is.
          ap (λ (log : List Moment). calls_in (length before) log pass.mine) (seen ∙ rest_more m is)
          ∙ ap (calls_in (length before) (turn.seen ++ m ∷ [])) (mine_more m is)
          ∙ calls_more (length before) turn.seen turn.mine m below
          ∙ ap (λ (n : ℕ). calls_in (length before) turn.seen turn.mine ++ call_at n m.entry) (sym (length-append before turn.seen));
    }

    home_below : (told : Bool) → Came before turn value told → AreBelow (length pass.seen) pass.mine
    home_below told came = ⊎_elim
        (λ (same : (value ≡ before ++ turn.seen) × (told ≡ false)).
        subst (λ (log : List Moment). AreBelow (length log) pass.mine) (sym (seen ∙ rest_same same.0)) (subst (AreBelow (length turn.seen)) (sym (mine_same same.0)) below))
        (λ (more : (m : Moment) × (value ≡ (before ++ turn.seen) ++ m ∷ []) × MayAdd ticket_of_moment ticket_given turn.seen turn.mine m × (told ≡ true)).
        subst (λ (log : List Moment). AreBelow (length log) pass.mine) (sym (seen ∙ rest_more more.0 more.1))
        (subst (AreBelow (length (turn.seen ++ more.0 ∷ []))) (sym (mine_more more.0 more.1))
        (subst (λ (n : ℕ). AreBelow n (turn.mine ++ length turn.seen ∷ [])) (sym (length-append turn.seen (more.0 ∷ []))) (below_last (length turn.seen) turn.mine below))))
        came

    home_used : (told : Bool) → Came before turn value told → told ≡ true → length pass.seen ≡ length turn.seen + 1
    home_used told came is = ⊎_elim
        (λ (same : (value ≡ before ++ turn.seen) × (told ≡ false)). absurd (let no_entry : told ≡ false = same.1 in cc))
        (λ (more : (m : Moment) × (value ≡ (before ++ turn.seen) ++ m ∷ []) × MayAdd ticket_of_moment ticket_given turn.seen turn.mine m × (told ≡ true)).
        ap length (seen ∙ rest_more more.0 more.1) ∙ length-append turn.seen (more.0 ∷ []))
        came

    pub is_seated : (s : Start) (lock own : LockId) (total : ℕ) (told : Bool) → IsLent s lock total own turn → Came before turn value told → pass.lock ≡ own → (pass.left ≡ turn.left) × (pass.used ≡ turn.used) → Legal s value
        → (s.quiet ≡ true → NeverFailed value)
        → IsSeat s before lock total own (not told) pass
    is_seated s lock own total told lent came own_is turns legal never = record {
      own_is = own_is;
      lock_is = lent.lock_is;
      turns = (let left : pass.left ≡ turn.left = turns.0 in let used : pass.used ≡ turn.used = turns.1 in let all : turn.left + turn.used ≡ total = lent.turns in omega (arith, left, used, all));
      much = lent.much;
      used = λ going.
          (let is : told ≡ true = not-false told going in let longer = home_used told came is in let most : turn.used ≤ length turn.seen + 1 = lent.used in let used : pass.used ≡ turn.used = turns.1 in omega (arith, longer, most, used));
      fit = record {
        below = home_below told came;
        legal = subst (Legal s) (sym (home_whole told came)) legal;
        never = λ quiet. subst (λ (log : List Moment). NeverFailed log) (sym (home_whole told came)) (never quiet);
      };
    }

-- ---- a step in a turn

same_log : (s : Start) (value new : List Moment) (who : ℕ) → s.alone ≡ true → Waited s value new who → new ≡ value
same_log s value new who alone w = w.grew ∙ ap (λ (others : List Moment). value ++ others) (w.nobody alone) ∙ append-nil value

-- the entry that a step adds
pub record Entered (value new : List Moment) (who : ℕ) (step : Step) (reply : Reply) : Type 0 where
  pub image : Option Image
  pub is : new ≡ value ++ record { entry = record { who = who; step = step; reply = reply }; image = image } ∷ []

entered : (s : Start) (value new : List Moment) (who : ℕ) (step : Step) (reply : Reply) → s.alone ≡ true → Stepped s value new who step reply → Entered value new who step reply
entered s value new who step reply alone h =
    record { image = h.image; is = h.is ∙ ap (λ (log : List Moment). log ++ record { entry = record { who = who; step = step; reply = reply }; image = h.image } ∷ []) (same_log s value h.front who alone h.waited) }

grounds_shared : (s : Start) (log new : List Moment) (who : ℕ) (e : StepRefusal) → log ≡ new → Grounds s log who e → Grounds (shared s) new who e
grounds_shared s log new who steps.TurnsSpent same h = subst (λ (l : List Moment). 2 ^ 33 ≤ s.earlier_turns + length l) same h
grounds_shared s log new who (steps.Refused refusals.DepotFault) same h = h
grounds_shared s log new who (steps.Refused (refusals.Aborted by)) same h =
    let of : IsOfOp s new who = subst (λ (l : List Moment). IsOfOp s l who) same h in
    record { ticket = of.ticket; out = of.out; unsettled = of.unsettled; no_drop = of.no_drop; no_delete = of.no_delete; no_reader = of.no_reader }
grounds_shared s log new who e same h = tt

module _ (s : Start) (before : List Moment) (pass turn : Seen) (value : List Moment) (t : Turned s before pass turn value) where
  -- who 0 is no ticket
  pub no_ticket : 1 ≤ 0 → IsOwn pass.seen pass.mine 0
  no_ticket some = absurd (omega (arith, some))

  -- a check and a verification are of who 0
  pub own_hand : (hand : Hand) (who : ℕ) → IsMine hand (calls_in (length before) pass.seen pass.mine) who → 1 ≤ who → IsOwn pass.seen pass.mine who
  own_hand hands.Check who mine some = absurd (omega (arith, mine, some))
  own_hand hands.Verify who mine some = absurd (omega (arith, mine, some))
  own_hand hand who mine some = own_ticket (length before) pass.seen pass.mine who mine

  -- ---- what comes

  came_by : (new : List Moment) (who : ℕ) (step : Step) (reply : Reply) (told : Bool) → told ≡ true → (1 ≤ who → IsOwn pass.seen pass.mine who)
      → ((ticket i : ℕ) → given_by reply ≡ Some ticket → said ticket_given turn.seen i ≢ Some ticket) → Stepped s value new who step reply → Came before turn new told
  came_by new who step reply told is own fresh h =
      let entry = entered s value new who step reply t.alone h in
      let m : Moment = record { entry = record { who = who; step = step; reply = reply }; image = entry.image } in
      inr (
        m,
        entry.is ∙ ap (λ (log : List Moment). log ++ m ∷ []) t.whole,
        (
          (λ ticket same. let of = ticket_is who ticket same in subst (IsOwn turn.seen turn.mine) of.1 (t.own who (own of.0))),
          λ ticket gives i was. fresh ticket i gives was,
        ),
        is,
      )

  gives_none : (reply : Reply) → given_by reply ≡ None → (ticket i : ℕ) → given_by reply ≡ Some ticket → said ticket_given turn.seen i ≢ Some ticket
  gives_none reply none ticket i gives is = absurd (none_some ticket (sym none ∙ gives))

  came_not : (new : List Moment) (who : ℕ) (told : Bool) → told ≡ false → Waited s value new who → Came before turn new told
  came_not new who told untold w = inl (same_log s value new who t.alone w ∙ t.whole, untold)

  pub came : {X : Type 0} (new : List Moment) (who : ℕ) (step : Step) (ok : X → Reply) (result : Result X StepRefusal) (told : Bool) → (1 ≤ who → IsOwn pass.seen pass.mine who) → ((x : X) → given_by (ok x) ≡ None)
      → told ≡ was_told result → Outcome s value new who step ok result
      → Came before turn new told
  came new who step ok (Ok x) told own none is h = came_by new who step (ok x) told is own (gives_none (ok x) (none x)) h
  came new who step ok (Err (steps.Refused refusal)) told own none is h = came_by new who step (Refused (refusal_of refusal)) told is own (gives_none (Refused (refusal_of refusal)) refl) h.0
  came new who step ok result told own none is h = came_not new who told is h.0

  -- a new ticket is none that was given
  next_fresh : AreNext → (new : List Moment) (ticket op : ℕ) (unit : Given) → Stepped s value new 0 TakeStep (Gave ticket op unit) → (k i : ℕ) → given_by (Gave ticket op unit) ≡ Some k → said ticket_given turn.seen i ≢ Some k
  next_fresh next new ticket op unit h k i gives is =
      let entry = entered s value new 0 TakeStep (Gave ticket op unit) t.alone h in
      let m : Moment = record { entry = record { who = 0; step = TakeStep; reply = Gave ticket op unit }; image = entry.image } in
      let number : ticket ≡ (world_of s value).next_ticket = next s value m ticket op unit (subst (Legal s) entry.is h.legal) refl in
      let same : ticket ≡ k = some_same ticket k gives in
      let less : k < (world_of s value).next_ticket = t.given i k is in
      omega (arith, number, same, less)

  pub came_take : AreNext → (new : List Moment) (result : Result (Option Taken) StepRefusal) (told : Bool) → told ≡ was_told result → Outcome s value new 0 TakeStep take_reply result → Came before turn new told
  came_take next new (Ok None) told is h = came_by new 0 TakeStep NothingReady told is no_ticket (gives_none NothingReady refl) h
  came_take next new (Ok (Some u)) told is h = came_by new 0 TakeStep (Gave u.ready.ticket u.ready.op (given_of u.ready)) told is no_ticket (next_fresh next new u.ready.ticket u.ready.op (given_of u.ready) h) h
  came_take next new (Err (steps.Refused refusal)) told is h = came_by new 0 TakeStep (Refused (refusal_of refusal)) told is no_ticket (gives_none (Refused (refusal_of refusal)) refl) h.0
  came_take next new result told is h = came_not new 0 told is h.0

  -- ---- what the worker learns

  module _ (new : List Moment) (home : Seen) (who : ℕ) (own : 1 ≤ who → IsOwn pass.seen pass.mine who) (whole : before ++ home.seen ≡ new) where
    stepped : (step : Step) (reply : Reply) → Stepped s value new who step reply → Stepped (shared s) (before ++ pass.seen) (before ++ home.seen) who step reply
    stepped step reply h =
        let entry = entered s value new who step reply t.alone h in
        record {
          front = value;
          waited = t.waited who own;
          image = entry.image;
          is = whole ∙ entry.is;
          legal = subst (Legal s) (sym whole) h.legal;
        }

    refusing : (step : Step) (refusal : Option Refusal) → Refusing s value new who step refusal → Refusing (shared s) (before ++ pass.seen) (before ++ home.seen) who step refusal
    refusing step None h = subst (λ (log : List Moment). Waited (shared s) (before ++ pass.seen) log who) (sym (whole ∙ same_log s value new who t.alone h)) (t.waited who own)
    refusing step (Some refusal) h = stepped step (Refused refusal) h

    outcome_by : {X : Type 0} (step : Step) (ok : X → Reply) (result : Result X StepRefusal) → Outcome s value new who step ok result → Outcome (shared s) (before ++ pass.seen) (before ++ home.seen) who step ok result
    outcome_by step ok (Ok x) h = stepped step (ok x) h
    outcome_by step ok (Err e) h = (refusing step (told_refusal e) h.0, grounds_shared s new (before ++ home.seen) who e (sym whole) h.1)

  pub outcome : {X : Type 0} (new : List Moment) (home : Seen) (who : ℕ) (step : Step) (ok : X → Reply) (result : Result X StepRefusal) → (1 ≤ who → IsOwn pass.seen pass.mine who) → before ++ home.seen ≡ new
      → Outcome s value new who step ok result
      → Outcome (shared s) (before ++ pass.seen) (before ++ home.seen) who step ok result
  outcome new home who step ok result own whole h = outcome_by new home who own whole step ok result h

  -- ---- its calls

  module _ (new : List Moment) (home : Seen) (homed : Homed before turn new home) where
    calls_stay : (who : ℕ) → Waited s value new who → calls_in (length before) home.seen home.mine ≡ calls_in (length before) pass.seen pass.mine
    calls_stay who w = homed.same (same_log s value new who t.alone w ∙ t.whole) ∙ t.calls

    calls_come : (who : ℕ) (step : Step) (reply : Reply) → Stepped s value new who step reply
        → calls_in (length before) home.seen home.mine ≡ calls_in (length before) pass.seen pass.mine ++ call_at (length (before ++ turn.seen)) (record { who = who; step = step; reply = reply })
    calls_come who step reply h =
        let entry = entered s value new who step reply t.alone h in
        let m : Moment = record { entry = record { who = who; step = step; reply = reply }; image = entry.image } in
        homed.more m (entry.is ∙ ap (λ (log : List Moment). log ++ m ∷ []) t.whole) ∙ ap (λ (calls : List Call). calls ++ call_at (length (before ++ turn.seen)) m.entry) t.calls

    -- a ticket's step is none of them
    call_none : (place : ℕ) (e : Entry) (who : ℕ) (calls : List Call) → 1 ≤ who → calls ++ call_of place e who ≡ calls
    call_none place e zero calls some = absurd (omega (arith, some))
    call_none place e (suc k) calls some = append-nil calls

    calls_step : (who : ℕ) (step : Step) (reply : Reply) → 1 ≤ who → Stepped s value new who step reply → calls_in (length before) home.seen home.mine ≡ calls_in (length before) pass.seen pass.mine
    calls_step who step reply some h =
        calls_come who step reply h
        ∙ call_none (length (before ++ turn.seen)) (record { who = who; step = step; reply = reply }) who (calls_in (length before) pass.seen pass.mine) some

    calls_ticket_by : {X : Type 0} (who : ℕ) (step : Step) (ok : X → Reply) (result : Result X StepRefusal) → 1 ≤ who → Outcome s value new who step ok result
        → calls_in (length before) home.seen home.mine ≡ calls_in (length before) pass.seen pass.mine
    calls_ticket_by who step ok (Ok x) some h = calls_step who step (ok x) some h
    calls_ticket_by who step ok (Err (steps.Refused refusal)) some h = calls_step who step (Refused (refusal_of refusal)) some h.0
    calls_ticket_by who step ok result some h = calls_stay who h.0

    last_place : (step : Step) (reply : Reply) → Stepped s value new 0 step reply → length (before ++ turn.seen) ≡ length (before ++ home.seen) - 1
    last_place step reply h =
        let entry = entered s value new 0 step reply t.alone h in
        let m : Moment = record { entry = record { who = 0; step = step; reply = reply }; image = entry.image } in
        let long : length (before ++ home.seen) ≡ length (before ++ turn.seen) + 1 = ap length (homed.whole ∙ entry.is ∙ ap (λ (log : List Moment). log ++ m ∷ []) t.whole) ∙ length-append (before ++ turn.seen) (m ∷ []) in
        omega (arith, long)

    calls_one : (step : Step) (reply : Reply) → Stepped s value new 0 step reply → calls_in (length before) home.seen home.mine ≡ with_call (before ++ home.seen) step reply (calls_in (length before) pass.seen pass.mine)
    calls_one step reply h =
        calls_come 0 step reply h
        ∙ ap (λ (n : ℕ). calls_in (length before) pass.seen pass.mine ++ record { place = n; entry = record { who = 0; step = step; reply = reply } } ∷ []) (last_place step reply h)

    calls_client_by : {X : Type 0} (step : Step) (ok : X → Reply) (result : Result X StepRefusal) → Outcome s value new 0 step ok result
        → calls_in (length before) home.seen home.mine ≡ called (before ++ home.seen) step ok result (calls_in (length before) pass.seen pass.mine)
    calls_client_by step ok (Ok x) h = calls_one step (ok x) h
    calls_client_by step ok (Err (steps.Refused refusal)) h = calls_one step (Refused (refusal_of refusal)) h.0
    calls_client_by step ok result h = calls_stay 0 h.0

    of_client : {X : Type 0} (who : ℕ) (step : Step) (ok : X → Reply) (result : Result X StepRefusal) → who ≡ 0 → Outcome s value new who step ok result
        → calls_in (length before) home.seen home.mine ≡ called (before ++ home.seen) step ok result (calls_in (length before) pass.seen pass.mine)
    of_client who step ok result is h = calls_client_by step ok result (subst (λ (k : ℕ). Outcome s value new k step ok result) is h)

    calls_hand_by : {X : Type 0} (hand : Hand) (who : ℕ) (step : Step) (ok : X → Reply) (result : Result X StepRefusal) → IsMine hand (calls_in (length before) pass.seen pass.mine) who → Outcome s value new who step ok result
        → calls_in (length before) home.seen home.mine ≡ called_by hand (before ++ home.seen) step ok result (calls_in (length before) pass.seen pass.mine)
    calls_hand_by hands.Check who step ok result mine h = of_client who step ok result mine h
    calls_hand_by hands.Verify who step ok result mine h = of_client who step ok result mine h
    calls_hand_by hand who step ok result mine h = calls_ticket_by who step ok result mine.some h

  pub calls_ticket : {X : Type 0} (new : List Moment) (home : Seen) (who : ℕ) (step : Step) (ok : X → Reply) (result : Result X StepRefusal) → 1 ≤ who → Homed before turn new home → Outcome s value new who step ok result
      → calls_in (length before) home.seen home.mine ≡ calls_in (length before) pass.seen pass.mine
  calls_ticket new home who step ok result some homed h = calls_ticket_by new home homed who step ok result some h

  pub calls_client : {X : Type 0} (new : List Moment) (home : Seen) (step : Step) (ok : X → Reply) (result : Result X StepRefusal) → Homed before turn new home → Outcome s value new 0 step ok result
      → calls_in (length before) home.seen home.mine ≡ called (before ++ home.seen) step ok result (calls_in (length before) pass.seen pass.mine)
  calls_client new home step ok result homed h = calls_client_by new home homed step ok result h

  pub calls_hand : {X : Type 0} (hand : Hand) (new : List Moment) (home : Seen) (who : ℕ) (step : Step) (ok : X → Reply) (result : Result X StepRefusal) → IsMine hand (calls_in (length before) pass.seen pass.mine) who
      → Homed before turn new home → Outcome s value new who step ok result
      → calls_in (length before) home.seen home.mine ≡ called_by hand (before ++ home.seen) step ok result (calls_in (length before) pass.seen pass.mine)
  calls_hand hand new home who step ok result mine homed h = calls_hand_by new home homed hand who step ok result mine h

-- ---- a ticket that was taken

taken_last : (place ticket op : ℕ) (unit : Given) (calls new : List Call) → 1 ≤ ticket → new ≡ calls ++ record { place = place; entry = record { who = 0; step = TakeStep; reply = Gave ticket op unit } } ∷ [] → HasTaken new ticket
taken_last place ticket op unit calls new some is =
    let call : Call = record { place = place; entry = record { who = 0; step = TakeStep; reply = Gave ticket op unit } } in
    record { place = place; op = op; unit = unit; some = some; taken = subst (λ (l : List Call). Has l call) (sym is) (Has-right calls (call ∷ []) call (inl refl)) }

pub taken_home : (log : List Moment) (calls new all : List Call) (result : Result (Option Taken) StepRefusal) → new ≡ called log TakeStep take_reply result calls → IfOk result (λ o. IfSome o (λ u. HasTaken all u.ready.ticket))
    → IfOk result (λ o. IfSome o (λ u. HasTaken new u.ready.ticket))
taken_home log calls new all (Ok (Some u)) is taken = taken_last (length log - 1) u.ready.ticket u.ready.op (given_of u.ready) calls new taken.some is
taken_home log calls new all result is taken = tt
