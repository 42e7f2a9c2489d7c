-- Tickets come by takes alone, and one that has ended doesn't come back.
use Rattle.std.proofs.Common.{◌≡◌, ◌⊎◌, ℕ, ◌<◌, ◌≤◌, Bool, true, false, true≢false, cond, nat_cmp, List, [], ◌∷◌, ◌++◌, Option, Some, refl, sym, ap, ◌∙◌, subst, inl, inr, ⊎_elim, arith}
use Rattle.std.specs.Ordering.{eq_by_cmp}
use Rattle.std.specs.Cmp.{nat_cmp_total}
use Rattle.std.specs.FinMap.{FinMap, nat_cmp-IsAntisymmetric}
use Rattle.std.specs.FinMap as fin
use Rattle.std.proofs.lemmas.Bool.{false_from_ne_true}
use Rattle.esr_core.specs.Laws.NumberMaps.{tied}
use Rattle.esr_model.specs.Values.{Formats}
use Rattle.esr_model.specs.Image.{Image}
use Rattle.esr_core.specs.World.{World, Reader, Ticket}
use Rattle.esr_core.specs.Restores.{reader_of as restore_reader, read_more}
use Rattle.esr_core.specs.Entry.{Given, Step, TakeStep, Reply, Gave, Refused, DepotFault, Entry, Moment}
use Rattle.esr_core.specs.After.{answered, after}
use Rattle.esr_core.specs.Allowed.{Allowed}
use Rattle.esr_core.specs.Changes.{StepChange, NewTicket, NewReader, OwnTicket, Settlement, UnitEnd, DeletionFailure, OpDrop, ReaderFetch, ReaderEnd, SwapFault}
use Rattle.esr_core.specs.History.{world_from, IsLegal}
use Rattle.esr_core.specs.Laws.Histories.{world_parts}
use Rattle.esr_desk.specs.Start.{Start, Legal, formats_of, world_of, or_no_ticket, ticket_of}
use Rattle.esr_desk.specs.Own.{or_no_reader, reader_of}
use Rattle.esr_quiet.specs.PrefixLaws.{legal_rest}
use Rattle.esr_drive.specs.Laws.{Laws}
use Rattle.esr_drive.specs.Over.{IsOver}
use Rattle.esr_drive.specs.Ended.{WasGiven}

-- ---- maps

-- after an insertion there is under a key what was put there, or what was there
put_or_was : {X : Type 0} (m : FinMap nat_cmp X) (k : ℕ) (v : X) (q : ℕ) → ((q ≡ k) × (fin.get (fin.insert m k v) q ≡ Some v)) ⊎ (fin.get (fin.insert m k v) q ≡ fin.get m q)
put_or_was m k v q = go (eq_by_cmp nat_cmp q k) refl
  where
    go : (b : Bool) → eq_by_cmp nat_cmp q k ≡ b → ((q ≡ k) × (fin.get (fin.insert m k v) q ≡ Some v)) ⊎ (fin.get (fin.insert m k v) q ≡ fin.get m q)
    go true same = inl (nat_cmp-IsAntisymmetric q k (tied (nat_cmp q k) same), fin.get-insert nat_cmp_total m k v q ∙ ap (λ c. cond c (Some v) (fin.get m q)) same)
    go false apart = inr (fin.get-insert nat_cmp_total m k v q ∙ ap (λ c. cond c (Some v) (fin.get m q)) apart)

-- ---- a step

abbrev ticket_out : World → ℕ → Bool
ticket_out w k = (or_no_ticket (fin.get w.tickets k)).out

abbrev reader_out : World → ℕ → Bool
reader_out w k = (or_no_reader (fin.get w.readers k)).out

-- a take gives it under the next number
abbrev Comes : World → Step → ℕ → Type 0
Comes w step k = (k ≡ w.next_ticket) × (step ≡ TakeStep)

none_back : {A : Type 0} → false ≡ true → A
none_back e = absurd (true≢false (sym e))

ticket_goes : (w : World) (who k : ℕ) (t v : Ticket) → fin.get w.tickets who ≡ Some t → (v.out ≡ true → t.out ≡ true) → (or_no_ticket (fin.get (fin.insert w.tickets who v) k)).out ≡ true → ticket_out w k ≡ true
ticket_goes w who k t v there back out =
    ⊎_elim
    (λ (here : (k ≡ who) × (fin.get (fin.insert w.tickets who v) k ≡ Some v)).
    ap (λ (o : Option Ticket). (or_no_ticket o).out) (ap (λ (j : ℕ). fin.get w.tickets j) here.0 ∙ there) ∙ back (ap (λ (o : Option Ticket). (or_no_ticket o).out) (sym here.1) ∙ out))
    (λ (was : fin.get (fin.insert w.tickets who v) k ≡ fin.get w.tickets k). ap (λ (o : Option Ticket). (or_no_ticket o).out) (sym was) ∙ out)
    (put_or_was w.tickets who v k)

reader_goes : (w : World) (who k : ℕ) (q v : Reader) → fin.get w.readers who ≡ Some q → (v.out ≡ true → q.out ≡ true) → (or_no_reader (fin.get (fin.insert w.readers who v) k)).out ≡ true → reader_out w k ≡ true
reader_goes w who k q v there back out =
    ⊎_elim
    (λ (here : (k ≡ who) × (fin.get (fin.insert w.readers who v) k ≡ Some v)).
    ap (λ (o : Option Reader). (or_no_reader o).out) (ap (λ (j : ℕ). fin.get w.readers j) here.0 ∙ there) ∙ back (ap (λ (o : Option Reader). (or_no_reader o).out) (sym here.1) ∙ out))
    (λ (was : fin.get (fin.insert w.readers who v) k ≡ fin.get w.readers k). ap (λ (o : Option Reader). (or_no_reader o).out) (sym was) ∙ out)
    (put_or_was w.readers who v k)

-- a ticket that is out was out before, or comes by the step
ticket_came : (f : Formats) (w : World) (who : ℕ) (step : Step) (new : World) (k : ℕ) → StepChange f w who step new → ticket_out new k ≡ true → (ticket_out w k ≡ true) ⊎ Comes w step k
ticket_came f w who step _ k (NewTicket is t new now same) out =
    ⊎_elim
    (λ (here : (k ≡ w.next_ticket) × (fin.get (fin.insert w.tickets w.next_ticket t) k ≡ Some t)). inr (here.0, is))
    (λ (was : fin.get (fin.insert w.tickets w.next_ticket t) k ≡ fin.get w.tickets k). inl (ap (λ (o : Option Ticket). (or_no_ticket o).out) (sym was) ∙ out))
    (put_or_was w.tickets w.next_ticket t k)
ticket_came f w who step _ k (OwnTicket t v there same settled next_id pending up more) out = inl (ticket_goes w who k t v there same.out out)
ticket_came f w who step _ k (Settlement settles t s n names deletes there is raised left) out = inl (ticket_goes w who k t (record t { settled = true }) there (λ back. back) out)
ticket_came f w who step _ k (UnitEnd t op v completed there op_there same) out = inl (ticket_goes w who k t (record t { out = false }) there none_back out)
ticket_came f w who step _ k (DeletionFailure t x there x_there) out = inl (ticket_goes w who k t (record t { out = false }) there none_back out)
ticket_came f w who step _ k (OpDrop is t there) out = inl (ticket_goes w who k t (record t { out = false }) there none_back out)
ticket_came f w who step _ k (SwapFault swaps up change) out = ticket_came f w who step up k change out
ticket_came f w who step _ k other out = inl out

-- ... and so one of a restore
reader_came : (f : Formats) (w : World) (who : ℕ) (step : Step) (new : World) (k : ℕ) → StepChange f w who step new → reader_out new k ≡ true → (reader_out w k ≡ true) ⊎ Comes w step k
reader_came f w who step _ k (NewReader is o r s there) out =
    ⊎_elim
    (λ (here : (k ≡ w.next_ticket) × (fin.get (fin.insert w.readers w.next_ticket (restore_reader o r s)) k ≡ Some (restore_reader o r s))). inr (here.0, is))
    (λ (was : fin.get (fin.insert w.readers w.next_ticket (restore_reader o r s)) k ≡ fin.get w.readers k). inl (ap (λ (x : Option Reader). (or_no_reader x).out) (sym was) ∙ out))
    (put_or_was w.readers w.next_ticket (restore_reader o r s) k)
reader_came f w who step _ k (ReaderFetch q name bytes there) out = inl (reader_goes w who k q (read_more q name bytes) there (λ back. back) out)
reader_came f w who step _ k (ReaderEnd q r state there r_there) out = inl (reader_goes w who k q (record q { out = false }) there none_back out)
reader_came f w who step _ k (SwapFault swaps up change) out = reader_came f w who step up k change out
reader_came f w who step _ k other out = inl out

-- ---- what a take is answered

-- it gives a unit, or changes nothing
take_gives : (f : Formats) (w : World) (who : ℕ) (reply : Reply) (image : Option Image) → ((j : ℕ) × (o : ℕ) × (unit : Given) × (reply ≡ Gave j o unit)) ⊎ (answered f w who TakeStep reply image ≡ w)
take_gives f w who (Gave j o unit) image = inl (j, o, unit, refl)
take_gives f w who (Refused DepotFault) image = inr refl
take_gives f w who reply image = inr refl

-- the step gives the ticket
abbrev Gives : Moment → ℕ → Type 0
Gives m k = (op : ℕ) × (unit : Given) × (m.entry ≡ record { who = 0; step = TakeStep; reply = Gave k op unit })

entry_is : (e : Entry) (who : ℕ) (step : Step) (reply : Reply) → e.who ≡ who → e.step ≡ step → e.reply ≡ reply → e ≡ record { who = who; step = step; reply = reply }
entry_is e who step reply who_is step_is reply_is = λ i. record { who = who_is i; step = step_is i; reply = reply_is i }

given_here : (m : Moment) (more : List Moment) (k : ℕ) → Gives m k → WasGiven (m ∷ more) k
given_here m more k g = record { moment = m; there = inl refl; op = g.0; unit = g.1; entry = g.2 }

given_later : (m : Moment) (more : List Moment) (k : ℕ) → WasGiven more k → WasGiven (m ∷ more) k
given_later m more k g = record { moment = g.moment; there = inr g.there; op = g.op; unit = g.unit; entry = g.entry }

gives_by : Laws → (f : Formats) (size : ℕ) (w : World) (m : Moment) (k j o : ℕ) (unit : Given) → Allowed f size w m → k ≡ w.next_ticket → m.entry.reply ≡ Gave j o unit → Gives m k
gives_by laws f size w m k j o unit a number is =
    let gave = laws.gave f size w m j o unit a is in
    (o, unit, entry_is m.entry 0 TakeStep (Gave k o unit) gave.who_is gave.step_is (is ∙ ap (λ (n : ℕ). Gave n o unit) (gave.number ∙ sym number)))

-- ---- over a history: of tickets, and of those of restores

later : Laws → (f : Formats) (w : World) (m : Moment) (k : ℕ) → k < w.next_ticket → k < (after f w m).next_ticket
later laws f w m k low =
    let less : k < w.next_ticket = low in
    let up : w.next_ticket ≤ (after f w m).next_ticket = (laws.frame f w m).next_ticket in
    omega (arith, less, up)

pub next_later : Laws → (f : Formats) (more : List Moment) (w : World) (k : ℕ) → k < w.next_ticket → k < (world_from f w more).next_ticket
next_later laws f [] w k low = low
next_later laws f (m ∷ more) w k low = next_later laws f more (after f w m) k (later laws f w m k low)

module _ (laws : Laws) (f : Formats) (out : World → ℕ → Bool)
    (kept : (w : World) (m : Moment) (k : ℕ) → out (after f w m) k ≡ out (answered f w m.entry.who m.entry.step m.entry.reply m.image) k)
    (came : (w : World) (who : ℕ) (step : Step) (new : World) (k : ℕ) → StepChange f w who step new → out new k ≡ true → (out w k ≡ true) ⊎ Comes w step k) where
  came_after : (w : World) (m : Moment) (k : ℕ) → out (after f w m) k ≡ true → (out w k ≡ true) ⊎ Comes w m.entry.step k
  came_after w m k is =
      came w m.entry.who m.entry.step (answered f w m.entry.who m.entry.step m.entry.reply m.image) k (laws.change f w m.entry.who m.entry.step m.entry.reply m.image) (sym (kept w m k) ∙ is)

  -- under a number that was given none comes
  stays : (more : List Moment) (w : World) (k : ℕ) → k < w.next_ticket → out w k ≡ false → out (world_from f w more) k ≡ false
  stays [] w k low none = none
  stays (m ∷ more) w k low none =
      stays more (after f w m) k (later laws f w m k low)
      (false_from_ne_true (out (after f w m) k) (λ is.
      ⊎_elim
      (λ (was : out w k ≡ true). true≢false (sym was ∙ none))
      (λ (new : Comes w m.entry.step k). let less : k < w.next_ticket = low in let number : k ≡ w.next_ticket = new.0 in omega (arith, less, number))
      (came_after w m k is)))

  module _ (size : ℕ) where
    one_comes : (w : World) (m : Moment) (k : ℕ) → Allowed f size w m → out (after f w m) k ≡ true → (out w k ≡ true) ⊎ Gives m k
    one_comes w m k a is =
        ⊎_elim
        (λ (was : out w k ≡ true). inl was)
        (λ (new : Comes w m.entry.step k).
        ⊎_elim
        (λ (gift : (j : ℕ) × (o : ℕ) × (unit : Given) × (m.entry.reply ≡ Gave j o unit)). inr (gives_by laws f size w m k gift.0 gift.1 gift.2 a new.0 gift.3))
        (λ (same : answered f w m.entry.who TakeStep m.entry.reply m.image ≡ w).
        inl (ap (λ (x : World). out x k) (sym (ap (λ (step : Step). answered f w m.entry.who step m.entry.reply m.image) new.1 ∙ same)) ∙ sym (kept w m k) ∙ is))
        (take_gives f w m.entry.who m.entry.reply m.image))
        (came_after w m k is)

    comes : (more : List Moment) (w : World) (k : ℕ) → IsLegal f size w more → out (world_from f w more) k ≡ true → (out w k ≡ true) ⊎ WasGiven more k
    comes [] w k legal is = inl is
    comes (m ∷ more) w k legal is =
        ⊎_elim
        (λ (was : out (after f w m) k ≡ true). ⊎_elim (λ (before : out w k ≡ true). inl before) (λ (here : Gives m k). inr (given_here m more k here)) (one_comes w m k legal.0 was))
        (λ (new : WasGiven more k). inr (given_later m more k new))
        (comes more (after f w m) k legal.1 is)

-- ---- what the work reads

module _ (laws : Laws) (s : Start) (old more new : List Moment) (is : new ≡ old ++ more) (k : ℕ) where
  both : world_of s new ≡ world_from (formats_of s) (world_of s old) more
  both = ap (world_of s) is ∙ world_parts (formats_of s) old more s.world

  pub next_on : k < (world_of s old).next_ticket → k < (world_of s new).next_ticket
  next_on low = subst (λ (w : World). k < w.next_ticket) (sym both) (next_later laws (formats_of s) more (world_of s old) k low)

  pub ticket_on : k < (world_of s old).next_ticket → (ticket_of s old k).out ≡ false → (ticket_of s new k).out ≡ false
  ticket_on low none =
      ap (λ (w : World). ticket_out w k) both ∙ stays laws (formats_of s) ticket_out (λ w m j. refl) (ticket_came (formats_of s)) more (world_of s old) k low none

  pub reader_on : k < (world_of s old).next_ticket → (reader_of s old k).out ≡ false → (reader_of s new k).out ≡ false
  reader_on low none =
      ap (λ (w : World). reader_out w k) both ∙ stays laws (formats_of s) reader_out (λ w m j. refl) (reader_came (formats_of s)) more (world_of s old) k low none

  pub over_on : IsOver s old k → IsOver s new k
  over_on h = record { given = next_on h.given; ticket = ticket_on h.given h.ticket; reader = reader_on h.given h.reader }

  legal_on : Legal s new → IsLegal (formats_of s) s.part_size (world_of s old) more
  legal_on legal = legal_rest (formats_of s) s.part_size old more s.world (subst (Legal s) is legal)

  pub ticket_from : Legal s new → (ticket_of s new k).out ≡ true → ((ticket_of s old k).out ≡ true) ⊎ WasGiven more k
  ticket_from legal out =
      comes laws (formats_of s) ticket_out (λ w m j. refl) (ticket_came (formats_of s)) s.part_size more (world_of s old) k (legal_on legal) (ap (λ (w : World). ticket_out w k) (sym both) ∙ out)

  pub reader_from : Legal s new → (reader_of s new k).out ≡ true → ((reader_of s old k).out ≡ true) ⊎ WasGiven more k
  reader_from legal out =
      comes laws (formats_of s) reader_out (λ w m j. refl) (reader_came (formats_of s)) s.part_size more (world_of s old) k (legal_on legal) (ap (λ (w : World). reader_out w k) (sym both) ∙ out)
