-- Worlds whose plan is given, after a ticket was given anew or has ended.
use Rattle.std.proofs.Common.{◌≡◌, ℕ, Bool, true, false, cond, eqb, Option, Some, None, sym, ap, ◌∙◌, subst, true≢false, refl}
use Rattle.std.specs.Prelude.{is_some}
use Rattle.std.specs.FinMap as fin
use Rattle.esr_core.specs.World.{World, Reader, Ticket}
use Rattle.esr_ops.specs.Plan.{Plan, Seat, seat_of, seat_out, ReaderSeat, reader_seat, reader_out, IsPlanOf}
use Rattle.esr_ops.specs.Entries.{get_put, get_left}
use Rattle.esr_progress.specs.Plans.{seat_there, reader_there}

-- it is there where the choice is
chosen : {A : Type 0} (b : Bool) (x : A) → is_some (cond b (Some x) None) ≡ true → b ≡ true
chosen true x e = refl
chosen false x e = absurd (true≢false (sym e))

module _ (w : World) (p : Plan) (is : IsPlanOf w p) where
  put_by : (b : Bool) (t : Ticket) (q : ℕ) → t.out ≡ true → cond b (Some (seat_of t)) (fin.get p.seats q) ≡ seat_out (cond b (Some t) (fin.get w.tickets q))
  put_by true t q out = sym (seat_there t out)
  put_by false t q out = is.seats q

  -- a ticket given anew, with its seat
  pub seats_put : (k : ℕ) (t : Ticket) (s : Seat) → seat_of t ≡ s → t.out ≡ true → (q : ℕ) → fin.get (fin.insert p.seats k s) q ≡ seat_out (fin.get (fin.insert w.tickets k t) q)
  seats_put k t s e out q = get_put p.seats k s q ∙ ap (λ z. cond (eqb q k) (Some z) (fin.get p.seats q)) (sym e) ∙ put_by (eqb q k) t q out ∙ ap seat_out (sym (get_put w.tickets k t q))

  left_by : (b : Bool) (t : Ticket) (q : ℕ) → t.out ≡ false → cond b None (fin.get p.seats q) ≡ seat_out (cond b (Some t) (fin.get w.tickets q))
  left_by true t q over = sym (ap (λ (c : Bool). cond c (Some (seat_of t)) None) over)
  left_by false t q over = is.seats q

  -- one that has ended
  pub seats_left : (k : ℕ) (t : Ticket) → t.out ≡ false → (q : ℕ) → fin.get (fin.remove p.seats k) q ≡ seat_out (fin.get (fin.insert w.tickets k t) q)
  seats_left k t over q = get_left p.seats k q ∙ left_by (eqb q k) t q over ∙ ap seat_out (sym (get_put w.tickets k t q))

  read_by : (b : Bool) (t : Reader) (q : ℕ) → t.out ≡ true → cond b (Some (reader_seat t)) (fin.get p.readers q) ≡ reader_out (cond b (Some t) (fin.get w.readers q))
  read_by true t q out = sym (reader_there t out)
  read_by false t q out = is.readers q

  -- a reader given anew, with its seat
  pub readers_put : (k : ℕ) (t : Reader) (s : ReaderSeat) → reader_seat t ≡ s → t.out ≡ true → (q : ℕ) → fin.get (fin.insert p.readers k s) q ≡ reader_out (fin.get (fin.insert w.readers k t) q)
  readers_put k t s e out q = get_put p.readers k s q ∙ ap (λ z. cond (eqb q k) (Some z) (fin.get p.readers q)) (sym e) ∙ read_by (eqb q k) t q out ∙ ap reader_out (sym (get_put w.readers k t q))

  over_by : (b : Bool) (t : Reader) (q : ℕ) → t.out ≡ false → cond b None (fin.get p.readers q) ≡ reader_out (cond b (Some t) (fin.get w.readers q))
  over_by true t q over = sym (ap (λ (c : Bool). cond c (Some (reader_seat t)) None) over)
  over_by false t q over = is.readers q

  -- one that has ended
  pub readers_left : (k : ℕ) (t : Reader) → t.out ≡ false → (q : ℕ) → fin.get (fin.remove p.readers k) q ≡ reader_out (fin.get (fin.insert w.readers k t) q)
  readers_left k t over q = get_left p.readers k q ∙ over_by (eqb q k) t q over ∙ ap reader_out (sym (get_put w.readers k t q))

  -- ---- a ticket of which something is kept is out

  module _ (k : ℕ) (P : Option Ticket → Option Seat → Type 0) (h : (t : Ticket) → t.out ≡ true → fin.get w.tickets k ≡ Some t → P (Some t) (Some (seat_of t))) where
    kept : (o : Option Ticket) → fin.get w.tickets k ≡ o → is_some (seat_out o) ≡ true → P o (seat_out o)
    kept None e s = absurd (true≢false (sym s))
    kept (Some t) e s = let out = chosen t.out (seat_of t) s in subst (P (Some t)) (sym (seat_there t out)) (h t out e)

    pub of_seat : is_some (fin.get p.seats k) ≡ true → P (fin.get w.tickets k) (fin.get p.seats k)
    of_seat there = subst (P (fin.get w.tickets k)) (sym (is.seats k)) (kept (fin.get w.tickets k) refl (ap is_some (sym (is.seats k)) ∙ there))

  module _ (k : ℕ) (P : Option Reader → Option ReaderSeat → Type 0) (h : (q : Reader) → q.out ≡ true → P (Some q) (Some (reader_seat q))) where
    kept_reader : (o : Option Reader) → is_some (reader_out o) ≡ true → P o (reader_out o)
    kept_reader None s = absurd (true≢false (sym s))
    kept_reader (Some q) s = let out = chosen q.out (reader_seat q) s in subst (P (Some q)) (sym (reader_there q out)) (h q out)

    pub of_reader : is_some (fin.get p.readers k) ≡ true → P (fin.get w.readers k) (fin.get p.readers k)
    of_reader there = subst (P (fin.get w.readers k)) (sym (is.readers k)) (kept_reader (fin.get w.readers k) (ap is_some (sym (is.readers k)) ∙ there))
