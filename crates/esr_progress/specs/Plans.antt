-- Laws of worlds whose plan is given: their tickets and restores.
use Rattle.std.proofs.Common.{◌≡◌, ℕ, ◌+◌, ◌-◌, Bool, true, false, cond, eqb, Option, Some, None, option_map, refl, sym, ap, ◌∙◌, ◌||◌, List, [], ◌∷◌, map}
use Rattle.std.specs.Prelude.{is_some}
use Rattle.std.specs.Cmp.{nat_cmp_total}
use Rattle.std.specs.FinMap as fin
use Rattle.esr_core.specs.World.{World, Restoring, Reader, Ticket, ReadState, Unread, RestoreShard}
use Rattle.esr_ops.specs.Plan.{Plan, Seat, seat_of, seat_out, reader_seat, reader_out, RestorePlan, restore_plan, IsPlanOf, read_state, read_work}
use Rattle.std.specs.List.{list_any}
use Rattle.std.proofs.lemmas.Option.{same_Some, none-some}
use Rattle.esr_model.specs.Values.{Bytes}
use Rattle.esr_ops.specs.Restores.{is_waiting}
use Rattle.esr_core.specs.Restores.{waits, any_waits}
use Rattle.esr_ops.specs.Shards as shards
use Rattle.esr_ops.specs.Entries.{get_put, get_left}

-- ---- the ticket of a seat

-- what is kept of a ticket that is out
pub seat_there : (t : Ticket) → t.out ≡ true → seat_out (Some t) ≡ Some (seat_of t)
seat_there t out = ap (λ (c : Bool). cond c (Some (seat_of t)) None) out

pub reader_there : (q : Reader) → q.out ≡ true → reader_out (Some q) ≡ Some (reader_seat q)
reader_there q out = ap (λ (c : Bool). cond c (Some (reader_seat q)) None) out

got : (o : Option Ticket) (s : Seat) → Some s ≡ seat_out o → (t : Ticket) × (o ≡ Some t) × (t.out ≡ true) × (seat_of t ≡ s)
got None s e = absurd (none-some s (sym e))
got (Some t) s e = go t.out refl
  where
    go : (b : Bool) → t.out ≡ b → (v : Ticket) × (Some t ≡ Some v) × (v.out ≡ true) × (seat_of v ≡ s)
    go true is = (t, refl, is, sym (same_Some s (seat_of t) (e ∙ seat_there t is)))
    go false is = absurd (none-some s (sym (e ∙ ap (λ (c : Bool). cond c (Some (seat_of t)) None) is)))

got_restore : (o : Option Restoring) (x : RestorePlan) → Some x ≡ option_map restore_plan o → (r : Restoring) × (o ≡ Some r) × (restore_plan r ≡ x)
got_restore None x e = absurd (none-some x (sym e))
got_restore (Some r) x e = (r, refl, sym (same_Some x (restore_plan r) e))

module _ (w : World) (p : Plan) (is : IsPlanOf w p) where
  pub ticket_of : (k : ℕ) (s : Seat) → fin.get p.seats k ≡ Some s → (t : Ticket) × (fin.get w.tickets k ≡ Some t) × (t.out ≡ true) × (seat_of t ≡ s)
  ticket_of k s e = got (fin.get w.tickets k) s (sym e ∙ is.seats k)

  restore_by : (b : Bool) (r : Restoring) (q : ℕ) → cond b (Some (restore_plan r)) (fin.get p.restores q) ≡ option_map restore_plan (cond b (Some r) (fin.get w.restores q))
  restore_by true r q = refl
  restore_by false r q = is.restores q

  -- a restore given anew
  pub restores_put : (o : ℕ) (r : Restoring) (x : RestorePlan) → restore_plan r ≡ x → (q : ℕ) → fin.get (fin.insert p.restores o x) q ≡ option_map restore_plan (fin.get (fin.insert w.restores o r) q)
  restores_put o r x e q = get_put p.restores o x q ∙ ap (λ z. cond (eqb q o) (Some z) (fin.get p.restores q)) (sym e) ∙ restore_by (eqb q o) r q ∙ ap (option_map restore_plan) (sym (get_put w.restores o r q))

  is_there : (a : Option Restoring) → is_some (option_map restore_plan a) ≡ is_some a
  is_there None = refl
  is_there (Some r) = refl

  same_keys : (o : ℕ) → fin.contains_key p.restores o ≡ fin.contains_key w.restores o
  same_keys o = ap is_some (is.restores o) ∙ is_there (fin.get w.restores o)

  pub restores_put_count : (o : ℕ) (r : Restoring) (x : RestorePlan) → fin.len (fin.insert p.restores o x) ≡ fin.len (fin.insert w.restores o r)
  restores_put_count o r x = fin.len-insert nat_cmp_total p.restores o x ∙ (λ j. cond (same_keys o j) (is.restore_count j) (is.restore_count j + 1)) ∙ sym (fin.len-insert nat_cmp_total w.restores o r)

  left_by : (b : Bool) (q : ℕ) → cond b None (fin.get p.restores q) ≡ option_map restore_plan (cond b None (fin.get w.restores q))
  left_by true q = refl
  left_by false q = is.restores q

  -- a restore that leaves
  pub restores_left : (o q : ℕ) → fin.get (fin.remove p.restores o) q ≡ option_map restore_plan (fin.get (fin.remove w.restores o) q)
  restores_left o q = get_left p.restores o q ∙ left_by (eqb q o) q ∙ ap (option_map restore_plan) (sym (get_left w.restores o q))

  pub restores_left_count : (o : ℕ) → fin.len (fin.remove p.restores o) ≡ fin.len (fin.remove w.restores o)
  restores_left_count o = fin.len-remove nat_cmp_total p.restores o ∙ (λ j. cond (same_keys o j) (is.restore_count j - 1) (is.restore_count j)) ∙ sym (fin.len-remove nat_cmp_total w.restores o)

  -- the restore of a plan's
  pub restore_of_plan : (o : ℕ) (x : RestorePlan) → fin.get p.restores o ≡ Some x → (r : Restoring) × (fin.get w.restores o ≡ Some r) × (restore_plan r ≡ x)
  restore_of_plan o x e = got_restore (fin.get w.restores o) x (sym e ∙ is.restores o)

-- ---- what each report changes

module _ (place : Bytes) where
  waits_one : (state : ReadState) → waits state ≡ shards.waits (read_state state)
  waits_one Unread = refl
  waits_one state = refl

  pub any_waits-works : (xs : List RestoreShard) → any_waits xs ≡ list_any is_waiting (map (read_work place) xs)
  any_waits-works [] = refl
  any_waits-works (s ∷ xs) = λ j. waits_one s.state j || any_waits-works xs j
