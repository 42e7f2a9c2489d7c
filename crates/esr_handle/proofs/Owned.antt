-- Entries at places, and which of them are of an own ticket.
use Rattle.std.proofs.Common.{◌≡◌, ◌≢◌, ℕ, zero, suc, ◌+◌, ◌<◌, ◌≤◌, eq-eqb, ne_eqb, cond, List, [], ◌∷◌, ◌++◌, length, Bool, Option, Some, None, refl, sym, ap, ◌∙◌, subst, inl, inr, ⊎_elim, append_assoc, append-nil, arith}
use mathlib.Core.Logic.{dite}
use Rattle.esr_model.specs.Lists.{Has-left, Has-right, Has-either}
use native.Mathlib.Decide.{dec_le}
use Rattle.esr_model.specs.Values.{Has}
use Rattle.esr_turns.specs.Places.{times}
use Rattle.esr_turns.specs.Histories.{said}
use Rattle.esr_turns.specs.Tickets.{Together}
use Rattle.esr_core.specs.Entry.{Entry, Reply, Given, Gave, Moment}
use Rattle.esr_desk.specs.Calls.{Call, call_of, call_at, calls_at, HasTaken}
use Rattle.esr_handle.specs.Owned.{ticket_by, ticket_of_moment, given_by, ticket_given, IsOwn, AreBelow, call_in, calls_in}

pub none_some : {X : Type 0} (x : X) → None ≡ Some x → ⊥
none_some x e = cc

pub some_same : {X : Type 0} (x y : X) → Some x ≡ Some y → x ≡ y
some_same x y e = cc

-- ---- places

pub times_both : (k : ℕ) (xs ys : List ℕ) → times k (xs ++ ys) ≡ times k xs + times k ys
times_both k [] ys = omega arith
times_both k (x ∷ xs) ys = let rec = times_both k xs ys in omega arith

first_is : (x : ℕ) → times x (x ∷ []) ≡ 1
first_is x = ap (λ (b : Bool). cond b 1 0 + 0) (eq-eqb x x refl)

pub times_first : (x : ℕ) (xs : List ℕ) → 0 < times x (x ∷ xs)
times_first x xs = let one = first_is x in let both = times_both x (x ∷ []) xs in omega arith

times_other : (k x : ℕ) → x < k → times k (x ∷ []) ≡ 0
times_other k x less = ap (λ (b : Bool). cond b 1 0 + 0) (ne_eqb x k (λ same. omega (arith, less, same)))

pub none_below : (n x : ℕ) (xs : List ℕ) → AreBelow n (x ∷ xs) → (x < n) × AreBelow n xs
none_below n x xs below = (
  dite (dec_le n x)
      (λ le. absurd (let none : times x (x ∷ xs) ≡ 0 = below x le in let some = times_first x xs in omega arith))
      (λ not. omega arith),
  λ k le. (let both = times_both k (x ∷ []) xs in let none : times k (x ∷ xs) ≡ 0 = below k le in omega arith),
)

pub below_longer : (n m : ℕ) (xs : List ℕ) → n ≤ m → AreBelow n xs → AreBelow m xs
below_longer n m xs more below k le = below k (omega arith)

-- with the place of the last entry
pub below_last : (n : ℕ) (xs : List ℕ) → AreBelow n xs → AreBelow (n + 1) (xs ++ n ∷ [])
below_last n xs below k le =
    let both = times_both k xs (n ∷ []) in
    let old : times k xs ≡ 0 = below k (omega arith) in
    let new = times_other k n (omega arith) in
    omega arith

-- ---- what is said at places

module _ (f : Moment → Option ℕ) where
  pub said_before : (xs ys : List Moment) (i t : ℕ) → said f xs i ≡ Some t → said f (xs ++ ys) i ≡ Some t
  said_before [] ys i t is = absurd (none_some t is)
  said_before (x ∷ xs) ys zero t is = is
  said_before (x ∷ xs) ys (suc i) t is = said_before xs ys i t is

  said_has : (ys : List Moment) (m : Moment) → Has ys m → (k : ℕ) × (said f ys k ≡ f m)
  said_has [] m h = absurd h
  said_has (y ∷ ys) m (inl same) = (zero, ap f same)
  said_has (y ∷ ys) m (inr h) = let rest = said_has ys m h in (suc rest.0, rest.1)

  said_after : (xs ys : List Moment) (k : ℕ) → (j : ℕ) × (length xs ≤ j) × (said f (xs ++ ys) j ≡ said f ys k)
  said_after [] ys k = (k, omega arith, refl)
  said_after (x ∷ xs) ys k = let rest = said_after xs ys k in (suc rest.0, (let le = rest.1 in omega arith), rest.2)

  pub said_other : (xs ys : List Moment) (m : Moment) → Has ys m → (j : ℕ) × (length xs ≤ j) × (said f (xs ++ ys) j ≡ f m)
  said_other xs ys m h =
      let here = said_has ys m h in
      let there = said_after xs ys here.0 in
      (there.0, there.1, there.2 ∙ here.1)

gave_so : (reply : Reply) (t : ℕ) → given_by reply ≡ Some t → (op : ℕ) × (unit : Given) × (reply ≡ Gave t op unit)
gave_so (Gave ticket op unit) t is = (op, unit, ap (λ (k : ℕ). Gave k op unit) (some_same ticket t is))
gave_so reply t is = absurd (none_some t is)

-- an entry gave it
pub was_given : (log : List Moment) (i t : ℕ) → said ticket_given log i ≡ Some t → (m : Moment) × Has log m × ((op : ℕ) × (unit : Given) × (m.entry.reply ≡ Gave t op unit))
was_given [] i t is = absurd (none_some t is)
was_given (x ∷ log) zero t is = (x, inl refl, gave_so x.entry.reply t is)
was_given (x ∷ log) (suc i) t is = let rest = was_given log i t is in (rest.0, inr rest.1, rest.2)

ticket_some : (who : ℕ) → 1 ≤ who → ticket_by who ≡ Some who
ticket_some zero some = absurd (omega (arith, some))
ticket_some (suc k) some = refl

pub ticket_is : (who t : ℕ) → ticket_by who ≡ Some t → (1 ≤ who) × (who ≡ t)
ticket_is zero t is = absurd (none_some t is)
ticket_is (suc k) t is = (omega arith, some_same (suc k) t is)

-- ---- own tickets

pub own_longer : (seen more : List Moment) (mine : List ℕ) (who : ℕ) → IsOwn seen mine who → IsOwn (seen ++ more) mine who
own_longer seen more mine who own = (own.0, said_before ticket_given seen more own.0 who own.1, own.2)

-- others' entries are of no own ticket
pub none_own : (seen others : List Moment) (mine : List ℕ) (who : ℕ) → 1 ≤ who → AreBelow (length seen) mine → IsOwn seen mine who → Together ticket_of_moment ticket_given (seen ++ others) mine
    → (m : Moment) → Has others m → m.entry.who ≢ who
none_own seen others mine who some below own together m has is =
    let there = said_other ticket_of_moment seen others m has in
    let of : said ticket_of_moment (seen ++ others) there.0 ≡ Some who = there.2 ∙ ap ticket_by is ∙ ticket_some who some in
    let same : times own.0 mine ≡ times there.0 mine = together own.0 there.0 who (said_before ticket_given seen others own.0 who own.1) of in
    let none : times there.0 mine ≡ 0 = below there.0 there.1 in
    let mine_is : 0 < times own.0 mine = own.2 in
    omega (arith, same, none, mine_is)

-- ---- the entries of who 0 at places

call_same : (place : ℕ) (e : Entry) (who : ℕ) (c : Call) → Has (call_of place e who) c → record { place = place; entry = e } ≡ c
call_same place e zero c (inl same) = same
call_same place e zero c (inr none) = absurd none
call_same place e (suc k) c none = absurd none

call_says : (base : ℕ) (log : List Moment) (i : ℕ) (c : Call) → Has (call_in base log i) c → said ticket_given log i ≡ given_by c.entry.reply
call_says base [] i c has = absurd has
call_says base (m ∷ log) zero c has = ap (λ (x : Call). given_by x.entry.reply) (call_same base m.entry m.entry.who c has)
call_says base (m ∷ log) (suc i) c has = call_says (base + 1) log i c has

calls_places : (base : ℕ) (log : List Moment) (mine : List ℕ) (c : Call) → Has (calls_in base log mine) c → (i : ℕ) × (0 < times i mine) × Has (call_in base log i) c
calls_places base log [] c has = absurd has
calls_places base log (x ∷ mine) c has = ⊎_elim
    (λ (here : Has (call_in base log x) c). (x, times_first x mine, here))
    (λ (rest : Has (calls_in base log mine) c).
    let there = calls_places base log mine c rest in
    (there.0, (let some : 0 < times there.0 mine = there.1 in let both = times_both there.0 (x ∷ []) mine in omega arith), there.2))
    (Has-either (call_in base log x) (calls_in base log mine) c has)

-- a ticket that was taken is an own one
pub own_ticket : (base : ℕ) (log : List Moment) (mine : List ℕ) (who : ℕ) → HasTaken (calls_in base log mine) who → IsOwn log mine who
own_ticket base log mine who h =
    let there = calls_places base log mine _ h.taken in
    (there.0, call_says base log there.0 _ there.2, there.1)

-- ---- they are among all of who 0

call_among : (base : ℕ) (log : List Moment) (i : ℕ) (c : Call) → Has (call_in base log i) c → Has (calls_at base log) c
call_among base [] i c has = absurd has
call_among base (m ∷ log) zero c has = Has-left (call_at base m.entry) (calls_at (base + 1) log) c has
call_among base (m ∷ log) (suc i) c has = Has-right (call_at base m.entry) (calls_at (base + 1) log) c (call_among (base + 1) log i c has)

calls_front : (place : ℕ) (log more : List Moment) (c : Call) → Has (calls_at place log) c → Has (calls_at place (log ++ more)) c
calls_front place [] more c has = absurd has
calls_front place (x ∷ log) more c has = ⊎_elim
    (λ (here : Has (call_at place x.entry) c). Has-left (call_at place x.entry) (calls_at (place + 1) (log ++ more)) c here)
    (λ (rest : Has (calls_at (place + 1) log) c). Has-right (call_at place x.entry) (calls_at (place + 1) (log ++ more)) c (calls_front (place + 1) log more c rest))
    (Has-either (call_at place x.entry) (calls_at (place + 1) log) c has)

calls_back : (place : ℕ) (before log : List Moment) (c : Call) → Has (calls_at (place + length before) log) c → Has (calls_at place (before ++ log)) c
calls_back place [] log c has = subst (λ (n : ℕ). Has (calls_at n log) c) (same place) has
  where
    same : (n : ℕ) → n + 0 ≡ n
    same n = omega arith
calls_back place (x ∷ before) log c has =
    Has-right (call_at place x.entry) (calls_at (place + 1) (before ++ log)) c
    (calls_back (place + 1) before log c (subst (λ (n : ℕ). Has (calls_at n log) c) (same place (length before)) has))
  where
    same : (n k : ℕ) → n + suc k ≡ n + 1 + k
    same n k = omega arith

pub calls_among : (before seen others : List Moment) (mine : List ℕ) (c : Call) → Has (calls_in (length before) seen mine) c → Has (calls_at 0 (before ++ (seen ++ others))) c
calls_among before seen others mine c has =
    let there = calls_places (length before) seen mine c has in
    calls_back 0 before (seen ++ others) c (subst (λ (n : ℕ). Has (calls_at n (seen ++ others)) c) (same (length before)) (calls_front (length before) seen others c (call_among (length before) seen there.0 c there.2)))
  where
    same : (n : ℕ) → n ≡ 0 + n
    same n = omega arith

pub taken_among : (before seen others : List Moment) (mine : List ℕ) (who : ℕ) → HasTaken (calls_in (length before) seen mine) who → HasTaken (calls_at 0 (before ++ (seen ++ others))) who
taken_among before seen others mine who h = record { place = h.place; op = h.op; unit = h.unit; some = h.some; taken = calls_among before seen others mine _ h.taken }

-- ---- as the history goes on

call_front : (base : ℕ) (log more : List Moment) (i : ℕ) → i < length log → call_in base (log ++ more) i ≡ call_in base log i
call_front base [] more i less = absurd (omega (arith, less))
call_front base (m ∷ log) more zero less = refl
call_front base (m ∷ log) more (suc i) less = call_front (base + 1) log more i (omega (arith, less))

pub calls_longer : (base : ℕ) (log more : List Moment) (mine : List ℕ) → AreBelow (length log) mine → calls_in base (log ++ more) mine ≡ calls_in base log mine
calls_longer base log more [] below = refl
calls_longer base log more (x ∷ mine) below =
    let both = none_below (length log) x mine below in
    ap (λ (calls : List Call). calls ++ calls_in base (log ++ more) mine) (call_front base log more x both.0)
    ∙ ap (λ (calls : List Call). call_in base log x ++ calls) (calls_longer base log more mine both.1)

pub calls_both : (base : ℕ) (log : List Moment) (mine new : List ℕ) → calls_in base log (mine ++ new) ≡ calls_in base log mine ++ calls_in base log new
calls_both base log [] new = refl
calls_both base log (x ∷ mine) new =
    ap (λ (calls : List Call). call_in base log x ++ calls) (calls_both base log mine new)
    ∙ sym (append_assoc (call_in base log x) (calls_in base log mine) (calls_in base log new))

call_last : (base : ℕ) (log : List Moment) (m : Moment) → call_in base (log ++ m ∷ []) (length log) ≡ call_at (base + length log) m.entry
call_last base [] m = ap (λ (n : ℕ). call_at n m.entry) (same base)
  where
    same : (n : ℕ) → n ≡ n + 0
    same n = omega arith
call_last base (x ∷ log) m = call_last (base + 1) log m ∙ ap (λ (n : ℕ). call_at n m.entry) (same base (length log))
  where
    same : (n k : ℕ) → n + 1 + k ≡ n + suc k
    same n k = omega arith

-- with one entry more, an own one
pub calls_more : (base : ℕ) (log : List Moment) (mine : List ℕ) (m : Moment) → AreBelow (length log) mine → calls_in base (log ++ m ∷ []) (mine ++ length log ∷ []) ≡ calls_in base log mine ++ call_at (base + length log) m.entry
calls_more base log mine m below =
    calls_both base (log ++ m ∷ []) mine (length log ∷ [])
    ∙ ap (λ (calls : List Call). calls ++ calls_in base (log ++ m ∷ []) (length log ∷ [])) (calls_longer base log (m ∷ []) mine below)
    ∙ ap (λ (calls : List Call). calls_in base log mine ++ calls) (append-nil (call_in base (log ++ m ∷ []) (length log)) ∙ call_last base log m)
