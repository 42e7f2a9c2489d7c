-- When a unit of an op is ready.
use Rattle.std.proofs.Common.{◌≡◌, ◌≢◌, ◌⊎◌, ℕ, suc, zero, ◌+◌, ◌<◌, Bool, true, false, ◌&&◌, ◌||◌, List, [], ◌∷◌, Option, Some, None, cond, length, get_or, take, refl, sym, ap, ◌∙◌, subst, inl, inr, true≢false, arith, eq-eqb, nat_cmp}
use Rattle.std.specs.Prelude.{not, is_some, nat_lt, slice_get, ◌==◌}
use Rattle.std.specs.List.{list_any, position}
use Rattle.std.specs.FinMap as fin
use Rattle.std.proofs.lemmas.Bool.{cases_lt, lt-ltb, ltb-true, or_left, or_right, and_from, and_parts, not-true, true_from_ne_false}
use Rattle.std.proofs.lemmas.Option.{slice_get_read, slice_get_within, same_Some, none-some}
use Rattle.esr_model.specs.Lists.{Has-map}
use Rattle.esr_model.specs.Values.{Has, ShardResult}
use Rattle.esr_core.specs.World.{Op, Deletion, ShardState, Pending, Done, GivenUp, ShardWork, AllDone}
use Rattle.esr_core.specs.Ready.{Goes, Stopped, Waits, Before}
use Rattle.esr_core.specs.Steps.{all_done, is_done}
use Rattle.esr_core.specs.Allowed.{StandsBefore}
use Rattle.esr_core.specs.After.{shard_of}
use Rattle.esr_core.specs.Laws.Tests.{clash}
use Rattle.esr_progress.specs.declared.ready.Kind.{Kind}
use Rattle.esr_progress.specs.declared.ready.Kind.TheVariants as ready
use Rattle.esr_ops.specs.Plan.{RestorePlan, TicketMaps}
use Rattle.esr_ops.specs.Shards.{is_pending, waits, waits_for, op_before, restore_before}
use Rattle.esr_ops.specs.Ops.{has_stopped, is_free}
use Rattle.esr_ops.specs.Inside.{numbers_of, Rise}
use Rattle.esr_progress.specs.Choice.{barred, is_going, goes_in, is_first_at, is_earliest, is_out_of, ready_by, is_final, ready_of, NoneBefore, IsReadyAt, IsPossible}
use Rattle.esr_ops.specs.Entries.{find-member, eqb_is}
use Rattle.esr_ops.specs.Lists.{Has-at, position-None}
use Rattle.esr_ops.specs.Numbers.{found_member}
use Rattle.esr_ops.specs.Tests.{any_here, any_true, first_place, place_within}

-- ---- the search

module _ (ops : List (ℕ × Op)) (deletes : List (ℕ × Deletion)) (completed : List ℕ) (seats : TicketMaps) (restores : List (ℕ × RestorePlan)) (term : ℕ) where
  pub ready_here : (at : ℕ) (e : ℕ × Op) (kind : Kind) → at < length ops → e ≡ get_or ops at e → ready_of ops deletes completed seats restores term e ≡ Some kind → NoneBefore ops deletes completed seats restores term at
      → IsReadyAt ops deletes completed seats restores term at kind
  ready_here at e kind lt is found before = record { e = e; there = slice_get_read ops (length ops) at e refl lt is; is = found; before = before }

  pub none_more : (at : ℕ) (e : ℕ × Op) → at < length ops → e ≡ get_or ops at e → ready_of ops deletes completed seats restores term e ≡ None → NoneBefore ops deletes completed seats restores term at
      → NoneBefore ops deletes completed seats restores term (at + 1)
  none_more at e lt is none before k x below there = elim (lt_or_same k at below) [
    | inl less ↦ before k x less there
    | inr same ↦
        let one : e ≡ x = same_Some e x (sym (slice_get_read ops (length ops) at e refl lt is) ∙ ap (slice_get ops) (sym same) ∙ there) in
        ap (ready_of ops deletes completed seats restores term) (sym one) ∙ none
  ]
    where
      lt_or_same : (k at : ℕ) → k < at + 1 → (k < at) ⊎ (k ≡ at)
      lt_or_same k at lt = elim (cases_lt k at) [ inl less ↦ inl less | inr le ↦ inr (omega arith) ]

pub is_false : (b : Bool) → (b ≡ true → ⊥) → b ≡ false
is_false true h = absurd (h refl)
is_false false h = refl

-- ---- members by their places

module _ {A : Type 0} where
  pub Has-taken : (xs : List A) (n : ℕ) (x : A) → Has (take n xs) x → Has xs x
  Has-taken [] zero x m = m
  Has-taken [] (suc n) x m = m
  Has-taken (y ∷ xs) zero x m = absurd m
  Has-taken (y ∷ xs) (suc n) x (inl is) = inl is
  Has-taken (y ∷ xs) (suc n) x (inr m) = inr (Has-taken xs n x m)

-- ---- entries below a place have the lower numbers

module _ {A : Type 0} where
  pub number_below : (es : List (ℕ × A)) → Rise (numbers_of es) → (at : ℕ) (e : ℕ × A) → slice_get es at ≡ Some e → (x : ℕ × A) → Has (take at es) x → x.0 < e.0
  number_below [] r at e there x m = absurd (none-some e there)
  number_below (y ∷ es) r zero e there x m = absurd m
  number_below (y ∷ es) r (suc at) e there x (inl is) = subst (λ (z : ℕ × A). z.0 < e.0) is (r.0 e.0 (Has-map (λ (z : ℕ × A). z.0) es e (Has-at es at e there)))
  number_below (y ∷ es) r (suc at) e there x (inr m) = number_below es r.1 at e there x m

  pub place_lower : (es : List (ℕ × A)) → Rise (numbers_of es) → (at : ℕ) (e : ℕ × A) → slice_get es at ≡ Some e → (x : ℕ × A) → Has es x → x.0 < e.0 → Has (take at es) x
  place_lower [] r at e there x m lt = absurd m
  place_lower (y ∷ es) r zero e there x (inl is) lt = absurd (omega (arith, ap (λ (z : ℕ × A). z.0) is, ap (λ (z : ℕ × A). z.0) (same_Some y e there)))
  place_lower (y ∷ es) r zero e there x (inr m) lt = let above : y.0 < x.0 = r.0 x.0 (Has-map (λ (z : ℕ × A). z.0) es x m) in absurd (omega (arith, ap (λ (z : ℕ × A). z.0) (same_Some y e there)))
  place_lower (y ∷ es) r (suc at) e there x (inl is) lt = inl is
  place_lower (y ∷ es) r (suc at) e there x (inr m) lt = inr (place_lower es r.1 at e there x m lt)

-- ---- ops that go

pub goes_by : (op : Op) → has_stopped op ≡ false → Goes op
goes_by op e = record { unfailed = (parts op.failed op.aborted e).0; unaborted = (parts op.failed op.aborted e).1 }
  where
    parts : (b : Bool) (o : Option ℕ) → (b || is_some o) ≡ false → (b ≡ false) × (o ≡ None)
    parts false None e = (refl, refl)
    parts b o e = absurd (true≢false e)

pub goes_on : (op : Op) → Goes op → has_stopped op ≡ false
goes_on op g = λ i. g.unfailed i || is_some (g.unaborted i)

pub stopped_by : (op : Op) → has_stopped op ≡ true → Stopped op
stopped_by op e = parts op.failed op.aborted e
  where
    parts : (b : Bool) (o : Option ℕ) → (b || is_some o) ≡ true → (b ≡ true) ⊎ ((by : ℕ) × (o ≡ Some by))
    parts true o e = inl refl
    parts false (Some x) e = inr (x, refl)
    parts false None e = absurd (true≢false (sym e))

pub has_by : (op : Op) → Stopped op → has_stopped op ≡ true
has_by op (inl e) = or_left op.failed (is_some op.aborted) e
has_by op (inr h) = or_right op.failed (is_some op.aborted) (ap is_some h.1)

-- ---- free shards

pub pending_by : (st : ShardState) → is_pending st ≡ true → st ≡ Pending
pending_by Pending e = refl
pending_by st e = absurd (true≢false (sym e))

waiting : (st : ShardState) → Waits st → waits st ≡ true
waiting (Done r) h = absurd h
waiting GivenUp h = absurd h
waiting st h = refl

waits_by : (st : ShardState) → waits st ≡ true → Waits st
waits_by (Done r) e = true≢false (sym e)
waits_by GivenUp e = true≢false (sym e)
waits_by st e = tt

-- none of a lower number waits on the shard
abbrev pub NoneWaits : {A : Type 0} → (A → List ShardWork) → List (ℕ × A) → ℕ → ShardWork → Type 0
NoneWaits {A} shards es o s = (p : ℕ) (q : A) (z : ShardWork) → p < o → fin.find nat_cmp p es ≡ Some q → Has (shards q) z → z.ref.id ≡ s.ref.id → z.number ≡ s.number → Waits z.state → ⊥

module _ {A : Type 0} (shards : A → List ShardWork) (es : List (ℕ × A)) (o : ℕ) (s : ShardWork) where
  abbrev waits_there : ℕ × A → Bool
  waits_there e = nat_lt e.0 o && list_any (waits_for s.ref.id s.number) (shards e.1)

  none_says : list_any waits_there es ≡ false → NoneWaits shards es o s
  none_says none p q z lt found m id number w =
      clash (list_any waits_there es)
      (any_here waits_there es (p, q) (find-member p es q found)
      (and_from (nat_lt p o) (list_any (waits_for s.ref.id s.number) (shards q)) (lt-ltb p o lt)
      (any_here (waits_for s.ref.id s.number) (shards q) z m (and_from _ _ (and_from _ _ (eq-eqb z.ref.id s.ref.id id) (eq-eqb z.number s.number number)) (waiting z.state w)))))
      none

  says_none : Rise (numbers_of es) → NoneWaits shards es o s → list_any waits_there es ≡ false
  says_none rise none = is_false (list_any waits_there es) (λ any.
      let (x, m, here) = any_true waits_there es any in
      let (lower, held) = and_parts (nat_lt x.0 o) (list_any (waits_for s.ref.id s.number) (shards x.1)) here in
      let (z, hz, h) = any_true (waits_for s.ref.id s.number) (shards x.1) held in
      let (same, w) = and_parts _ _ h in
      let (id, number) = and_parts _ _ same in
      none x.0 x.1 z (ltb-true x.0 o lower) (found_member es rise x m) hz (eqb_is _ _ id) (eqb_is _ _ number) (waits_by z.state w))

module _ (ops : List (ℕ × Op)) (restores : List (ℕ × RestorePlan)) (o : ℕ) (s : ShardWork) where
  pub free_says : is_free ops restores o s ≡ true → (s.state ≡ Pending) × NoneWaits (λ (x : Op). x.shards) ops o s × NoneWaits (λ (x : RestorePlan). x.shards) restores o s
  free_says free =
      let (first, unread) = and_parts (is_pending s.state && not (op_before ops o s.ref.id s.number)) (not (restore_before restores o s.ref.id s.number)) free in
      let (pending, idle) = and_parts (is_pending s.state) (not (op_before ops o s.ref.id s.number)) first in (
        pending_by s.state pending,
        none_says (λ (x : Op). x.shards) ops o s (not-true (op_before ops o s.ref.id s.number) idle),
        none_says (λ (x : RestorePlan). x.shards) restores o s (not-true (restore_before restores o s.ref.id s.number) unread),
      )

  pub says_free : Rise (numbers_of ops) → Rise (numbers_of restores) → s.state ≡ Pending → NoneWaits (λ (x : Op). x.shards) ops o s → NoneWaits (λ (x : RestorePlan). x.shards) restores o s → is_free ops restores o s ≡ true
  says_free ops_rise restores_rise pending idle unread =
      and_from (is_pending s.state && not (op_before ops o s.ref.id s.number)) (not (restore_before restores o s.ref.id s.number))
      (and_from (is_pending s.state) (not (op_before ops o s.ref.id s.number)) (ap is_pending pending) (ap not (says_none (λ (x : Op). x.shards) ops o s ops_rise idle)))
      (ap not (says_none (λ (x : RestorePlan). x.shards) restores o s restores_rise unread))

-- ---- what completed first

pub Before-member : (xs : List ℕ) (a b : ℕ) → Before xs a b → Has xs b
Before-member [] a b h = absurd h
Before-member (x ∷ xs) a b (ne, inl h) = inr h.1
Before-member (x ∷ xs) a b (ne, inr h) = inr (Before-member xs a b h)

module _ (p o : ℕ) where
  pub taken_before : (xs : List ℕ) (i : ℕ) → slice_get xs i ≡ Some o → ((z : ℕ) → Has (take i xs) z → z ≢ o) → Has (take i xs) p → Before xs p o
  taken_before [] i there ne m = absurd (none-some o there)
  taken_before (x ∷ xs) zero there ne m = absurd m
  taken_before (x ∷ xs) (suc i) there ne (inl is) = (ne x (inl refl), inl (is, Has-at xs i o there))
  taken_before (x ∷ xs) (suc i) there ne (inr m) = (ne x (inl refl), inr (taken_before xs i there (λ z h. ne z (inr h)) m))

  pub before_taken : (xs : List ℕ) (i : ℕ) → slice_get xs i ≡ Some o → Before xs p o → Has (take i xs) p
  before_taken [] i there h = absurd h
  before_taken (x ∷ xs) zero there (ne, h) = absurd (ne (same_Some x o there))
  before_taken (x ∷ xs) (suc i) there (ne, inl h) = inl h.0
  before_taken (x ∷ xs) (suc i) there (ne, inr h) = inr (before_taken xs i there h)

-- an op that goes and stands before the number
pub record Earlier (ops : List (ℕ × Op)) (deletes : List (ℕ × Deletion)) (completed : List ℕ) (number : ℕ) : Type 0 where
  pub p : ℕ
  pub q : Op
  pub found : fin.find nat_cmp p ops ≡ Some q
  pub goes : has_stopped q ≡ false
  pub unbarred : barred deletes p ≡ false
  pub before : Before completed p number

module _ (ops : List (ℕ × Op)) (rise : Rise (numbers_of ops)) (deletes : List (ℕ × Deletion)) (completed : List ℕ) (number : ℕ) where
  going : (p : ℕ) → goes_in ops deletes p ≡ true → (q : Op) × (fin.find nat_cmp p ops ≡ Some q) × (has_stopped q ≡ false) × (barred deletes p ≡ false)
  going p e =
      let (one, free) = and_parts (is_going ops p) (not (barred deletes p)) e in
      let (x, m, h) = any_true (λ (x : ℕ × Op). (x.0 == p) && not (has_stopped x.1)) ops one in
      let (same, on) = and_parts _ _ h in
      (x.1, subst (λ (k : ℕ). fin.find nat_cmp k ops ≡ Some x.1) (eqb_is x.0 p same) (found_member ops rise x m), not-true _ on, not-true (barred deletes p) free)

  gone : (p : ℕ) (q : Op) → fin.find nat_cmp p ops ≡ Some q → has_stopped q ≡ false → barred deletes p ≡ false → goes_in ops deletes p ≡ true
  gone p q found on free =
      and_from (is_going ops p) (not (barred deletes p))
      (any_here (λ (x : ℕ × Op). (x.0 == p) && not (has_stopped x.1)) ops (p, q) (find-member p ops q found) (and_from _ _ (eq-eqb p p refl) (ap not on)))
      (ap not free)

  late : (o : Option ℕ) → position (λ n. n == number) completed ≡ o → is_first_at ops deletes completed o ≡ false → Earlier ops deletes completed number
  late None e h = absurd (true≢false h)
  late (Some i) e h =
      let (within, at) = place_within (λ n. n == number) completed i e in
      let (here, earlier) = first_place (λ n. n == number) completed i at.0 e at.1 in
      let there : slice_get completed i ≡ Some number = at.1 ∙ ap (λ n. Some n) (eqb_is at.0 number here) in
      let some : list_any (goes_in ops deletes) (take i completed) ≡ true = true_from_ne_false _ (λ f. true≢false (ap not (sym f) ∙ h)) in
      let (p, m, on) = any_true (goes_in ops deletes) (take i completed) some in
      let (q, found, goes, free) = going p on in
      record { p = p; q = q; found = found; goes = goes; unbarred = free; before = taken_before p number completed i there (λ z hz is. clash (z == number) (eq-eqb z number is) (earlier z hz)) m }

  early : (o : Option ℕ) → position (λ n. n == number) completed ≡ o → is_first_at ops deletes completed o ≡ true → Earlier ops deletes completed number → ⊥
  early None e h x = clash (number == number) (eq-eqb number number refl) (position-None (λ n. n == number) completed e number (Before-member completed x.p number x.before))
  early (Some i) e h x =
      let (within, at) = place_within (λ n. n == number) completed i e in
      let (here, earlier) = first_place (λ n. n == number) completed i at.0 e at.1 in
      let there : slice_get completed i ≡ Some number = at.1 ∙ ap (λ n. Some n) (eqb_is at.0 number here) in
      clash _ (any_here (goes_in ops deletes) (take i completed) x.p (before_taken x.p number completed i there x.before) (gone x.p x.q x.found x.goes x.unbarred)) (not-true _ h)

  pub not_earliest : is_earliest ops deletes completed number ≡ false → Earlier ops deletes completed number
  not_earliest h = late (position (λ n. n == number) completed) refl h

  pub none_earlier : is_earliest ops deletes completed number ≡ true → Earlier ops deletes completed number → ⊥
  none_earlier h x = early (position (λ n. n == number) completed) refl h x

-- ---- shards that are done

pub all_done_by : (shards : List ShardWork) (results : List ShardResult) → AllDone shards results → all_done shards ≡ true
all_done_by [] [] h = refl
all_done_by [] (r ∷ rs) h = refl
all_done_by (s ∷ shards) [] h = absurd h
all_done_by (s ∷ shards) (r ∷ rs) h = and_from _ _ (ap is_done h.0) (all_done_by shards rs h.1)

-- ---- which unit

-- how the choice of a unit came out
abbrev pub WasPicked : Option Kind → Bool → Bool → Bool → Option ℕ → Bool → Type 0
WasPicked (Some (ready.Shard i)) stopped out bar free final = (stopped ≡ false) × (free ≡ Some i) × (bar ≡ false)
WasPicked (Some ready.Finalize) stopped out bar free final = (stopped ≡ false) × (free ≡ None) × (final ≡ true) × (bar ≡ false)
WasPicked (Some ready.Drop) stopped out bar free final = (stopped ≡ true) × (out ≡ false)
WasPicked None stopped out bar free final = ((stopped ≡ true) × (out ≡ true)) ⊎ ((stopped ≡ false) × ((bar ≡ true) ⊎ ((free ≡ None) × (final ≡ false))))

picked_so : (stopped out bar : Bool) (free : Option ℕ) (final : Bool) → WasPicked (cond stopped (cond out None (Some ready.Drop)) (cond bar None (ready_by free final))) stopped out bar free final
picked_so true true bar free final = inl (refl, refl)
picked_so true false bar free final = (refl, refl)
picked_so false out true free final = inr (refl, inl refl)
picked_so false out false (Some i) final = (refl, refl, refl)
picked_so false out false None true = (refl, refl, refl, refl)
picked_so false out false None false = inr (refl, inr (refl, refl))

pub picked : (ops : List (ℕ × Op)) (deletes : List (ℕ × Deletion)) (completed : List ℕ) (seats : TicketMaps) (restores : List (ℕ × RestorePlan)) (term : ℕ) (e : ℕ × Op) (kind : Option Kind)
    → ready_of ops deletes completed seats restores term e ≡ kind
    → WasPicked kind (has_stopped e.1) (is_out_of seats term e.0) (barred deletes e.0) (position (is_free ops restores e.0) e.1.shards) (is_final ops deletes completed seats term e)
picked ops deletes completed seats restores term e kind is =
    subst (λ (k : Option Kind). WasPicked k (has_stopped e.1) (is_out_of seats term e.0) (barred deletes e.0) (position (is_free ops restores e.0) e.1.shards) (is_final ops deletes completed seats term e)) is
    (picked_so (has_stopped e.1) (is_out_of seats term e.0) (barred deletes e.0) (position (is_free ops restores e.0) e.1.shards) (is_final ops deletes completed seats term e))

-- ---- the first shard of its id and number

found_by : (b : Bool) (x s : ShardWork) (rest : Option ShardWork) → b ≡ true → x ≡ s → cond b (Some x) rest ≡ Some s
found_by b x s rest e is = ap (λ c. cond c (Some x) rest) e ∙ ap (λ z. Some z) is

pub shard_found : (index number : ℕ) (xs : List ShardWork) (i : ℕ) (s : ShardWork) → slice_get xs i ≡ Some s → s.ref.id ≡ index → s.number ≡ number
    → ((z : ShardWork) → Has (take i xs) z → z.ref.id ≡ index → z.number ≡ number → ⊥) → shard_of xs index number ≡ Some s
shard_found index number [] i s there id n other = absurd (none-some s there)
shard_found index number (x ∷ xs) zero s there id n other =
    let is : x ≡ s = same_Some x s there in
    found_by _ x s _ (and_from _ _ (eq-eqb x.ref.id index (ap (λ (z : ShardWork). z.ref.id) is ∙ id)) (eq-eqb x.number number (ap (λ (z : ShardWork). z.number) is ∙ n))) is
shard_found index number (x ∷ xs) (suc i) s there id n other =
    let not_this : ((x.ref.id == index) && (x.number == number)) ≡ false = is_false _ (λ e. let (a, b) = and_parts _ _ e in other x (inl refl) (eqb_is _ _ a) (eqb_is _ _ b)) in
    ap (λ c. cond c (Some x) (shard_of xs index number)) not_this ∙ shard_found index number xs i s there id n (λ z m. other z (inr m))

pub stands_taken : {A : Type 0} (xs : List A) (i : ℕ) (z s : A) → slice_get xs i ≡ Some s → StandsBefore xs z s → Has (take i xs) z
stands_taken [] i z s there h = absurd h
stands_taken (x ∷ xs) zero z s there (ne, h) = absurd (ne (same_Some x s there))
stands_taken (x ∷ xs) (suc i) z s there (ne, inl h) = inl h.0
stands_taken (x ∷ xs) (suc i) z s there (ne, inr h) = inr (stands_taken xs i z s there h)

-- shards that are alike are free alike
pub free_alike : (ops : List (ℕ × Op)) (restores : List (ℕ × RestorePlan)) (o : ℕ) (a b : ShardWork) → a.ref.id ≡ b.ref.id → a.number ≡ b.number → a.state ≡ b.state → is_free ops restores o a ≡ is_free ops restores o b
free_alike ops restores o a b id number state = λ i. (is_pending (state i) && not (op_before ops o (id i) (number i))) && not (restore_before restores o (id i) (number i))

-- an op can give the unit that is found
pub possible : (ops : List (ℕ × Op)) (deletes : List (ℕ × Deletion)) (completed : List ℕ) (seats : TicketMaps) (restores : List (ℕ × RestorePlan)) (term : ℕ) (e : ℕ × Op) (kind : Kind)
    → ready_of ops deletes completed seats restores term e ≡ Some kind → IsPossible e.1 kind
possible ops deletes completed seats restores term e (ready.Shard i) is = (place_within (is_free ops restores e.0) e.1.shards i (picked ops deletes completed seats restores term e (Some (ready.Shard i)) is).1).0
possible ops deletes completed seats restores term e ready.Finalize is = (and_parts _ _ (picked ops deletes completed seats restores term e (Some ready.Finalize) is).2).0
possible ops deletes completed seats restores term e ready.Drop is = tt

-- ---- the same, of equal lists

module _ (ops here : List (ℕ × Op)) (same : here ≡ ops) (deletes held : List (ℕ × Deletion)) (kept : held ≡ deletes) (completed done : List ℕ)
    (d : done ≡ completed) (seats sat : TicketMaps) (s : sat ≡ seats) (restores read : List (ℕ × RestorePlan)) (r : read ≡ restores) (term : ℕ) where
  pub none_in : NoneBefore here held done sat read term (length here) → NoneBefore ops deletes completed seats restores term (length ops)
  none_in h =
      subst (λ (es : List (ℕ × Op)). NoneBefore es deletes completed seats restores term (length es)) same
      (subst (λ (ds : List (ℕ × Deletion)). NoneBefore here ds completed seats restores term (length here)) kept
      (subst (λ (ns : List ℕ). NoneBefore here held ns seats restores term (length here)) d
      (subst (λ (cs : TicketMaps). NoneBefore here held done cs restores term (length here)) s (subst (λ (rs : List (ℕ × RestorePlan)). NoneBefore here held done sat rs term (length here)) r h))))

  pub ready_in : (at : ℕ) (kind : Kind) → IsReadyAt here held done sat read term at kind → IsReadyAt ops deletes completed seats restores term at kind
  ready_in at kind h =
      subst (λ (es : List (ℕ × Op)). IsReadyAt es deletes completed seats restores term at kind) same
      (subst (λ (ds : List (ℕ × Deletion)). IsReadyAt here ds completed seats restores term at kind) kept
      (subst (λ (ns : List ℕ). IsReadyAt here held ns seats restores term at kind) d
      (subst (λ (cs : TicketMaps). IsReadyAt here held done cs restores term at kind) s (subst (λ (rs : List (ℕ × RestorePlan)). IsReadyAt here held done sat rs term at kind) r h))))

-- the op at the place, read
module _ (ops here : List (ℕ × Op)) (same : here ≡ ops) (deletes : List (ℕ × Deletion)) (completed : List ℕ) (seats : TicketMaps) (restores : List (ℕ × RestorePlan))
    (term at : ℕ) (kind : Kind) (r : IsReadyAt here deletes completed seats restores term at kind) (e : ℕ × Op) (is : e ≡ get_or ops at e) where
  pub read_there : slice_get ops at ≡ Some e
  read_there =
      let there : slice_get ops at ≡ Some r.e = ap (λ es. slice_get es at) (sym same) ∙ r.there in
      slice_get_read ops (length ops) at e refl (slice_get_within ops at r.e there) is

  pub possible_there : IsPossible e.1 kind
  possible_there =
      let one : r.e ≡ e = same_Some r.e e (sym r.there ∙ ap (λ es. slice_get es at) same ∙ read_there) in
      subst (λ (x : ℕ × Op). IsPossible x.1 kind) one (possible here deletes completed seats restores term r.e kind r.is)
