-- What the removals of a ticket have named.
use Rattle.std.specs.Prelude.{◌≡◌, ◌⊎◌, ℕ, zero, suc, ◌≤◌, true, false, List, [], ◌∷◌, ◌++◌}
use Rattle.std.proofs.Common.{refl, sym, ap, subst, inl, inr, ⊎_elim}
use Rattle.esr_model.specs.Names.{BlobName}
use Rattle.esr_model.specs.Values.{Has}
use Rattle.esr_core.specs.World.{Ticket}
use Rattle.esr_core.specs.Entry.{Prune, PruneStep, RemoveDoomed, EndDelete, Reply, HasEnded, Entry, Moment}
use Rattle.esr_core.specs.Past.{is_counted, begins_anew, batch_of, removal_names}
use Rattle.esr_core.specs.Pruning.{dooms}
use Rattle.esr_desk.specs.Start.{Start, formats_of, ticket_of}
use Rattle.esr_desk.specs.Own.{Own, made_of}
use Rattle.esr_desk.specs.Outcome.{Stepped}
use Rattle.esr_desk.specs.Last.{IsLast}
use Rattle.esr_desk.specs.Made.{waited_made, kept_made, own_made}
use Rattle.esr_desk.specs.Delete.Conditions.{CanEndDelete}

-- the removals of the ticket have named each of these
abbrev pub AreNamed : Start → List Moment → ℕ → List BlobName → Type 0
AreNamed s log who names = (name : BlobName) → Has names name → Has (removal_names (made_of s log who)) name

-- the end of a delete's ticket was its last step, before which all that its plan dooms was named, where the container tells
pub record HasNamed (s : Start) (log : List Moment) (who : ℕ) : Type 0 where
  pub last : IsLast log who (PruneStep EndDelete) HasEnded
  pub named : s.tells ≡ true → AreNamed s last.front who (dooms (formats_of s) (ticket_of s last.front who))

-- ---- names and entries

pub has_front : (xs ys : List BlobName) (name : BlobName) → Has xs name → Has (xs ++ ys) name
has_front [] ys name h = absurd h
has_front (x ∷ xs) ys name (inl same) = inl same
has_front (x ∷ xs) ys name (inr h) = inr (has_front xs ys name h)

pub has_back : (xs ys : List BlobName) (name : BlobName) → Has ys name → Has (xs ++ ys) name
has_back [] ys name h = h
has_back (x ∷ xs) ys name h = inr (has_back xs ys name h)

pub has_either : (xs ys : List BlobName) (name : BlobName) → Has (xs ++ ys) name → Has xs name ⊎ Has ys name
has_either [] ys name h = inr h
has_either (x ∷ xs) ys name (inl same) = inl (inl same)
has_either (x ∷ xs) ys name (inr h) = ⊎_elim (λ a. inl (inr a)) (λ b. inr b) (has_either xs ys name h)

-- a name of a removal was named
named_by : (entries : List Entry) (e : Entry) (name : BlobName) → Has entries e → Has (batch_of e.step) name → Has (removal_names entries) name
named_by [] e name has of = absurd has
named_by (x ∷ entries) e name (inl same) of = has_front (batch_of x.step) (removal_names entries) name (subst (λ (y : Entry). Has (batch_of y.step) name) (sym same) of)
named_by (x ∷ entries) e name (inr has) of = has_back (batch_of x.step) (removal_names entries) name (named_by entries e name has of)

-- what was named stands in a removal
removal_of : (entries : List Entry) (name : BlobName) → Has (removal_names entries) name → (e : Entry) × Has entries e × Has (batch_of e.step) name
removal_of [] name h = absurd h
removal_of (x ∷ entries) name h = ⊎_elim
    (λ (here : Has (batch_of x.step) name). (x, inl refl, here))
    (λ (later : Has (removal_names entries) name). let found = removal_of entries name later in (found.0, inr found.1, found.2))
    (has_either (batch_of x.step) (removal_names entries) name h)

-- ---- what steps name

pruned_anew : (who : ℕ) (prune : Prune) → begins_anew who (PruneStep prune) ≡ false
pruned_anew zero prune = refl
pruned_anew (suc k) prune = refl

-- what a removal names counts as named, whatever it was answered, unless a record swap had failed
pub removal_named : (s : Start) (old new : List Moment) (who : ℕ) (names : List BlobName) (reply : Reply) → is_counted reply ≡ true → Stepped s old new who (PruneStep (RemoveDoomed names)) reply → AreNamed s new who names
removal_named s old new who names reply counted h name has =
    named_by (made_of s new who) (record { who = who; step = PruneStep (RemoveDoomed names); reply = reply }) name
    (own_made s old new who (PruneStep (RemoveDoomed names)) reply counted (pruned_anew who (RemoveDoomed names)) h) has

-- and what was named before stays named
pub still_named : (s : Start) (old new : List Moment) (who : ℕ) (prune : Prune) (reply : Reply) → 1 ≤ who → Stepped s old new who (PruneStep prune) reply → AreNamed s new who (removal_names (made_of s old who))
still_named s old new who prune reply ticket h name has =
    let found = removal_of (made_of s old who) name has in
    named_by (made_of s new who) found.0 name (kept_made s old new who (PruneStep prune) reply ticket (pruned_anew who prune) h found.0 found.1) found.2

-- as a delete's ticket ends all is named, whatever others did meanwhile
pub ended_named : (s : Start) (old new : List Moment) (who : ℕ) → 1 ≤ who → CanEndDelete s old who → Stepped s old new who (PruneStep EndDelete) HasEnded → HasNamed s new who
ended_named s old new who ticket may h =
    let own : ticket_of s old who ≡ ticket_of s h.front who = ap (λ (o : Own). o.ticket) (sym (h.waited.alone ticket)) in
    let made : made_of s old who ≡ made_of s h.front who = sym (waited_made s old h.front who ticket h.waited) in
    record {
      last = record { front = h.front; image = h.image; is = h.is };
      named = λ tells name doomed. subst (λ (entries : List Entry). Has (removal_names entries) name) made
          (may.removed tells name (subst (λ (t : Ticket). Has (dooms (formats_of s) t) name) (sym own) doomed));
    }
