-- What a longer history tells of tickets, of the names of ops and of the finalizations that are out.
use Rattle.std.proofs.Common.{◌≡◌, ℕ, Bool, true, false, true≢false, ◌||◌, List, [], ◌∷◌, ◌++◌, Option, Some, None, if◌then◌else◌, ◌==◌, ◌&&◌, ◌⊎◌, refl, sym, ap, ◌∙◌, inl, inr}
use Rattle.std.proofs.lemmas.Bool.Decides.{eqb_tells}
use Rattle.std.proofs.lemmas.Bool.{cond-true, cond-false, or_right}
use Rattle.std.proofs.lemmas.Option.{none-some}
use Rattle.std.proofs.Math.Bool.{or-false}
use Rattle.esr_model.specs.Values.{Bytes}
use Rattle.esr_core.specs.Entry.{Cleanup, Given, GivenFinalize, Step, AskStep, Reply, Accepted, Gave, ElectedTerm, Entry}
use Rattle.esr_core.specs.After.{or_else}
use Rattle.esr_report.specs.Cleaned.{is_cleanup, cleanup_by, is_cleanup_ticket}
use Rattle.esr_report.specs.Replies.{op_by, op_of_ticket, is_op, uuid_by, uuid_of_ticket, name_by, name_of_op, is_over, final_given, final_kept, final_step, final_from, final_out}

pub or_none : {A : Type 0} (a : Option A) → or_else a None ≡ a
or_none None = refl
or_none (Some x) = refl

pub or_assoc : {A : Type 0} (a b c : Option A) → or_else a (or_else b c) ≡ or_else (or_else a b) c
or_assoc None b c = refl
or_assoc (Some x) b c = refl

-- ---- tickets

op_append : (es rest : List Entry) (k : ℕ) → op_of_ticket (es ++ rest) k ≡ or_else (op_of_ticket es k) (op_of_ticket rest k)
op_append [] rest k = refl
op_append (e ∷ es) rest k = ap (λ (a : Option ℕ). or_else (op_by e.reply k) a) (op_append es rest k) ∙ or_assoc (op_by e.reply k) (op_of_ticket es k) (op_of_ticket rest k)

uuid_append : (es rest : List Entry) (k : ℕ) → uuid_of_ticket (es ++ rest) k ≡ or_else (uuid_of_ticket es k) (uuid_of_ticket rest k)
uuid_append [] rest k = refl
uuid_append (e ∷ es) rest k = ap (λ (a : Option ℕ). or_else (uuid_by e.reply k) a) (uuid_append es rest k) ∙ or_assoc (uuid_by e.reply k) (uuid_of_ticket es k) (uuid_of_ticket rest k)

-- what is told of a ticket stays
pub op_stays : (es rest : List Entry) (k o : ℕ) → op_of_ticket es k ≡ Some o → op_of_ticket (es ++ rest) k ≡ Some o
op_stays es rest k o e = op_append es rest k ∙ ap (λ (a : Option ℕ). or_else a (op_of_ticket rest k)) e

pub uuid_stays : (es rest : List Entry) (k u : ℕ) → uuid_of_ticket es k ≡ Some u → uuid_of_ticket (es ++ rest) k ≡ Some u
uuid_stays es rest k u e = uuid_append es rest k ∙ ap (λ (a : Option ℕ). or_else a (uuid_of_ticket rest k)) e

-- where nothing is told, one more entry tells what there is
pub op_given : (es : List Entry) (x : Entry) (k : ℕ) → op_of_ticket es k ≡ None → op_of_ticket (es ++ x ∷ []) k ≡ op_by x.reply k
op_given es x k e = op_append es (x ∷ []) k ∙ ap (λ (a : Option ℕ). or_else a (or_else (op_by x.reply k) None)) e ∙ or_none (op_by x.reply k)

pub uuid_given : (es : List Entry) (x : Entry) (k : ℕ) → uuid_of_ticket es k ≡ None → uuid_of_ticket (es ++ x ∷ []) k ≡ uuid_by x.reply k
uuid_given es x k e = uuid_append es (x ∷ []) k ∙ ap (λ (a : Option ℕ). or_else a (or_else (uuid_by x.reply k) None)) e ∙ or_none (uuid_by x.reply k)

-- ---- the tickets of cleanups

-- one more entry tells what there is
pub cleanup_given : (es : List Entry) (x : Entry) (k : ℕ) → is_cleanup_ticket es k ≡ false → is_cleanup_ticket (es ++ x ∷ []) k ≡ cleanup_by x.reply k
cleanup_given [] x k e = or-false (cleanup_by x.reply k)
cleanup_given (y ∷ es) x k e =
    let parts = neither (cleanup_by y.reply k) (is_cleanup_ticket es k) e in
    ap (λ (b : Bool). b || is_cleanup_ticket (es ++ x ∷ []) k) parts.0 ∙ cleanup_given es x k parts.1
  where
    neither : (a b : Bool) → (a || b) ≡ false → (a ≡ false) × (b ≡ false)
    neither true b h = absurd (true≢false h)
    neither false b h = (refl, h)

-- unless it tells something what was told stays
pub cleanup_stays : (es : List Entry) (x : Entry) (k : ℕ) → cleanup_by x.reply k ≡ false → is_cleanup_ticket (es ++ x ∷ []) k ≡ is_cleanup_ticket es k
cleanup_stays [] x k e = or-false (cleanup_by x.reply k) ∙ e
cleanup_stays (y ∷ es) x k e = ap (λ (b : Bool). cleanup_by y.reply k || b) (cleanup_stays es x k e)

-- a take gives it to its own ticket alone
pub cleanup_same : (ticket op : ℕ) (unit : Given) → cleanup_by (Gave ticket op unit) ticket ≡ is_cleanup unit
cleanup_same ticket op unit = elim (eqb_tells ticket ticket) [ inl h ↦ ap (λ (b : Bool). b && is_cleanup unit) h.0 | inr h ↦ absurd (h.1 refl) ]

pub cleanup_other : (ticket op : ℕ) (unit : Given) (k : ℕ) → (ticket ≡ k → ⊥) → cleanup_by (Gave ticket op unit) k ≡ false
cleanup_other ticket op unit k apart = elim (eqb_tells ticket k) [ inl h ↦ absurd (apart h.1) | inr h ↦ ap (λ (b : Bool). b && is_cleanup unit) h.0 ]

-- ---- the ops of cleanups

-- the op as which a cleanup was accepted
abbrev pub cleanup_of : Step → Reply → Option ℕ
cleanup_of (AskStep Cleanup) (Accepted op) = Some op
cleanup_of step reply = None

-- a cleanup was accepted as this op
abbrev pub is_cleanup_op : List Entry → ℕ → Bool
is_cleanup_op [] o = false
is_cleanup_op (e ∷ es) o = is_op o (cleanup_of e.step e.reply) || is_cleanup_op es o

pub cleans_stays : (es : List Entry) (x : Entry) (o : ℕ) → is_op o (cleanup_of x.step x.reply) ≡ false → is_cleanup_op (es ++ x ∷ []) o ≡ is_cleanup_op es o
cleans_stays [] x o e = or-false (is_op o (cleanup_of x.step x.reply)) ∙ e
cleans_stays (y ∷ es) x o e = ap (λ (b : Bool). is_op o (cleanup_of y.step y.reply) || b) (cleans_stays es x o e)

-- where one more entry accepts it
pub cleans_given : (es : List Entry) (x : Entry) (o : ℕ) → is_op o (cleanup_of x.step x.reply) ≡ true → is_cleanup_op (es ++ x ∷ []) o ≡ true
cleans_given [] x o e = or-false (is_op o (cleanup_of x.step x.reply)) ∙ e
cleans_given (y ∷ es) x o e = or_right (is_op o (cleanup_of y.step y.reply)) (is_cleanup_op (es ++ x ∷ []) o) (cleans_given es x o e)

-- ---- the names of ops

name_append : (es rest : List Entry) (o : ℕ) → name_of_op (es ++ rest) o ≡ or_else (name_of_op es o) (name_of_op rest o)
name_append [] rest o = refl
name_append (e ∷ es) rest o = ap (λ (a : Option Bytes). or_else (name_by o e.step e.reply) a) (name_append es rest o) ∙ or_assoc (name_by o e.step e.reply) (name_of_op es o) (name_of_op rest o)

pub name_stays : (es rest : List Entry) (o : ℕ) (name : Bytes) → name_of_op es o ≡ Some name → name_of_op (es ++ rest) o ≡ Some name
name_stays es rest o name e = name_append es rest o ∙ ap (λ (a : Option Bytes). or_else a (name_of_op rest o)) e

pub name_given : (es : List Entry) (x : Entry) (o : ℕ) → name_of_op es o ≡ None → name_of_op (es ++ x ∷ []) o ≡ name_by o x.step x.reply
name_given es x o e = name_append es (x ∷ []) o ∙ ap (λ (a : Option Bytes). or_else a (or_else (name_by o x.step x.reply) None)) e ∙ or_none (name_by o x.step x.reply)

-- what a longer history doesn't tell a front of it doesn't tell either
pub name_before : (es rest : List Entry) (o : ℕ) → name_of_op (es ++ rest) o ≡ None → name_of_op es o ≡ None
name_before es rest o e = first (name_of_op es o) refl
  where
    first : (a : Option Bytes) → name_of_op es o ≡ a → a ≡ None
    first None is = refl
    first (Some name) is = absurd (none-some name (sym e ∙ name_stays es rest o name is))

-- ---- the finalizations that are out

final_append : (op : ℕ) (k : Option ℕ) (es : List Entry) (x : Entry) → final_from op k (es ++ x ∷ []) ≡ final_step op (final_from op k es) x x.reply
final_append op k [] x = refl
final_append op k (e ∷ es) x = final_append op (final_step op k e e.reply) es x

pub final_on : (op : ℕ) (es : List Entry) (x : Entry) → final_out (es ++ x ∷ []) op ≡ final_step op (final_out es op) x x.reply
final_on op es x = final_append op None es x

-- it gives no ticket
abbrev pub IsGiftless : Reply → Type 0
IsGiftless (Gave ticket op unit) = ⊥
IsGiftless reply = Unit {0}

kept_was : (k : Option ℕ) (who : ℕ) (over : Bool) (j : ℕ) → final_kept k who over ≡ Some j → (k ≡ Some j) × ((over && (j == who)) ≡ false)
kept_was None who over j e = absurd (none-some j e)
kept_was (Some k) who over j e = chosen (over && (k == who)) refl e
  where
    one : (a b : ℕ) → Some a ≡ Some b → a ≡ b
    one a b h = cc

    chosen : (b : Bool) → (over && (k == who)) ≡ b → (if b then None else Some k) ≡ Some j → (Some k ≡ Some j) × ((over && (j == who)) ≡ false)
    chosen true is h = absurd (none-some j h)
    chosen false is h = (h, ap (λ (i : ℕ). over && (i == who)) (sym (one k j h)) ∙ is)

-- one that is out after an entry which gives none was out, and the entry doesn't end it
pub final_was : (op : ℕ) (k : Option ℕ) (e : Entry) (reply : Reply) (j : ℕ) → IsGiftless reply → final_step op k e reply ≡ Some j → (k ≡ Some j) × ((is_over e.step reply && (j == e.who)) ≡ false)
final_was op k e (Gave ticket o unit) j none is = absurd none
final_was op k e (ElectedTerm term) j none is = absurd (none-some j is)
final_was op k e reply j none is = kept_was k e.who (is_over e.step reply) j is

-- the unit is a finalization
abbrev pub IsFinalGiven : Given → Type 0
IsFinalGiven (GivenFinalize info results) = Unit {0}
IsFinalGiven unit = ⊥

-- after an entry that gives a ticket it is that one, or was out
pub final_gave : (op : ℕ) (k : Option ℕ) (o : ℕ) (unit : Given) (ticket j : ℕ) → final_given op k o unit ticket ≡ Some j → (k ≡ Some j) ⊎ ((o ≡ op) × (ticket ≡ j) × IsFinalGiven unit)
final_gave op k o (GivenFinalize info results) ticket j is = elim (eqb_tells o op) [
  | inl h ↦ inr (h.1, one ticket j (sym (cond-true _ _ _ h.0) ∙ is), tt)
  | inr h ↦ inl (sym (cond-false _ _ _ h.0) ∙ is)
]
  where
    one : (a b : ℕ) → Some a ≡ Some b → a ≡ b
    one a b h = cc
final_gave op k o unit ticket j is = inl is
