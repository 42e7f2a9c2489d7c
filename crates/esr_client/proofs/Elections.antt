-- The step by which the next term begins.
use Rattle.std.proofs.Common.{◌≡◌, ◌≢◌, ℕ, suc, ◌+◌, ◌-◌, ◌^◌, ◌<◌, ◌≤◌, Bool, true, false, List, None, Result, Ok, Err, refl, sym, ap, ◌∙◌, subst, arith}
use Rattle.std.specs.Prelude.{◌==◌, if◌then◌else◌}
use Rattle.std.proofs.lemmas.Bool.{eqb-true, eq-eqb}
use Rattle.esr_model.specs.Values.{ClusterRecord}
use Rattle.esr_model.specs.Kept.{first_id}
use Rattle.esr_core.specs.World.{World, record_of}
use Rattle.esr_core.specs.Entry.{ElectStep, ElectedTerm, TermsSpent, Refusal, Moment}
use Rattle.esr_core.specs.Allowed.{Allows, Electing, ElectSpent}
use Rattle.esr_record.specs.Record.{Record}
use Rattle.esr_record.specs.Steps.{elected}
use Rattle.esr_record.specs.declared.steps.RecordRefusal.{RecordRefusal}
use Rattle.esr_record.specs.declared.steps.RecordRefusal.TheVariants as records
use Rattle.esr_formats.specs.Clusters.{cluster_of}
use Rattle.esr_desk.specs.Start.{Start, formats_of, world_of}
use Rattle.esr_repo.specs.May.{MaySwap, MayRefuse, swapped_world}
use Rattle.esr_repo.specs.InfosAfter.{InfosAfter}

pub may_elect : (s : Start) (log : List Moment) (term : ℕ) (cluster : Record) (next : ℕ) → InfosAfter s log → term ≡ suc (world_of s log).term → term < 2 ^ 63 → cluster_of cluster ≡ record_of (swapped_world s log 0 ElectStep)
    → next ≡ first_id term
    → MaySwap s log 0 ElectStep (ElectedTerm term) cluster None None None None next
may_elect s log term cluster next served is room cluster_is next_is = record {
  swaps = refl;
  answers = refl;
  allows = λ image tells same. subst (λ (n : ℕ). Allows (formats_of s) s.part_size (world_of s log) 0 ElectStep (ElectedTerm n) image) (sym is) (Electing image (subst (λ (n : ℕ). n < 2 ^ 63) is room) same);
  cluster_is = cluster_is;
  root_is = λ old h. h;
  infos_are = served.stay 0 ElectStep tt;
  plan_is = λ old h. record { ops = h.ops; deletes = h.deletes; completed = h.completed; seats = h.seats; next_op = h.next_op; next_ticket = h.next_ticket; restores = h.restores; restore_count = h.restore_count; readers = h.readers };
  next_is = next_is ∙ ap first_id is;
}

-- ---- the record

ok_err : (t : ℕ) (e : RecordRefusal) → ◌≡◌ {A = Result ℕ RecordRefusal} (Ok t) (Err e) → ⊥
ok_err t e q = cc

ok_same : (a b : ℕ) → ◌≡◌ {A = Result ℕ RecordRefusal} (Ok a) (Ok b) → a ≡ b
ok_same a b q = cc

err_same : (a b : RecordRefusal) → ◌≡◌ {A = Result ℕ RecordRefusal} (Err a) (Err b) → a ≡ b
err_same a b q = cc

differ : (a b : ℕ) → (a == b) ≡ false → a ≢ b
differ a b q same = swapped (sym (eq-eqb a b same) ∙ q)
  where
    swapped : true ≡ false → ⊥
    swapped q = cc

pub elect_room : (r : Record) (t : ℕ) → Ok t ≡ elected r → r.term < 2 ^ 63 → t < 2 ^ 63
elect_room r t is most = by (r.term == 2 ^ 63 - 1) refl is
  where
    less : (n m : ℕ) → m ≡ n + 1 → n ≢ 2 ^ 63 - 1 → n < 2 ^ 63 → m < 2 ^ 63
    less n m e other most = omega (arith, e, other, most)

    by : (b : Bool) → (r.term == 2 ^ 63 - 1) ≡ b → Ok t ≡ (if b then Err (records.TermsSpent r.term) else Ok (r.term + 1)) → t < 2 ^ 63
    by true q is = absurd (ok_err t (records.TermsSpent r.term) is)
    by false q is = less r.term t (ok_same t (r.term + 1) is) (differ r.term (2 ^ 63 - 1) q) most

-- the term of the record is the next one
pub elect_record : (r new : Record) (w : World) (t : ℕ) → cluster_of r ≡ record_of w → t ≡ r.term + 1 → new ≡ record r { term = t }
    → (t ≡ suc w.term) × (cluster_of new ≡ record_of (record w { term = suc w.term; next_id = first_id (suc w.term) }))
elect_record r new w t is t_is new_is =
    let one : t ≡ suc w.term = t_is ∙ up r.term w.term (ap (λ (c : ClusterRecord). c.ledger.term) is) in
    (one, ap cluster_of new_is ∙ (λ j. record { ledger = record { safe = (is j).ledger.safe; pending = (is j).ledger.pending; term = one j }; ops = (is j).ops }))
  where
    up : (a b : ℕ) → a ≡ b → a + 1 ≡ suc b
    up a b e = omega (arith, e)

pub may_refuse_elect : (s : Start) (log : List Moment) (r : Record) (e : RecordRefusal) (refusal : Refusal) → cluster_of r ≡ record_of (world_of s log) → Err e ≡ elected r
    → ((number : ℕ) → e ≡ records.TermsSpent number → refusal ≡ TermsSpent number)
    → MayRefuse s log 0 ElectStep refusal
may_refuse_elect s log r e refusal is answer spent = by (r.term == 2 ^ 63 - 1) refl answer
  where
    last : (a b : ℕ) → a ≡ b → a ≡ 2 ^ 63 - 1 → 2 ^ 63 ≤ suc b
    last a b same q = omega (arith, same, q)

    err_ok : (t : ℕ) → ◌≡◌ {A = Result ℕ RecordRefusal} (Err e) (Ok t) → ⊥
    err_ok t q = cc

    by : (b : Bool) → (r.term == 2 ^ 63 - 1) ≡ b → Err e ≡ (if b then Err (records.TermsSpent r.term) else Ok (r.term + 1)) → MayRefuse s log 0 ElectStep refusal
    by true q answer =
        let term : r.term ≡ (world_of s log).term = ap (λ (c : ClusterRecord). c.ledger.term) is in
        subst (MayRefuse s log 0 ElectStep) (sym (spent r.term (err_same e (records.TermsSpent r.term) answer) ∙ ap TermsSpent term))
        (record { plain = refl; allows = λ image tells same. ElectSpent image (last r.term (world_of s log).term term (eqb-true r.term (2 ^ 63 - 1) q)) same })
    by false q answer = absurd (err_ok (r.term + 1) answer)
