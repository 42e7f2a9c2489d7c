-- Of a history in which nothing fails each step was looked at, and no fetch is lost.
use Rattle.std.proofs.Common.{◌≡◌, ℕ, zero, suc, ◌+◌, ◌≤◌, Bool, true, false, List, [], ◌∷◌, ◌++◌, length, refl, ap, subst, inl, inr, arith}
use Rattle.std.specs.Prelude.{◌==◌, ◌&&◌, if◌then◌else◌}
use Rattle.esr_model.specs.Names.{BlobName}
use Rattle.esr_model.specs.Values.{Formats}
use Rattle.esr_model.specs.Image.{Image}
use Rattle.esr_core.specs.World.{World, Opened, OpenedEmpty, OpenedRecord}
use Rattle.esr_core.specs.Entry.{Asked, ReadBlob, DrawTest, Step, AskStep, LookStep, ReadStep, Refusal, DeposedAt, AbortedBy, IdsSpent, GenerationsSpent, TermsSpent, Reply, WasFetched, Refused, Moment}
use Rattle.esr_bounds.specs.Clients.{commands_by, looks_by, draws_by, commands_in, looks_in, draws_in}
use Rattle.esr_bounds.specs.Keys.{IsUnheard, AreHeard, IsUntouched, IsHeard}
use Rattle.esr_bounds.specs.Others.{lost_at, lost_in}
use Rattle.esr_desk.specs.Start.{Start, Legal, formats_of}
use Rattle.esr_quiet.specs.Asked.{is_line_ask, as_asked, asked_steps}
use Rattle.esr_quiet.specs.Smooth.{IsSmooth, IsSpent, EachFetchFinds}
use Rattle.esr_core.specs.Refusing.{IsByRule}
use Rattle.esr_quiet.specs.Refusals.{AreByRule}
use Rattle.esr_core.specs.Laws.Rules.{never_rule}
use Rattle.esr_quiet.specs.PrefixLaws.{place_of}
use Rattle.esr_complete.proofs.Histories.{OpenedLaws, opened_in_order}

-- ---- no fetch is lost

lost_one : (step : Step) (reply : Reply) → ((name : BlobName) → step ≡ ReadStep (ReadBlob name) → reply ≡ WasFetched) → lost_at step reply ≡ 0
lost_one (ReadStep (ReadBlob name)) reply h = ap (λ (r : Reply). lost_at (ReadStep (ReadBlob name)) r) (h name refl)
lost_one step reply h = refl

no_more : (a b : ℕ) → a ≡ 0 → b ≡ 0 → a + b ≡ 0
no_more a b p q = let one : a ≡ 0 = p in let two : b ≡ 0 = q in omega (arith, one, two)

pub lost_none : (log : List Moment) → EachFetchFinds log → lost_in log ≡ 0
lost_none [] h = refl
lost_none (m ∷ log) h =
    no_more (lost_at m.entry.step m.entry.reply) (lost_in log) (lost_one m.entry.step m.entry.reply (λ name is. h m name (inl refl) is)) (lost_none log (λ n name has is. h n name (inr has) is))

-- ---- each step was looked at

no_rule : (command : Asked) (refusal : Refusal) → IsByRule command refusal → IsUnheard (Refused refusal) → ⊥
no_rule command (DeposedAt place) rule unheard = never_rule command (DeposedAt place) refl rule
no_rule command (AbortedBy op) rule unheard = never_rule command (AbortedBy op) refl rule
no_rule command refusal rule unheard = unheard

refusal_in : (reply : Reply) → IsUnheard reply → (refusal : Refusal) × (reply ≡ Refused refusal)
refusal_in (Refused (DeposedAt place)) h = (DeposedAt place, refl)
refusal_in (Refused (AbortedBy op)) h = (AbortedBy op, refl)
refusal_in reply h = absurd h

pub all_heard : (s : Start) (log : List Moment) → AreByRule s log → AreHeard log
all_heard s log rules m has unheard =
    let r = refusal_in m.entry.reply unheard in
    let bad : IsUnheard (Refused r.0) = subst IsUnheard r.1 unheard in
    let p = place_of log m has in
    elim (rules p.front p.back m r.0 p.is r.1) [
      | inl rule ↦ no_rule rule.0.0 r.0 rule.1 bad
      | inr old ↦ subst (λ (x : Refusal). IsUnheard (Refused x)) old.is bad
    ]

-- ---- nothing was done before it

pub opened_untouched : (f : Formats) (image : Image) (w : World) → Opened f image w → IsUntouched w
opened_untouched f image w (OpenedEmpty none) = record { ops = refl; tickets = refl; readers = refl; entries = refl; caller = refl }
opened_untouched f image w (OpenedRecord cluster text root there reads is) = record { ops = refl; tickets = refl; readers = refl; entries = refl; caller = refl }

pub is_heard : OpenedLaws → (s : Start) (log : List Moment) → IsSmooth s log → AreByRule s log → IsHeard (formats_of s) s.part_size s.world log
is_heard laws s log smooth rules =
    let in_order = opened_in_order laws s smooth.image smooth.shelf s.world smooth.kept smooth.opened in
    record { tracked = in_order.0; readers = in_order.1; untouched = opened_untouched (formats_of s) smooth.image s.world smooth.opened; legal = smooth.legal; heard = all_heard s log rules }

-- ---- so was one more step that is refused since a number is spent

spent_heard : (reply : Reply) → IsSpent reply → IsUnheard reply → ⊥
spent_heard (Refused (IdsSpent next)) spent unheard = unheard
spent_heard (Refused (GenerationsSpent pending)) spent unheard = unheard
spent_heard (Refused (TermsSpent term)) spent unheard = unheard
spent_heard reply spent unheard = spent

all_heard_more : (log : List Moment) (last : Moment) → AreHeard log → IsSpent last.entry.reply → AreHeard (log ++ last ∷ [])
all_heard_more [] last heard spent m (inl is) unheard = spent_heard m.entry.reply (subst (λ (x : Moment). IsSpent x.entry.reply) is spent) unheard
all_heard_more [] last heard spent m (inr has) unheard = absurd has
all_heard_more (x ∷ log) last heard spent m (inl is) unheard = heard m (inl is) unheard
all_heard_more (x ∷ log) last heard spent m (inr has) unheard = all_heard_more log last (λ n there. heard n (inr there)) spent m has unheard

pub one_more_heard : (s : Start) (log : List Moment) (last : Moment) → IsHeard (formats_of s) s.part_size s.world log → Legal s (log ++ last ∷ []) → IsSpent last.entry.reply
    → IsHeard (formats_of s) s.part_size s.world (log ++ last ∷ [])
one_more_heard s log last h legal spent = record { tracked = h.tracked; readers = h.readers; untouched = h.untouched; legal = legal; heard = all_heard_more log last h.heard spent }

-- ---- what it asks for is what lines ask for

either : (b : Bool) (x : Step) (rest : List Step) (n : ℕ) → n ≤ length rest → (0 + (0 + 0)) + n ≤ length (if b then x ∷ rest else rest)
either true x rest n h = let few : n ≤ length rest = h in let is : (0 + (0 + 0)) + n ≤ suc (length rest) = omega (arith, few) in is
either false x rest n h = let few : n ≤ length rest = h in let is : (0 + (0 + 0)) + n ≤ length rest = omega (arith, few) in is

ask_one : (who : ℕ) (step : Step) (rest : List Step) (n : ℕ) → n ≤ length rest
    → (commands_by who step + (looks_by who step + draws_by who step)) + n ≤ length (if (who == 0) && is_line_ask step then as_asked step ∷ rest else rest)
ask_one zero (AskStep command) rest n h = let few : n ≤ length rest = h in let is : (1 + (0 + 0)) + n ≤ suc (length rest) = omega (arith, few) in is
ask_one zero LookStep rest n h = let few : n ≤ length rest = h in let is : (0 + (1 + 0)) + n ≤ suc (length rest) = omega (arith, few) in is
ask_one zero (ReadStep DrawTest) rest n h = let few : n ≤ length rest = h in let is : (0 + (0 + 1)) + n ≤ suc (length rest) = omega (arith, few) in is
ask_one zero step rest n h = either (is_line_ask step) (as_asked step) rest n h
ask_one (suc k) step rest n h = either ((suc k == 0) && is_line_ask step) (as_asked step) rest n h

asks_sum : (a b c x y z most : ℕ) → (a + (b + c)) + (x + (y + z)) ≤ most → (a + x) + ((b + y) + (c + z)) ≤ most
asks_sum a b c x y z most h = let few : (a + (b + c)) + (x + (y + z)) ≤ most = h in omega (arith, few)

pub asks_few : (log : List Moment) → commands_in log + (looks_in log + draws_in log) ≤ length (asked_steps log)
asks_few [] = let is : 0 + (0 + 0) ≤ 0 = omega arith in is
asks_few (m ∷ log) =
    asks_sum (commands_by m.entry.who m.entry.step) (looks_by m.entry.who m.entry.step) (draws_by m.entry.who m.entry.step) (commands_in log) (looks_in log) (draws_in log) (length (asked_steps (m ∷ log)))
    (ask_one m.entry.who m.entry.step (asked_steps log) (commands_in log + (looks_in log + draws_in log)) (asks_few log))
