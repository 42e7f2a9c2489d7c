-- The ends of ops, as far as the entries were read.
use Rattle.std.proofs.Common.{◌≡◌, ℕ, ◌+◌, ◌<◌, List, [], ◌∷◌, ◌++◌, length, take, drop, get_or, Option, Some, None, refl, sym, ap, ◌∙◌}
use Rattle.std.proofs.lemmas.List.{take_more, drop_more}
use Rattle.esr_core.specs.After.{or_else}
use Rattle.esr_core.specs.Entry.{Entry}
use Rattle.esr_report.specs.declared.tickets.OpEnd.{OpEnd}
use Rattle.esr_report.specs.Replies.{Reply, ends_at, aborts_at, end_of_op}
use Rattle.esr_report.specs.Ends.{end_for, end_in, first_end}

pub or_else_none : {A : Type 0} (a : Option A) → or_else a None ≡ a
or_else_none None = refl
or_else_none (Some x) = refl

pub or_else_both : {A : Type 0} (a b c : Option A) → or_else (or_else a b) c ≡ or_else a (or_else b c)
or_else_both None b c = refl
or_else_both (Some x) b c = refl

-- one end more
pub first_end_more : (ends : List OpEnd) (e : OpEnd) (op : ℕ) → first_end (ends ++ e ∷ []) op ≡ or_else (first_end ends op) (end_for e op)
first_end_more [] e op = or_else_none (end_for e op)
first_end_more (x ∷ ends) e op = ap (or_else (end_for x op)) (first_end_more ends e op) ∙ sym (or_else_both (end_for x op) (first_end ends op) (end_for e op))

-- one entry more was read: its own end is kept, and then those of the ops that it aborts
pub end_read : (all : List Entry) (ends own new : List OpEnd) (i : ℕ) (e : Entry) (end : Option OpEnd) → i < length all → e ≡ get_or all i e
    → ((op : ℕ) → ends_at all (take i all) op e ≡ end_in end op) → ((op : ℕ) → first_end own op ≡ or_else (first_end ends op) (end_in end op))
    → ((op : ℕ) → first_end new op ≡ or_else (first_end own op) (aborts_at (take i all) op e))
    → ((op : ℕ) → end_of_op all op [] all ≡ or_else (first_end ends op) (end_of_op all op (take i all) (drop i all)))
    → (op : ℕ) → end_of_op all op [] all ≡ or_else (first_end new op) (end_of_op all op (take (i + 1) all) (drop (i + 1) all))
end_read all ends own new i e end less is here kept aborted read op =
    let before : List Entry = take i all in
    let rest : List Entry = drop (i + 1) all in
    let so_far : Option Reply = first_end ends op in
    let this : Option Reply = ends_at all before op e in
    let abort : Option Reply = aborts_at before op e in
    let later : Option Reply = end_of_op all op (take (i + 1) all) rest in
    let next : drop i all ≡ e ∷ rest = drop_more all i e less ∙ ap (λ (z : Entry). z ∷ rest) (sym is) in
    let more : take (i + 1) all ≡ before ++ e ∷ [] = take_more all i e less ∙ ap (λ (z : Entry). before ++ z ∷ []) (sym is) in
    let now : first_end new op ≡ or_else (or_else so_far this) abort = aborted op ∙ ap (λ (o : Option Reply). or_else o abort) (kept op ∙ ap (or_else so_far) (sym (here op))) in
    read op ∙ ap (λ (l : List Entry). or_else so_far (end_of_op all op before l)) next
    ∙ ap (λ (l : List Entry). or_else so_far (or_else this (or_else abort (end_of_op all op l rest)))) (sym more)
    ∙ sym (or_else_both so_far this (or_else abort later)) ∙ sym (or_else_both (or_else so_far this) abort later) ∙ ap (λ (o : Option Reply). or_else o later) (sym now)
