-- Aborts, as far as the accepted snapshots were read.
use Rattle.std.proofs.Common.{◌≡◌, ℕ, ◌+◌, ◌<◌, ◌≤◌, Bool, true, false, ◌==◌, if◌then◌else◌, List, [], ◌∷◌, ◌++◌, length, take, drop, get_or, Option, Some, None, option_map, is_some, inl, inr, refl, sym, ap, ◌∙◌, subst}
use Rattle.std.proofs.lemmas.Bool.{cases_Bool, eqb-true}
use Rattle.std.proofs.lemmas.List.{take_more, take_all, drop_more}
use Rattle.esr_model.specs.Values.{Bytes}
use Rattle.esr_core.specs.After.{or_else}
use Rattle.esr_core.specs.Entry as entry
use Rattle.esr_core.specs.Entry.{Snapshot, Clone, DeleteSnapshots, Step, AskStep, Accepted, Gave, Entry}
use Rattle.esr_report.specs.declared.reply.Reply.{Reply as CodeReply}
use Rattle.esr_report.specs.declared.tickets.OpEnd.{OpEnd}
use Rattle.esr_report.specs.Replies.{Reply, is_op, name_by, name_of_op, is_over, final_kept, final_step, final_from, final_out, abort_by, abort_of, aborts_at}
use Rattle.esr_report.specs.Code.{reply_of}
use Rattle.esr_report.specs.Ends.{end_in, first_end}
use Rattle.esr_report.specs.Aborts.{asks_delete, accepted_by, if_named, unless_out, final_by}
use Rattle.esr_report.proofs.FirstEnds.{or_else_none, or_else_both}

-- ---- the ticket of the op's finalization

stepped : (op : ℕ) (k : Option ℕ) (e : Entry) (reply : entry.Reply) → final_step op k e reply ≡ final_by op k reply (final_kept k e.who (is_over e.step reply))
stepped op k e (Gave ticket o unit) = refl
stepped op k e reply = refl

-- one entry more was read
pub final_read : (all : List Entry) (op i : ℕ) (k new : Option ℕ) (x : Entry) → i < length all → x ≡ get_or all i x → new ≡ final_by op k x.reply (final_kept k x.who (is_over x.step x.reply))
    → final_out all op ≡ final_from op k (drop i all) → final_out all op ≡ final_from op new (drop (i + 1) all)
final_read all op i k new x less is here read =
    let next : drop i all ≡ x ∷ drop (i + 1) all = drop_more all i x less ∙ ap (λ (z : Entry). z ∷ drop (i + 1) all) (sym is) in
    read ∙ ap (final_from op k) next ∙ ap (λ (o : Option ℕ). final_from op o (drop (i + 1) all)) (stepped op k x x.reply ∙ sym here)

-- ---- one abort

-- no answer on either side
pub either_none : (b : Bool) → ◌≡◌ {A = Option Reply} (if b then None else None) None
either_none true = refl
either_none false = refl

pub unless_none : (k : Option ℕ) → unless_out k None ≡ None
unless_none None = refl
unless_none (Some x) = refl

pub out_none : (k : Option ℕ) (answer : Option Reply) → is_some k ≡ true → unless_out k answer ≡ None
out_none None answer h = absurd cc
out_none (Some x) answer h = refl

pub out_not : (k : Option ℕ) (answer : Option Reply) → is_some k ≡ false → unless_out k answer ≡ answer
out_not None answer h = refl
out_not (Some x) answer h = absurd cc

unless_is : (name : Bytes) (k : Option ℕ) (step : Step) (reply : entry.Reply) → unless_out k (abort_by name step reply) ≡ abort_of (Some name) k step reply
unless_is name None step reply = refl
unless_is name (Some x) step reply = refl

-- no snapshot was accepted as the op
pub unnamed_aborts : (before : List Entry) (op : ℕ) (e : Entry) → name_of_op before op ≡ None → aborts_at before op e ≡ None
unnamed_aborts before op e none = ap (λ (n : Option Bytes). abort_of n (final_out before op) e.step e.reply) none

-- one was, under this name
pub named_aborts : (before : List Entry) (op : ℕ) (e : Entry) (name : Bytes) → name_of_op before op ≡ Some name → unless_out (final_out before op) (abort_by name e.step e.reply) ≡ aborts_at before op e
named_aborts before op e name is =
    unless_is name (final_out before op) e.step e.reply ∙ sym (ap (λ (n : Option Bytes). abort_of n (final_out before op) e.step e.reply) is)

-- ---- an entry that accepts no delete

unasked : (name : Bytes) (step : Step) (reply : entry.Reply) → asks_delete step reply ≡ false → abort_by name step reply ≡ None
unasked name (AskStep (DeleteSnapshots names)) (Accepted d) h = absurd cc
unasked name (AskStep command) (Accepted d) h = refl
unasked name step reply h = refl

unasked_of : (n : Option Bytes) (k : Option ℕ) (step : Step) (reply : entry.Reply) → asks_delete step reply ≡ false → abort_of n k step reply ≡ None
unasked_of (Some name) None step reply h = unasked name step reply h
unasked_of n k step reply h = refl

-- it leaves the answers as they are
pub aborts_nothing : (before : List Entry) (e : Entry) (op : ℕ) (answer : Option Reply) → asks_delete e.step e.reply ≡ false → answer ≡ or_else answer (aborts_at before op e)
aborts_nothing before e op answer h = sym (ap (or_else answer) (unasked_of (name_of_op before op) (final_out before op) e.step e.reply h) ∙ or_else_none answer)

-- ---- one accepted snapshot

if_some : (b : Bool) (name : Bytes) (answer : Option Reply) → if_named (if b then Some name else None) answer ≡ (if b then answer else None)
if_some true name answer = refl
if_some false name answer = refl

-- it is accepted under a name as the op that it is accepted as
named_by : (op : ℕ) (step : Step) (reply : entry.Reply) (answer : Option Reply) → if_named (name_by op step reply) answer ≡ (if is_op op (accepted_by step reply) then answer else None)
named_by op (AskStep (Snapshot name indices moment)) (Accepted o) answer = if_some (o == op) name answer
named_by op (AskStep (Clone source name indices moment (Some taken))) (Accepted o) answer = if_some (o == op) name answer
named_by op step reply answer = refl

named_as : (op : ℕ) (x : Entry) (answer : Option Reply) (o : Option ℕ) → accepted_by x.step x.reply ≡ o → if_named (name_by op x.step x.reply) answer ≡ (if is_op op o then answer else None)
named_as op x answer o is = named_by op x.step x.reply answer ∙ ap (λ (a : Option ℕ). if is_op op a then answer else None) is

-- the entry accepts none
pub aborted_none : (ends : List OpEnd) (before : List Entry) (x e : Entry) (op : ℕ) → accepted_by x.step x.reply ≡ None
    → or_else (first_end ends op) None ≡ or_else (first_end ends op) (if_named (name_by op x.step x.reply) (aborts_at before op e))
aborted_none ends before x e op none = sym (ap (or_else (first_end ends op)) (named_as op x (aborts_at before op e) None none))

or_some : (a b c : Option Reply) → is_some a ≡ true → or_else a b ≡ or_else a c
or_some None b c h = absurd cc
or_some (Some x) b c h = refl

some_map : (r : Option CodeReply) → is_some (option_map reply_of r) ≡ is_some r
some_map None = refl
some_map (Some x) = refl

-- it accepts one that has an end
pub aborted_ended : (ends : List OpEnd) (before : List Entry) (x e : Entry) (o op : ℕ) (reply : Option CodeReply) → accepted_by x.step x.reply ≡ Some o → option_map reply_of reply ≡ first_end ends o → is_some reply ≡ true
    → or_else (first_end ends op) None ≡ or_else (first_end ends op) (if_named (name_by op x.step x.reply) (aborts_at before op e))
aborted_ended ends before x e o op reply is ended some =
    let abort : Option Reply = aborts_at before op e in
    let there : is_some (first_end ends o) ≡ true = sym (ap is_some ended) ∙ some_map reply ∙ some in
    elim (cases_Bool (o == op)) [
      | inl same ↦ or_some (first_end ends op) None (if_named (name_by op x.step x.reply) abort) (subst (λ (n : ℕ). is_some (first_end ends n) ≡ true) (eqb-true o op same) there)
      | inr other ↦ sym (ap (or_else (first_end ends op)) (named_as op x abort (Some o) is ∙ ap (λ (b : Bool). if b then abort else None) other))
    ]

-- it accepts one, which has the end of this answer
pub aborted_now : (ends : List OpEnd) (before : List Entry) (x e : Entry) (o op : ℕ) (end : Option OpEnd) (answer : Option Reply) → accepted_by x.step x.reply ≡ Some o → end_in end op ≡ (if o == op then answer else None)
    → answer ≡ aborts_at before o e → or_else (first_end ends op) (end_in end op) ≡ or_else (first_end ends op) (if_named (name_by op x.step x.reply) (aborts_at before op e))
aborted_now ends before x e o op end answer is ends_so aborts =
    let abort : Option Reply = aborts_at before op e in
    let same : (if o == op then answer else None) ≡ (if o == op then abort else None) = elim (cases_Bool (o == op)) [
      | inl here ↦
          ap (λ (b : Bool). if b then answer else None) here ∙ aborts ∙ ap (λ (n : ℕ). aborts_at before n e) (eqb-true o op here) ∙ sym (ap (λ (b : Bool). if b then abort else None) here)
      | inr other ↦ ap (λ (b : Bool). if b then answer else None) other ∙ sym (ap (λ (b : Bool). if b then abort else None) other)
    ] in
    ap (or_else (first_end ends op)) (ends_so ∙ same ∙ sym (named_as op x abort (Some o) is))

-- ---- one accepted snapshot after another

or_else_same : (a : Option Reply) → or_else a a ≡ a
or_else_same None = refl
or_else_same (Some x) = refl

if_either : (n b : Option Bytes) (answer : Option Reply) → or_else (if_named n answer) (if_named b answer) ≡ if_named (or_else n b) answer
if_either None b answer = refl
if_either (Some m) None answer = or_else_none answer
if_either (Some m) (Some l) answer = or_else_same answer

name_append : (es rest : List Entry) (op : ℕ) → name_of_op (es ++ rest) op ≡ or_else (name_of_op es op) (name_of_op rest op)
name_append [] rest op = refl
name_append (e ∷ es) rest op = ap (or_else (name_by op e.step e.reply)) (name_append es rest op) ∙ sym (or_else_both (name_by op e.step e.reply) (name_of_op es op) (name_of_op rest op))

name_more : (before : List Entry) (i : ℕ) (x : Entry) (op : ℕ) → i < length before → x ≡ get_or before i x → name_of_op (take (i + 1) before) op ≡ or_else (name_of_op (take i before) op) (name_by op x.step x.reply)
name_more before i x op less is =
    let more : take (i + 1) before ≡ take i before ++ x ∷ [] = take_more before i x less ∙ ap (λ (z : Entry). take i before ++ z ∷ []) (sym is) in
    ap (λ (l : List Entry). name_of_op l op) more ∙ name_append (take i before) (x ∷ []) op ∙ ap (or_else (name_of_op (take i before) op)) (or_else_none (name_by op x.step x.reply))

-- none was read
pub aborts_unread : (before : List Entry) (e : Entry) (op : ℕ) (answer : Option Reply) → answer ≡ or_else answer (if_named (name_of_op (take 0 before) op) (aborts_at before op e))
aborts_unread before e op answer = sym (or_else_none answer)

-- one more was read
pub abort_read : (before : List Entry) (e : Entry) (old ends kept new : List OpEnd) (i : ℕ) (x : Entry) (end : Option OpEnd) → i < length before → x ≡ get_or before i x → kept ≡ ends
    → ((op : ℕ) → or_else (first_end kept op) (end_in end op) ≡ or_else (first_end kept op) (if_named (name_by op x.step x.reply) (aborts_at before op e)))
    → ((op : ℕ) → first_end new op ≡ or_else (first_end ends op) (end_in end op))
    → ((op : ℕ) → first_end ends op ≡ or_else (first_end old op) (if_named (name_of_op (take i before) op) (aborts_at before op e)))
    → (op : ℕ) → first_end new op ≡ or_else (first_end old op) (if_named (name_of_op (take (i + 1) before) op) (aborts_at before op e))
abort_read before e old ends kept new i x end less is same here more read op =
    let abort : Option Reply = aborts_at before op e in
    let so_far : Option Bytes = name_of_op (take i before) op in
    let named : Option Bytes = name_by op x.step x.reply in
    let now : or_else (first_end ends op) (end_in end op) ≡ or_else (first_end ends op) (if_named named abort) =
    subst (λ (l : List OpEnd). or_else (first_end l op) (end_in end op) ≡ or_else (first_end l op) (if_named named abort)) same (here op) in
    more op ∙ now ∙ ap (λ (o : Option Reply). or_else o (if_named named abort)) (read op) ∙ or_else_both (first_end old op) (if_named so_far abort) (if_named named abort)
    ∙ ap (or_else (first_end old op)) (if_either so_far named abort ∙ ap (λ (n : Option Bytes). if_named n abort) (sym (name_more before i x op less is)))

if_all : (n : Option Bytes) (k : Option ℕ) (step : Step) (reply : entry.Reply) → if_named n (abort_of n k step reply) ≡ abort_of n k step reply
if_all None k step reply = refl
if_all (Some name) k step reply = refl

-- all were read
pub aborts_read : (before : List Entry) (e : Entry) (old ends : List OpEnd) (i : ℕ) → length before ≤ i
    → ((op : ℕ) → first_end ends op ≡ or_else (first_end old op) (if_named (name_of_op (take i before) op) (aborts_at before op e)))
    → (op : ℕ) → first_end ends op ≡ or_else (first_end old op) (aborts_at before op e)
aborts_read before e old ends i all read op =
    read op ∙ ap (λ (l : List Entry). or_else (first_end old op) (if_named (name_of_op l op) (aborts_at before op e))) (take_all i before all)
    ∙ ap (or_else (first_end old op)) (if_all (name_of_op before op) (final_out before op) e.step e.reply)
