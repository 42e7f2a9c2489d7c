use Rattle.std.proofs.Common.{◌≡◌, ℕ, ◌+◌, ◌<◌, ◌≤◌, Bool, true, false, List, [], ◌∷◌, ◌++◌, length, drop, get_or, sym, ap, ◌∙◌, append_assoc, append-nil}
use Rattle.std.proofs.lemmas.List.{drop_more, drop_all}
use Rattle.esr_core.specs.Entry.{Entry}
use Rattle.esr_script.specs.declared.item.ScriptLine.{ScriptLine}
use Rattle.esr_script.specs.Kinds.{asks_step}
use Rattle.esr_targets.specs.Lines.{asked_entries, op_of_reply, ops_by, ops_at, ops_from, ops_of_lines}
use Rattle.esr_targets.proofs.list.ops_of_lines.Goals as goal

-- the line at a place is the next of those that are left
line_next : (lines : List ScriptLine) (i : ℕ) (line : ScriptLine) (ops : List (ℕ × ℕ)) (es : List Entry) → i < length lines → line ≡ get_or lines i line
    → ops ++ ops_from (drop i lines) es ≡ ops ++ ops_at line es (ops_from (drop (i + 1) lines)) (asks_step line.item)
line_next lines i line ops es less is =
    ap (λ (ls : List ScriptLine). ops ++ ops_from ls es) (drop_more lines i line less ∙ ap (λ (l : ScriptLine). l ∷ drop (i + 1) lines) (sym is))

-- a line that asks for no step
passed : (lines : List ScriptLine) (i : ℕ) (line : ScriptLine) (all ops : List (ℕ × ℕ)) (es : List Entry) → i < length lines → line ≡ get_or lines i line → asks_step line.item ≡ false
    → all ≡ ops ++ ops_from (drop i lines) es → all ≡ ops ++ ops_from (drop (i + 1) lines) es
passed lines i line all ops es less is asks so_far =
    so_far ∙ line_next lines i line ops es less is ∙ ap (λ (b : Bool). ops ++ ops_at line es (ops_from (drop (i + 1) lines)) b) asks

-- a line that asks for one, and the entries that are left for it
asking : (lines : List ScriptLine) (i : ℕ) (line : ScriptLine) (all ops : List (ℕ × ℕ)) (es : List Entry) → i < length lines → line ≡ get_or lines i line → asks_step line.item ≡ true
    → all ≡ ops ++ ops_from (drop i lines) es → all ≡ ops ++ ops_by line.number es (ops_from (drop (i + 1) lines))
asking lines i line all ops es less is asks so_far =
    so_far ∙ line_next lines i line ops es less is ∙ ap (λ (b : Bool). ops ++ ops_at line es (ops_from (drop (i + 1) lines)) b) asks

-- it has the first of them
told : (lines : List ScriptLine) (i : ℕ) (line : ScriptLine) (all ops next : List (ℕ × ℕ)) (es more : List Entry) (e : Entry) → i < length lines → line ≡ get_or lines i line → asks_step line.item ≡ true
    → es ≡ e ∷ more → next ≡ ops ++ op_of_reply line.number e.reply → all ≡ ops ++ ops_from (drop i lines) es → all ≡ next ++ ops_from (drop (i + 1) lines) more
told lines i line all ops next es more e less is asks first pushed so_far =
    let rest = drop (i + 1) lines in
    asking lines i line all ops es less is asks so_far ∙ ap (λ (l : List Entry). ops ++ ops_by line.number l (ops_from rest)) first
    ∙ sym (append_assoc ops (op_of_reply line.number e.reply) (ops_from rest more)) ∙ ap (λ (l : List (ℕ × ℕ)). l ++ ops_from rest more) (sym pushed)

-- there is none
untold : (lines : List ScriptLine) (i : ℕ) (line : ScriptLine) (all ops : List (ℕ × ℕ)) (es : List Entry) → i < length lines → line ≡ get_or lines i line → asks_step line.item ≡ true → es ≡ []
    → all ≡ ops ++ ops_from (drop i lines) es → ops ≡ all
untold lines i line all ops es less is asks none so_far =
    sym (asking lines i line all ops es less is asks so_far ∙ ap (λ (l : List Entry). ops ++ ops_by line.number l (ops_from (drop (i + 1) lines))) none ∙ append-nil ops)

-- no line is left
over : (lines : List ScriptLine) (i : ℕ) (all ops : List (ℕ × ℕ)) (es : List Entry) → length lines ≤ i → all ≡ ops ++ ops_from (drop i lines) es → ops ≡ all
over lines i all ops es past so_far = sym (so_far ∙ ap (λ (ls : List ScriptLine). ops ++ ops_from ls es) (drop_all i lines past) ∙ append-nil ops)

pub loop-line-preserved-then-not-asks_step : goal.loop-line-preserved-then-not-asks_step
loop-line-preserved-then-not-asks_step c =
    passed c.args.lines.now c.loop-line.line-index c.line-item.result (ops_of_lines c.args.lines.now c.args.history.now) c.loop-line.ops.items (asked_entries c.loop-line.rest.now) c.loop-line-test.true c.line-item.is
    (sym c.asks_step.ensures ∙ c.if-not-asks_step.true) c.loop-line.invariant

pub loop-line-preserved : goal.loop-line-preserved
loop-line-preserved c =
    told c.args.lines.now c.loop-line.line-index c.line-item.result (ops_of_lines c.args.lines.now c.args.history.now) c.loop-line.ops.items c.push_op.new.ops.items (asked_entries c.loop-line.rest.now) (asked_entries c.in-Some.more.now)
    c.in-Some.entry.now c.loop-line-test.true c.line-item.is (sym c.asks_step.ensures ∙ c.if-not-asks_step.false) c.in-Some.ensures c.in_ok-push_op.ensures c.loop-line.invariant

pub returns-in_default : goal.returns-in_default
returns-in_default c =
    untold c.args.lines.now c.loop-line.line-index c.line-item.result (ops_of_lines c.args.lines.now c.args.history.now) c.loop-line.ops.items (asked_entries c.loop-line.rest.now) c.loop-line-test.true c.line-item.is
    (sym c.asks_step.ensures ∙ c.if-not-asks_step.false) c.in_default.ensures c.loop-line.invariant

pub returns : goal.returns
returns c = over c.args.lines.now c.loop-line.line-index (ops_of_lines c.args.lines.now c.args.history.now) c.loop-line.ops.items (asked_entries c.loop-line.rest.now) c.loop-line-test.false c.loop-line.invariant
