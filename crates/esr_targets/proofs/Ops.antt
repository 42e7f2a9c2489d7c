-- The ops of lines, by the entries that were asked.
use Rattle.std.proofs.Common.{◌≡◌, ◌⊎◌, ℕ, ◌<◌, Bool, true, false, if◌then◌else◌, List, [], ◌∷◌, ◌++◌, Some, map, append_assoc, refl, sym, ap, ◌∙◌, inl, inr, arith}
use Rattle.std.proofs.lemmas.Bool.Decides.{eqb_tells}
use Rattle.std.proofs.lemmas.Option.{none-some, same_Some}
use Rattle.esr_model.specs.Values.{Has, IndexRef}
use Rattle.esr_core.specs.Entry.{Step, Reply, AcceptedRestore, Entry}
use Rattle.esr_model.specs.Lists.{Has-either}
use Rattle.esr_script.specs.declared.item.ScriptLine.{ScriptLine}
use Rattle.esr_quiet.specs.Asked.{as_asked}
use Rattle.esr_script.specs.Kinds.{asks_step}
use Rattle.esr_complete.specs.Lines.{steps_of_item, steps_of}
use Rattle.esr_complete.specs.ItemSteps.{one_step, no_step}
use Rattle.esr_targets.specs.Lines.{AreNumbered, op_of_reply, ops_by, ops_at, ops_from}
use Rattle.esr_targets.specs.Listed.{line_of}
use Rattle.esr_targets.proofs.Splits.{heads, nothing_first}

abbrev pub steps_by : List Entry → List Step
steps_by es = map (λ (e : Entry). as_asked e.step) es

-- ---- the line of an op

pub line_has : (ops : List (ℕ × ℕ)) (op n : ℕ) → line_of ops op ≡ Some n → Has ops (op, n)
line_has [] op n e = absurd (none-some n e)
line_has (p ∷ ops) op n e = elim (eqb_tells p.0 op) [
  | inl t ↦
      let number : p.1 ≡ n = same_Some p.1 n (sym (ap (λ (b : Bool). if b then Some p.1 else line_of ops op) t.0) ∙ e) in
      let op_is : p.0 ≡ op = t.1 in
      inl (ap (λ (o : ℕ). (o, p.1)) op_is ∙ ap (λ (m : ℕ). (op, m)) number)
  | inr t ↦ inr (line_has ops op n (sym (ap (λ (b : Bool). if b then Some p.1 else line_of ops op) t.0) ∙ e))
]

pub line_after : (xs ys : List (ℕ × ℕ)) (op : ℕ) → ((p : ℕ × ℕ) → Has xs p → p.0 ≡ op → ⊥) → line_of (xs ++ ys) op ≡ line_of ys op
line_after [] ys op none = refl
line_after (p ∷ xs) ys op none = elim (eqb_tells p.0 op) [
  | inl t ↦ absurd (none p (inl refl) t.1)
  | inr t ↦ ap (λ (b : Bool). if b then Some p.1 else line_of (xs ++ ys) op) t.0 ∙ line_after xs ys op (λ q m. none q (inr m))
]

pub line_first : (op n : ℕ) (ops : List (ℕ × ℕ)) → line_of ((op, n) ∷ ops) op ≡ Some n
line_first op n ops = elim (eqb_tells op op) [ inl t ↦ ap (λ (b : Bool). if b then Some n else line_of ops op) t.0 | inr t ↦ absurd (t.1 refl) ]

-- ---- from an op to its line

pub record LineAt (moment : ℕ) (lines : List ScriptLine) (es : List Entry) (op number : ℕ) : Type 0 where
  pub earlier : List ScriptLine
  pub line : ScriptLine
  pub later : List ScriptLine
  pub lines_are : lines ≡ earlier ++ line ∷ later
  pub before : List Entry
  pub e : Entry
  pub after : List Entry
  pub es_is : es ≡ before ++ e ∷ after
  pub steps : steps_by before ≡ steps_of moment earlier
  pub step : steps_of_item moment line.item ≡ as_asked e.step ∷ []
  pub uuid : ℕ
  pub indices : List IndexRef
  pub reply : e.reply ≡ AcceptedRestore op uuid indices
  pub number_is : line.number ≡ number

-- what the reply of a line says of the op
pub record RepliesIt (reply : Reply) (op number n : ℕ) : Type 0 where
  pub uuid : ℕ
  pub indices : List IndexRef
  pub reply_is : reply ≡ AcceptedRestore op uuid indices
  pub number_is : n ≡ number

in_reply : (reply : Reply) (n : ℕ) (ops : List (ℕ × ℕ)) (op number : ℕ) → line_of (op_of_reply n reply ++ ops) op ≡ Some number → RepliesIt reply op number n ⊎ (line_of ops op ≡ Some number)
in_reply (AcceptedRestore o uuid indices) n ops op number e = elim (eqb_tells o op) [
  | inl t ↦
      inl (record {
        uuid = uuid;
        indices = indices;
        reply_is = let op_is : o ≡ op = t.1 in ap (λ (x : ℕ). AcceptedRestore x uuid indices) op_is;
        number_is = same_Some n number (sym (ap (λ (b : Bool). if b then Some n else line_of ops op) t.0) ∙ e);
      })
  | inr t ↦ inr (sym (ap (λ (b : Bool). if b then Some n else line_of ops op) t.0) ∙ e)
]
in_reply reply n ops op number e = inr e

module _ (moment : ℕ) (line : ScriptLine) (lines : List ScriptLine) (op number : ℕ) where
  -- a line that asks for nothing
  skip : (es : List Entry) → steps_of_item moment line.item ≡ [] → LineAt moment lines es op number → LineAt moment (line ∷ lines) es op number
  skip es none r =
      record {
        earlier = line ∷ r.earlier;
        line = r.line;
        later = r.later;
        lines_are = ap (λ (l : List ScriptLine). line ∷ l) r.lines_are;
        before = r.before;
        e = r.e;
        after = r.after;
        es_is = r.es_is;
        steps = r.steps ∙ ap (λ (l : List Step). l ++ steps_of moment r.earlier) (sym none);
        step = r.step;
        uuid = r.uuid;
        indices = r.indices;
        reply = r.reply;
        number_is = r.number_is;
      }

  -- one that asks
  ask : (st : Step) (es : List Entry) (rest : List Step) → steps_of_item moment line.item ≡ st ∷ [] → steps_by es ++ rest ≡ st ∷ steps_of moment lines → line_of (ops_by line.number es (ops_from lines)) op ≡ Some number
      → ((fs : List Entry) → steps_by fs ++ rest ≡ steps_of moment lines → line_of (ops_from lines fs) op ≡ Some number → LineAt moment lines fs op number) → LineAt moment (line ∷ lines) es op number
  ask st [] rest one same found on = absurd (none-some number found)
  ask st (e ∷ es) rest one same found on =
      let h = heads (as_asked e.step) st (steps_by es ++ rest) (steps_of moment lines) same in
      let step : steps_of_item moment line.item ≡ as_asked e.step ∷ [] = one ∙ ap (λ (x : Step). x ∷ []) (sym h.0) in
      elim (in_reply e.reply line.number (ops_from lines es) op number found) [
        | inl here ↦
            record {
              earlier = [];
              line = line;
              later = lines;
              lines_are = refl;
              before = [];
              e = e;
              after = es;
              es_is = refl;
              steps = refl;
              step = step;
              uuid = here.uuid;
              indices = here.indices;
              reply = here.reply_is;
              number_is = here.number_is;
            }
        | inr later ↦
            let r = on es h.1 later in
            record {
              earlier = line ∷ r.earlier;
              line = r.line;
              later = r.later;
              lines_are = ap (λ (l : List ScriptLine). line ∷ l) r.lines_are;
              before = e ∷ r.before;
              e = r.e;
              after = r.after;
              es_is = ap (λ (l : List Entry). e ∷ l) r.es_is;
              steps = ap (λ (l : List Step). as_asked e.step ∷ l) r.steps ∙ ap (λ (l : List Step). l ++ steps_of moment r.earlier) (sym step);
              step = r.step;
              uuid = r.uuid;
              indices = r.indices;
              reply = r.reply;
              number_is = r.number_is;
            }
      ]

  by_item : (es : List Entry) (rest : List Step) (asks : Bool) → asks_step line.item ≡ asks → steps_by es ++ rest ≡ steps_of_item moment line.item ++ steps_of moment lines → line_of (ops_at line es (ops_from lines) asks) op ≡ Some number
      → ((fs : List Entry) → steps_by fs ++ rest ≡ steps_of moment lines → line_of (ops_from lines fs) op ≡ Some number → LineAt moment lines fs op number) → LineAt moment (line ∷ lines) es op number
  by_item es rest true asks same found on = let (step, is) = one_step moment line.item asks in ask step es rest is (same ∙ ap (λ (l : List Step). l ++ steps_of moment lines) is) found on
  by_item es rest false asks same found on = let none = no_step moment line.item asks in skip es none (on es (same ∙ ap (λ (l : List Step). l ++ steps_of moment lines) none) found)

pub line_at : (moment : ℕ) (lines : List ScriptLine) (es : List Entry) (rest : List Step) (op number : ℕ) → steps_by es ++ rest ≡ steps_of moment lines → line_of (ops_from lines es) op ≡ Some number → LineAt moment lines es op number
line_at moment [] es rest op number same found = absurd (none-some number found)
line_at moment (line ∷ lines) es rest op number same found = by_item moment line lines op number es rest (asks_step line.item) refl same found (λ fs s f. line_at moment lines fs rest op number s f)

-- ---- the ops of two stretches

module _ (moment : ℕ) (line : ScriptLine) (earlier lines : List ScriptLine) (fs : List Entry)
    (on : (es : List Entry) → steps_by es ≡ steps_of moment earlier → ops_from (earlier ++ lines) (es ++ fs) ≡ ops_from earlier es ++ ops_from lines fs) where
  both_asked : (st : Step) (es : List Entry) → steps_by es ≡ st ∷ steps_of moment earlier → ops_by line.number (es ++ fs) (ops_from (earlier ++ lines)) ≡ ops_by line.number es (ops_from earlier) ++ ops_from lines fs
  both_asked st [] same = absurd (nothing_first st (steps_of moment earlier) same)
  both_asked st (e ∷ es) same =
      ap (λ (l : List (ℕ × ℕ)). op_of_reply line.number e.reply ++ l) (on es (heads (as_asked e.step) st (steps_by es) (steps_of moment earlier) same).1)
      ∙ sym (append_assoc (op_of_reply line.number e.reply) (ops_from earlier es) (ops_from lines fs))

  both_by : (es : List Entry) (asks : Bool) → asks_step line.item ≡ asks → steps_by es ≡ steps_of_item moment line.item ++ steps_of moment earlier
      → ops_at line (es ++ fs) (ops_from (earlier ++ lines)) asks ≡ ops_at line es (ops_from earlier) asks ++ ops_from lines fs
  both_by es true asks same = let (step, is) = one_step moment line.item asks in both_asked step es (same ∙ ap (λ (l : List Step). l ++ steps_of moment earlier) is)
  both_by es false asks same = on es (same ∙ ap (λ (l : List Step). l ++ steps_of moment earlier) (no_step moment line.item asks))

none_asked : (es fs : List Entry) (lines : List ScriptLine) → steps_by es ≡ [] → ops_from lines (es ++ fs) ≡ ops_from lines fs
none_asked [] fs lines same = refl
none_asked (e ∷ es) fs lines same = absurd (nothing_first (as_asked e.step) (steps_by es) (sym same))

pub ops_both : (moment : ℕ) (earlier lines : List ScriptLine) (es fs : List Entry) → steps_by es ≡ steps_of moment earlier → ops_from (earlier ++ lines) (es ++ fs) ≡ ops_from earlier es ++ ops_from lines fs
ops_both moment [] lines es fs same = none_asked es fs lines same
ops_both moment (line ∷ earlier) lines es fs same = both_by moment line earlier lines fs (λ gs s. ops_both moment earlier lines gs fs s) es (asks_step line.item) refl same

-- ---- each op was accepted at a line

pub record OpAt (lines : List ScriptLine) (es : List Entry) (p : ℕ × ℕ) : Type 0 where
  pub e : Entry
  pub there : Has es e
  pub uuid : ℕ
  pub indices : List IndexRef
  pub reply : e.reply ≡ AcceptedRestore p.0 uuid indices
  pub line : ScriptLine
  pub line_there : Has lines line
  pub number_is : line.number ≡ p.1

pub record RepliesOp (reply : Reply) (n : ℕ) (p : ℕ × ℕ) : Type 0 where
  pub uuid : ℕ
  pub indices : List IndexRef
  pub reply_is : reply ≡ AcceptedRestore p.0 uuid indices
  pub number_is : n ≡ p.1

of_reply : (reply : Reply) (n : ℕ) (p : ℕ × ℕ) → Has (op_of_reply n reply) p → RepliesOp reply n p
of_reply (AcceptedRestore op uuid indices) n p (inl e) =
    record { uuid = uuid; indices = indices; reply_is = ap (λ (x : ℕ × ℕ). AcceptedRestore x.0 uuid indices) e; number_is = ap (λ (x : ℕ × ℕ). x.1) e }
of_reply (AcceptedRestore op uuid indices) n p (inr h) = absurd h
of_reply reply n p h = absurd h

module _ (line : ScriptLine) (lines : List ScriptLine) (p : ℕ × ℕ) where
  op_later : (es : List Entry) (e : Entry) → OpAt lines es p → OpAt (line ∷ lines) (e ∷ es) p
  op_later es e r = record { e = r.e; there = inr r.there; uuid = r.uuid; indices = r.indices; reply = r.reply; line = r.line; line_there = inr r.line_there; number_is = r.number_is }

  op_asked : (es : List Entry) → Has (ops_by line.number es (ops_from lines)) p → ((fs : List Entry) → Has (ops_from lines fs) p → OpAt lines fs p) → OpAt (line ∷ lines) es p
  op_asked [] h on = absurd h
  op_asked (e ∷ es) h on = elim (Has-either (op_of_reply line.number e.reply) (ops_from lines es) p h) [
    | inl here ↦
        let r = of_reply e.reply line.number p here in
        record { e = e; there = inl refl; uuid = r.uuid; indices = r.indices; reply = r.reply_is; line = line; line_there = inl refl; number_is = r.number_is }
    | inr later ↦ op_later es e (on es later)
  ]

  op_skip : (es : List Entry) → OpAt lines es p → OpAt (line ∷ lines) es p
  op_skip es r = record { e = r.e; there = r.there; uuid = r.uuid; indices = r.indices; reply = r.reply; line = r.line; line_there = inr r.line_there; number_is = r.number_is }

  op_by_item : (es : List Entry) (asks : Bool) → Has (ops_at line es (ops_from lines) asks) p → ((fs : List Entry) → Has (ops_from lines fs) p → OpAt lines fs p) → OpAt (line ∷ lines) es p
  op_by_item es true h on = op_asked es h on
  op_by_item es false h on = op_skip es (on es h)

pub op_at : (lines : List ScriptLine) (es : List Entry) (p : ℕ × ℕ) → Has (ops_from lines es) p → OpAt lines es p
op_at [] es p h = absurd h
op_at (line ∷ lines) es p h = op_by_item line lines p es (asks_step line.item) h (λ fs m. op_at lines fs p m)

-- ---- a line has one op at most

one_reply : (reply : Reply) (n : ℕ) (p q : ℕ × ℕ) → Has (op_of_reply n reply) p → Has (op_of_reply n reply) q → p ≡ q
one_reply (AcceptedRestore op uuid indices) n p q (inl a) (inl b) = sym a ∙ b
one_reply (AcceptedRestore op uuid indices) n p q (inl a) (inr h) = absurd h
one_reply (AcceptedRestore op uuid indices) n p q (inr h) b = absurd h
one_reply reply n p q h b = absurd h

module _ (line : ScriptLine) (lines : List ScriptLine) (first : (later : ScriptLine) → Has lines later → line.number < later.number) (o p n : ℕ) where
  -- the number of a line is that of no later one
  not_later : (es fs : List Entry) (reply : Reply) (q : ℕ) → Has (op_of_reply line.number reply) (q, n) → (r : ℕ) → Has (ops_from lines fs) (r, n) → ⊥
  not_later es fs reply q here r later =
      let at = op_at lines fs (r, n) later in
      let below : line.number < at.line.number = first at.line at.line_there in
      let mine : line.number ≡ n = (of_reply reply line.number (q, n) here).number_is in
      let other : at.line.number ≡ n = at.number_is in
      omega (arith, below, mine, other)

  one_asked : (es : List Entry) → Has (ops_by line.number es (ops_from lines)) (o, n) → Has (ops_by line.number es (ops_from lines)) (p, n) → ((fs : List Entry) → Has (ops_from lines fs) (o, n) → Has (ops_from lines fs) (p, n) → o ≡ p)
      → o ≡ p
  one_asked [] a b on = absurd a
  one_asked (e ∷ es) a b on = elim (Has-either (op_of_reply line.number e.reply) (ops_from lines es) (o, n) a) [
    | inl here ↦ elim (Has-either (op_of_reply line.number e.reply) (ops_from lines es) (p, n) b) [
      | inl both ↦ ap (λ (x : ℕ × ℕ). x.0) (one_reply e.reply line.number (o, n) (p, n) here both)
      | inr later ↦ absurd (not_later es es e.reply o here p later)
    ]
    | inr there ↦ elim (Has-either (op_of_reply line.number e.reply) (ops_from lines es) (p, n) b) [
      | inl here ↦ absurd (not_later es es e.reply p here o there)
      | inr later ↦ on es there later
    ]
  ]

  one_by_item : (es : List Entry) (asks : Bool) → Has (ops_at line es (ops_from lines) asks) (o, n) → Has (ops_at line es (ops_from lines) asks) (p, n)
      → ((fs : List Entry) → Has (ops_from lines fs) (o, n) → Has (ops_from lines fs) (p, n) → o ≡ p) → o ≡ p
  one_by_item es true a b on = one_asked es a b on
  one_by_item es false a b on = on es a b

pub one_op : (lines : List ScriptLine) (es : List Entry) (o p n : ℕ) → AreNumbered lines → Has (ops_from lines es) (o, n) → Has (ops_from lines es) (p, n) → o ≡ p
one_op [] es o p n numbered a b = absurd a
one_op (line ∷ lines) es o p n numbered a b = one_by_item line lines numbered.0 o p n es (asks_step line.item) a b (λ fs x y. one_op lines fs o p n numbered.1 x y)
