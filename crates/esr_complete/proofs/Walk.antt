-- The replies along the lines.
use Rattle.std.proofs.Common.{◌≡◌, ℕ, suc, ◌+◌, ◌-◌, Bool, true, false, not, ◌==◌, ◌&&◌, ◌||◌, if◌then◌else◌, List, [], ◌∷◌, ◌++◌, append_assoc, length, length-append, take, Option, Some, None, map, option_map, refl, sym, ap, ◌∙◌, subst, inl, inr, arith}
use Rattle.std.proofs.lemmas.Bool.{cases_Bool, cond-true, cond-false}
use Rattle.esr_model.specs.Values.{Bytes, Has}
use Rattle.esr_core.specs.Entry as entry
use Rattle.esr_core.specs.Entry.{Asked, CloneOf, Clone, DeleteSnapshots, AsksNoClone, Restore, Cleanup, CheckedAll, DrawTest, VerifiedAll, Step, AskStep, LookStep, ReadStep, CleanupRunning, Entry, Moment}
use Rattle.esr_script.specs.declared.item.Item.{Item}
use Rattle.esr_script.specs.declared.item.Item.TheVariants as items
use Rattle.esr_script.specs.declared.item.ScriptLine.{ScriptLine}
use Rattle.esr_script.specs.Kinds.{is_check, is_failover, is_wait}
use Rattle.esr_report.specs.Replies.{Reply, fails_swap, answer_at, is_of_line, from_line, falls_before, before_election, falls_first, is_looked, is_look_answered, look_reply, past_look, from_item, check_answer, line_answer, line_reply, is_short, has_none, is_cut, wait_answer, has_fallen, is_election, election_reply, failover_reply, from_election, past_first, and_those, and_more, replies_from, replies}
use Rattle.esr_quiet.specs.Asked.{is_line_ask, is_asked, as_asked, asked_steps}
use Rattle.esr_complete.specs.Lines.{index_of_line, command_of_line, steps_of_item, steps_of, failovers_in, failovers_of, entries_of, elections_of}
use Rattle.esr_complete.specs.Answers.{IsAnswer, AreAnsweredIn, AreAnswered}
use Rattle.esr_complete.proofs.InTurn.{lines_cleanup, IsNoRead, Idle, InVerification, InCheck, kinds_of_item, kinds_of, InTurn, IsLine, IsDraw, IsEnd, IsLook, IsCheckEnd, IsAside}
use Rattle.esr_complete.proofs.Histories.{heads}
use Rattle.esr_complete.proofs.Facts.{IsAnswerOf, IsCleaningIn, IsAskedIn, Fact}

-- ---- what was asked, by the entries

abbrev steps_asked : List Entry → List Step
steps_asked [] = []
steps_asked (e ∷ es) = if is_asked e then as_asked e.step ∷ steps_asked es else steps_asked es

asked_same : (log : List Moment) → steps_asked (entries_of log) ≡ asked_steps log
asked_same [] = refl
asked_same (m ∷ log) = ap (λ (l : List Step). if is_asked m.entry then as_asked m.entry.step ∷ l else l) (asked_same log)

behind : (step : Step) (x : Step) (steps : List Step) (b : Bool) → Has steps step → Has (if b then x ∷ steps else steps) step
behind step x steps true h = inr h
behind step x steps false h = h

asked_there : (es : List Entry) (x : Entry) → Has es x → is_asked x ≡ true → Has (steps_asked es) (as_asked x.step)
asked_there [] x h asked = absurd h
asked_there (y ∷ es) x (inl same) asked =
    subst (λ (l : List Step). Has l (as_asked x.step)) (sym (ap (λ (b : Bool). if b then as_asked y.step ∷ steps_asked es else steps_asked es) (ap is_asked same ∙ asked))) (inl (ap (λ (z : Entry). as_asked z.step) same))
asked_there (y ∷ es) x (inr h) asked = behind (as_asked x.step) (as_asked y.step) (steps_asked es) (is_asked y) (asked_there es x h asked)

asked_one : (step : Step) (a b both : List Step) (t : Bool) → both ≡ a ++ b → (if t then step ∷ both else both) ≡ (if t then step ∷ a else a) ++ b
asked_one step a b both true rest = ap (λ (l : List Step). step ∷ l) rest
asked_one step a b both false rest = rest

asked_both : (a b : List Entry) → steps_asked (a ++ b) ≡ steps_asked a ++ steps_asked b
asked_both [] b = refl
asked_both (x ∷ a) b = asked_one (as_asked x.step) (steps_asked a) (steps_asked b) (steps_asked (a ++ b)) (is_asked x) (asked_both a b)

lines_both : (moment : ℕ) (a b : List ScriptLine) → steps_of moment (a ++ b) ≡ steps_of moment a ++ steps_of moment b
lines_both moment [] b = refl
lines_both moment (line ∷ a) b = ap (λ (l : List Step). steps_of_item moment line.item ++ l) (lines_both moment a b) ∙ sym (append_assoc (steps_of_item moment line.item) (steps_of moment a) (steps_of moment b))

one_step : (a b : Step) (xs ys : List Step) → a ∷ xs ≡ b ∷ ys → (a ≡ b) × (xs ≡ ys)
one_step a b xs ys e = (cc, cc)

longer : (x : Step) (a c : List Step) → c ≡ (x ∷ a) ++ c → ⊥
longer x a c e = by (length a) (length c) (ap (λ (l : List Step). length l) e ∙ length-append (x ∷ a) c)
  where
    by : (m n : ℕ) → n ≡ suc m + n → ⊥
    by m n h = omega (arith, h)

-- lists that are the same with the same end are the same before it
cut : (a b c : List Step) → a ++ c ≡ b ++ c → a ≡ b
cut [] [] c e = refl
cut [] (y ∷ b) c e = absurd (longer y b c e)
cut (x ∷ a) [] c e = absurd (longer x a c (sym e))
cut (x ∷ a) (y ∷ b) c e = let both = one_step x y (a ++ c) (b ++ c) e in λ i. both.0 i ∷ cut a b c both.1 i

-- ---- the place of what is left

-- these entries are the last of all
abbrev IsRest : List Entry → List Entry → Type 0
IsRest all rest = (done : List Entry) × (all ≡ done ++ rest)

rest_at : (all rest front : List Entry) (e : Entry) (es : List Entry) → IsRest all rest → rest ≡ front ++ e ∷ es → IsRest all (e ∷ es)
rest_at all rest front e es (done, is) split = (done ++ front, is ∙ ap (λ (l : List Entry). done ++ l) split ∙ sym (append_assoc done front (e ∷ es)))

rest_then : (all : List Entry) (e : Entry) (es : List Entry) → IsRest all (e ∷ es) → IsRest all es
rest_then all e es (done, is) = (done ++ e ∷ [], is ∙ sym (append_assoc done (e ∷ []) es))

-- a step that is no clone's is asked for as it is
asked_as : (x step : Step) → AsksNoClone step → as_asked x ≡ step → x ≡ step
asked_as (AskStep (Clone source name indices moment taken)) step plain e = absurd (plain source name indices moment None (sym e))
asked_as x step plain e = e

-- the entry asks for this clone, and tells what it takes
abbrev AsksClone : Bytes → Bytes → List Bytes → ℕ → Entry → Type 0
AsksClone source name indices moment e = (taken : Option CloneOf) × (e.step ≡ AskStep (Clone source name indices moment taken))

asked_clone : (source name : Bytes) (indices : List Bytes) (moment : ℕ) (x : Step) → as_asked x ≡ AskStep (Clone source name indices moment None) → (taken : Option CloneOf) × (x ≡ AskStep (Clone source name indices moment taken))
asked_clone source name indices moment (AskStep (Clone of called names time taken)) e = let same : AskStep (Clone of called names time None) ≡ AskStep (Clone source name indices moment None) = e in (taken, cc)
asked_clone source name indices moment x e = (None, e)

module _ (script : List ScriptLine) where
  -- ---- the next entry of a line

  -- what the line is answered by, with what comes after it
  pub record Next (all rest : List Entry) (P : Entry → Type 0) (more here : List Step) (kinds : List Bool) : Type 0 where
    pub e : Entry
    pub es : List Entry
    pub is : from_line rest ≡ e ∷ es
    pub front : List Entry
    pub split : rest ≡ front ++ e ∷ es
    pub here_is : steps_asked (e ∷ es) ≡ here
    pub own : P e
    pub more_is : steps_asked es ≡ more
    pub turn : InTurn Idle kinds es
    pub fact : Fact script all e
    pub facts : (x : Entry) → Has es x → Fact script all x

  -- it is this one
  next_is : (all : List Entry) (P : Entry → Type 0) (more here : List Step) (kinds : List Bool) (x : Entry) (es : List Entry) → ((y : Entry) → Has (x ∷ es) y → Fact script all y) → is_of_line x ≡ true → P x
      → steps_asked es ≡ more → steps_asked (x ∷ es) ≡ here → InTurn Idle kinds es → Next all (x ∷ es) P more here kinds
  next_is all P more here kinds x es facts line own same all_same turn =
      record {
        e = x;
        es = es;
        is = ap (λ (b : Bool). if b then x ∷ es else from_line es) line;
        front = [];
        split = refl;
        here_is = all_same;
        own = own;
        more_is = same;
        turn = turn;
        fact = facts x (inl refl);
        facts = λ y has. facts y (inr has);
      }

  -- or it comes later
  next_later : (all : List Entry) (P : Entry → Type 0) (more here : List Step) (kinds : List Bool) (x : Entry) (es : List Entry) → is_of_line x ≡ false → Next all es P more here kinds → Next all (x ∷ es) P more here kinds
  next_later all P more here kinds x es line n =
      record {
        e = n.e;
        es = n.es;
        is = ap (λ (b : Bool). if b then x ∷ es else from_line es) line ∙ n.is;
        front = x ∷ n.front;
        split = ap (λ (l : List Entry). x ∷ l) n.split;
        here_is = n.here_is;
        own = n.own;
        more_is = n.more_is;
        turn = n.turn;
        fact = n.fact;
        facts = n.facts;
      }

  -- what is asked for by an entry, and what isn't
  asked_first : (x : Entry) (es : List Entry) (step : Step) (more : List Step) → is_asked x ≡ true → steps_asked (x ∷ es) ≡ step ∷ more → (as_asked x.step ≡ step) × (steps_asked es ≡ more)
  asked_first x es step more asked e = heads (as_asked x.step) step (steps_asked es) more (sym (ap (λ (b : Bool). if b then as_asked x.step ∷ steps_asked es else steps_asked es) asked) ∙ e)

  asked_later : (x : Entry) (es : List Entry) (steps : List Step) → is_asked x ≡ false → steps_asked (x ∷ es) ≡ steps → steps_asked es ≡ steps
  asked_later x es steps asked e = sym (ap (λ (b : Bool). if b then as_asked x.step ∷ steps_asked es else steps_asked es) asked) ∙ e

  ask_no_read : (command : Asked) → IsNoRead (AskStep command)
  ask_no_read command read e = cc

  look_no_read : IsNoRead LookStep
  look_no_read read e = cc

  -- a line that asks for a step which reads nothing is answered by it
  next_line : (all : List Entry) (P : Entry → Type 0) (step : Step) (more : List Step) (kinds : List Bool) (rest : List Entry) → ((x : Entry) → Has rest x → Fact script all x) → IsNoRead step
      → ((x : Entry) → as_asked x.step ≡ step → P x) → InTurn Idle (false ∷ kinds) rest → steps_asked rest ≡ step ∷ more
      → Next all rest P more (step ∷ more) kinds
  next_line all P step more kinds rest facts aside own_is (IsLine own x es asked line read turn) e =
      let both = asked_first x es step more asked e in
      next_is all P more (step ∷ more) kinds x es facts line (own_is x both.0) both.1 e turn
  next_line all P step more kinds rest facts aside own_is (IsDraw own x es asked line draw turn) e = absurd (aside DrawTest (sym (asked_first x es step more asked e).0 ∙ ap as_asked draw))
  next_line all P step more kinds rest facts aside own_is (IsAside now own x es asked line turn) e =
      next_later all P more (step ∷ more) kinds x es line (next_line all P step more kinds es (λ y has. facts y (inr has)) aside own_is turn (asked_later x es (step ∷ more) asked e))

  -- by this step, where it is no clone's
  next_same : (all : List Entry) (step : Step) (more : List Step) (kinds : List Bool) (rest : List Entry) → ((x : Entry) → Has rest x → Fact script all x) → IsNoRead step → AsksNoClone step → InTurn Idle (false ∷ kinds) rest
      → steps_asked rest ≡ step ∷ more → Next all rest (λ e. e.step ≡ step) more (step ∷ more) kinds
  next_same all step more kinds rest facts aside plain turn e = next_line all (λ y. y.step ≡ step) step more kinds rest facts aside (λ x same. asked_as x.step step plain same) turn e

  -- a verification has ended well
  abbrev IsVerified : Entry → Type 0
  IsVerified e = (e.step ≡ ReadStep VerifiedAll) × (e.reply ≡ entry.HasEnded)

  -- one that is open is answered by its end
  next_end : (all : List Entry) (more : List Step) (kinds : List Bool) (rest : List Entry) → ((x : Entry) → Has rest x → Fact script all x) → InTurn InVerification kinds rest → steps_asked rest ≡ more
      → Next all rest IsVerified more more kinds
  next_end all more kinds rest facts (IsEnd own x es asked line step reply turn) e = next_is all IsVerified more more kinds x es facts line (step, reply) (asked_later x es more asked e) e turn
  next_end all more kinds rest facts (IsAside now own x es asked line turn) e = next_later all IsVerified more more kinds x es line (next_end all more kinds es (λ y has. facts y (inr has)) turn (asked_later x es more asked e))

  -- so is the line that asks for its draw
  next_verified : (all : List Entry) (more : List Step) (kinds : List Bool) (rest : List Entry) → ((x : Entry) → Has rest x → Fact script all x) → InTurn Idle (false ∷ kinds) rest → steps_asked rest ≡ ReadStep DrawTest ∷ more
      → Next all rest IsVerified more more kinds
  next_verified all more kinds rest facts (IsLine own x es asked line read turn) e = absurd (read DrawTest (asked_as x.step (ReadStep DrawTest) (λ source name names when taken same. cc) (asked_first x es (ReadStep DrawTest) more asked e).0))
  next_verified all more kinds rest facts (IsDraw own x es asked line draw turn) e =
      next_later all IsVerified more more kinds x es line (next_end all more kinds es (λ y has. facts y (inr has)) turn (asked_first x es (ReadStep DrawTest) more asked e).1)
  next_verified all more kinds rest facts (IsAside now own x es asked line turn) e =
      next_later all IsVerified more more kinds x es line (next_verified all more kinds es (λ y has. facts y (inr has)) turn (asked_later x es (ReadStep DrawTest ∷ more) asked e))

  -- a check has ended well
  abbrev IsChecked : Entry → Type 0
  IsChecked e = (snapshots : ℕ) × (blobs : ℕ) × (e.step ≡ ReadStep (CheckedAll snapshots blobs)) × (e.reply ≡ entry.HasEnded)

  -- one that is open is answered by its end
  next_checked : (all : List Entry) (more : List Step) (kinds : List Bool) (rest : List Entry) → ((x : Entry) → Has rest x → Fact script all x) → InTurn InCheck kinds rest → steps_asked rest ≡ more
      → Next all rest IsChecked more more kinds
  next_checked all more kinds rest facts (IsCheckEnd own x es snapshots blobs asked line step reply turn) e = next_is all IsChecked more more kinds x es facts line (snapshots, blobs, step, reply) (asked_later x es more asked e) e turn
  next_checked all more kinds rest facts (IsAside now own x es asked line turn) e = next_later all IsChecked more more kinds x es line (next_checked all more kinds es (λ y has. facts y (inr has)) turn (asked_later x es more asked e))

  -- the line that asks for it has two entries: its look, and the end
  record NextCheck (all rest : List Entry) (more : List Step) (kinds : List Bool) : Type 0 where
    look : Entry
    behind : List Entry
    first : from_line rest ≡ look ∷ behind
    front : List Entry
    split : rest ≡ front ++ look ∷ behind
    looks : look.step ≡ LookStep
    fact : Fact script all look
    next : Next all behind IsChecked more more kinds

  next_check : (all : List Entry) (more : List Step) (kinds : List Bool) (rest : List Entry) → ((x : Entry) → Has rest x → Fact script all x) → InTurn Idle (true ∷ kinds) rest → steps_asked rest ≡ LookStep ∷ more
      → NextCheck all rest more kinds
  next_check all more kinds rest facts (IsLook own x es asked line looks turn) e =
      record {
        look = x;
        behind = es;
        first = ap (λ (b : Bool). if b then x ∷ es else from_line es) line;
        front = [];
        split = refl;
        looks = looks;
        fact = facts x (inl refl);
        next = next_checked all more kinds es (λ y has. facts y (inr has)) turn (asked_first x es LookStep more asked e).1;
      }
  next_check all more kinds rest facts (IsAside now own x es asked line turn) e =
      let n = next_check all more kinds es (λ y has. facts y (inr has)) turn (asked_later x es (LookStep ∷ more) asked e) in
      record {
        look = n.look;
        behind = n.behind;
        first = ap (λ (b : Bool). if b then x ∷ es else from_line es) line ∙ n.first;
        front = x ∷ n.front;
        split = ap (λ (l : List Entry). x ∷ l) n.split;
        looks = n.looks;
        fact = n.fact;
        next = n.next;
      }

  -- ---- no swap of the record fails

  neither : (a b : Bool) → a ≡ false → b ≡ false → (a || b) ≡ false
  neither a b x y = ap (λ (c : Bool). c || b) x ∙ y

  no_fall : (b c : Bool) → c ≡ false → (if b then false else c) ≡ false
  no_fall true c e = refl
  no_fall false c e = e

  unfallen_before : (all rest : List Entry) → ((x : Entry) → Has rest x → Fact script all x) → falls_before rest ≡ false
  unfallen_before all [] facts = refl
  unfallen_before all (x ∷ rest) facts =
      no_fall (is_of_line x) (fails_swap x.step x.reply || falls_before rest)
      (neither (fails_swap x.step x.reply) (falls_before rest) (facts x (inl refl)).unfallen (unfallen_before all rest (λ y has. facts y (inr has))))

  in_take : (n : ℕ) (rest : List Entry) (x : Entry) → Has (take n rest) x → Has rest x
  in_take (suc n) (y ∷ rest) x (inl same) = inl same
  in_take (suc n) (y ∷ rest) x (inr has) = inr (in_take n rest x has)
  in_take n rest x has = absurd has

  unfallen_then : (all later rest : List Entry) → ((x : Entry) → Has rest x → Fact script all x) → falls_before (before_election later rest) ≡ false
  unfallen_then all later rest facts = unfallen_before all (before_election later rest) (λ x has. facts x (in_take (length rest - length (from_election later)) rest x has))

  -- ---- a cleanup that refuses a line is one for which a line before asks

  cleaning_by : (moment : ℕ) (before : List ScriptLine) (front : List Entry) (reply : entry.Reply) → steps_asked front ≡ steps_of moment before → IsAskedIn front reply → IsCleaningIn before reply
  cleaning_by moment before front (entry.Refused (CleanupRunning op)) asked (x, has, who, step) =
      let own : is_asked x ≡ true = (λ i. (who i == 0) && is_line_ask (step i)) in
      lines_cleanup moment before (subst (λ (l : List Step). Has l (AskStep Cleanup)) asked (subst (λ (s : Step). Has (steps_asked front) (as_asked s)) step (asked_there front x has own)))
  cleaning_by moment before front (entry.Refused refusal) asked h = tt
  cleaning_by moment before front reply asked h = tt

  -- so of an entry by which the line after these is asked
  abbrev CleansBefore : List Entry → ℕ → List ScriptLine → Item → List ScriptLine → Type 0
  CleansBefore all moment before item lines = (e : Entry) (back : List Entry) → IsRest all (e ∷ back) → Fact script all e → steps_asked (e ∷ back) ≡ steps_of_item moment item ++ steps_of moment lines → IsCleaningIn before e.reply

  cleans_before : (all : List Entry) (moment : ℕ) → steps_asked all ≡ steps_of moment script → (before : List ScriptLine) (line : ScriptLine) (lines : List ScriptLine) → script ≡ before ++ line ∷ lines
      → CleansBefore all moment before line.item lines
  cleans_before all moment whole before line lines is e back (front, place) fact here =
      let after : List Step = steps_of moment (line ∷ lines) in
      let asked : steps_asked front ++ after ≡ steps_of moment before ++ after =
      ap (λ (l : List Step). steps_asked front ++ l) (sym here) ∙ sym (asked_both front (e ∷ back)) ∙ ap steps_asked (sym place) ∙ whole ∙ ap (steps_of moment) is ∙ lines_both moment before (line ∷ lines) in
      cleaning_by moment before front e.reply (cut (steps_asked front) (steps_of moment before) after asked) (fact.cleaning front back place)

  -- ---- a failover has the next election

  record NextElection (later : List Entry) (count : ℕ) : Type 0 where
    e : Entry
    es : List Entry
    is : from_election later ≡ e ∷ es
    has : Has later e
    elects : is_election e ≡ true
    more : elections_of es ≡ count
    behind : (x : Entry) → Has es x → Has later x

  one_less : (a b : ℕ) → suc a ≡ 1 + b → a ≡ b
  one_less a b e = omega (arith, e)

  none_less : (b : ℕ) → 0 ≡ 1 + b → ⊥
  none_less b e = omega (arith, e)

  next_election : (later : List Entry) (count : ℕ) → elections_of later ≡ 1 + count → NextElection later count
  next_election [] count e = absurd (none_less count e)
  next_election (x ∷ later) count e = elim (cases_Bool (is_election x)) [
    | inl own ↦
        record {
          e = x;
          es = later;
          is = cond-true (is_election x) (x ∷ later) (from_election later) own;
          has = inl refl;
          elects = own;
          more = one_less (elections_of later) count (sym (cond-true (is_election x) (suc (elections_of later)) (elections_of later) own) ∙ e);
          behind = λ y has. inr has;
        }
    | inr other ↦
        let n = next_election later count (sym (cond-false (is_election x) (suc (elections_of later)) (elections_of later) other) ∙ e) in
        record {
          e = n.e;
          es = n.es;
          is = cond-false (is_election x) (x ∷ later) (from_election later) other ∙ n.is;
          has = inr n.has;
          elects = n.elects;
          more = n.more;
          behind = λ y has. inr (n.behind y has);
        }
  ]

  -- ---- a line, and those after it

  -- the lines after one are answered, by what comes after its entries, and by as many elections as they ask for
  abbrev GoesOn : List Entry → ℕ → List ScriptLine → List ScriptLine → Type 0
  GoesOn all moment before lines =
      (later es : List Entry) → IsRest all es → elections_of later ≡ failovers_of lines → ((x : Entry) → Has later x → Fact script all x) → ((x : Entry) → Has es x → Fact script all x) → InTurn Idle (kinds_of lines) es
      → steps_asked es ≡ steps_of moment lines → AreAnsweredIn script before lines (replies_from all lines false later es)

  -- after these lines of the script, which with the next one are those
  module _ (before now : List ScriptLine) where
    abbrev IsFirst : Item → List ScriptLine → List Reply → Type 0
    IsFirst item lines [] = ⊥
    IsFirst item lines (reply ∷ rs) = IsAnswer script before item reply × AreAnsweredIn script now lines rs

    answered_next : (item : Item) (lines : List ScriptLine) (answer : Option Reply) (es : List Entry) (more : List Entry → List Reply) → IsAnswerOf script before item answer → AreAnsweredIn script now lines (more es)
        → IsFirst item lines (and_more (option_map (λ (r : Reply). (r, es)) answer) more)
    answered_next item lines None es more is rest = absurd is
    answered_next item lines (Some reply) es more is rest = (is, rest)

    -- a line that is no check is answered by the first entry that belongs to a line
    no_look : (checks : Bool) (es : List Entry) → checks ≡ false → past_look checks es ≡ es
    no_look false [] none = refl
    no_look false (e ∷ es) none = refl
    no_look true es none = absurd cc

    answer_other : (checks : Bool) (one two : Option Reply) → checks ≡ false → (if checks then one else two) ≡ two
    answer_other false one two none = refl
    answer_other true one two none = absurd cc

    -- an entry of the line, with the answer that it tells
    by_entry : (all later rest : List Entry) (item : Item) (lines : List ScriptLine) (P : Entry → Type 0) (more here : List Step) (kinds : List Bool) → is_check item ≡ false → ((x : Entry) → Has rest x → Fact script all x)
        → (n : Next all rest P more here kinds) → IsAnswerOf script before item (answer_at all n.e.step n.e.reply)
        → AreAnsweredIn script now lines (replies_from all lines false later n.es)
        → IsFirst item lines (and_more (line_reply item all (from_item item rest)) (replies_from all lines (false || (falls_before rest || falls_first (from_item item rest))) later))
    by_entry all later rest item lines P more here kinds other facts n answer after =
        subst (λ (es : List Entry). IsFirst item lines (and_more (line_reply item all es) (replies_from all lines (false || (falls_before rest || falls_first es)) later))) (sym (no_look (is_check item) (from_line rest) other ∙ n.is))
        (subst (λ (b : Bool). IsFirst item lines (and_more (line_reply item all (n.e ∷ n.es)) (replies_from all lines (false || b) later)))
        (sym (neither (falls_before rest) (fails_swap n.e.step n.e.reply) (unfallen_before all rest facts) n.fact.unfallen))
        (answered_next item lines (line_answer item all n.e.step n.e.reply) n.es (replies_from all lines false later)
        (subst (λ (o : Option Reply). IsAnswerOf script before item o) (sym (answer_other (is_check item) (check_answer n.e.step n.e.reply) (answer_at all n.e.step n.e.reply) other)) answer) after))

    -- a look that was answered
    looked_is : (reply : entry.Reply) → IsAnswerOf script before items.List (look_reply reply) → is_looked reply ≡ true
    looked_is (entry.Looked snapshots safe) answered = refl
    looked_is (entry.Refused (entry.DeposedAt place)) answered = absurd answered
    looked_is reply answered = absurd answered

    -- a check is answered by its end
    by_check : (all later rest : List Entry) (lines : List ScriptLine) (more : List Step) (kinds : List Bool) → ((x : Entry) → Has rest x → Fact script all x) → (n : NextCheck all rest more kinds)
        → AreAnsweredIn script now lines (replies_from all lines false later n.next.es)
        → IsFirst items.Check lines (and_more (line_reply items.Check all (from_item items.Check rest)) (replies_from all lines (false || (falls_before rest || falls_first (from_item items.Check rest))) later))
    by_check all later rest lines more kinds facts n after =
        let answered : is_look_answered n.look.step n.look.reply ≡ true = ap (λ (step : Step). is_look_answered step n.look.reply) n.looks ∙ looked_is n.look.reply (n.fact.looked before n.looks) in
        let from : from_item items.Check rest ≡ n.next.e ∷ n.next.es =
        ap (past_look true) n.first ∙ ap (λ (b : Bool). if b then from_line n.behind else n.look ∷ n.behind) answered ∙ n.next.is in
        let (snapshots, blobs, step, reply) = n.next.own in
        let answer : IsAnswerOf script before items.Check (line_answer items.Check all n.next.e.step n.next.e.reply) =
        subst (λ (x : Step). IsAnswerOf script before items.Check (check_answer x n.next.e.reply)) (sym step)
        (subst (λ (r : entry.Reply). IsAnswerOf script before items.Check (check_answer (ReadStep (CheckedAll snapshots blobs)) r)) (sym reply) tt) in
        subst (λ (es : List Entry). IsFirst items.Check lines (and_more (line_reply items.Check all es) (replies_from all lines (false || (falls_before rest || falls_first es)) later))) (sym from)
        (subst (λ (b : Bool). IsFirst items.Check lines (and_more (line_reply items.Check all (n.next.e ∷ n.next.es)) (replies_from all lines (false || b) later)))
        (sym (neither (falls_before rest) (fails_swap n.next.e.step n.next.e.reply) (unfallen_before all rest facts) n.next.fact.unfallen))
        (answered_next items.Check lines (line_answer items.Check all n.next.e.step n.next.e.reply) n.next.es (replies_from all lines false later) answer after))

    answered_those : (item : Item) (lines : List ScriptLine) (answer : Option Reply) (rs : List Reply) → IsAnswerOf script before item answer → AreAnsweredIn script now lines rs → IsFirst item lines (and_those answer rs)
    answered_those item lines None rs is rest = absurd is
    answered_those item lines (Some reply) rs is rest = (is, rest)

    none_more : (a b : ℕ) → a ≡ 0 + b → a ≡ b
    none_more a b e = omega (arith, e)

    -- no wait of a short history was left
    uncut : (all rest : List Entry) → is_short all ≡ true → is_cut all rest ≡ false
    uncut all rest short = ap (λ (b : Bool). not b && has_none (from_line rest)) short

    -- a line that is answered by this entry, and those after it
    by_next : (all later rest : List Entry) (moment : ℕ) (item : Item) (lines : List ScriptLine) (P : Entry → Type 0) (here : List Step) → is_check item ≡ false → IsRest all rest → elections_of later ≡ 0 + failovers_of lines
        → ((x : Entry) → Has later x → Fact script all x) → ((x : Entry) → Has rest x → Fact script all x) → (n : Next all rest P (steps_of moment lines) here (kinds_of lines))
        → IsAnswerOf script before item (answer_at all n.e.step n.e.reply) → GoesOn all moment now lines
        → IsFirst item lines (and_more (line_reply item all (from_item item rest)) (replies_from all lines (false || (falls_before rest || falls_first (from_item item rest))) later))
    by_next all later rest moment item lines P here other place few elections facts n answer on =
        by_entry all later rest item lines P (steps_of moment lines) here (kinds_of lines) other facts n answer
        (on later n.es (rest_then all n.e n.es (rest_at all rest n.front n.e n.es place n.split)) (none_more (elections_of later) (failovers_of lines) few) elections n.facts n.turn n.more_is)

    -- by that of the step for which it asks
    by_step : (all later rest : List Entry) (moment : ℕ) (item : Item) (lines : List ScriptLine) (step : Step) → is_check item ≡ false → IsNoRead step → AsksNoClone step → IsRest all rest → elections_of later ≡ 0 + failovers_of lines
        → ((x : Entry) → Has later x → Fact script all x) → ((x : Entry) → Has rest x → Fact script all x) → InTurn Idle (false ∷ kinds_of lines) rest → steps_asked rest ≡ step ∷ steps_of moment lines
        → ((x : Entry) (back : List Entry) → IsRest all (x ∷ back) → Fact script all x → steps_asked (x ∷ back) ≡ step ∷ steps_of moment lines → x.step ≡ step → IsAnswerOf script before item (answer_at all step x.reply))
        → GoesOn all moment now lines
        → IsFirst item lines (and_more (line_reply item all (from_item item rest)) (replies_from all lines (false || (falls_before rest || falls_first (from_item item rest))) later))
    by_step all later rest moment item lines step other aside plain place few elections facts turn e tells on =
        let n = next_same all step (steps_of moment lines) (kinds_of lines) rest facts aside plain turn e in
        by_next all later rest moment item lines (λ x. x.step ≡ step) (step ∷ steps_of moment lines) other place few elections facts n
        (subst (λ (x : Step). IsAnswerOf script before item (answer_at all x n.e.reply)) (sym n.own) (tells n.e n.es (rest_at all rest n.front n.e n.es place n.split) n.fact n.here_is n.own)) on

    walk_item : (all later rest : List Entry) (moment : ℕ) (item : Item) (lines : List ScriptLine) → is_short all ≡ true → IsRest all rest → CleansBefore all moment before item lines → ((x : Entry) → Has later x → Fact script all x)
        → ((x : Entry) → Has rest x → Fact script all x) → elections_of later ≡ failovers_in item + failovers_of lines → InTurn Idle (kinds_of_item item ++ kinds_of lines) rest
        → steps_asked rest ≡ steps_of_item moment item ++ steps_of moment lines
        → GoesOn all moment now lines
        → IsFirst item lines
        (if is_wait item then and_those (wait_answer (false || falls_before (before_election later rest)) (is_cut all rest)) (replies_from all lines false later rest)
        else if is_failover item then and_those (failover_reply (has_fallen all) (from_election later)) (replies_from all lines false (past_first (from_election later)) rest)
        else and_more (line_reply item all (from_item item rest)) (replies_from all lines (false || (falls_before rest || falls_first (from_item item rest))) later))
    walk_item all later rest moment (items.Snapshot name indices) lines short place cleans elections facts few turn e on =
        by_step all later rest moment (items.Snapshot name indices) lines (AskStep (command_of_line name indices moment)) refl (ask_no_read (command_of_line name indices moment))
        (λ source called names when taken same. cc) place few elections facts turn e
        (λ x back at fact here is. fact.asked before (cleans x back at fact here) name (map index_of_line indices) moment is indices) on
    walk_item all later rest moment (items.Clone source name indices) lines short place cleans elections facts few turn e on =
        let step : Step = AskStep (Clone source name indices moment None) in
        let n =
        next_line all (AsksClone source name indices moment) step (steps_of moment lines) (kinds_of lines) rest facts (ask_no_read (Clone source name indices moment None)) (λ x same. asked_clone source name indices moment x.step same) turn e in
        by_next all later rest moment (items.Clone source name indices) lines (AsksClone source name indices moment) (step ∷ steps_of moment lines) refl place few elections facts n
        (subst (λ (x : Step). IsAnswerOf script before (items.Clone source name indices) (answer_at all x n.e.reply)) (sym n.own.1)
        (n.fact.cloned before (cleans n.e n.es (rest_at all rest n.front n.e n.es place n.split) n.fact n.here_is) source name indices moment n.own.0 n.own.1 source indices)) on
    walk_item all later rest moment (items.Delete names) lines short place cleans elections facts few turn e on =
        by_step all later rest moment (items.Delete names) lines (AskStep (DeleteSnapshots names)) refl (ask_no_read (DeleteSnapshots names)) (λ source called indices when taken same. cc) place few elections facts turn e
        (λ x back at fact here is. fact.deleted before (cleans x back at fact here) names is) on
    walk_item all later rest moment (items.Restore name at) lines short place cleans elections facts few turn e on =
        by_step all later rest moment (items.Restore name at) lines (AskStep (Restore name at)) refl (ask_no_read (Restore name at)) (λ source called names when taken same. cc) place few elections facts turn e
        (λ x back there fact here is. fact.restored before name at is name at) on
    walk_item all later rest moment items.Cleanup lines short place cleans elections facts few turn e on =
        by_step all later rest moment items.Cleanup lines (AskStep Cleanup) refl (ask_no_read Cleanup) (λ source called names when taken same. cc) place few elections facts turn e
        (λ x back at fact here is. fact.cleaned before (cleans x back at fact here) is) on
    walk_item all later rest moment items.Wait lines short place cleans elections facts few turn e on =
        subst (λ (c : Bool). IsFirst items.Wait lines (and_those (wait_answer (false || falls_before (before_election later rest)) c) (replies_from all lines false later rest))) (sym (uncut all rest short))
        (subst (λ (b : Bool). IsFirst items.Wait lines (and_those (wait_answer (false || b) false) (replies_from all lines false later rest))) (sym (unfallen_then all later rest facts))
        (tt, on later rest place (none_more (elections_of later) (failovers_of lines) few) elections facts turn e))
    walk_item all later rest moment items.List lines short place cleans elections facts few turn e on =
        by_step all later rest moment items.List lines LookStep refl look_no_read (λ source called names when taken same. cc) place few elections facts turn e
        (λ x back at fact here is. fact.looked before is) on
    walk_item all later rest moment items.Check lines short place cleans elections facts few turn e on =
        let n = next_check all (steps_of moment lines) (kinds_of lines) rest facts turn e in
        by_check all later rest lines (steps_of moment lines) (kinds_of lines) facts n
        (on later n.next.es (rest_then all n.next.e n.next.es (rest_at all n.behind n.next.front n.next.e n.next.es (rest_then all n.look n.behind (rest_at all rest n.front n.look n.behind place n.split)) n.next.split))
        (none_more (elections_of later) (failovers_of lines) few) elections n.next.facts n.next.turn n.next.more_is)
    walk_item all later rest moment items.Verify lines short place cleans elections facts few turn e on =
        let n = next_verified all (steps_of moment lines) (kinds_of lines) rest facts turn e in
        by_next all later rest moment items.Verify lines IsVerified (steps_of moment lines) refl place few elections facts n
        (subst (λ (x : Step). IsAnswerOf script before items.Verify (answer_at all x n.e.reply)) (sym n.own.0) (subst (λ (r : entry.Reply). IsAnswerOf script before items.Verify (answer_at all (ReadStep VerifiedAll) r)) (sym n.own.1) tt)) on
    walk_item all later rest moment items.Failover lines short place cleans elections facts few turn e on =
        let n = next_election later (failovers_of lines) few in
        subst (λ (l : List Entry). IsFirst items.Failover lines (and_those (failover_reply (has_fallen all) l) (replies_from all lines false (past_first l) rest))) (sym n.is)
        (answered_those items.Failover lines (election_reply n.e.reply) (replies_from all lines false n.es rest) ((elections n.e n.has).elected before n.elects) (on n.es rest place n.more (λ x has. elections x (n.behind x has)) facts turn e))

  first_is : (before : List ScriptLine) (line : ScriptLine) (lines : List ScriptLine) (rs : List Reply) → IsFirst before (before ++ line ∷ []) line.item lines rs → AreAnsweredIn script before (line ∷ lines) rs
  first_is before line lines [] h = h
  first_is before line lines (reply ∷ rs) h = h

  walk : (all : List Entry) (moment : ℕ) → is_short all ≡ true → steps_asked all ≡ steps_of moment script → (before lines : List ScriptLine) → script ≡ before ++ lines → GoesOn all moment before lines
  walk all moment short whole before [] is later rest place few elections facts turn e = tt
  walk all moment short whole before (line ∷ lines) is later rest place few elections facts turn e =
      first_is before line lines (replies_from all (line ∷ lines) false later rest)
      (walk_item before (before ++ line ∷ []) all later rest moment line.item lines short place (cleans_before all moment whole before line lines is) elections facts few turn e
      (λ more es last count tells known after same. walk all moment short whole (before ++ line ∷ []) lines (is ∙ sym (append_assoc before (line ∷ []) lines)) more es last count tells known after same))

pub answered_lines : (log : List Moment) (lines : List ScriptLine) (moment : ℕ) → elections_of (entries_of log) ≡ failovers_of lines → ((x : Entry) → Has (entries_of log) x → Fact lines (entries_of log) x)
    → InTurn Idle (kinds_of lines) (entries_of log) → asked_steps log ≡ steps_of moment lines
    → is_short (entries_of log) ≡ true → AreAnswered lines (replies lines (entries_of log))
unfolding replies
answered_lines log lines moment few facts turn e short =
    let asked : steps_asked (entries_of log) ≡ steps_of moment lines = asked_same log ∙ e in walk lines (entries_of log) moment short asked [] lines refl (entries_of log) (entries_of log) ([], refl) few facts facts turn asked
