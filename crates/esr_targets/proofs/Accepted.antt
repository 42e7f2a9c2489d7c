-- The line of an op is that at which it was accepted.
use Rattle.std.proofs.Common.{◌≡◌, ℕ, ◌<◌, ◌≤◌, List, [], ◌∷◌, ◌++◌, Some, append_assoc, refl, sym, ap, ◌∙◌, arith}
use Rattle.esr_model.specs.Values.{Has}
use Rattle.esr_core.specs.Entry.{Restore, Step, AskStep, Reply, AcceptedRestore, Entry, Moment}
use Rattle.esr_core.specs.After.{after}
use Rattle.esr_core.specs.Causes.{RestoreBegan}
use Rattle.esr_core.specs.Tracked.{Tracked}
use Rattle.esr_core.specs.ReadTracked.{ReadTracked}
use Rattle.esr_script.specs.declared.item.Item.{Item}
use Rattle.esr_script.specs.declared.item.ScriptLine.{ScriptLine}
use Rattle.esr_desk.specs.Start.{Start, formats_of, world_of, Legal}
use Rattle.esr_quiet.specs.Asked.{as_asked, asked_steps}
use Rattle.esr_script.specs.Kinds.{asks_step}
use Rattle.esr_complete.specs.Lines.{steps_of_item, steps_of, entries_of}
use Rattle.esr_complete.specs.ItemSteps.{restore_item}
use Rattle.esr_targets.specs.Lines.{AreNumbered, op_of_reply, ops_at, ops_from, ops_of_lines, AcceptedLine}
use Rattle.esr_targets.specs.Listed.{line_of}
use Rattle.esr_targets.proofs.Ops.{LineAt, steps_by, line_has, line_after, line_first, line_at, ops_both, op_at, one_op}
use Rattle.esr_targets.proofs.Asked.{AskedAt, asked_of, asked_same, asked_at, asked_split, entry_at}
use Rattle.esr_targets.proofs.Laws.{ReaderLaws}
use Rattle.esr_targets.proofs.Histories.{allowed_at, rises_after, ask_number}

-- the op was accepted at a line of this number
pub record IsLineOf (moment : ℕ) (lines : List ScriptLine) (log : List Moment) (op number : ℕ) : Type 0 where
  pub a : AcceptedLine moment lines log
  pub op_is : a.op ≡ op
  pub number_is : a.line.number ≡ number

-- one line has one op
pub one_line : (lines : List ScriptLine) (log : List Moment) (o p n : ℕ) → AreNumbered lines → line_of (ops_of_lines lines (entries_of log)) o ≡ Some n → line_of (ops_of_lines lines (entries_of log)) p ≡ Some n → o ≡ p
unfolding ops_of_lines
one_line lines log o p n numbered a b = one_op lines (asked_of log) o p n numbered (line_has (ops_from lines (asked_of log)) o n a) (line_has (ops_from lines (asked_of log)) p n b)

module _ (laws : ReaderLaws) (s : Start) (t : Tracked s.world) (l : ReadTracked s.world) (log : List Moment) (legal : Legal s log) (moment : ℕ) (lines : List ScriptLine) where
  module _ (op number : ℕ) (r : LineAt moment lines (asked_of log) op number) (x : AskedAt log r.before r.e) where
    reply_is : x.m.entry.reply ≡ AcceptedRestore op r.uuid r.indices
    reply_is = ap (λ (y : Entry). y.reply) x.entry_is ∙ r.reply

    asks : RestoreBegan (formats_of s) (world_of s x.before) x.m.entry.who x.m.entry.step op r.uuid r.indices x.m.image
    asks = laws.began (formats_of s) s.part_size (world_of s x.before) x.m op r.uuid r.indices (allowed_at laws s t l log legal x.before x.after x.m x.log_is) reply_is

    item_asks : steps_of_item moment r.line.item ≡ AskStep (Restore asks.name asks.place) ∷ []
    item_asks = r.step ∙ ap (λ (y : Entry). as_asked y.step ∷ []) (sym x.entry_is) ∙ ap (λ (y : Step). as_asked y ∷ []) asks.step_is

    asked_there : asked_steps x.before ≡ steps_of moment r.earlier
    asked_there = asked_same x.before ∙ ap steps_by x.earlier_is ∙ r.steps

    line_there : IsLineOf moment lines log op number
    line_there =
        record {
          a = record {
            line = r.line;
            name = asks.name;
            place = asks.place;
            item_is = restore_item moment r.line.item asks.name asks.place item_asks;
            at = record {
              earlier = r.earlier;
              later = r.later;
              lines_are = r.lines_are;
              before = x.before;
              answer = x.m;
              after = x.after;
              log_is = x.log_is;
              asked = asked_there;
              of_line = x.asked;
            };
            step_is = asks.step_is;
            op = op;
            uuid = r.uuid;
            indices = r.indices;
            accepted = reply_is;
          };
          op_is = refl;
          number_is = r.number_is;
        }

  pub accepted_line : (rest : List Step) → asked_steps log ++ rest ≡ steps_of moment lines → (op number : ℕ) → line_of (ops_of_lines lines (entries_of log)) op ≡ Some number → IsLineOf moment lines log op number
  unfolding ops_of_lines
  accepted_line rest same op number found =
      let r = line_at moment lines (asked_of log) rest op number (ap (λ (x : List Step). x ++ rest) (sym (asked_same log)) ∙ same) found in
      line_there op number r (asked_split log r.before r.e r.after r.es_is)

  module _ (a : AcceptedLine moment lines log) where
    -- no restore was accepted under its op before
    no_earlier : (p : ℕ × ℕ) → Has (ops_from a.at.earlier (asked_of a.at.before)) p → p.0 ≡ a.op → ⊥
    no_earlier p h same =
        let o = op_at a.at.earlier (asked_of a.at.before) p h in
        let x = entry_at a.at.before o.e o.there in
        let reply : x.m.entry.reply ≡ AcceptedRestore p.0 o.uuid o.indices = ap (λ (y : Entry). y.reply) x.entry_is ∙ o.reply in
        let split : log ≡ (x.before ++ x.m ∷ x.after) ++ a.at.answer ∷ a.at.after = a.at.log_is ∙ ap (λ (y : List Moment). y ++ a.at.answer ∷ a.at.after) x.log_is in
        let allowed = allowed_at laws s t l log legal x.before (x.after ++ a.at.answer ∷ a.at.after) x.m (split ∙ append_assoc x.before (x.m ∷ x.after) (a.at.answer ∷ a.at.after)) in
        let here : p.0 < (after (formats_of s) (world_of s x.before) x.m).next_op = (laws.numbered (formats_of s) s.part_size (world_of s x.before) x.m p.0 o.uuid o.indices allowed reply).1 in
        let up : (after (formats_of s) (world_of s x.before) x.m).next_op ≤ (world_of s (x.before ++ x.m ∷ x.after)).next_op = rises_after laws s t l log legal x.before x.after (a.at.answer ∷ a.at.after) x.m split in
        let at : (world_of s a.at.before).next_op ≡ (world_of s (x.before ++ x.m ∷ x.after)).next_op = ap (λ (y : List Moment). (world_of s y).next_op) x.log_is in
        let number : a.op ≡ (world_of s a.at.before).next_op = (ask_number laws s t l log legal moment lines a).0 in
        omega (arith, here, up, at, number, same)

    -- from its line on the first op is this one
    from_line : (es : List Entry) → line_of (ops_from (a.line ∷ a.at.later) (a.at.answer.entry ∷ es)) a.op ≡ Some a.line.number
    from_line es =
        ap (λ (x : Item). line_of (ops_at a.line (a.at.answer.entry ∷ es) (ops_from a.at.later) (asks_step x)) a.op) a.item_is
        ∙ ap (λ (x : Reply). line_of (op_of_reply a.line.number x ++ ops_from a.at.later es) a.op) a.accepted
        ∙ line_first a.op a.line.number (ops_from a.at.later es)

    pub line_number : line_of (ops_of_lines lines (entries_of log)) a.op ≡ Some a.line.number
    unfolding ops_of_lines
    line_number =
        let rest : List Entry = asked_of a.at.after in
        let here : List Entry = asked_of a.at.before in
        let steps : steps_by here ≡ steps_of moment a.at.earlier = sym (asked_same a.at.before) ∙ a.at.asked in
        ap (λ (x : List ScriptLine). line_of (ops_from x (asked_of log)) a.op) a.at.lines_are
        ∙ ap (λ (x : List Entry). line_of (ops_from (a.at.earlier ++ a.line ∷ a.at.later) x) a.op) (ap asked_of a.at.log_is ∙ asked_at a.at.before a.at.after a.at.answer a.at.of_line)
        ∙ ap (λ (x : List (ℕ × ℕ)). line_of x a.op) (ops_both moment a.at.earlier (a.line ∷ a.at.later) here (a.at.answer.entry ∷ rest) steps)
        ∙ line_after (ops_from a.at.earlier here) (ops_from (a.line ∷ a.at.later) (a.at.answer.entry ∷ rest)) a.op no_earlier
        ∙ from_line rest
