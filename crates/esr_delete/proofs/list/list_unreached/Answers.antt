use Rattle.std.proofs.Common.{◌≡◌, ◌+◌, ◌≤◌, Bool, true, false, List, [], ◌++◌, map, length, refl, sym, ap, ◌∙◌, arith}
use Rattle.std.specs.BTreeSet.{contains}
use Rattle.std.specs.Option.{option_copied}
use Rattle.esr_names.specs.contracts.blob.BlobNameOrd.TheImpl as name_block
use Rattle.esr_depot.specs.declared.listing.Listed.{Listed}
use Rattle.esr_model.specs.Cleanup.{last_text, is_short}
use Rattle.esr_core.specs.Entry.{ListStep, WasListed}
use Rattle.esr_formats.specs.Names.{name_of}
use Rattle.esr_dooming.specs.Unreached.{blob_piece}
use Rattle.esr_desk.specs.declared.hand.Hand.TheVariants as hands
use Rattle.esr_desk.specs.Evidence.{evidence}
use Rattle.esr_desk.specs.Grew.{GrewBy, grew_by_none, grew_by_on, outcome_grew_by}
use Rattle.esr_desk.specs.Listing.{page_of}
use Rattle.esr_desk.specs.Start.{ticket_of}
use Rattle.esr_desk.specs.Told.{TellsAll, list_fresh, list_tells}
use Rattle.esr_unit.specs.declared.trouble.Trouble.TheVariants.{Step}
use Rattle.esr_unit.specs.Shown.{Shown}
use Rattle.esr_unit.specs.Refusals.{passed_on}
use Rattle.esr_finish.specs.Runs.{taken_on}
use Rattle.esr_delete.proofs.Going.{list_shown}
use Rattle.esr_delete.proofs.Listing.{HasListed, last_next, has_some, none_listed, can_list, more_listed, more_found, longer, went_listed, lists_on}
use Rattle.esr_delete.proofs.list.list_unreached.Goals as goal
use Rattle.esr_delete.proofs.list.list_unreached.Goals.{In_ok-next}

-- after a page
next_is : (g : _) (c : In_ok-next g) (whole : Bool) → is_short (page_of c.in_ok-next.next) ≡ whole
    → HasListed (ticket_of g.Q.Desk.start (g.Q.Desk.seen c.args.desk.now) c.args.ticket) (ticket_of g.Q.Desk.start (g.Q.Desk.seen c.list.new.self) c.args.ticket) (c.loop-left.invariant.pages ++ c.in_ok-next.next) whole
next_is g c whole ends =
    let s = g.Q.Desk.start in
    let seen = g.Q.Desk.seen in
    let who = c.args.ticket in
    more_listed (ticket_of s (seen c.args.desk.now) who) (ticket_of s (seen c.loop-left.desk) who) (ticket_of s (seen c.list.new.self) who) c.loop-left.invariant.pages c.in_ok-next.next whole c.loop-left.invariant.is c.in_ok-next.ensures.own ends

next_grew : (g : _) (c : In_ok-next g) → GrewBy g.Q.Desk.start c.args.ticket (g.Q.Desk.seen c.args.desk.now) (g.Q.Desk.seen c.list.new.self)
next_grew g c =
    let s = g.Q.Desk.start in
    let seen = g.Q.Desk.seen in
    grew_by_on s c.args.ticket (seen c.args.desk.now) (seen c.loop-left.desk) (seen c.list.new.self) c.loop-left.invariant.grew
    (outcome_grew_by s (seen c.loop-left.desk) (seen c.list.new.self) c.args.ticket (ListStep (option_copied c.last_name-last.result)) (λ (page : List Listed). WasListed (page_of page)) c.list.result c.list.ensures.step)

next_tells : (g : _) (c : In_ok-next g) → TellsAll g.Q.Desk.start (g.Q.Desk.seen c.list.new.self) c.args.ticket
next_tells g c =
    let s = g.Q.Desk.start in
    let seen = g.Q.Desk.seen in
    let who = c.args.ticket in
    let inv = c.loop-left.invariant in
    let from : option_copied c.last_name-last.result ≡ last_text (ticket_of s (seen c.loop-left.desk) who).listed =
    c.last_name-last.ensures ∙ ap (λ (l : List Listed). last_text (page_of l)) c.as_slice.ensures ∙ c.loop-left.invariant.last ∙ sym (ap (λ u. last_text u.listed) inv.is) in
    list_tells s (seen c.loop-left.desk) (seen c.list.new.self) who (option_copied c.last_name-last.result) (page_of c.in_ok-next.next) c.requires.mine.some inv.tells (ap (λ u. u.whole) inv.is) from
    c.in_ok-next.ensures.step c.in_ok-next.ensures.page c.in_ok-next.ensures.own

-- ---- the next page

pub loop-left-init : goal.loop-left-init
loop-left-init g c =
    let s = g.Q.Desk.start in
    let old = g.Q.Desk.seen c.args.desk.now in
    record {
      pages = [];
      is = none_listed (ticket_of s old c.args.ticket) c.requires.may;
      found = ap (map name_of) c.new-names.ensures;
      last = ap (λ (l : List Listed). last_text (page_of l)) c.new-page.ensures;
      turns = omega arith;
      tells = c.requires.tells;
      grew = grew_by_none s c.args.ticket old;
      calls = refl;
    }

pub list-requires-clause-mine : goal.list-requires-clause-mine
list-requires-clause-mine g c = taken_on (g.Q.Desk.calls c.args.desk.now) (g.Q.Desk.calls c.loop-left.desk) c.args.ticket c.loop-left.invariant.calls c.requires.mine

pub list-requires-clause-may : goal.list-requires-clause-may
list-requires-clause-may g c =
    let s = g.Q.Desk.start in
    let who = c.args.ticket in
    let inv = c.loop-left.invariant in
    can_list (ticket_of s (g.Q.Desk.seen c.args.desk.now) who) (ticket_of s (g.Q.Desk.seen c.loop-left.desk) who) inv.pages (option_copied c.last_name-last.result) c.requires.may inv.is
    (c.last_name-last.ensures ∙ ap (λ (l : List Listed). last_text (page_of l)) c.as_slice.ensures ∙ c.loop-left.invariant.last)

pub list-requires-clause-new : goal.list-requires-clause-new
list-requires-clause-new g c =
    let s = g.Q.Desk.start in
    let inv = c.loop-left.invariant in
    list_fresh s (g.Q.Desk.seen c.loop-left.desk) c.args.ticket (option_copied c.last_name-last.result) inv.tells (ap (λ t. t.whole) inv.is)
    (c.last_name-last.ensures ∙ ap (λ (l : List Listed). last_text (page_of l)) c.as_slice.ensures ∙ c.loop-left.invariant.last ∙ sym (ap (λ t. last_text t.listed) inv.is))

pub loop-left-preserved : goal.loop-left-preserved
loop-left-preserved g c =
    let s = g.Q.Desk.start in
    let seen = g.Q.Desk.seen in
    let who = c.args.ticket in
    let inv = c.loop-left.invariant in
    let next = c.in_ok-next.next in
    let at = (goal.at.loop-left-preserved g c).In_ok-next in
    let goes_on : is_short (page_of next) ≡ false = ap (λ (l : List Listed). is_short (page_of l)) (sym c.as_slice-blobs.ensures) ∙ sym c.is_last.ensures ∙ c.if-is_last.false in
    let one : length (seen c.loop-left.desk) + 1 ≤ length (seen c.list.new.self) =
    longer s (seen c.loop-left.desk) (seen c.list.new.self) who (ListStep (option_copied c.last_name-last.result)) (WasListed (page_of next)) c.in_ok-next.ensures.step in
    record {
      pages = inv.pages ++ next;
      is = next_is g at false goes_on;
      found = more_found (blob_piece (contains name_block.ghosts.cmp c.args.reached.now)) c.loop-left.names c.push_unreached.new.names inv.pages next c.as_slice-blobs.result.now c.as_slice-blobs.ensures inv.found c.in_ok-push_unreached.ensures;
      last = last_next inv.pages next (has_some (page_of next) goes_on);
      turns = omega (arith, inv.turns, one, c.loop-left-test.true);
      tells = next_tells g at;
      grew = next_grew g at;
      calls = c.list.ensures.calls ∙ inv.calls;
    }

-- ---- a page wasn't listed

pub returns-in_err-next-clause-trouble : goal.returns-in_err-next-clause-trouble
returns-in_err-next-clause-trouble g c =
    let s = g.Q.Desk.start in
    let seen = g.Q.Desk.seen in
    let who = c.args.ticket in
    let inv = c.loop-left.invariant in
    let new = seen c.list.new.self in
    let refusal = c.in_err-next.field-0.0 in
    let e = evidence g.Q.Stage.Counted.faults g.Q.Fetch.Counted.faults g.Q.Shard.Counted.faults g.Q.Target.Counted.faults g.Q.Shard.Shard.told g.Q.Target.Target.told in
    let is : HasListed (ticket_of s (seen c.args.desk.now) who) (ticket_of s new who) inv.pages false = c.in_err-next.ensures.kept ∙ inv.is in
    passed_on c.from_residual.result (Shown hands.Delete e ⊥ s new who) (Step refusal) c.from_residual.ensures.1
    (list_shown e s (seen c.loop-left.desk) new who (option_copied c.last_name-last.result) refusal c.refusals_are_of_their_steps.ensures
    (lists_on (ticket_of s (seen c.args.desk.now) who) (ticket_of s new who) inv.pages false c.requires.may is) c.in_err-next.ensures.step)

pub returns-in_err-next-clause-went : goal.returns-in_err-next-clause-went
returns-in_err-next-clause-went g c =
    let s = g.Q.Desk.start in
    let seen = g.Q.Desk.seen in
    let who = c.args.ticket in
    let inv = c.loop-left.invariant in
    let mid = seen c.loop-left.desk in
    let new = seen c.list.new.self in
    went_listed s (seen c.args.desk.now) new who inv.pages false c.requires.may
    (grew_by_on s who (seen c.args.desk.now) mid new inv.grew (outcome_grew_by s mid new who (ListStep (option_copied c.last_name-last.result)) (λ (page : List Listed). WasListed (page_of page)) c.list.result c.list.ensures.step))
    (c.in_err-next.ensures.kept ∙ inv.is)

pub returns-in_err-next-clause-calls : goal.returns-in_err-next-clause-calls
returns-in_err-next-clause-calls g c = c.list.ensures.calls ∙ c.loop-left.invariant.calls

-- ---- memory was wanting

pub returns-in_err-push_unreached-clause-went : goal.returns-in_err-push_unreached-clause-went
returns-in_err-push_unreached-clause-went g c =
    let s = g.Q.Desk.start in
    let seen = g.Q.Desk.seen in
    let at = (goal.at.returns-in_err-push_unreached-clause-went g c).In_ok-next in
    let next = c.in_ok-next.next in
    went_listed s (seen c.args.desk.now) (seen c.list.new.self) c.args.ticket (c.loop-left.invariant.pages ++ next) (is_short (page_of next)) c.requires.may (next_grew g at) (next_is g at (is_short (page_of next)) refl)

pub returns-in_err-push_unreached-clause-calls : goal.returns-in_err-push_unreached-clause-calls
returns-in_err-push_unreached-clause-calls g c = c.list.ensures.calls ∙ c.loop-left.invariant.calls

-- ---- the page was the last one

pub returns-then-is_last-clause-ok : goal.returns-then-is_last-clause-ok
returns-then-is_last-clause-ok g c =
    let at = (goal.at.returns-then-is_last-clause-ok g c).In_ok-next in
    let next = c.in_ok-next.next in
    let inv = c.loop-left.invariant in
    record {
      pages = inv.pages ++ next;
      is = next_is g at true (ap (λ (l : List Listed). is_short (page_of l)) (sym c.as_slice-blobs.ensures) ∙ sym c.is_last.ensures ∙ c.if-is_last.true);
      found = more_found (blob_piece (contains name_block.ghosts.cmp c.args.reached.now)) c.loop-left.names c.push_unreached.new.names inv.pages next c.as_slice-blobs.result.now c.as_slice-blobs.ensures inv.found c.in_ok-push_unreached.ensures;
    }

pub returns-then-is_last-clause-tells : goal.returns-then-is_last-clause-tells
returns-then-is_last-clause-tells g c = next_tells g (goal.at.returns-then-is_last-clause-tells g c).In_ok-next

pub returns-then-is_last-clause-went : goal.returns-then-is_last-clause-went
returns-then-is_last-clause-went g c =
    let s = g.Q.Desk.start in
    let seen = g.Q.Desk.seen in
    let at = (goal.at.returns-then-is_last-clause-went g c).In_ok-next in
    let next = c.in_ok-next.next in
    went_listed s (seen c.args.desk.now) (seen c.list.new.self) c.args.ticket (c.loop-left.invariant.pages ++ next) (is_short (page_of next)) c.requires.may (next_grew g at) (next_is g at (is_short (page_of next)) refl)

pub returns-then-is_last-clause-calls : goal.returns-then-is_last-clause-calls
returns-then-is_last-clause-calls g c = c.list.ensures.calls ∙ c.loop-left.invariant.calls

-- ---- turns were spent

pub returns-clause-trouble : goal.returns-clause-trouble
returns-clause-trouble g c = omega (arith, c.loop-left.invariant.turns, c.loop-left-test.false)

pub returns-clause-went : goal.returns-clause-went
returns-clause-went g c =
    let seen = g.Q.Desk.seen in
    went_listed g.Q.Desk.start (seen c.args.desk.now) (seen c.loop-left.desk) c.args.ticket c.loop-left.invariant.pages false c.requires.may c.loop-left.invariant.grew c.loop-left.invariant.is

pub returns-clause-calls : goal.returns-clause-calls
returns-clause-calls g c = c.loop-left.invariant.calls
