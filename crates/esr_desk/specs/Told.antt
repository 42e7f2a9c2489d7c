-- A ticket that tells which steps it has made, its fetches and the plan of a delete or cleanup aside.
use Rattle.std.specs.Prelude.{◌≡◌, ◌≢◌, ◌⊎◌, ℕ, ◌≤◌, Bool, false, true, List, [], ◌∷◌, ◌++◌, Option, Some, None}
use Rattle.std.proofs.Common.{refl, sym, ap, ◌∙◌, subst, inl, inr, ⊎_elim, true≢false}
use Rattle.std.specs.declared.cmp.Ordering.TheVariants.{Less, Greater}
use Rattle.std.specs.Ordering.{nat_cmp, ordering_reverse}
use Rattle.std.specs.Cmp.Lexicographic.{slice_cmp, nat_list_cmp_total}
use Rattle.esr_model.specs.Names.{BlobName, Latest}
use Rattle.esr_model.specs.Values.{Bytes, Has}
use Rattle.esr_model.specs.Cleanup.{BlobSize, IsAfter, last_text, is_short, IsPage}
use Rattle.esr_core.specs.World.{Ticket}
use Rattle.esr_core.specs.Entry.{Step, DrawStep, BeginStep, CommitStep, LatestStep, FetchStep, RaiseStep, SettleStep, DroppedStep, ListStep, ReadStep, PruneStep, Prune, FetchShard, PlanShards, SettlePruned, RemoveDoomed, Reply, WasBegun, WasListed, Entry, Moment}
use Rattle.esr_core.specs.Past.{Repeats, RepeatsPrune}
use Rattle.esr_core.specs.After.{fetching}
use Rattle.esr_core.specs.Steps.{listing}
use Rattle.esr_depot.specs.declared.depot.Commit.{Commit}
use Rattle.esr_depot.specs.declared.depot.Commit.TheVariants as commits
use Rattle.esr_desk.specs.Start.{Start, ticket_of}
use Rattle.esr_desk.specs.Own.{made_of}
use Rattle.esr_desk.specs.Outcome.{Stepped, commit_reply, fetch_reply}
use Rattle.esr_desk.specs.Taken.{tried, committed_by, fetched_by}
use Rattle.esr_desk.specs.Once.{IsFresh}
use Rattle.esr_desk.specs.Made.{stepped_made, fresh_after}

-- the first name comes before the second; where there is no first one, it is before each
abbrev pub ComesBefore : Option Bytes → Option Bytes → Type 0
ComesBefore after None = ⊥
ComesBefore after (Some text) = IsAfter after text

-- what was listed goes past the name, or the listing has ended
abbrev pub HasListed : List BlobSize → Bool → Option Bytes → Type 0
HasListed listed whole after = (whole ≡ true) ⊎ ComesBefore after (last_text listed)

-- the ticket tells that it made the step; of a drop none tells, so that it made none
abbrev pub TellsStep : Ticket → Step → Type 0
TellsStep t (DrawStep count) = t.drawn ≢ 0
TellsStep t (BeginStep name) = ((name ≢ Latest) × Has t.noted name) ⊎ ((name ≡ Latest) × (t.tried_latest ≡ true))
TellsStep t (CommitStep name) = Has t.noted name
TellsStep t LatestStep = t.tried_latest ≡ true
TellsStep t (ListStep after) = HasListed t.listed t.whole after
TellsStep t RaiseStep = t.raised ≢ None
TellsStep t SettleStep = t.settled ≡ true
TellsStep t DroppedStep = ⊥
TellsStep t (PruneStep SettlePruned) = t.settled ≡ true
TellsStep t (PruneStep (RemoveDoomed names)) = t.settled ≡ true
TellsStep t step = Unit {0}

-- each step that it made is told by it
abbrev pub TellsAll : Start → List Moment → ℕ → Type 0
TellsAll s log who = (e : Entry) → Has (made_of s log who) e → TellsStep (ticket_of s log who) e.step

-- what the one tells the other tells
abbrev pub TellsAsMuch : Ticket → Ticket → Type 0
TellsAsMuch old new = (step : Step) → TellsStep old step → TellsStep new step

-- ---- what is fresh

prune_told : (t : Ticket) (was step : Prune) → RepeatsPrune was step → TellsStep t (PruneStep was) → TellsStep t (PruneStep step)
prune_told t (FetchShard a) (FetchShard b) same told = tt
prune_told t (PlanShards a) (PlanShards b) same told = tt
prune_told t SettlePruned SettlePruned same told = told
prune_told t (RemoveDoomed a) (RemoveDoomed b) same told = told
prune_told t was step same told = absurd same

-- a step that repeats one which the ticket tells is told, too
repeats_told : (t : Ticket) (was step : Step) → Repeats was step → TellsStep t was → TellsStep t step
repeats_told t (DrawStep a) (DrawStep b) same told = told
repeats_told t (BeginStep a) (BeginStep b) same told = subst (λ (name : BlobName). TellsStep t (BeginStep name)) same told
repeats_told t (CommitStep a) (CommitStep b) same told = subst (λ (name : BlobName). TellsStep t (CommitStep name)) same told
repeats_told t LatestStep LatestStep same told = told
repeats_told t (FetchStep a) (FetchStep b) same told = tt
repeats_told t (ListStep a) (ListStep b) same told = subst (λ (after : Option Bytes). TellsStep t (ListStep after)) same told
repeats_told t RaiseStep RaiseStep same told = told
repeats_told t SettleStep SettleStep same told = told
repeats_told t DroppedStep DroppedStep same told = told
repeats_told t (ReadStep a) (ReadStep b) same told = tt
repeats_told t (PruneStep a) (PruneStep b) same told = prune_told t a b same told
repeats_told t was step same told = absurd same

pub untold_fresh : (s : Start) (log : List Moment) (who : ℕ) (step : Step) → TellsAll s log who → (TellsStep (ticket_of s log who) step → ⊥) → IsFresh s log who step
untold_fresh s log who step tells untold e has same = untold (repeats_told (ticket_of s log who) e.step step same (tells e has))

-- ---- what a ticket tells

pub none_tells : (s : Start) (log : List Moment) (who : ℕ) → made_of s log who ≡ [] → TellsAll s log who
none_tells s log who none e has = absurd (subst (λ (entries : List Entry). Has entries e) none has)

-- after a step that it tells
pub stepped_tells : (s : Start) (old new : List Moment) (who : ℕ) (step : Step) (reply : Reply) → 1 ≤ who → TellsAll s old who → Stepped s old new who step reply → TellsAsMuch (ticket_of s old who) (ticket_of s new who)
    → TellsStep (ticket_of s new who) step → TellsAll s new who
stepped_tells s old new who step reply ticket tells h more own e has = ⊎_elim
    (λ (before : Has (made_of s old who) e). more e.step (tells e before))
    (λ (here : e.step ≡ step). subst (TellsStep (ticket_of s new who)) (sym here) own)
    (stepped_made s old new who step reply ticket h e has)

-- after two steps, both of which it tells at last
pub both_tell : (s : Start) (old mid new : List Moment) (who : ℕ) (first second : Step) (begun done : Reply) → 1 ≤ who → TellsAll s old who → Stepped s old mid who first begun → Stepped s mid new who second done
    → TellsAsMuch (ticket_of s old who) (ticket_of s new who) → TellsStep (ticket_of s new who) first → TellsStep (ticket_of s new who) second → TellsAll s new who
both_tell s old mid new who first second begun done ticket tells h g more of_first of_second e has =
    let t = ticket_of s new who in
    ⊎_elim
    (λ (before : Has (made_of s mid who) e). ⊎_elim
    (λ (earlier : Has (made_of s old who) e). more e.step (tells e earlier))
    (λ (here : e.step ≡ first). subst (TellsStep t) (sym here) of_first)
    (stepped_made s old mid who first begun ticket h e before))
    (λ (here : e.step ≡ second). subst (TellsStep t) (sym here) of_second)
    (stepped_made s mid new who second done ticket g e has)

-- a ticket that has gone on
pub record HasGoneOn (old new : Ticket) : Type 0 where
  pub drawn : old.drawn ≢ 0 → new.drawn ≢ 0
  pub noted : (name : BlobName) → Has old.noted name → Has new.noted name
  pub tried : old.tried_latest ≡ true → new.tried_latest ≡ true
  pub raised : old.raised ≢ None → new.raised ≢ None
  pub settled : old.settled ≡ true → new.settled ≡ true
  pub listed : (after : Option Bytes) → HasListed old.listed old.whole after → HasListed new.listed new.whole after

pub gone_tells : (old new : Ticket) → HasGoneOn old new → TellsAsMuch old new
gone_tells old new on (DrawStep count) h = on.drawn h
gone_tells old new on (BeginStep name) (inl noted) = inl (noted.0, on.noted name noted.1)
gone_tells old new on (BeginStep name) (inr tried) = inr (tried.0, on.tried tried.1)
gone_tells old new on (CommitStep name) h = on.noted name h
gone_tells old new on LatestStep h = on.tried h
gone_tells old new on (ListStep after) h = on.listed after h
gone_tells old new on RaiseStep h = on.raised h
gone_tells old new on SettleStep h = on.settled h
gone_tells old new on DroppedStep h = h
gone_tells old new on (PruneStep SettlePruned) h = on.settled h
gone_tells old new on (PruneStep (RemoveDoomed names)) h = on.settled h
gone_tells old new on step h = tt

pub gone_not : (t : Ticket) → HasGoneOn t t
gone_not t = record { drawn = λ h. h; noted = λ name h. h; tried = λ h. h; raised = λ h. h; settled = λ h. h; listed = λ after h. h }

-- ---- each step

-- a blob: its begin and its commit
pub begin_fresh : (s : Start) (log : List Moment) (who : ℕ) (name : BlobName) → TellsAll s log who → name ≢ Latest → (Has (ticket_of s log who).noted name → ⊥) → IsFresh s log who (BeginStep name)
begin_fresh s log who name tells stored unnoted = untold_fresh s log who (BeginStep name) tells (λ told. ⊎_elim (λ noted. unnoted noted.1) (λ latest. stored latest.0) told)

pub commit_fresh : (s : Start) (old new : List Moment) (who : ℕ) (name : BlobName) → 1 ≤ who → TellsAll s old who → (Has (ticket_of s old who).noted name → ⊥) → Stepped s old new who (BeginStep name) WasBegun
    → IsFresh s new who (CommitStep name)
commit_fresh s old new who name ticket tells unnoted h = fresh_after s old new who (CommitStep name) (BeginStep name) WasBegun ticket differ (untold_fresh s old who (CommitStep name) tells unnoted) h
  where
    differ : Repeats (BeginStep name) (CommitStep name) → ⊥
    differ same = same

committed_on : (name : BlobName) (contents : Option Bytes) (c : Commit) (t : Ticket) → HasGoneOn t (committed_by name contents c t)
committed_on name None commits.Done t = record { drawn = λ h. h; noted = λ other h. inr h; tried = λ h. h; raised = λ h. h; settled = λ h. h; listed = λ after h. h }
committed_on name (Some bytes) commits.Done t = record { drawn = λ h. h; noted = λ other h. inr h; tried = λ h. h; raised = λ h. h; settled = λ h. h; listed = λ after h. h }
committed_on name contents commits.Exists t = record { drawn = λ h. h; noted = λ other h. inr h; tried = λ h. h; raised = λ h. h; settled = λ h. h; listed = λ after h. h }

committed_has : (name : BlobName) (contents : Option Bytes) (c : Commit) (t : Ticket) → Has (committed_by name contents c t).noted name
committed_has name None commits.Done t = inl refl
committed_has name (Some bytes) commits.Done t = inl refl
committed_has name contents commits.Exists t = inl refl

pub blob_tells : (s : Start) (old mid new : List Moment) (who : ℕ) (name : BlobName) (contents : Option Bytes) (c : Commit) → 1 ≤ who → TellsAll s old who → name ≢ Latest → Stepped s old mid who (BeginStep name) WasBegun
    → ticket_of s mid who ≡ ticket_of s old who
    → Stepped s mid new who (CommitStep name) (commit_reply c) → ticket_of s new who ≡ committed_by name contents c (ticket_of s mid who) → TellsAll s new who
blob_tells s old mid new who name contents c ticket tells stored begun same done own =
    let t = ticket_of s old who in
    let is : ticket_of s new who ≡ committed_by name contents c t = own ∙ ap (committed_by name contents c) same in
    let has : Has (ticket_of s new who).noted name = subst (λ (u : Ticket). Has u.noted name) (sym is) (committed_has name contents c t) in
    both_tell s old mid new who (BeginStep name) (CommitStep name) WasBegun (commit_reply c) ticket tells begun done
    (subst (TellsAsMuch t) (sym is) (gone_tells t (committed_by name contents c t) (committed_on name contents c t))) (inl (stored, has)) has

-- `index.latest`: its begin and its replacement
pub latest_begin_fresh : (s : Start) (log : List Moment) (who : ℕ) → TellsAll s log who → (ticket_of s log who).tried_latest ≡ false → IsFresh s log who (BeginStep Latest)
latest_begin_fresh s log who tells untried = untold_fresh s log who (BeginStep Latest) tells (λ told. ⊎_elim (λ noted. noted.0 refl) (λ latest. true≢false (sym latest.1 ∙ untried)) told)

pub latest_fresh : (s : Start) (old new : List Moment) (who : ℕ) → 1 ≤ who → TellsAll s old who → (ticket_of s old who).tried_latest ≡ false → Stepped s old new who (BeginStep Latest) WasBegun → IsFresh s new who LatestStep
latest_fresh s old new who ticket tells untried h = fresh_after s old new who LatestStep (BeginStep Latest) WasBegun ticket differ (untold_fresh s old who LatestStep tells (λ told. true≢false (sym told ∙ untried))) h
  where
    differ : Repeats (BeginStep Latest) LatestStep → ⊥
    differ same = same

tried_on : (t : Ticket) → HasGoneOn t (tried t)
tried_on t = record { drawn = λ h. h; noted = λ name h. h; tried = λ h. refl; raised = λ h. h; settled = λ h. h; listed = λ after h. h }

tried_much : (t u : Ticket) → u ≡ tried t → TellsAsMuch t u
tried_much t u is = subst (TellsAsMuch t) (sym is) (gone_tells t (tried t) (tried_on t))

pub latest_begin_tells : (s : Start) (old new : List Moment) (who : ℕ) (reply : Reply) → 1 ≤ who → TellsAll s old who → Stepped s old new who (BeginStep Latest) reply → ticket_of s new who ≡ tried (ticket_of s old who)
    → TellsAll s new who
latest_begin_tells s old new who reply ticket tells h is =
    stepped_tells s old new who (BeginStep Latest) reply ticket tells h (tried_much (ticket_of s old who) (ticket_of s new who) is) (inr (refl, ap (λ (t : Ticket). t.tried_latest) is))

pub latest_tells : (s : Start) (old mid new : List Moment) (who : ℕ) (reply : Reply) → 1 ≤ who → TellsAll s old who → Stepped s old mid who (BeginStep Latest) WasBegun → ticket_of s mid who ≡ ticket_of s old who
    → Stepped s mid new who LatestStep reply
    → ticket_of s new who ≡ tried (ticket_of s mid who) → TellsAll s new who
latest_tells s old mid new who reply ticket tells begun same done own =
    let t = ticket_of s old who in
    let is : ticket_of s new who ≡ tried t = own ∙ ap tried same in
    let has : (ticket_of s new who).tried_latest ≡ true = ap (λ (u : Ticket). u.tried_latest) is in
    both_tell s old mid new who (BeginStep Latest) LatestStep WasBegun reply ticket tells begun done (tried_much t (ticket_of s new who) is) (inr (refl, has)) has

-- a raise and a settle
pub raise_fresh : (s : Start) (log : List Moment) (who : ℕ) → TellsAll s log who → (ticket_of s log who).raised ≡ None → IsFresh s log who RaiseStep
raise_fresh s log who tells once = untold_fresh s log who RaiseStep tells (λ told. told once)

pub raise_tells : (s : Start) (old new : List Moment) (who n : ℕ) (reply : Reply) → 1 ≤ who → TellsAll s old who → Stepped s old new who RaiseStep reply
    → ticket_of s new who ≡ record (ticket_of s old who) { raised = Some n } → TellsAll s new who
raise_tells s old new who n reply ticket tells h is =
    let t = ticket_of s old who in
    let on : HasGoneOn t (record t { raised = Some n }) = record { drawn = λ h. h; noted = λ name h. h; tried = λ h. h; raised = λ h. some; settled = λ h. h; listed = λ after h. h } in
    stepped_tells s old new who RaiseStep reply ticket tells h (subst (TellsAsMuch t) (sym is) (gone_tells t (record t { raised = Some n }) on)) (subst (λ (u : Ticket). u.raised ≢ None) (sym is) some)
  where
    some : Some n ≡ None → ⊥
    some e = cc

pub drop_fresh : (s : Start) (log : List Moment) (who : ℕ) → TellsAll s log who → IsFresh s log who DroppedStep
drop_fresh s log who tells = untold_fresh s log who DroppedStep tells (λ told. told)

pub settle_fresh : (s : Start) (log : List Moment) (who : ℕ) → TellsAll s log who → (ticket_of s log who).settled ≡ false → IsFresh s log who SettleStep
settle_fresh s log who tells unsettled = untold_fresh s log who SettleStep tells (λ told. true≢false (sym told ∙ unsettled))

-- a draw
pub draw_fresh : (s : Start) (log : List Moment) (who count : ℕ) → TellsAll s log who → (ticket_of s log who).drawn ≡ 0 → IsFresh s log who (DrawStep count)
draw_fresh s log who count tells undrawn = untold_fresh s log who (DrawStep count) tells (λ told. told undrawn)

pub draw_tells : (s : Start) (old new : List Moment) (who first count : ℕ) (reply : Reply) → 1 ≤ who → TellsAll s old who → Stepped s old new who (DrawStep count) reply
    → ticket_of s new who ≡ record (ticket_of s old who) { first = first; drawn = count } → count ≢ 0
    → TellsAll s new who
draw_tells s old new who first count reply ticket tells h is some =
    let t = ticket_of s old who in
    let on : HasGoneOn t (record t { first = first; drawn = count }) = record { drawn = λ h. some; noted = λ name h. h; tried = λ h. h; raised = λ h. h; settled = λ h. h; listed = λ after h. h } in
    stepped_tells s old new who (DrawStep count) reply ticket tells h (subst (TellsAsMuch t) (sym is) (gone_tells t (record t { first = first; drawn = count }) on)) (subst (λ (u : Ticket). u.drawn ≢ 0) (sym is) some)

-- a fetch
fetching_on : (name : BlobName) (bytes : Option Bytes) (t : Ticket) → HasGoneOn t (fetching name bytes t)
fetching_on name None t = gone_not t
fetching_on name (Some bytes) t = record { drawn = λ h. h; noted = λ name h. h; tried = λ h. h; raised = λ h. h; settled = λ h. h; listed = λ after h. h }

fetched_on : {F : Type 0} (left : F → Option Bytes) (name : BlobName) (o : Option F) (t : Ticket) → HasGoneOn t (fetched_by left name o t)
fetched_on left name None t = gone_not t
fetched_on left name (Some f) t = fetching_on name (left f) t

pub fetch_tells : {F : Type 0} (s : Start) (old new : List Moment) (who : ℕ) (name : BlobName) (left : F → Option Bytes) (o : Option F) → 1 ≤ who → TellsAll s old who → Stepped s old new who (FetchStep name) (fetch_reply o)
    → ticket_of s new who ≡ fetched_by left name o (ticket_of s old who) → TellsAll s new who
fetch_tells s old new who name left o ticket tells h is =
    let t = ticket_of s old who in
    stepped_tells s old new who (FetchStep name) (fetch_reply o) ticket tells h (subst (TellsAsMuch t) (sym is) (gone_tells t (fetched_by left name o t) (fetched_on left name o t))) tt

-- the settle of a delete or cleanup, and its removals
pub prune_fresh : (s : Start) (log : List Moment) (who : ℕ) → TellsAll s log who → (ticket_of s log who).settled ≡ false → IsFresh s log who (PruneStep SettlePruned)
prune_fresh s log who tells unsettled = untold_fresh s log who (PruneStep SettlePruned) tells (λ told. true≢false (sym told ∙ unsettled))

-- a ticket that hasn't settled has removed nothing
pub none_removed : (s : Start) (log : List Moment) (who : ℕ) (e : Entry) (names : List BlobName) → TellsAll s log who → (ticket_of s log who).settled ≡ false → Has (made_of s log who) e → e.step ≡ PruneStep (RemoveDoomed names) → ⊥
none_removed s log who e names tells unsettled has is = true≢false (sym (subst (TellsStep (ticket_of s log who)) is (tells e has)) ∙ unsettled)

-- ---- pages of a listing

less_greater : Less ≡ Greater → ⊥
less_greater e = cc

not_before_itself : (text : Bytes) → slice_cmp nat_cmp text text ≡ Less → ⊥
not_before_itself text e = less_greater (sym e ∙ nat_list_cmp_total.antisymm text text ∙ ap ordering_reverse e)

not_before : (after : Option Bytes) → ComesBefore after after → ⊥
not_before None h = h
not_before (Some text) h = not_before_itself text h

before_next : (a b c : Option Bytes) → ComesBefore a b → ComesBefore b c → ComesBefore a c
before_next a None c first second = absurd first
before_next a (Some y) None first second = absurd second
before_next None (Some y) (Some z) first second = tt
before_next (Some x) (Some y) (Some z) first second = nat_list_cmp_total.trans x y z first second

last_append : (xs : List BlobSize) (b : BlobSize) (rest : List BlobSize) → last_text (xs ++ b ∷ rest) ≡ last_text (b ∷ rest)
last_append (x ∷ y ∷ xs) b rest = last_append (y ∷ xs) b rest
last_append xs b rest = refl

-- the last text of some blobs is that of one of them
last_has : (b : BlobSize) (rest : List BlobSize) → (x : BlobSize) × Has (b ∷ rest) x × (last_text (b ∷ rest) ≡ Some x.text)
last_has b [] = (b, inl refl, refl)
last_has b (c ∷ rest) = let found = last_has c rest in (found.0, inr found.1, found.2)

-- a page that doesn't end the listing goes past the name at which it begins
page_past : (after : Option Bytes) (listed page : List BlobSize) → IsPage after page → is_short page ≡ false → ComesBefore after (last_text (listed ++ page))
page_past after listed [] h long = absurd (true≢false long)
page_past after listed (b ∷ rest) h long =
    let found = last_has b rest in
    subst (ComesBefore after) (sym (last_append listed b rest ∙ found.2)) (h.follow found.0 found.1)

page_told : (after : Option Bytes) (listed page : List BlobSize) → IsPage after page → HasListed (listed ++ page) (is_short page) after
page_told after listed page h = go (is_short page) refl
  where
    go : (short : Bool) → is_short page ≡ short → HasListed (listed ++ page) (is_short page) after
    go true short = inl short
    go false long = inr (page_past after listed page h long)

listing_on : (t : Ticket) (page : List BlobSize) → t.whole ≡ false → IsPage (last_text t.listed) page → HasGoneOn t (listing t page)
listing_on t page unended h = record { drawn = λ h. h; noted = λ name h. h; tried = λ h. h; raised = λ h. h; settled = λ h. h; listed = later }
  where
    past : (after : Option Bytes) → ComesBefore after (last_text t.listed) → HasListed (t.listed ++ page) (is_short page) (last_text t.listed) → HasListed (t.listed ++ page) (is_short page) after
    past after before (inl whole) = inl whole
    past after before (inr next) = inr (before_next after (last_text t.listed) (last_text (t.listed ++ page)) before next)

    later : (after : Option Bytes) → HasListed t.listed t.whole after → HasListed (t.listed ++ page) (is_short page) after
    later after (inl whole) = absurd (true≢false (sym whole ∙ unended))
    later after (inr before) = past after before (page_told (last_text t.listed) t.listed page h)

-- before the listing has ended the ticket doesn't tell a page after the last name that was listed
untold_list : (t : Ticket) (after : Option Bytes) → t.whole ≡ false → after ≡ last_text t.listed → HasListed t.listed t.whole after → ⊥
untold_list t after unended is (inl whole) = true≢false (sym whole ∙ unended)
untold_list t after unended is (inr before) = not_before after (subst (ComesBefore after) (sym is) before)

-- the next page begins after the last name that was listed
pub list_fresh : (s : Start) (log : List Moment) (who : ℕ) (after : Option Bytes) → TellsAll s log who → (ticket_of s log who).whole ≡ false → after ≡ last_text (ticket_of s log who).listed → IsFresh s log who (ListStep after)
list_fresh s log who after tells unended is = untold_fresh s log who (ListStep after) tells (untold_list (ticket_of s log who) after unended is)

pub list_tells : (s : Start) (old new : List Moment) (who : ℕ) (after : Option Bytes) (page : List BlobSize) → 1 ≤ who → TellsAll s old who → (ticket_of s old who).whole ≡ false → after ≡ last_text (ticket_of s old who).listed
    → Stepped s old new who (ListStep after) (WasListed page) → IsPage after page → ticket_of s new who ≡ listing (ticket_of s old who) page → TellsAll s new who
list_tells s old new who after page ticket tells unended from h is_page is =
    let t = ticket_of s old who in
    stepped_tells s old new who (ListStep after) (WasListed page) ticket tells h
    (subst (TellsAsMuch t) (sym is) (gone_tells t (listing t page) (listing_on t page unended (subst (λ (o : Option Bytes). IsPage o page) from is_page))))
    (subst (λ (u : Ticket). HasListed u.listed u.whole after) (sym is) (page_told after t.listed page is_page))
