-- Histories, tickets and shards that go on.
use Rattle.std.proofs.Common.{◌≡◌, ℕ, true, List, Option, Some, None, Result, Ok, Err, OnOk, OnErr, IfOk, refl, sym, ap, ◌∙◌, subst}
use Rattle.esr_names.specs.declared.ids.Id.{Id}
use Rattle.esr_model.specs.Names.{ShardIndex}
use Rattle.esr_model.specs.Values.{Has}
use Rattle.esr_core.specs.Entry.{Step, FetchStep, Reply, WasFetched, Moment}
use Rattle.esr_source.specs.declared.files.ListedFile.{ListedFile}
use Rattle.esr_source.specs.Told.{ShardTold}
use Rattle.esr_model.specs.Lists.{Has-left}
use Rattle.esr_desk.specs.Start.{Start}
use Rattle.esr_desk.specs.Evidence.{HadReply}
use Rattle.esr_desk.specs.Grew.{GrewBy}
use Rattle.esr_parts.specs.Reads.{ReadOn}
use Rattle.esr_upload.specs.Base.{HasFetched}
use Rattle.esr_upload.specs.Surveyed.{SameShard}

-- ---- what the history has it keeps

had_later : (s : Start) (old new : List Moment) (who : ℕ) (step : Step) (reply : Reply) → GrewBy s who old new → HadReply old who step reply → HadReply new who step reply
had_later s old new who step reply grew had =
    let m : Moment = record { entry = record { who = who; step = step; reply = reply }; image = had.image } in
    record { image = had.image; there = subst (λ (log : List Moment). Has log m) (sym grew.is) (Has-left old grew.more m had.there) }

pub fetched_later : (s : Start) (old new : List Moment) (who index number : ℕ) (base : Option Id) → GrewBy s who old new → HasFetched old who index number base → HasFetched new who index number base
fetched_later s old new who index number None grew had = tt
fetched_later s old new who index number (Some g) grew had = had_later s old new who (FetchStep (ShardIndex index number g.number)) WasFetched grew had

-- ---- what a shard says

-- a shard that was read, and once more
pub read_on : (a b c : ShardTold) → ReadOn a b → ReadOn b c → ReadOn a c
read_on a b c first second = second ∙ ap (λ (t : ShardTold). record t { left = c.left }) first

pub same_on : (a b c : ShardTold) → SameShard a b → SameShard b c → SameShard a c
same_on a b c first second = second ∙ ap (λ (t : ShardTold). record t { listed = c.listed; left = c.left }) first

-- one that was read is the same
pub same_read : (a b : ShardTold) → ReadOn a b → SameShard a b
same_read a b is = is ∙ ap (λ (l : Option (List ListedFile)). record a { listed = l; left = b.left }) (sym (ap (λ (t : ShardTold). t.listed) is))

-- so is one that was listed, or wasn't
pub same_listed : {E : Type 0} (r : Result (List ListedFile) E) (a b : ShardTold) → IfOk r (λ fs. b ≡ record a { listed = Some fs }) → OnErr r (b ≡ a) → SameShard a b
same_listed (Ok fs) a b ok err =
    ok ∙ ap (λ (l : Option (List ListedFile)). record a { listed = l }) (sym (ap (λ (t : ShardTold). t.listed) ok))
    ∙ ap (λ (l : Option (List ℕ)). record a { listed = b.listed; left = l }) (sym (ap (λ (t : ShardTold). t.left) ok))
same_listed (Err e) a b ok err = subst (λ (t : ShardTold). SameShard a t) (sym err) refl

-- a start of a file reads on, whatever it is answered
pub read_start : {E : Type 0} {T : Type 0} (r : Result T E) (a b : ShardTold) (o : Option (List ℕ)) → OnOk r (b ≡ record a { left = o }) → OnErr r (b ≡ a) → ReadOn a b
read_start (Ok x) a b o ok err = ok ∙ ap (λ (p : Option (List ℕ)). record a { left = p }) (sym (ap (λ (t : ShardTold). t.left) ok))
read_start (Err e) a b o ok err = subst (λ (t : ShardTold). ReadOn a t) (sym err) refl

-- a shard that is sure stays without a fault, one call after another
pub steady_on : (a b : ShardTold) (x y z : ℕ) → SameShard a b → (a.is_sure ≡ true → y ≡ x) → (b.is_sure ≡ true → z ≡ y) → a.is_sure ≡ true → z ≡ x
steady_on a b x y z same first second sure = second (ap (λ (t : ShardTold). t.is_sure) same ∙ sure) ∙ first sure
