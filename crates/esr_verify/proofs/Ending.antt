-- How a verification ends that went well.
use Rattle.std.proofs.Common.{◌≡◌, ℕ, true, List, [], ◌∷◌, ◌++◌, map, Option, Some, Result, Ok, Err, OnOk, sym, ap, ◌∙◌, subst}
use Rattle.esr_model.specs.Lists.{Has-left}
use Rattle.esr_names.specs.declared.blob.BlobName.{BlobName as CodeName}
use Rattle.esr_names.specs.IdText.{id_text}
use Rattle.esr_model.specs.Names.{BlobName, TestMaster}
use Rattle.esr_model.specs.Values.{Has}
use Rattle.esr_core.specs.World.{Caller, no_caller}
use Rattle.esr_core.specs.Restores.{WasRead}
use Rattle.esr_core.specs.Entry.{Moment, ReadStep, DrawTest, RemoveTests, VerifiedAll, DrawnFrom, WasRemoved, HasEnded}
use Rattle.esr_formats.specs.Names.{name_of}
use Rattle.esr_desk.specs.Start.{Start}
use Rattle.esr_desk.specs.declared.refusal.StepRefusal.{StepRefusal}
use Rattle.esr_desk.specs.Outcome.{Stepped, Outcome}
use Rattle.esr_desk.specs.Own.{caller_of}
use Rattle.esr_desk.specs.Verify.Conditions.{CanRemoveTests, CanEndVerification}
use Rattle.esr_verify.specs.Steps.{Answered, test_names, writing, reading}
use Rattle.esr_verify.specs.Tests.{AreTests}
use Rattle.esr_verify.specs.Verified.{HasVerified}
use Rattle.esr_verify.specs.Went.{Went, Drew}
use Rattle.esr_verify.specs.Done.{HasDone}
use Rattle.esr_verify.specs.Ended.{Ended, ending}
use Rattle.esr_verify.proofs.Naming.{few_names}
use Rattle.esr_verify.proofs.Going.{front_is, stepped_went, went_on}
use Rattle.esr_verify.proofs.Doing.{is_open}

-- ---- what the last steps need

pub can_remove : (s : Start) (c : Caller) (id : ℕ) (names : List CodeName) → AreTests id names → HasDone s c id (map name_of names) (map name_of names) → CanRemoveTests c (map name_of names)
can_remove s c id names tests h = record { few = few_names id names tests; committed = h.committed }

one_id : (a b : ℕ) → ◌≡◌ {A = Option ℕ} (Some a) (Some b) → a ≡ b
one_id a b e = cc

pub can_end : (s : Start) (log : List Moment) (c : Caller) (id : ℕ) (names : List BlobName) → Drew s log id → HasDone s c id names names → caller_of s log ≡ record c { removed = names ++ c.removed } → Has names (TestMaster id)
    → CanEndVerification (caller_of s log)
can_end s log c id names drew h is master = record {
  drawn = is_open s log id drew;
  master = λ other drawn.
      let same : id ≡ other = one_id id other (sym drew.is_open ∙ drawn) in
      let here : Has (caller_of s log).committed (TestMaster id) = subst (λ (d : Caller). Has d.committed (TestMaster id)) (sym is) (h.committed (TestMaster id) master) in
      subst (λ (k : ℕ). Has (caller_of s log).committed (TestMaster k)) same here;
  found = subst (λ (d : Caller). (name : BlobName) → Has d.committed name → Has d.found name) (sym is) (λ name has. h.found name (h.only name has));
  removed = subst (λ (d : Caller). (name : BlobName) → Has d.committed name → Has d.removed name) (sym is) (λ name has. Has-left names c.removed name (h.only name has));
}

-- ---- the end

pub ended : (s : Start) (old mid new : List Moment) (id : ℕ) (names : List BlobName) → s.alone ≡ true → HasDone s (caller_of s old) id names names → Stepped s old mid 0 (ReadStep (RemoveTests names)) WasRemoved
    → caller_of s mid ≡ record (caller_of s old) { removed = names ++ (caller_of s old).removed } → Stepped s mid new 0 (ReadStep VerifiedAll) HasEnded → caller_of s new ≡ no_caller → Ended s old new id names (ending names)
ended s old mid new id names alone h removed own last closed =
    let before : last.front ≡ mid = front_is s mid last.front 0 alone last.waited in
    let read : (caller_of s last.front).read ≡ (caller_of s old).read = ap (λ (log : List Moment). (caller_of s log).read) before ∙ ap (λ (c : Caller). c.read) own in
    record {
      went =
          went_on old mid new (record { step = ReadStep (RemoveTests names); reply = WasRemoved } ∷ []) (record { step = ReadStep VerifiedAll; reply = HasEnded } ∷ [])
          (stepped_went s old mid (ReadStep (RemoveTests names)) WasRemoved alone removed)
          (stepped_went s mid new (ReadStep VerifiedAll) HasEnded alone last);
      front = last.front;
      image = last.image;
      last = last.is;
      read = λ name has tells. subst (λ (l : List (BlobName × List ℕ)). WasRead l name (id_text id)) (sym read) (h.read name has tells);
      closed = closed;
    }

pub if_ended : {X : Type 0} (s : Start) (old mid new : List Moment) (id : ℕ) (names : List BlobName) (result : Result X StepRefusal) → s.alone ≡ true → HasDone s (caller_of s old) id names names
    → Stepped s old mid 0 (ReadStep (RemoveTests names)) WasRemoved
    → caller_of s mid ≡ record (caller_of s old) { removed = names ++ (caller_of s old).removed } → Outcome s mid new 0 (ReadStep VerifiedAll) (λ _. HasEnded) result → OnOk result (caller_of s new ≡ no_caller)
    → OnOk result (Ended s old new id names (ending names))
if_ended s old mid new id names (Ok x) alone h removed own last closed = ended s old mid new id names alone h removed own last closed
if_ended s old mid new id names (Err e) alone h removed own last closed = tt

-- steps before the end
pub ended_after : (s : Start) (old mid new : List Moment) (id : ℕ) (names : List BlobName) (one two : List Answered) → Went old mid one → Ended s mid new id names two → Ended s old new id names (one ++ two)
ended_after s old mid new id names one two went h = record {
  went = went_on old mid new one two went h.went;
  front = h.front;
  image = h.image;
  last = h.last;
  read = h.read;
  closed = h.closed;
}

pub ended_all : (s : Start) (old one two new : List Moment) (id workers : ℕ) (names : List CodeName) → map name_of names ≡ test_names id workers → Went old one (writing (map name_of names)) → Went one two (reading (map name_of names))
    → Ended s two new id (map name_of names) (ending (map name_of names)) → Ended s old new id (test_names id workers) (writing (test_names id workers) ++ reading (test_names id workers) ++ ending (test_names id workers))
ended_all s old one two new id workers names are wrote read h =
    let code = map name_of names in
    subst (λ (l : List BlobName). Ended s old new id l (writing l ++ reading l ++ ending l)) are
    (ended_after s old two new id code (writing code ++ reading code) (ending code) (went_on old one two (writing code) (reading code) wrote read) h)

-- the whole verification
pub has_verified : (s : Start) (old mid new : List Moment) (id workers : ℕ) → s.alone ≡ true → Stepped s old mid 0 (ReadStep DrawTest) (DrawnFrom id)
    → Ended s mid new id (test_names id workers) (writing (test_names id workers) ++ reading (test_names id workers) ++ ending (test_names id workers)) → HasVerified s old new workers
has_verified s old mid new id workers alone drew h =
    let names = test_names id workers in
    let rest = writing names ++ reading names ++ ending names in
    let went = went_on old mid new (record { step = ReadStep DrawTest; reply = DrawnFrom id } ∷ []) rest (stepped_went s old mid (ReadStep DrawTest) (DrawnFrom id) alone drew) h.went in
    record {
      id = id;
      moments = went.moments;
      is = went.is;
      are = went.are;
      front = h.front;
      image = h.image;
      last = h.last;
      read = h.read;
      closed = h.closed;
    }
