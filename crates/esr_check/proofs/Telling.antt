-- What a check finds names the first blob that is damaged.
use Rattle.std.proofs.Common.{◌≡◌, ◌⊎◌, inl, inr, ℕ, zero, suc, ◌<◌, Bool, List, [], ◌∷◌, map, length, take, get_or, Option, Some, None, Result, Ok, Err, IfErr, refl, sym, ap, subst, arith}
use Rattle.std.specs.Result.{IsErrAnd}
use Rattle.esr_json.specs.declared.refusal.ReadRefusal.{ReadRefusal}
use Rattle.esr_json.specs.declared.refusal.ReadRefusal.TheVariants as reads
use Rattle.esr_hash.specs.declared.print.Print.{Print}
use Rattle.esr_names.specs.declared.blob.BlobName.{BlobName as CodeName}
use Rattle.esr_names.specs.declared.blob.ShardId.{ShardId}
use Rattle.esr_names.specs.declared.ids.Id.{Id}
use Rattle.esr_shardidx.specs.declared.entry.FileEntry.{FileEntry as CodeEntry}
use Rattle.esr_model.specs.Names.{BlobName, File}
use Rattle.esr_core.specs.Entry.{Why as CoreWhy, OfAbsence, OfUnreadable, OfPrint, OfDisagreement}
use Rattle.esr_formats.specs.Names.{name_of}
use Rattle.esr_desk.specs.declared.entry.Why.{Why}
use Rattle.esr_desk.specs.Entries.{why_of}
use Rattle.esr_unit.specs.declared.trouble.Trouble.{Trouble}
use Rattle.esr_unit.specs.declared.trouble.Trouble.TheVariants as troubles
use Rattle.esr_unit.specs.Ending.{unread_as}
use Rattle.esr_unit.specs.Refusals.{passed_on}
use Rattle.esr_check.specs.Names.{Just}
use Rattle.esr_check.specs.Trouble.{IsOther, IsCutOtherwise, Judged}
use Rattle.esr_check.specs.First.{IsNext, NamesOne, TellsOne}

-- ---- of more blobs

names_more : (P Q : BlobName → Type 0) → ((name : BlobName) → P name → Q name) → (why : CoreWhy) → NamesOne P why → NamesOne Q why
names_more P Q each (OfAbsence name) h = each name h
names_more P Q each (OfUnreadable name reason) h = each name h
names_more P Q each (OfPrint name stated_len stated_digest found_len found_digest) h = each name h
names_more P Q each (OfDisagreement name other) h = each name h
names_more P Q each why h = tt

tells_more : {S F : Type 0} (P Q : BlobName → Type 0) → ((name : BlobName) → P name → Q name) → (trouble : Trouble S F) → TellsOne P trouble → TellsOne Q trouble
tells_more P Q each (troubles.Found why) h = names_more P Q each (why_of why) h
tells_more P Q each trouble h = tt

pub if_tells : {X S F : Type 0} (P Q : BlobName → Type 0) → ((name : BlobName) → P name → Q name) → (result : Result X (Trouble S F)) → IfErr result (TellsOne P) → IfErr result (TellsOne Q)
if_tells P Q each (Ok x) h = tt
if_tells P Q each (Err trouble) h = tells_more P Q each trouble h

-- a trouble that was passed on
pub passes : {X S F : Type 0} (P Q : BlobName → Type 0) (result : Result X (Trouble S F)) (trouble : Trouble S F) → IsErrAnd result (λ x. x ≡ trouble) → ((name : BlobName) → P name → Q name) → TellsOne P trouble
    → IfErr result (TellsOne Q)
passes P Q result trouble is each h = passed_on result (TellsOne Q) trouble is (tells_more P Q each trouble h)

-- a text that wasn't read
unread_one : (S F : Type 0) (name : CodeName) (refusal : ReadRefusal) → TellsOne {S = S} {F = F} (Just (name_of name)) (unread_as name refusal)
unread_one S F name reads.Memory = tt
unread_one S F name (reads.Damaged reason) = refl

pub unread_tells : {S F : Type 0} (name : CodeName) (refusal : ReadRefusal) (trouble : Trouble S F) → trouble ≡ unread_as name refusal → TellsOne (Just (name_of name)) trouble
unread_tells {S} {F} name refusal trouble is = subst (λ (t : Trouble S F). TellsOne (Just (name_of name)) t) (sym is) (unread_one S F name refusal)

-- ---- an item at a place of a list

pub next_at : {A B : Type 0} (h : A → B) (xs : List A) (i : ℕ) (x : A) → i < length xs → x ≡ get_or xs i x → IsNext (map h xs) (map h (take i xs)) (h x)
next_at h [] i x less is = absurd (omega (arith, less))
next_at {A} {B} h (y ∷ ys) zero x less is = record { after = map h ys; is = ap (λ (z : A). h z ∷ map h ys) (sym is) }
next_at {A} {B} h (y ∷ ys) (suc i) x less is =
    let fewer : i < length ys = omega (arith, less) in
    let rest = next_at h ys i x fewer is in
    record { after = rest.after; is = ap (λ (l : List B). h y ∷ l) rest.is }

-- ---- a file

-- what is found of it
judged_why : (P : BlobName → Type 0) (at : ShardId) (generation : Id) (e : CodeEntry) (found : Print) (exact : Bool) (why : Why) → IsOther at e found why ⊎ IsCutOtherwise at generation e found exact why
    → P (File at.index.number at.number e.name.number) → NamesOne P (why_of why)
judged_why P at generation e found exact why (inl h) named = subst (λ (w : Why). NamesOne P (why_of w)) (sym h.0) named
judged_why P at generation e found exact why (inr h) named = subst (λ (w : Why). NamesOne P (why_of w)) (sym h.0) named

pub judged_tells : (P : BlobName → Type 0) (at : ShardId) (generation : Id) (e : CodeEntry) (found : Print) (exact : Bool) (judged : Option Why) (why : Why) → Judged at generation e found exact judged → judged ≡ Some why
    → P (File at.index.number at.number e.name.number)
    → NamesOne P (why_of why)
judged_tells P at generation e found exact None why h is named = absurd cc
judged_tells P at generation e found exact (Some w) why h is named =
    let same : w ≡ why = cc in
    subst (λ (x : Why). NamesOne P (why_of x)) same (judged_why P at generation e found exact w h named)
