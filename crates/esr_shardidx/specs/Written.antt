-- Values that a writer has put down, as tokens.
use Rattle.std.specs.Prelude.{◌≡◌, ℕ, List, [], ◌∷◌, ◌++◌, codes, decimal}
use Rattle.json.specs.Token.{Token}
use Rattle.json.specs.Tree.{json_tokens}
use Rattle.json.specs.Written.{Written}
use Rattle.serde_json.specs.Data.{Data}
use Rattle.serde_json.specs.Written.{outline}
use Rattle.esr_hash.specs.Digits.{digits_of}
use Rattle.esr_shardidx.specs.declared.entry.FileEntry.{FileEntry}
use Rattle.esr_shardidx.specs.Entries.{file_text}

-- the tokens of a value
abbrev pub tokens_of : Data → List Token
tokens_of d = json_tokens (outline d)

-- the tokens of a member that is a number, and of one that is a text
abbrev pub number_member : List ℕ → ℕ → List Token
number_member name n = Token.key name ∷ Token.number (decimal n) ∷ []

abbrev pub text_member : List ℕ → List ℕ → List Token
text_member name s = Token.key name ∷ Token.string s ∷ []

-- the tokens of the members of an entry
abbrev pub entry_members : FileEntry → List Token
entry_members e =
    number_member (codes "length") e.print.len ++ (text_member (codes "name") (file_text e.name) ++ (number_member (codes "part_size") e.part_size
    ++ (text_member (codes "physical_name") e.physical ++ text_member (codes "sha256") (digits_of e.print.sha256))))

-- these tokens were put after the others
pub record Adds (old new : Written) (ts : List Token) : Type 0 where
  pub before : new.before ≡ old.before
  pub tokens : new.tokens ≡ old.tokens ++ ts
