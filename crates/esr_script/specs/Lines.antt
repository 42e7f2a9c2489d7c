-- The lines of a script and the words of a line.
use Rattle.std.specs.Prelude.{ℕ, ◌==◌, ◌&&◌, ◌||◌, nat_lt, Bool, false, List, [], ◌∷◌, ◌++◌, length, if◌then◌else◌}

abbrev pub begins_with : ℕ → List ℕ → Bool
begins_with b [] = false
begins_with b (c ∷ cs) = c == b

-- the pieces so far with the one that ends here, unless it is empty
abbrev pub with_piece : List (List ℕ) → List ℕ → List (List ℕ)
with_piece pieces piece = if length piece == 0 then pieces else pieces ++ piece ∷ []

-- The lines of a text after some lines and the front of one. A newline (10) ends a line, and so does
-- the end of the text. A carriage return (13) directly before a newline is dropped.
unfoldable pub lines_from : List (List ℕ) → List ℕ → List ℕ → List (List ℕ)
lines_from lines line [] = with_piece lines line
lines_from lines line (c ∷ cs) =
    if c == 10 then lines_from (lines ++ line ∷ []) [] cs
    else (if c == 13 && begins_with 10 cs then lines_from lines line cs else lines_from lines (line ++ c ∷ []) cs)

-- the lines of a script
abbrev pub lines_of : List ℕ → List (List ℕ)
lines_of bytes = lines_from [] [] bytes

-- the words of a line after some words and the front of one: spaces (32) part them
unfoldable pub words_from : List (List ℕ) → List ℕ → List ℕ → List (List ℕ)
words_from words word [] = with_piece words word
words_from words word (c ∷ cs) = if c == 32 then words_from (with_piece words word) [] cs else words_from words (word ++ c ∷ []) cs

-- the words of a line
abbrev pub words_of : List ℕ → List (List ℕ)
words_of line = words_from [] [] line

-- the bytes of which a line has none
abbrev pub is_bad_byte : ℕ → Bool
is_bad_byte c = nat_lt c 32 || nat_lt 126 c
