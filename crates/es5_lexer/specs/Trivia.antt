-- What stands between tokens: white space, line terminators and comments (ECMA-262 5.1, sections
-- 7.2, 7.3 and 7.4).
use Rattle.std.specs.Prelude.{◌≡◌, ℕ, Bool, true, false, ◌&&◌, ◌||◌, not, List, [], ◌∷◌, ◌==◌, ◌⊎◌}
use Rattle.std.specs.List.{list_any}
use Rattle.es5_lexer.specs.CodePoints.{asterisk, solidus}
use Rattle.es5_lexer.specs.Characters.{is_line_end, is_space}

-- white space or a line terminator
abbrev pub is_blank : ℕ → Bool
is_blank c = is_line_end c || is_space c

-- SingleLineCommentChars: no line terminator among them
abbrev pub is_line_comment : List ℕ → Bool
is_line_comment u = not (list_any is_line_end u)

-- a comment of one line goes on up to a line terminator or the end
abbrev pub EndsLine : List ℕ → Type 0
EndsLine [] = Unit {0}
EndsLine (c ∷ rest) = is_line_end c ≡ true

-- MultiLineCommentChars and PostAsteriskCommentChars with the end of their comment: after a `*` or
-- not, the first `/` that stands after a `*` ends it
abbrev pub IsCommentRest : Bool → List ℕ → Type 0
IsCommentRest star [] = ⊥
IsCommentRest star (c ∷ u) =
    (((star && (c == solidus)) ≡ true) × (u ≡ []))
    ⊎ (((star && (c == solidus)) ≡ false) × IsCommentRest (c == asterisk) u)

-- what stands after `/*`, the first `*/` included
abbrev pub IsBlockComment : List ℕ → Type 0
IsBlockComment u = IsCommentRest false u
