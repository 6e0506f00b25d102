-- Texts, their cuts and their records, computed from the definitions.
use Rattle.std.proofs.Common.{ℕ, List, [], ◌∷◌, ◌++◌, codes, map, refl}
use Rattle.orb_bytes.specs.Quoted.{QuotedUnit, qdtext, quoted_pair, by_quote, by_end, by_backslash}
use Rattle.mime_types.specs.Mime.{IsMime, nothing, quoted, plain, Segment, Assigned}

abbrev segment : List ℕ → List ℕ → Assigned → Segment
segment space name assigned = record { space = space; name = name; assigned = assigned }

abbrev letters : List ℕ → List QuotedUnit
letters text = map qdtext text

-- `text/plain;a="\"";a=2;b=`: the first of two values of a name counts, and an empty value none
first_counts : IsMime
    (codes "text/plain;a=" ++ (34 ∷ 92 ∷ 34 ∷ 34 ∷ codes ";a=2;b="))
    (record { main = codes "text"; sub = codes "plain"; parameters = (codes "a", 34 ∷ []) ∷ [] })
first_counts = (
  record {
    main = codes "text";
    sub = codes "plain";
    space = [];
    segments =
        segment [] (codes "a") (quoted (quoted_pair 34 ∷ []) by_quote [])
        ∷ segment [] (codes "a") (plain (codes "2"))
        ∷ segment [] (codes "b") (plain [])
        ∷ [];
  },
  record { whole = refl; main = refl; sub = refl; space = refl; segments = refl },
  refl,
)

-- `TEXT/HTML;Charset="utf-8" ;x=1 2`: small letters, and what stands after the quotes is ignored
ascii_lowercase : IsMime
    (codes "TEXT/HTML;Charset=" ++ (34 ∷ (codes "utf-8" ++ (34 ∷ codes " ;x=1 2"))))
    (record {
      main = codes "text";
      sub = codes "html";
      parameters = (codes "charset", codes "utf-8") ∷ (codes "x", codes "1 2") ∷ [];
    })
ascii_lowercase = (
  record {
    main = codes "TEXT";
    sub = codes "HTML";
    space = [];
    segments =
        segment [] (codes "Charset") (quoted (letters (codes "utf-8")) by_quote (codes " "))
        ∷ segment [] (codes "x") (plain (codes "1 2"))
        ∷ [];
  },
  record { whole = refl; main = refl; sub = refl; space = refl; segments = refl },
  refl,
)

-- `a/b;c="d\`: a `\` at the end of the text stands for itself
backslash_at_end : IsMime
    (codes "a/b;c=" ++ (34 ∷ codes "d" ++ (92 ∷ [])))
    (record { main = codes "a"; sub = codes "b"; parameters = (codes "c", 100 ∷ 92 ∷ []) ∷ [] })
backslash_at_end = (
  record {
    main = codes "a";
    sub = codes "b";
    space = [];
    segments = segment [] (codes "c") (quoted (letters (codes "d")) by_backslash []) ∷ [];
  },
  record { whole = refl; main = refl; sub = refl; space = refl; segments = refl },
  refl,
)

-- `text/plain;a="b;c"`: a `;` in quotes ends nothing
quoted_semicolon : IsMime
    (codes "text/plain;a=" ++ (34 ∷ (codes "b;c" ++ (34 ∷ []))))
    (record { main = codes "text"; sub = codes "plain"; parameters = (codes "a", codes "b;c") ∷ [] })
quoted_semicolon = (
  record {
    main = codes "text";
    sub = codes "plain";
    space = [];
    segments = segment [] (codes "a") (quoted (letters (codes "b;c")) by_quote []) ∷ [];
  },
  record { whole = refl; main = refl; sub = refl; space = refl; segments = refl },
  refl,
)

-- `text/html ; =; a b ;x="a,b`: a name may be empty or no token, and then gives nothing; the end of
-- the text closes a quoted string
open_string : IsMime
    (codes " text/html ; =; a b ;x=" ++ (34 ∷ codes "a,b "))
    (record { main = codes "text"; sub = codes "html"; parameters = (codes "x", codes "a,b") ∷ [] })
open_string = (
  record {
    main = codes "text";
    sub = codes "html";
    space = codes " ";
    segments =
        segment (codes " ") [] (plain [])
        ∷ segment (codes " ") (codes "a b ") nothing
        ∷ segment [] (codes "x") (quoted (letters (codes "a,b")) by_end [])
        ∷ [];
  },
  record { whole = refl; main = refl; sub = refl; space = refl; segments = refl },
  refl,
)
