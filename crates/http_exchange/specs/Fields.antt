-- The fields of a head as names and values (RFC 9110 5.1, RFC 9112 5).
use Rattle.std.specs.Prelude.{ℕ, List, map}
use Rattle.httparse.specs.Grammar.{Field}
use Rattle.httparse.specs.Spans.{name_and_value}

-- names and values, without the white space around them
abbrev pub pairs_of : List Field → List (List ℕ × List ℕ)
pairs_of fields = map name_and_value fields
