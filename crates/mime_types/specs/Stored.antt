-- Parameters as a record in memory keeps them.
use Rattle.std.specs.Prelude.{ℕ, List, map}
use Rattle.mime_types.specs.declared.parameters.Parameter.{Parameter}
use Rattle.mime_types.specs.Mime.{Mime}

-- a name and its value
abbrev pub pair_in : Parameter → List ℕ × List ℕ
pair_in p = (p.name.items, p.value.items)

-- the names and values, in order
abbrev pub pairs_in : List Parameter → List (List ℕ × List ℕ)
pairs_in parameters = map pair_in parameters

-- the record of these parts
abbrev pub record_in : List ℕ → List ℕ → List Parameter → Mime
record_in main sub parameters = record { main = main; sub = sub; parameters = pairs_in parameters }
