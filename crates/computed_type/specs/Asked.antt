-- What the code asks of a response; private contracts cite it.
use Rattle.std.specs.Prelude.{◌≡◌, ℕ, Bool, List, Option, Some}
use Rattle.std.specs.Option.{option_copied}
use Rattle.std.specs.Borrow.{Bor}
use Rattle.mime_types.specs.Mime.{Mime}
use Rattle.mime_types.specs.Sets.{main_of, sub_of}
use Rattle.mime_types.specs.declared.essences.Essence.{Essence}
use Rattle.header_values.specs.Questions.{is_nosniff}
use Rattle.computed_type.specs.Plain.{is_default_plain}
use Rattle.computed_type.specs.Rules.{Response}

-- a rule as the code has it
abbrev pub rule_of : Bool × Option (Bor (List ℕ)) → Bool × Option (List ℕ)
rule_of rule = (rule.0, option_copied rule.1)

-- the response has this type, these answers about its fields, and this window
pub record IsAsked (r : Response) (e : Essence) (guarded default : Bool) (window : List ℕ) : Type 0 where
  pub mime : Mime
  pub supplied : r.supplied ≡ Some mime
  pub main : mime.main ≡ main_of e
  pub sub : mime.sub ≡ sub_of e
  pub nosniff : is_nosniff r.fields ≡ guarded
  pub plain : is_default_plain r.fields ≡ default
  pub seen : r.window ≡ window
