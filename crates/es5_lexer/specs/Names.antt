-- Names and reserved words (ECMA-262 5.1, section 7.6).
--
--   IdentifierName  :: IdentifierStart | IdentifierName IdentifierPart
--   IdentifierStart :: UnicodeLetter | $ | _ | \ UnicodeEscapeSequence
--   IdentifierPart  :: IdentifierStart | a mark, a digit or a connector | <ZWNJ> | <ZWJ>
--
-- An escape is `\u` and four hexadecimal digits, and gives a character that may stand in its place.
use Rattle.std.specs.Prelude.{◌≡◌, ℕ, Bool, true, false, if◌then◌else◌, List, [], ◌∷◌, ◌==◌, codes, bytes_eq, Some, None, Option, ◌⊎◌}
use Rattle.std.specs.List.{list_any}
use Rattle.es5_lexer.specs.CodePoints.{reverse_solidus, small_u}
use Rattle.es5_lexer.specs.Characters.{is_start, is_part, escaped, is_escape_of}
use Rattle.es5_lexer.specs.declared.tokens.Word.{Word}
use Rattle.es5_lexer.specs.declared.tokens.Word.TheVariants.{Break, Case, Catch, Continue, Debugger, Default, Delete, Do, Else, Finally, For, Function, If, In, Instanceof, New, Return, Switch, This, Throw, Try, Typeof, Var, Void, While, With, Class, Const, Enum, Export, Extends, Import, Super, Null, True, False}
use Rattle.es5_lexer.specs.declared.tokens.Token.{Token}
use Rattle.es5_lexer.specs.declared.tokens.Token.TheVariants.{Ident, Get, Set, Word as AWord, EscapedWord}

abbrev mutual
  -- zero or more name parts
  pub AreParts : List ℕ → Type 0
  AreParts [] = Unit {0}
  AreParts (c ∷ u) = ((is_part c ≡ true) × AreParts u) ⊎ ((c ≡ reverse_solidus) × AreEscaped is_part u)

  -- what stands after a `\`: the rest of an escape of a character of the set, then name parts
  pub AreEscaped : (ℕ → Bool) → List ℕ → Type 0
  AreEscaped set (x ∷ a ∷ b ∷ c ∷ d ∷ u) =
      (x ≡ small_u) × (is_escape_of set a b c d ≡ true) × AreParts u
  AreEscaped set _ = ⊥

-- IdentifierName
abbrev pub IsName : List ℕ → Type 0
IsName [] = ⊥
IsName (c ∷ u) = ((is_start c ≡ true) × AreParts u) ⊎ ((c ≡ reverse_solidus) × AreEscaped is_start u)

abbrev pub spelled_with : Option ℕ → List ℕ → List ℕ
spelled_with (Some c) v = c ∷ v
spelled_with None v = []

abbrev mutual
  -- the characters of a name, each escape replaced by what it gives
  pub spelled : List ℕ → List ℕ
  spelled [] = []
  spelled (c ∷ u) = if c == reverse_solidus then spelled_escape u else c ∷ spelled u

  pub spelled_escape : List ℕ → List ℕ
  spelled_escape (x ∷ a ∷ b ∷ c ∷ d ∷ u) = spelled_with (escaped a b c d) (spelled u)
  spelled_escape _ = []

-- it is written with an escape
abbrev pub is_escaped : List ℕ → Bool
is_escaped u = list_any (λ c. c == reverse_solidus) u

-- ReservedWord (7.6.1): Keyword, FutureReservedWord, NullLiteral, BooleanLiteral
unfoldable pub reserved_words : List (List ℕ × Word)
reserved_words =
    (codes "break", Break)
    ∷ (codes "case", Case)
    ∷ (codes "catch", Catch)
    ∷ (codes "continue", Continue)
    ∷ (codes "debugger", Debugger)
    ∷ (codes "default", Default)
    ∷ (codes "delete", Delete)
    ∷ (codes "do", Do)
    ∷ (codes "else", Else)
    ∷ (codes "finally", Finally)
    ∷ (codes "for", For)
    ∷ (codes "function", Function)
    ∷ (codes "if", If)
    ∷ (codes "in", In)
    ∷ (codes "instanceof", Instanceof)
    ∷ (codes "new", New)
    ∷ (codes "return", Return)
    ∷ (codes "switch", Switch)
    ∷ (codes "this", This)
    ∷ (codes "throw", Throw)
    ∷ (codes "try", Try)
    ∷ (codes "typeof", Typeof)
    ∷ (codes "var", Var)
    ∷ (codes "void", Void)
    ∷ (codes "while", While)
    ∷ (codes "with", With)
    ∷ (codes "class", Class)
    ∷ (codes "const", Const)
    ∷ (codes "enum", Enum)
    ∷ (codes "export", Export)
    ∷ (codes "extends", Extends)
    ∷ (codes "import", Import)
    ∷ (codes "super", Super)
    ∷ (codes "null", Null)
    ∷ (codes "true", True)
    ∷ (codes "false", False)
    ∷ []

-- the word that stands beside this spelling in a list
abbrev pub word_in : List (List ℕ × Word) → List ℕ → Option Word
word_in [] v = None
word_in (w ∷ words) v = if bytes_eq w.0 v then Some w.1 else word_in words v

-- the reserved word of this spelling
abbrev pub word_of : List ℕ → Option Word
word_of v = word_in reserved_words v

-- an identifier of this spelling
abbrev pub ident_of : List ℕ → Token
ident_of v = if bytes_eq (codes "get") v then Get else if bytes_eq (codes "set") v then Set else Ident

-- the token of a name, by whether it is written with an escape, the word of its spelling, and the
-- spelling
abbrev pub token_by : Bool → Option Word → List ℕ → Token
token_by false (Some w) v = AWord w
token_by true (Some w) v = EscapedWord
token_by false None v = ident_of v
token_by true None v = Ident

-- the token of a name
abbrev pub name_token : List ℕ → Token
name_token u = token_by (is_escaped u) (word_of (spelled u)) (spelled u)
