-- How statements end (ECMA-262 5.1, section 7.9): when nothing stands for a semicolon.
use Rattle.std.specs.Prelude.{◌≡◌, Bool, true, false, not, ◌&&◌, ◌||◌, List, [], ◌∷◌}
use Rattle.es5_lexer.specs.declared.tokens.Punct.TheVariants.{RightBrace, LeftParen, LeftBracket, Dot, Semicolon, Comma, Question, Slash, SlashAssign, Assign as Equals}
use Rattle.es5_lexer.specs.declared.tokens.Token.{Token}
use Rattle.es5_lexer.specs.declared.tokens.Token.TheVariants.{Punct as APunct, Pattern}
use Rattle.es5_lexer.specs.declared.tokens.Lexeme.{Lexeme}
use Rattle.es5_trees.specs.Words.{is_binary, is_assign}
use Rattle.es5_trees.specs.Trees.{End, semicolon, omitted, Expr, one, more, Assign, value, assign, Cond, plain, choice, Binary, operand, operation, Unary, unmarked, prefix, Postfix, left, update, Decl, bare, initialised, Decls, one_decl, more_decls, Statement, if_only, if_else, loop, for, for_var, for_in, for_var_in, label}

-- what ended
pub data Ending : Type 0 where
  -- an Expr, or Decls whose last Decl has `=`, that doesn't end in `++` or `--`
  after_operand : Ending
  -- the same that does
  after_update : Ending
  -- Decls whose last Decl is an identifier alone
  after_name : Ending
  -- a word, the identifier after `continue` or `break`, or the `)` of `do`
  after_word : Ending

-- the last part of an expression tells
abbrev pub postfix_ending : Postfix → Ending
postfix_ending (left l) = after_operand
postfix_ending (update l p) = after_update

abbrev pub unary_ending : Unary → Ending
unary_ending (unmarked p) = postfix_ending p
unary_ending (prefix x u) = unary_ending u

abbrev pub binary_ending : Binary → Ending
binary_ending (operand u) = unary_ending u
binary_ending (operation a x b) = binary_ending b

abbrev mutual
  pub assign_ending : Assign → Ending
  assign_ending (value c) = cond_ending c
  assign_ending (assign l p n a) = assign_ending a

  pub cond_ending : Cond → Ending
  cond_ending (plain b) = binary_ending b
  cond_ending (choice b q a c d) = assign_ending d

abbrev pub expr_ending : Expr → Ending
expr_ending (one a) = assign_ending a
expr_ending (more a c e) = expr_ending e

abbrev pub decl_ending : Decl → Ending
decl_ending (bare x) = after_name
decl_ending (initialised x n a) = assign_ending a

abbrev pub decls_ending : Decls → Ending
decls_ending (one_decl d) = decl_ending d
decls_ending (more_decls d c ds) = decls_ending ds

-- each token that begins with a slash
abbrev pub begins_with_slash : Token → Bool
begins_with_slash (APunct Slash) = true
begins_with_slash (APunct SlashAssign) = true
begins_with_slash Pattern = true
begins_with_slash _ = false

abbrev pub is_assign_token : Token → Bool
is_assign_token (APunct p) = is_assign p
is_assign_token _ = false

-- `;`, `,`, `?`, a binary operator, an operator of assignment, or a token that begins with a slash
abbrev pub continues : Token → Bool
continues (APunct Semicolon) = true
continues (APunct Comma) = true
continues (APunct Question) = true
continues t = is_binary t || (is_assign_token t || begins_with_slash t)

-- `(`, `[` or `.`
abbrev pub begins_suffix : Token → Bool
begins_suffix (APunct LeftParen) = true
begins_suffix (APunct LeftBracket) = true
begins_suffix (APunct Dot) = true
begins_suffix _ = false

-- the tokens before which no semicolon is left out, whatever their newline flag
abbrev pub is_held : Ending → Token → Bool
is_held after_operand t = begins_suffix t || continues t
is_held after_update t = continues t
is_held after_name (APunct Semicolon) = true
is_held after_name (APunct Equals) = true
is_held after_name (APunct Comma) = true
is_held after_name _ = false
is_held after_word (APunct Semicolon) = true
is_held after_word _ = false

abbrev pub is_right_brace : Token → Bool
is_right_brace (APunct RightBrace) = true
is_right_brace _ = false

-- a semicolon may be left out before this: before `}`, at the end, or where a line ends before a
-- token that isn't held
abbrev pub may_omit : Ending → List Lexeme → Bool
may_omit k [] = true
may_omit k (x ∷ rest) = is_right_brace x.token || (x.newline && not (is_held k x.token))

-- the end of a statement stands before the rest
abbrev pub Ends : Ending → End → List Lexeme → Type 0
Ends k (semicolon n) rest = Unit {0}
Ends k omitted rest = may_omit k rest ≡ true

-- a statement ends in an open `if`: one to which an `else` after it would belong
abbrev pub is_open : Statement → Bool
is_open (if_only w o e c s) = true
is_open (if_else w o e c s n t) = is_open t
is_open (loop x w o e c s) = is_open s
is_open (for w o a m b n d c s) = is_open s
is_open (for_var w o v ds m b n d c s) = is_open s
is_open (for_in w o l n e c s) = is_open s
is_open (for_var_in w o v d n e c s) = is_open s
is_open (label x c s) = is_open s
is_open _ = false
