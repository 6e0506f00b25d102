-- Runs of bytes that a machine passes at once.
use Rattle.std.proofs.Common.{◌≡◌, ℕ, zero, suc, ◌+◌, ◌<◌, Bool, true, false, ◌&&◌, ◌==◌, List, [], ◌∷◌, ◌++◌, take, drop, refl, sym, ap, ◌∙◌, ◌⊎◌, inl, inr, arith}
use Rattle.std.specs.List.{list_all}
use Rattle.std.specs.Char.{is_ascii}
use Rattle.std.proofs.lemmas.Bool.{agree_below_at, and_parts}
use Rattle.std.proofs.lemmas.Bool.Decides.{nat_tests}
use Rattle.text_stream.specs.Decoding.{characters_after}
use Rattle.text_stream.specs.Runs.{is_in}
use Rattle.text_stream.proofs.RunLemmas.{characters_all}
use Rattle.json_recogniser.specs.declared.states.Container.{Container}
use Rattle.json_recogniser.specs.declared.states.State.{State}
use Rattle.json_recogniser.specs.declared.states.State.TheVariants as state
use Rattle.json_recogniser.specs.declared.states.Role.{Role}
use Rattle.json_recogniser.specs.declared.runs.TheConstants.{PLAIN, SPACES, TEXT}
use Rattle.json_recogniser.specs.Grammar.{is_white_space, is_unescaped}
use Rattle.json_recogniser.specs.Residuals.{residual}
use Rattle.json_recogniser.specs.Runs.{is_plain}
use Rattle.json_recogniser.proofs.ResidualLemmas.{first_space, item_space, text_plain}

-- ---- the tables are their sets

pub plain_table : (b : ℕ) → b < 256 → is_in PLAIN b ≡ is_plain b
plain_table b byte = agree_below_at (is_in PLAIN) is_plain 256 b refl byte

pub text_table : (b : ℕ) → b < 256 → is_in TEXT b ≡ is_unescaped b
text_table b byte = agree_below_at (is_in TEXT) is_unescaped 256 b refl byte

pub space_table : (b : ℕ) → b < 256 → is_in SPACES b ≡ is_white_space b
space_table b byte = agree_below_at (is_in SPACES) is_white_space 256 b refl byte

-- ---- the bytes of a run

all_of : (p q : ℕ → Bool) → ((b : ℕ) → p b ≡ true → q b ≡ true) → (run : List ℕ) → list_all p run ≡ true → list_all q run ≡ true
all_of p q so [] all = refl
all_of p q so (b ∷ run) all =
    let parts = and_parts (p b) (list_all p run) all in
    both (q b) (list_all q run) (so b parts.0) (all_of p q so run parts.1)
  where
    both : (s t : Bool) → s ≡ true → t ≡ true → (s && t) ≡ true
    both true t e f = f
    both false t e f = absurd (cc)

pub plain_ascii : (run : List ℕ) → list_all is_plain run ≡ true → list_all is_ascii run ≡ true
plain_ascii = all_of is_plain is_ascii (λ b is. (and_parts (is_ascii b) (is_unescaped b) is).0)

pub plain_text : (run : List ℕ) → list_all is_plain run ≡ true → list_all is_unescaped run ≡ true
plain_text = all_of is_plain is_unescaped (λ b is. (and_parts (is_ascii b) (is_unescaped b) is).1)

pub space_ascii : (run : List ℕ) → list_all is_white_space run ≡ true → list_all is_ascii run ≡ true
space_ascii = all_of is_white_space is_ascii (λ b is. grind (arith, nat_tests))

-- ---- in a string

pub text_on : (r : Role) (marks : List Container) (c : ℕ) (text : List ℕ) → is_unescaped c ≡ true
    → residual (state.Text r) marks (c ∷ text) ≡ residual (state.Text r) marks text
text_on r marks c text plain =
    let no_quote : (c == 0x22) ≡ false = grind (arith, nat_tests) in
    let no_escape : (c == 0x5C) ≡ false = grind (arith, nat_tests) in
    text_plain r marks c text no_quote no_escape plain

pub text_run : (r : Role) (marks : List Container) (run text : List ℕ) → list_all is_unescaped run ≡ true
    → residual (state.Text r) marks (run ++ text) ≡ residual (state.Text r) marks text
text_run r marks [] text all = refl
text_run r marks (c ∷ run) text all =
    let parts = and_parts (is_unescaped c) (list_all is_unescaped run) all in
    text_on r marks c (run ++ text) parts.0 ∙ text_run r marks run text parts.1

-- the characters of such bytes stand for themselves too
pub text_characters : (bytes : List ℕ) → list_all is_unescaped bytes ≡ true → list_all is_unescaped (characters_after 0 bytes) ≡ true
text_characters bytes all = characters_all is_unescaped (λ c large scalar. grind (arith, nat_tests)) 0 bytes all

-- ---- white space

pub is_space_state : State → Bool
is_space_state state.Value = true
is_space_state state.First = true
is_space_state state.Item = true
is_space_state state.After = true
is_space_state s = false

space_on : (s : State) (marks : List Container) (c : ℕ) (text : List ℕ) → is_space_state s ≡ true → is_white_space c ≡ true
    → residual s marks (c ∷ text) ≡ residual s marks text
unfolding is_space_state
space_on state.Value marks c text at is = rw is refl
space_on state.First marks c text at is = first_space marks c text is
space_on state.Item [] c text at is = refl
space_on state.Item (kind ∷ marks) c text at is = item_space marks kind c text is
space_on state.After [] c text at is = rw is refl
space_on state.After (kind ∷ marks) c text at is = rw is refl
space_on s marks c text at is = absurd (cc)

pub space_run : (s : State) (marks : List Container) (run text : List ℕ) → is_space_state s ≡ true → list_all is_white_space run ≡ true
    → residual s marks (run ++ text) ≡ residual s marks text
space_run s marks [] text at all = refl
space_run s marks (c ∷ run) text at all =
    let parts = and_parts (is_white_space c) (list_all is_white_space run) all in
    space_on s marks c (run ++ text) at parts.0 ∙ space_run s marks run text at parts.1

pub space_state : (s : State) → ((s ≡ state.Value) ⊎ ((s ≡ state.First) ⊎ ((s ≡ state.Item) ⊎ (s ≡ state.After)))) → is_space_state s ≡ true
unfolding is_space_state
space_state s (inl is) = ap is_space_state is
space_state s (inr (inl is)) = ap is_space_state is
space_state s (inr (inr (inl is))) = ap is_space_state is
space_state s (inr (inr (inr is))) = ap is_space_state is

-- ---- where a run ends

pub text_stops : (b : ℕ) → b < 256 → is_unescaped b ≡ false → b < 128
text_stops b byte is = grind (arith, nat_tests)

-- ---- lists

take_none : (n : ℕ) → take {A = ℕ} n [] ≡ []
take_none zero = refl
take_none (suc n) = refl

pub take_then : (a b : ℕ) (piece : List ℕ) → take (a + b) piece ≡ take a piece ++ take b (drop a piece)
take_then zero b piece = ap (λ n. take n piece) (omega arith)
take_then (suc a) b [] = take_none (suc a + b) ∙ sym (take_none b)
take_then (suc a) b (x ∷ piece) =
    let more : suc a + b ≡ suc (a + b) = omega arith in
    ap (λ n. take n (x ∷ piece)) more ∙ ap (λ t. x ∷ t) (take_then a b piece)

pub ascii_more : (p : ℕ → Bool) (a b : List ℕ) → list_all p a ≡ true → list_all p b ≡ true → list_all p (a ++ b) ≡ true
ascii_more p [] b first last = last
ascii_more p (x ∷ a) b first last =
    let parts = and_parts (p x) (list_all p a) first in
    both (p x) (list_all p (a ++ b)) parts.0 (ascii_more p a b parts.1 last)
  where
    both : (s t : Bool) → s ≡ true → t ≡ true → (s && t) ≡ true
    both true t e f = f
    both false t e f = absurd (cc)
