-- Characters that leave a lexer as it is: the tables of them, and that they do.
use Rattle.std.proofs.Common.{◌≡◌, ℕ, ◌<◌, ◌≤◌, Bool, true, false, ◌&&◌, ◌||◌, not, ◌==◌, nat_lt, Option, None, slice_index_or, List, [], ◌∷◌, ◌++◌, length, take, inl, refl, sym, ap, subst, ◌∙◌, append_assoc, arith}
use Rattle.std.specs.List.{list_all, prefix_len}
use Rattle.std.specs.Char.{is_ascii}
use Rattle.std.proofs.lemmas.Bool.{agree_below_at}
use Rattle.std.specs.Bool.{beq}
use Rattle.std.proofs.lemmas.List.Sums.{prefix_len-le-length}
use Rattle.ucd_category.specs.GeneralCategory.{general_category}
use Rattle.ucd_category.proofs.GeneralCategoryLemmas.{general_category_stepped}
use Rattle.ucd_category.proofs.Computing.{ucd_category}
use Rattle.ucd_table.proofs.Facts.{Stepped-below}
use Rattle.text_stream.specs.Classes.{class_in, class_of}
use Rattle.es5_lexer.specs.Characters.{is_line_end, is_space, is_part, is_line_end_class, is_space_class, is_part_class}
use Rattle.es5_lexer.specs.Strings.{quote_of, is_plain}
use Rattle.es5_lexer.specs.Texts.{Mark, mark, chars, Lexes}
use Rattle.es5_lexer.specs.Cuts.{Cut}
use Rattle.es5_lexer.specs.Places.{next, is_dead}
use Rattle.es5_lexer.specs.Residuals.{From, own, own_after, Steps, Leads}
use Rattle.es5_lexer.specs.Letters.{with_letter, letter, HeardAt, Hears}
use Rattle.es5_lexer.specs.Lexing.{HasRead}
use Rattle.text_stream.specs.Runs.{is_in}
use Rattle.text_stream.proofs.RunLemmas.{run_all}
use Rattle.es5_lexer.specs.Runs.{stays_in, stays}
use Rattle.es5_lexer.specs.declared.tokens.Goal.{Goal}
use Rattle.es5_lexer.specs.declared.tokens.Lexeme.{Lexeme}
use Rattle.es5_lexer.specs.declared.letters.Letters.{Letters}
use Rattle.es5_lexer.specs.declared.lexer.Lexer.{Lexer}
use Rattle.es5_lexer.specs.declared.places.Place.{Place}
use Rattle.es5_lexer.specs.declared.places.Place.TheVariants.{Name, Text}
use Rattle.es5_lexer.specs.declared.places.Quote.{Quote}
use Rattle.es5_lexer.specs.declared.places.TextPlace.TheVariants.{Chars}
use Rattle.es5_lexer.specs.declared.states.State.{State}
use Rattle.es5_lexer.specs.declared.states.State.TheVariants.{Start, LineComment, BlockComment, Token}
use Rattle.es5_lexer.specs.declared.runs.TheConstants.{SPACES, NAME_PARTS, LINE_COMMENT, BLOCK_COMMENT, DOUBLE_QUOTED, SINGLE_QUOTED, NOTHING}
use Rattle.es5_lexer.specs.declared.places.Quote.TheVariants.{Double, Single}
use Rattle.es5_lexer.proofs.Choices.{then_in, else_in, is_same, never, and_left, and_right, and_both, not_true, not_or}
use Rattle.es5_lexer.proofs.ClassLemmas.{backslash}
use Rattle.es5_lexer.proofs.TriviaLemmas.{blank_or}
use Rattle.es5_lexer.proofs.CutLemmas.{going, coming}
use Rattle.es5_lexer.proofs.OpenLemmas.{reread}
use Rattle.es5_lexer.proofs.StepLemmas.{space_step, in_line_step, in_block_step}
use Rattle.es5_lexer.proofs.TokenSteps.{token_step}
use Rattle.es5_lexer.proofs.LetterLemmas.{no_name, goes_on}
use Rattle.es5_lexer.proofs.LexerLemmas.{reads_on, line_change, block_change, token_change}

-- the tables are their sets

beq_is : (a b : Bool) → beq a b ≡ true → a ≡ b
beq_is true true e = refl
beq_is false false e = refl
beq_is true false e = absurd cc
beq_is false true e = absurd cc

pub space_table : (c : ℕ) → c < 256 → is_in SPACES c ≡ (is_ascii c && (not (is_line_end c) && is_space c))
unfolding class_of ucd_category
space_table c h =
    beq_is _ _ (Stepped-below general_category general_category_stepped (λ x category. beq (slice_index_or SPACES x false) (is_ascii x && (not (is_line_end_class (class_in category x)) && is_space_class (class_in category x)))) 256 refl c h)

pub name_table : (c : ℕ) → c < 256 → is_in NAME_PARTS c ≡ (is_ascii c && is_part c)
unfolding class_of ucd_category
name_table c h =
    beq_is _ _ (Stepped-below general_category general_category_stepped (λ x category. beq (slice_index_or NAME_PARTS x false) (is_ascii x && is_part_class (class_in category x))) 256 refl c h)

pub line_table : (c : ℕ) → c < 256 → is_in LINE_COMMENT c ≡ (is_ascii c && not (is_line_end c))
unfolding class_of ucd_category
line_table c h =
    beq_is _ _ (Stepped-below general_category general_category_stepped (λ x category. beq (slice_index_or LINE_COMMENT x false) (is_ascii x && not (is_line_end_class (class_in category x)))) 256 refl c h)

pub block_table : (c : ℕ) → c < 256 → is_in BLOCK_COMMENT c ≡ (is_ascii c && (not (is_line_end c) && not (c == 42)))
unfolding class_of ucd_category
block_table c h =
    beq_is _ _ (Stepped-below general_category general_category_stepped (λ x category. beq (slice_index_or BLOCK_COMMENT x false) (is_ascii x && (not (is_line_end_class (class_in category x)) && not (x == 42)))) 256 refl c h)

pub double_table : (c : ℕ) → c < 256 → is_in DOUBLE_QUOTED c ≡ (is_ascii c && is_plain Double c)
unfolding class_of ucd_category
double_table c h =
    beq_is _ _ (Stepped-below general_category general_category_stepped (λ x category. beq (slice_index_or DOUBLE_QUOTED x false) (is_ascii x && not ((x == 34) || ((x == 92) || is_line_end_class (class_in category x))))) 256 refl c h)

pub single_table : (c : ℕ) → c < 256 → is_in SINGLE_QUOTED c ≡ (is_ascii c && is_plain Single c)
unfolding class_of ucd_category
single_table c h =
    beq_is _ _ (Stepped-below general_category general_category_stepped (λ x category. beq (slice_index_or SINGLE_QUOTED x false) (is_ascii x && not ((x == 39) || ((x == 92) || is_line_end_class (class_in category x))))) 256 refl c h)

and_false : (b : Bool) → (b && false) ≡ false
and_false true = refl
and_false false = refl

pub no_table : (c : ℕ) → c < 256 → is_in NOTHING c ≡ (is_ascii c && false)
no_table c h = agree_below_at (is_in NOTHING) (λ x. false) 256 c refl h ∙ sym (and_false (is_ascii c))

pub name_full : (c : ℕ) (full : Bool) → c < 256 → full ≡ true → is_in NAME_PARTS c ≡ (is_ascii c && (full && is_part c))
name_full c full h e = name_table c h ∙ ap (λ (b : Bool). is_ascii c && (b && is_part c)) (sym e)

pub name_short : (c : ℕ) (full : Bool) → c < 256 → full ≡ false → is_in NOTHING c ≡ (is_ascii c && (full && is_part c))
name_short c full h e = no_table c h ∙ ap (λ (b : Bool). is_ascii c && (b && is_part c)) (sym e)

-- what it says of a character that it leaves a state as it is

abbrev Stays : State → Bool → ℕ → Type 0
Stays Start full c = (is_line_end c ≡ false) × (is_space c ≡ true)
Stays LineComment full c = is_line_end c ≡ false
Stays (BlockComment false) full c = (is_line_end c ≡ false) × ((c == 42) ≡ false)
Stays (Token Name) full c = (full ≡ true) × (is_part c ≡ true)
Stays (Token (Text q Chars)) full c = is_plain q c ≡ true
Stays _ full c = ⊥

it_stays : (s : State) (full : Bool) (c : ℕ) → stays_in s full c ≡ true → Stays s full c
it_stays Start full c h =
    (not_true _ (and_left (not (is_line_end c)) (is_space c) h), and_right (not (is_line_end c)) (is_space c) h)
it_stays LineComment full c h = not_true _ h
it_stays (BlockComment false) full c h = (
  not_true _ (and_left (not (is_line_end c)) (not (c == 42)) h),
  not_true _ (and_right (not (is_line_end c)) (not (c == 42)) h),
)
it_stays (Token Name) full c h = (and_left full (is_part c) h, and_right full (is_part c) h)
it_stays (Token (Text q Chars)) full c h = h
it_stays _ full c h = absurd cc

-- a step that stays

name_next : (c : ℕ) → is_part c ≡ true → next Name c ≡ Name
name_next c h = then_in (λ (p : Place). p ≡ Name) (is_part c) _ _ h refl

text_next : (q : Quote) (c : ℕ) → is_plain q c ≡ true → next (Text q Chars) c ≡ Text q Chars
text_next q c h =
    let a = not_or (c == quote_of q) ((c == 92) || is_line_end c) h in
    let b = not_or (c == 92) (is_line_end c) a.1 in
    else_in (λ (p : Place). p ≡ Text q Chars) (c == quote_of q) _ _ a.0
    (else_in (λ (p : Place). p ≡ Text q Chars) (c == 92) _ _ b.0
    (else_in (λ (p : Place). p ≡ Text q Chars) (is_line_end c) _ _ (not_true (is_line_end c) b.1) refl))

place_stays : (p : Place) (read : List ℕ) (f : Bool) (g : Goal) (c : ℕ) → is_dead p ≡ false → next p c ≡ p → Steps (Token p) read f g c None (Token p) f
place_stays p read f g c live e =
    subst (λ (x : Place). Steps (Token p) read f g c None (Token x) f) e (token_step p read f g c (ap is_dead e ∙ live))

stay_steps : (s : State) (full : Bool) (read : List ℕ) (f : Bool) (g : Goal) (c : ℕ) → Stays s full c → Steps s read f g c None s f
stay_steps Start full read f g c h = space_step read f g c h.0 h.1
stay_steps LineComment full read f g c h = in_line_step read f g c h
stay_steps (BlockComment false) full read f g c h =
    subst (λ (b : Bool). Steps (BlockComment false) read f g c None (BlockComment b) f) h.1
    (subst (λ (b : Bool). Steps (BlockComment false) read f g c None (BlockComment (c == 42)) b) (else_in (λ (b : Bool). b ≡ f) (is_line_end c) true f h.0 refl) (in_block_step false read f g c refl))
stay_steps (Token Name) full read f g c h = place_stays Name read f g c refl (name_next c h.1)
stay_steps (Token (Text q Chars)) full read f g c h = place_stays (Text q Chars) read f g c refl (text_next q c h)
stay_steps _ full read f g c h = absurd h

stay_leads : (s : State) (full : Bool) (g : Goal) (c : ℕ) → Stays s full c → Leads s g c None s
stay_leads Start full g c h = blank_or (is_line_end c) (is_space c) h.1
stay_leads LineComment full g c h = else_in (λ (t : State). LineComment ≡ t) (is_line_end c) _ _ h refl
stay_leads (BlockComment false) full g c h = ap (λ (b : Bool). BlockComment b) (sym h.1)
stay_leads (Token Name) full g c h = inl (ap (λ (p : Place). Token p) (sym (name_next c h.1)), ap is_dead (name_next c h.1))
stay_leads (Token (Text q Chars)) full g c h =
    inl (ap (λ (p : Place). Token p) (sym (text_next q c h)), ap is_dead (text_next q c h))
stay_leads _ full g c h = absurd h

-- a name that has all its letters

part_no_backslash : (c : ℕ) (b : Bool) → (c == 92) ≡ b → is_part c ≡ true → (c == 92) ≡ false
part_no_backslash c true e h = never (is_part c) h (ap is_part (is_same c 92 e) ∙ ap is_part_class backslash)
part_no_backslash c false e h = e

full_letters : (l : List ℕ) (c : ℕ) → nat_lt (length l) 11 ≡ false → is_part c ≡ true → l ≡ with_letter l (letter Name c)
full_letters l c full h =
    else_in (λ (o : Option ℕ). l ≡ with_letter l o) (c == 92) _ _ (part_no_backslash c (c == 92) refl h)
    (else_in (λ (x : List ℕ). l ≡ x) (nat_lt (length l) 11) _ _ full refl)

or_false : (b : Bool) → b ≡ (b || false)
or_false true = refl
or_false false = refl

stay_heard : (l : Letters) (s : State) (full : Bool) (c : ℕ) (read : List ℕ) → full ≡ not (nat_lt (length l.letters.items) 11) → Stays s full c → HeardAt l s (own s read) → HeardAt l s (own_after None (own s read) c)
stay_heard l (Token Name) full c read e h heard =
    subst (λ (p : Place). Hears l.letters.items l.escapes p (c ∷ read)) (name_next c h.1)
    (goes_on l.letters.items l.escapes Name read c l.letters.items l.escapes (full_letters l.letters.items c (not_true _ (sym e ∙ h.0)) h.1) (or_false l.escapes) heard)
stay_heard l (Token (Text q Chars)) full c read e h heard = λ u r. absurd (no_name (Text q Chars) u refl r)
stay_heard l Start full c read e h heard = tt
stay_heard l LineComment full c read e h heard = tt
stay_heard l (BlockComment false) full c read e h heard = tt
stay_heard l _ full c read e h heard = absurd h

append_none : (given : List Lexeme) → given ++ [] ≡ given
append_none [] = refl
append_none (x ∷ given) = ap (λ (t : List Lexeme). x ∷ t) (append_none given)

stay_reads : (v : Lexer) (m : List Mark) (given : List Lexeme) (full : Bool) (g : Goal) (c : ℕ) → full ≡ not (nat_lt (length v.letters.letters.items) 11) → HasRead v m given → Stays v.state full c → HasRead v (m ++ mark g c ∷ []) given
stay_reads v m given full g c e h s =
    subst (λ (x : List Lexeme). HasRead v (m ++ mark g c ∷ []) x) (append_none given)
    (reads_on v v m given [] g c None h (λ read. stay_steps v.state full read v.newline g c s) (stay_leads v.state full g c s) refl
    (λ goal read leads heard. stay_heard v.letters v.state full c read e s heard))

-- whatever goal comes with the character

stay_change : (s : State) (full : Bool) (d : ℕ) → Stays s full d → (read : List ℕ) (f : Bool) (g h : Goal) (c : ℕ) (w : List Mark) (end : Goal) (tokens : List Cut) → From s read f (mark g c ∷ w) end tokens → From s read f (mark h c ∷ w) end tokens
stay_change Start full d x read f g h c w end tokens l = reread f g h c w end tokens l
stay_change LineComment full d x read f g h c w end tokens l = line_change f g h c w end tokens l
stay_change (BlockComment star) full d x read f g h c w end tokens l = block_change star f g h c w end tokens l
stay_change (Token p) full d x read f g h c w end tokens l = token_change p read f g h c w end tokens l
stay_change _ full d x read f g h c w end tokens l = absurd x

stay_asks : (v : Lexer) (m : List Mark) (given : List Lexeme) (full : Bool) (d : ℕ) → Stays v.state full d → HasRead v m given → (g h : Goal) (c : ℕ) (w : List Mark) (end : Goal) (tokens : List Lexeme) → Lexes (m ++ mark g c ∷ w) end tokens → Lexes (m ++ mark h c ∷ w) end tokens
stay_asks v m given full d s r g h c w end tokens l =
    let x = going v m given r (mark g c ∷ w) end tokens l in
    subst (λ (z : List Lexeme). Lexes (m ++ mark h c ∷ w) end z) (sym x.is)
    (coming v m given r (mark h c ∷ w) end x.others (stay_change v.state full d s (own v.state r.read) v.newline g h c w end x.others x.from))

-- all along a run

-- the characters all stay
abbrev pub AllStay : State → Bool → List ℕ → Type 0
AllStay s full [] = Unit {0}
AllStay s full (c ∷ u) = Stays s full c × AllStay s full u

pub run_reads : (v : Lexer) (given : List Lexeme) (full : Bool) → full ≡ not (nat_lt (length v.letters.letters.items) 11) → (q m : List Mark) → AllStay v.state full (chars q) → HasRead v m given → HasRead v (m ++ q) given
run_reads v given full e [] m s h = subst (λ (w : List Mark). HasRead v w given) (sym (append_nothing m)) h
  where
    append_nothing : (w : List Mark) → w ++ [] ≡ w
    append_nothing [] = refl
    append_nothing (x ∷ w) = ap (λ (u : List Mark). x ∷ u) (append_nothing w)
run_reads v given full e (x ∷ q) m s h =
    subst (λ (w : List Mark). HasRead v w given) (append_assoc m (x ∷ []) q)
    (run_reads v given full e q (m ++ x ∷ []) s.1 (stay_reads v m given full x.reading x.character e h s.0))

pub run_asks : (v : Lexer) (given : List Lexeme) (full : Bool) → full ≡ not (nat_lt (length v.letters.letters.items) 11) → (p q w m : List Mark) → chars p ≡ chars q → AllStay v.state full (chars q) → HasRead v m given → (end : Goal) (tokens : List Lexeme) → Lexes (m ++ (p ++ w)) end tokens → Lexes (m ++ (q ++ w)) end tokens
run_asks v given full e [] [] w m i s h end tokens l = l
run_asks v given full e [] (y ∷ q) w m i s h end tokens l = absurd cc
run_asks v given full e (x ∷ p) [] w m i s h end tokens l = absurd cc
run_asks v given full e (x ∷ p) (y ∷ q) w m i s h end tokens l =
    let head : x.character ≡ y.character = cc in let tail : chars p ≡ chars q = cc in
    let first : Lexes (m ++ mark y.reading x.character ∷ (p ++ w)) end tokens = stay_asks v m given full y.character s.0 h x.reading y.reading x.character (p ++ w) end tokens l in
    let known : Lexes (m ++ y ∷ (p ++ w)) end tokens = subst (λ (c : ℕ). Lexes (m ++ mark y.reading c ∷ (p ++ w)) end tokens) head first in
    subst (λ (u : List Mark). Lexes u end tokens) (append_assoc m (y ∷ []) (q ++ w))
    (run_asks v given full e p q w (m ++ y ∷ []) tail s.1 (stay_reads v m given full y.reading y.character e h s.0) end tokens
    (subst (λ (u : List Mark). Lexes u end tokens) (sym (append_assoc m (y ∷ []) (p ++ w))) known))

-- the run that a table finds

all_stay : (s : State) (full : Bool) (u : List ℕ) → list_all (stays s full) u ≡ true → AllStay s full u
all_stay s full [] e = tt
all_stay s full (c ∷ u) e =
    let here = and_left (stays s full c) (list_all (stays s full) u) e in
    (it_stays s full c (and_right (is_ascii c) (stays_in s full c) here), all_stay s full u (and_right (stays s full c) (list_all (stays s full) u) e))

all_ascii : (s : State) (full : Bool) (u : List ℕ) → list_all (stays s full) u ≡ true → list_all is_ascii u ≡ true
all_ascii s full [] e = refl
all_ascii s full (c ∷ u) e =
    and_both (is_ascii c) _ (and_left (is_ascii c) (stays_in s full c) (and_left (stays s full c) (list_all (stays s full) u) e)) (all_ascii s full u (and_right (stays s full c) (list_all (stays s full) u) e))

run_is : (s : State) (full : Bool) (piece : List ℕ) (n : ℕ) → n ≡ prefix_len (stays s full) piece → list_all (stays s full) (take n piece) ≡ true
run_is s full piece n e =
    ap (λ (k : ℕ). list_all (stays s full) (take k piece)) e ∙ run_all (stays s full) piece

pub run_stays : (s : State) (full : Bool) (piece u : List ℕ) (n : ℕ) → n ≡ prefix_len (stays s full) piece → u ≡ take n piece → AllStay s full u
run_stays s full piece u n e i = all_stay s full u (ap (list_all (stays s full)) i ∙ run_is s full piece n e)

pub run_ascii : (s : State) (full : Bool) (piece : List ℕ) (n : ℕ) → n ≡ prefix_len (stays s full) piece → list_all is_ascii (take n piece) ≡ true
run_ascii s full piece n e = all_ascii s full (take n piece) (run_is s full piece n e)

pub run_within : (s : State) (full : Bool) (piece : List ℕ) (n : ℕ) → n ≡ prefix_len (stays s full) piece → n ≤ length piece
run_within s full piece n e = let few = prefix_len-le-length (stays s full) piece in omega (arith, few, e)

-- ---- the parts of a name

-- a lexer with other letters
abbrev pub with_letters : Lexer → Letters → Lexer
with_letters v l = record { state = v.state; newline = v.newline; letters = l }

-- a name goes on with a part, whose letter is kept where room is left
pub part_reads : (v u : Lexer) (m : List Mark) (given : List Lexeme) (g : Goal) (c : ℕ) → v.state ≡ Token Name → u.state ≡ Token Name → u.newline ≡ v.newline
    → u.letters.letters.items ≡ with_letter v.letters.letters.items (letter Name c) → u.letters.escapes ≡ v.letters.escapes → is_part c ≡ true
    → HasRead v m given → HasRead u (m ++ mark g c ∷ []) given
part_reads v u m given g c from to line letters escapes part h =
    subst (λ (x : List Lexeme). HasRead u (m ++ mark g c ∷ []) x) (append_none given)
    (reads_on v u m given [] g c None h steps (leads g) refl heard)
  where
    steps : (read : List ℕ) → Steps v.state read v.newline g c None u.state u.newline
    steps read =
        subst (λ (s : State). Steps s read v.newline g c None u.state u.newline) (sym from)
        (subst (λ (s : State). Steps (Token Name) read v.newline g c None s u.newline) (sym to)
        (subst (λ (f : Bool). Steps (Token Name) read v.newline g c None (Token Name) f) (sym line) (place_stays Name read v.newline g c refl (name_next c part))))

    leads : (goal : Goal) → Leads v.state goal c None u.state
    leads goal =
        subst (λ (s : State). Leads s goal c None u.state) (sym from)
        (subst (λ (s : State). Leads (Token Name) goal c None s) (sym to)
        (inl (ap (λ (p : Place). Token p) (sym (name_next c part)), ap is_dead (name_next c part))))

    heard : (goal : Goal) (read : List ℕ) → Leads v.state goal c None u.state → HeardAt v.letters v.state (own v.state read) → HeardAt u.letters u.state (own_after None (own v.state read) c)
    heard goal read leads at =
        subst (λ (s : State). HeardAt u.letters s (own_after None (own v.state read) c)) (sym to)
        (subst (λ (s : State). HeardAt v.letters s (own s read) → HeardAt u.letters (Token Name) (own_after None (own s read) c)) (sym from)
        (λ (hears : HeardAt v.letters (Token Name) read). subst (λ (p : Place). Hears u.letters.letters.items u.letters.escapes p (c ∷ read)) (name_next c part)
        (goes_on v.letters.letters.items v.letters.escapes Name read c u.letters.letters.items u.letters.escapes letters (escapes ∙ or_false v.letters.escapes) hears)) at)

-- whatever goal comes with it
pub part_asks : (v : Lexer) (m : List Mark) (given : List Lexeme) → v.state ≡ Token Name → HasRead v m given
    → (g h : Goal) (c : ℕ) (w : List Mark) (end : Goal) (tokens : List Lexeme) → Lexes (m ++ mark g c ∷ w) end tokens → Lexes (m ++ mark h c ∷ w) end tokens
part_asks v m given at r g h c w end tokens l =
    let x = going v m given r (mark g c ∷ w) end tokens l in
    subst (λ (z : List Lexeme). Lexes (m ++ mark h c ∷ w) end z) (sym x.is)
    (coming v m given r (mark h c ∷ w) end x.others
    (subst (λ (s : State). From s (own v.state r.read) v.newline (mark h c ∷ w) end x.others) (sym at)
    (token_change Name (own v.state r.read) v.newline g h c w end x.others (subst (λ (s : State). From s (own v.state r.read) v.newline (mark g c ∷ w) end x.others) at x.from))))

-- the last of some marks
pub record LastOf (u : List ℕ) (c : ℕ) (q : List Mark) : Type 0 where
  pub before : List Mark
  pub last : Mark
  pub is : q ≡ before ++ last ∷ []
  pub spells : chars before ≡ u
  pub ends : last.character ≡ c

pub last_of : (u : List ℕ) (c : ℕ) (q : List Mark) → chars q ≡ u ++ c ∷ [] → LastOf u c q
last_of [] c [] e = absurd cc
last_of [] c (x ∷ []) e = record { before = []; last = x; is = refl; spells = refl; ends = cc }
last_of [] c (x ∷ y ∷ q) e = absurd cc
last_of (d ∷ u) c [] e = absurd cc
last_of (d ∷ u) c (x ∷ q) e =
    let head : x.character ≡ d = cc in let tail : chars q ≡ u ++ c ∷ [] = cc in
    let l = last_of u c q tail in
    record { before = x ∷ l.before; last = l.last; is = ap (λ (t : List Mark). x ∷ t) l.is; spells = ap (λ (t : List ℕ). x.character ∷ t) l.spells ∙ ap (λ (n : ℕ). n ∷ u) head; ends = l.ends }

pub none_of : (m q : List Mark) → chars q ≡ [] → m ≡ m ++ q
none_of m [] e = sym (nothing m)
  where
    nothing : (w : List Mark) → w ++ [] ≡ w
    nothing [] = refl
    nothing (x ∷ w) = ap (λ (u : List Mark). x ∷ u) (nothing w)
none_of m (x ∷ q) e = absurd cc

pub all_and : (p : ℕ → Bool) (u : List ℕ) (c : ℕ) → list_all p u ≡ true → p c ≡ true → list_all p (u ++ c ∷ []) ≡ true
all_and p [] c all e = and_both (p c) true e refl
all_and p (d ∷ u) c all e = and_both (p d) _ (and_left (p d) (list_all p u) all) (all_and p u c (and_right (p d) (list_all p u) all) e)

pub part_letter : (l : List ℕ) (b : ℕ) → nat_lt (length l) 11 ≡ true → is_ascii b ≡ true → is_part b ≡ true → l ++ b ∷ [] ≡ with_letter l (letter Name b)
part_letter l b room ascii part =
    else_in (λ (o : Option ℕ). l ++ b ∷ [] ≡ with_letter l o) (b == 92) _ _ (part_no_backslash b (b == 92) refl part)
    (then_in (λ (x : List ℕ). l ++ b ∷ [] ≡ x) (nat_lt (length l) 11) _ _ room
    (then_in (λ (k : ℕ). l ++ b ∷ [] ≡ l ++ k ∷ []) (nat_lt b 128) _ _ ascii refl))

pub room_left : (full n : Bool) → full ≡ not n → full ≡ false → n ≡ true
room_left full true is e = refl
room_left full false is e = absurd (never full is e)
