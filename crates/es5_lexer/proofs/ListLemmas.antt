-- Lists and their last members.
use Rattle.std.proofs.Common.{◌≡◌, ℕ, ◌-◌, ◌≤◌, List, [], ◌∷◌, ◌++◌, get_or, length, take, drop, refl, sym, ap, ◌∙◌, arith, length-append, length-drop}
use Rattle.es5_lexer.specs.Reading.{last}

drop_prefix : (a b : List ℕ) → drop (length a) (a ++ b) ≡ b
drop_prefix [] b = refl
drop_prefix (c ∷ a) b = drop_prefix a b

take_prefix : (a b : List ℕ) → take (length a) (a ++ b) ≡ a
take_prefix [] b = refl
take_prefix (c ∷ a) b = ap (λ (w : List ℕ). c ∷ w) (take_prefix a b)

prefix_length : (a b : List ℕ) → length (a ++ b) - length b ≡ length a
prefix_length a b = omega (arith, length-append a b)

-- the last members of two lists
pub last-append : (a b : List ℕ) → last (length b) (a ++ b) ≡ b
last-append a b = ap (λ (n : ℕ). drop n (a ++ b)) (prefix_length a b) ∙ drop_prefix a b

pub last-is : (w a b : List ℕ) (n : ℕ) → w ≡ a ++ b → n ≡ length b → last n w ≡ b
last-is w a b n e f = ap (λ (m : ℕ). last m w) f ∙ ap (λ (x : List ℕ). last (length b) x) e ∙ last-append a b

-- the members before them
pub prefix-is : (w a b : List ℕ) (n : ℕ) → w ≡ a ++ b → n ≡ length b → take (length w - n) w ≡ a
prefix-is w a b n e f =
    ap (λ (m : ℕ). take (length w - m) w) f ∙ ap (λ (x : List ℕ). take (length x - length b) x) e
    ∙ ap (λ (m : ℕ). take m (a ++ b)) (prefix_length a b) ∙ take_prefix a b

-- a list as long as the one that it stands before
pub last-drop : (w : List ℕ) (n : ℕ) → n ≤ length w → length (last n w) ≡ n
last-drop w n h = omega (arith, length-drop (length w - n) w)

pub append-none : (u : List ℕ) → u ++ [] ≡ u
append-none [] = refl
append-none (c ∷ u) = ap (λ (w : List ℕ). c ∷ w) (append-none u)

-- the last parts of a list, told by their length
pub same_last : {A : Type 0} (a b c d : List A) → a ++ b ≡ c ++ d → length b ≡ length d → b ≡ d
same_last [] b [] d e h = e
same_last (m ∷ a) b (n ∷ c) d e h = let tail : a ++ b ≡ c ++ d = cc in same_last a b c d tail h
same_last [] b (n ∷ c) d e h = absurd (omega (arith, ap length e, length-append c d))
same_last (m ∷ a) b [] d e h = absurd (omega (arith, ap length e, length-append a b))

-- a list by its first member and the others
take_all : (u : List ℕ) → take (length u) u ≡ u
take_all [] = refl
take_all (c ∷ u) = ap (λ (w : List ℕ). c ∷ w) (take_all u)

pub first_of : (w : List ℕ) (x : ℕ) → 1 ≤ length w → x ≡ get_or w 0 x → w ≡ x ∷ take (length w - 1) (drop 1 w)
first_of [] x h e = absurd (omega arith)
first_of (y ∷ w) x h e =
    let same : length (y ∷ w) - 1 ≡ length w = omega arith in
    ap (λ (z : ℕ). z ∷ w) (sym e) ∙ ap (λ (u : List ℕ). x ∷ u) (sym (take_all w)) ∙ ap (λ (n : ℕ). x ∷ take n w) (sym same)
