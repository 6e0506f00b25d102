-- How places go on by lists of bytes.
use Rattle.std.proofs.Common.{◌≡◌, ℕ, ◌+◌, ◌<◌, Bool, true, false, cond, List, [], ◌∷◌, ◌++◌, length, take, get_or, refl, sym, ap, ◌∙◌, append_assoc, append-nil, ⊎_elim}
use Rattle.std.proofs.lemmas.Bool.{false≢true, cases_Bool}
use Rattle.std.proofs.lemmas.List.{take_more}
use Rattle.http_exchange.specs.Marks.{Mark, Frame, Content, bytes_of, content_of}
use Rattle.http_exchange.specs.Places.{is_content, is_dead, is_end, step, run, marks, gives}
use Rattle.http_exchange.specs.declared.places.Place.{Place}
use Rattle.http_exchange.specs.declared.places.Place.TheVariants.{Whole, Dead}

pub run-append : (p : Place) (a b : List ℕ) → run p (a ++ b) ≡ run (run p a) b
run-append p [] b = refl
run-append p (x ∷ a) b = run-append (step p x) a b

-- the content byte of a mark, if it is one
content_of-mark : (t : Bool) (x : ℕ) (k : List Mark)
    → content_of (cond t (Content x) (Frame x) ∷ k) ≡ cond t (x ∷ []) [] ++ content_of k
content_of-mark true x k = refl
content_of-mark false x k = refl

pub gives-cons : (p : Place) (x : ℕ) (m : List ℕ) → gives p (x ∷ m) ≡ cond (is_content p) (x ∷ []) [] ++ gives (step p x) m
gives-cons p x m = content_of-mark (is_content p) x (marks (step p x) m)

pub gives-append : (p : Place) (a b : List ℕ) → gives p (a ++ b) ≡ gives p a ++ gives (run p a) b
gives-append p [] b = refl
gives-append p (x ∷ a) b =
    gives-cons p x (a ++ b) ∙ ap (λ l. cond (is_content p) (x ∷ []) [] ++ l) (gives-append (step p x) a b)
    ∙ sym (append_assoc (cond (is_content p) (x ∷ []) []) (gives (step p x) a) (gives (run (step p x) a) b))
    ∙ ap (λ l. l ++ gives (run (step p x) a) b) (sym (gives-cons p x a))

bytes_of-mark : (t : Bool) (x : ℕ) (k : List Mark) → bytes_of (cond t (Content x) (Frame x) ∷ k) ≡ x ∷ bytes_of k
bytes_of-mark true x k = refl
bytes_of-mark false x k = refl

pub bytes_of-marks : (p : Place) (m : List ℕ) → bytes_of (marks p m) ≡ m
bytes_of-marks p [] = refl
bytes_of-marks p (x ∷ m) = bytes_of-mark (is_content p) x (marks (step p x) m) ∙ ap (λ l. x ∷ l) (bytes_of-marks (step p x) m)

pub run-dead : (m : List ℕ) → run Dead m ≡ Dead
run-dead [] = refl
run-dead (x ∷ m) = run-dead m

pub dead_is : (p : Place) → is_dead p ≡ true → p ≡ Dead
dead_is Dead h = refl
dead_is _ h = absurd (false≢true h)

pub end_is : (p : Place) → is_end p ≡ true → p ≡ Whole
end_is Whole h = refl
end_is _ h = absurd (false≢true h)

-- a prefix of what was read by a living place was read by one
pub alive_prefix : (p : Place) (a b : List ℕ) → is_dead (run p (a ++ b)) ≡ false → is_dead (run p a) ≡ false
alive_prefix p a b alive =
    ⊎_elim (λ d. absurd (false≢true (sym alive ∙ ap is_dead (run-append p a b ∙ ap (λ q. run q b) (dead_is (run p a) d) ∙ run-dead b))))
    (λ f. f) (cases_Bool (is_dead (run p a)))

pub marks-append : (p : Place) (a b : List ℕ) → marks p (a ++ b) ≡ marks p a ++ marks (run p a) b
marks-append p [] b = refl
marks-append p (x ∷ a) b = ap (λ l. cond (is_content p) (Content x) (Frame x) ∷ l) (marks-append (step p x) a b)

pub bytes_of-append : (j k : List Mark) → bytes_of (j ++ k) ≡ bytes_of j ++ bytes_of k
bytes_of-append [] k = refl
bytes_of-append (Frame x ∷ j) k = ap (λ l. x ∷ l) (bytes_of-append j k)
bytes_of-append (Content x ∷ j) k = ap (λ l. x ∷ l) (bytes_of-append j k)

-- a byte more of a piece
pub run-more : (p q : Place) (piece : List ℕ) (i : ℕ) → i < length piece → run p (take i piece) ≡ q
    → run p (take (i + 1) piece) ≡ step q (get_or piece i 0)
run-more p q piece i less is =
    ap (run p) (take_more piece i 0 less) ∙ run-append p (take i piece) (get_or piece i 0 ∷ [])
    ∙ ap (λ r. step r (get_or piece i 0)) is

-- a byte more that isn't content
pub gives-more : (p q : Place) (piece : List ℕ) (i : ℕ) → i < length piece → run p (take i piece) ≡ q → is_content q ≡ false
    → gives p (take (i + 1) piece) ≡ gives p (take i piece)
gives-more p q piece i less is frames =
    let alone : gives q (get_or piece i 0 ∷ []) ≡ [] = rw frames refl in
    ap (gives p) (take_more piece i 0 less) ∙ gives-append p (take i piece) (get_or piece i 0 ∷ [])
    ∙ ap (λ r. gives p (take i piece) ++ gives r (get_or piece i 0 ∷ [])) is
    ∙ ap (λ l. gives p (take i piece) ++ l) alone ∙ append-nil (gives p (take i piece))
