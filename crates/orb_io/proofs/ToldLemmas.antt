-- How losses, gains and counts of faults go together, call after call.
use Rattle.std.proofs.Common.{ℕ, ◌+◌, ◌-◌, ◌^◌, ◌≤◌, List, [], ◌++◌, length, Option, None, Some, Result, Ok, Err, refl, sym, ap, ◌∙◌, arith, append_assoc, length-append, IfSome}
use Rattle.std.proofs.lemmas.List.{append-nil}
use Rattle.orb_io.specs.Told.{Told, Agrees, Loses, GainsBytes, GainsNumber, Gains, GainsPrefix, IsPrefix, Pushes, untold}

-- nothing is lost where nothing changes
pub Loses-none : (left : Option (List ℕ)) → Loses left left []
Loses-none None = tt
Loses-none (Some left) = refl

-- two losses, one after the other
pub Loses-twice : (a b c : Option (List ℕ)) (xs ys : List ℕ)
    → Loses a b xs → Loses b c ys → Loses a c (xs ++ ys)
Loses-twice None None None xs ys first second = tt
Loses-twice None None (Some c) xs ys first second = absurd second
Loses-twice None (Some b) c xs ys first second = absurd first
Loses-twice (Some a) None c xs ys first second = absurd first
Loses-twice (Some a) (Some b) None xs ys first second = absurd second
Loses-twice (Some a) (Some b) (Some c) xs ys first second = rw (first, second) (sym (append_assoc xs ys c))

-- a text is a prefix of itself, and so is nothing
pub IsPrefix-all : (text : List ℕ) → IsPrefix text text
IsPrefix-all text = ([], sym (append-nil text))

pub IsPrefix-none : (text : List ℕ) → IsPrefix [] text
IsPrefix-none text = (text, refl)

-- a prefix of a prefix
pub IsPrefix-trans : (a b c : List ℕ) → IsPrefix a b → IsPrefix b c → IsPrefix a c
IsPrefix-trans a b c first second =
    (first.0 ++ second.0, second.1 ∙ ap (λ t. t ++ second.0) first.1 ∙ append_assoc a first.0 second.0)

-- a text is a prefix of a longer one
pub IsPrefix-append : (text more : List ℕ) → IsPrefix text (text ++ more)
IsPrefix-append text more = (more, refl)

-- prefixes after the same text
pub IsPrefix-after : (text a b : List ℕ) → IsPrefix a b → IsPrefix (text ++ a) (text ++ b)
IsPrefix-after text a b prefix =
    (prefix.0, ap (λ t. text ++ t) prefix.1 ∙ sym (append_assoc text a prefix.0))

-- nothing is gained where nothing changes
GainsBytes-none : (put : Option (List ℕ)) → GainsBytes put put []
GainsBytes-none None = tt
GainsBytes-none (Some put) = sym (append-nil put)

GainsNumber-none : (size : Option ℕ) → IfSome size (λ n. n ≤ 2 ^ 64 - 1) → GainsNumber size size 0
GainsNumber-none None fits = tt
GainsNumber-none (Some n) fits = omega arith

pub Gains-none : (told : Told) → Agrees told → Gains told told []
Gains-none told agrees = record {
  bytes = GainsBytes-none told.put;
  number = GainsNumber-none told.size agrees.fits;
}

-- two gains, one after the other
GainsBytes-twice : (a b c : Option (List ℕ)) (xs ys : List ℕ)
    → GainsBytes a b xs → GainsBytes b c ys → GainsBytes a c (xs ++ ys)
GainsBytes-twice None None None xs ys first second = tt
GainsBytes-twice None None (Some c) xs ys first second = absurd second
GainsBytes-twice None (Some b) c xs ys first second = absurd first
GainsBytes-twice (Some a) None c xs ys first second = absurd first
GainsBytes-twice (Some a) (Some b) None xs ys first second = absurd second
GainsBytes-twice (Some a) (Some b) (Some c) xs ys first second = rw (second, first) (append_assoc a xs ys)

GainsNumber-twice : (a b c : Option ℕ) (m n : ℕ)
    → GainsNumber a b m → GainsNumber b c n → GainsNumber a c (m + n)
GainsNumber-twice None None None m n first second = tt
GainsNumber-twice None None (Some c) m n first second = absurd second
GainsNumber-twice None (Some b) c m n first second = absurd first
GainsNumber-twice (Some a) None c m n first second = absurd first
GainsNumber-twice (Some a) (Some b) None m n first second = absurd second
GainsNumber-twice (Some a) (Some b) (Some c) m n first second = omega arith

pub Gains-twice : (a b c : Told) (xs ys : List ℕ) → Gains a b xs → Gains b c ys → Gains a c (xs ++ ys)
Gains-twice a b c xs ys first second = record {
  bytes = GainsBytes-twice a.put b.put c.put xs ys first.bytes second.bytes;
  number = rw length-append (GainsNumber-twice a.size b.size c.size (length xs) (length ys) first.number second.number);
}

-- a gain, and then a gain of a prefix of the rest
pub GainsPrefix-after : (a b c : Told) (xs piece : List ℕ) → Gains a b xs → GainsPrefix b c piece
    → GainsPrefix a c (xs ++ piece)
GainsPrefix-after a b c xs piece first second =
    (xs ++ second.0, IsPrefix-after xs second.0 piece second.1, Gains-twice a b c xs second.0 first second.2)

-- a prefix of a piece is one of any longer piece
pub GainsPrefix-longer : (a b : Told) (piece longer : List ℕ) → IsPrefix piece longer → GainsPrefix a b piece
    → GainsPrefix a b longer
GainsPrefix-longer a b piece longer within gained =
    (gained.0, IsPrefix-trans gained.0 piece longer gained.1 within, gained.2)

-- a prefix of the first of two
pub GainsPrefix-first : (a b : Told) (xs ys : List ℕ) → GainsPrefix a b xs → GainsPrefix a b (xs ++ ys)
GainsPrefix-first a b xs ys gained = GainsPrefix-longer a b xs (xs ++ ys) (IsPrefix-append xs ys) gained

-- a push after what was gained
pub Pushes-after : {T E : Type 0} (a b c : Told) (r : Result T E) (xs piece : List ℕ) → Gains a b xs
    → Pushes r b c piece → Pushes r a c (xs ++ piece)
Pushes-after a b c (Ok done) xs piece first second = Gains-twice a b c xs piece first second
Pushes-after a b c (Err failed) xs piece first second = GainsPrefix-after a b c xs piece first second

-- a sink that tells nothing gains whatever is put
pub Pushes-untold : {T E : Type 0} (r : Result T E) (piece : List ℕ) → Pushes r untold untold piece
Pushes-untold (Ok done) piece = record { bytes = tt; number = tt }
Pushes-untold (Err failed) piece = ([], IsPrefix-none piece, record { bytes = tt; number = tt })
