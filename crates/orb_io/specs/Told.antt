-- What an object of the outside tells of its bytes, and how its count of faults goes.
-- `None` is untold. Whether an object tells never changes, so the mixed cases hold of no call.
use Rattle.std.specs.Prelude.{◌≡◌, ℕ, ◌+◌, ◌-◌, ◌^◌, ◌<◌, ◌≤◌, min, List, [], ◌++◌, length, take, ⊤, Option, None, Some, IfSome, Result, Ok, Err}

-- what a sink tells: the bytes so far, and the lesser of their number and the last u64
pub record Told : Type 0 where
  pub put : Option (List ℕ)
  pub size : Option ℕ

-- a sink that tells neither
abbrev pub untold : Told
untold = record { put = None; size = None }

-- one that tells the number alone
abbrev pub told_number : ℕ → Told
told_number n = record { put = None; size = Some (min n (2 ^ 64 - 1)) }

-- one that tells both
abbrev pub told_bytes : List ℕ → Told
told_bytes bytes = record { put = Some bytes; size = Some (min (length bytes) (2 ^ 64 - 1)) }

-- the size, where it and the bytes are told, is the lesser of their number and the last u64
abbrev pub NumberOf : Option (List ℕ) → Option ℕ → Type 0
NumberOf None size = ⊤
NumberOf (Some put) None = ⊤
NumberOf (Some put) (Some size) = size ≡ min (length put) (2 ^ 64 - 1)

-- what is told agrees with itself, and its size is a u64
pub record Agrees (told : Told) : Type 0 where
  pub number : NumberOf told.put told.size
  pub fits : IfSome told.size (λ n. n ≤ 2 ^ 64 - 1)

-- the bytes still to come began with these, and lost them
abbrev pub Loses : Option (List ℕ) → Option (List ℕ) → List ℕ → Type 0
Loses None None bytes = ⊤
Loses None (Some after) bytes = ⊥
Loses (Some before) None bytes = ⊥
Loses (Some before) (Some after) bytes = before ≡ bytes ++ after

-- no byte that is told is still to come
abbrev pub IsAtEnd : Option (List ℕ) → Type 0
IsAtEnd None = ⊤
IsAtEnd (Some left) = left ≡ []

-- the bytes so far grew by these at their end
abbrev pub GainsBytes : Option (List ℕ) → Option (List ℕ) → List ℕ → Type 0
GainsBytes None None bytes = ⊤
GainsBytes None (Some after) bytes = ⊥
GainsBytes (Some before) None bytes = ⊥
GainsBytes (Some before) (Some after) bytes = after ≡ before ++ bytes

-- the number of bytes so far grew by this many, up to the last u64
abbrev pub GainsNumber : Option ℕ → Option ℕ → ℕ → Type 0
GainsNumber None None n = ⊤
GainsNumber None (Some after) n = ⊥
GainsNumber (Some before) None n = ⊥
GainsNumber (Some before) (Some after) n = after ≡ min (before + n) (2 ^ 64 - 1)

-- what a sink tells grew by these bytes
pub record Gains (old new : Told) (gained : List ℕ) : Type 0 where
  pub bytes : GainsBytes old.put new.put gained
  pub number : GainsNumber old.size new.size (length gained)

-- the text begins with the prefix
abbrev pub IsPrefix : List ℕ → List ℕ → Type 0
IsPrefix prefix text = (rest : List ℕ) × (text ≡ prefix ++ rest)

-- what a sink tells grew by some prefix of the piece
abbrev pub GainsPrefix : Told → Told → List ℕ → Type 0
GainsPrefix old new piece = (prefix : List ℕ) × IsPrefix prefix piece × Gains old new prefix

-- the sink gained some bytes, and this holds of all that it was given, with those
pub record Gives (old new : Told) (given : List ℕ) (P : List ℕ → Type 0) : Type 0 where
  pub more : List ℕ
  pub gained : Gains old new more
  pub holds : P (given ++ more)

-- all that is owed was given, and this holds of the value; at an `Err` a prefix of it was given
abbrev pub Owes : {T E : Type 0} → Result T E → (owed : List ℕ) → (T → Type 0) → List ℕ → Type 0
Owes (Ok value) owed P given = (given ≡ owed) × P value
Owes (Err fault) owed P given = IsPrefix given owed

-- the sink gained what was not given yet of what is owed, and this holds of the value; at an `Err` it
-- gained a prefix of that
abbrev pub Delivers : {T E : Type 0} → Result T E → (old new : Told) → (given owed : List ℕ) → (T → Type 0) → Type 0
Delivers result old new given owed P = Gives old new given (Owes result owed P)

-- the count rose, unless it stands at the last u64; it never falls
abbrev pub Rose : ℕ → ℕ → Type 0
Rose before after = (before ≤ after) × (after < 2 ^ 64 - 1 → before < after)

-- an `Ok` left the count of faults as it was, and at an `Err` it rose
abbrev pub HasCause : {T E : Type 0} → ℕ → ℕ → Result T E → Type 0
HasCause before after (Ok value) = after ≡ before
HasCause before after (Err failed) = Rose before after

-- a pull gave the first n bytes of the buffer, none only at the end or with no room;
-- at an `Err` it took nothing
abbrev pub Pulls : {E : Type 0} → Option (List ℕ) → Option (List ℕ) → Result ℕ E → List ℕ → Type 0
Pulls left left' (Ok n) buf = Loses left left' (take n buf) × (n ≡ 0 → 0 < length buf → IsAtEnd left')
Pulls left left' (Err failed) buf = Loses left left' []

-- a push put the whole piece, and at an `Err` some prefix of it
abbrev pub Pushes : {T E : Type 0} → Result T E → (old new : Told) → List ℕ → Type 0
Pushes (Ok done) old new piece = Gains old new piece
Pushes (Err failed) old new piece = GainsPrefix old new piece
