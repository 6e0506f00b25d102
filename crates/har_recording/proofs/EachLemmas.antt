-- Items that are read one after the other: what was read of the first of them, and what is left to read.
use Rattle.std.proofs.Common.{◌≡◌, List, [], ◌∷◌, ◌++◌, map, Option, Some, None, option_map, refl, sym, ap, ◌∙◌, append_assoc, append-nil}
use Rattle.serde_json.specs.Data.{Data}
use Rattle.serde_json.specs.View.{items_of}
use Rattle.har_recording.specs.Log.{all_of, of_both}

-- what is read of all of them, where this was read before these
pub after : {X : Type 0} → List X → Option (List X) → Option (List X)
after read left = option_map (λ rest. read ++ rest) left

pub none_before : {X : Type 0} (left : Option (List X)) → left ≡ after [] left
unfolding after
none_before None = refl
none_before (Some rest) = refl

pub none_left : {X : Type 0} (read : List X) → after read (Some []) ≡ Some read
unfolding after
none_left read = ap Some (append-nil read)

one_more : {X : Type 0} (read : List X) (x : X) (left : Option (List X))
    → after read (of_both (λ y ys. y ∷ ys) (Some x) left) ≡ after (read ++ (x ∷ [])) left
unfolding after
one_more read x None = refl
one_more read x (Some rest) = ap Some (sym (append_assoc read (x ∷ []) rest))

pub none_then : {X : Type 0} (read : List X) (left : Option (List X))
    → after read (of_both (λ y ys. y ∷ ys) None left) ≡ None
unfolding after
none_then read left = refl

-- the item was read
pub item_read : {V X : Type 0} (f : Data → Option X) (view : V → Data) (vs next : List V) (v : V) (x : X) (read : List X) (all : Option (List X))
    → all ≡ after read (all_of f (items_of (map view vs))) → vs ≡ v ∷ next → f (view v) ≡ Some x
    → all ≡ after (read ++ (x ∷ [])) (all_of f (items_of (map view next)))
item_read f view vs next v x read all is first one =
    is
    ∙ ap (λ l. after read (all_of f (items_of (map view l)))) first
    ∙ ap (λ o. after read (of_both (λ y ys. y ∷ ys) o (all_of f (items_of (map view next))))) one
    ∙ one_more read x (all_of f (items_of (map view next)))

-- the item is none
pub item_refused : {V X : Type 0} (f : Data → Option X) (view : V → Data) (vs next : List V) (v : V) (read : List X) (all : Option (List X))
    → all ≡ after read (all_of f (items_of (map view vs))) → vs ≡ v ∷ next → f (view v) ≡ None → all ≡ None
item_refused f view vs next v read all is first one =
    is
    ∙ ap (λ l. after read (all_of f (items_of (map view l)))) first
    ∙ ap (λ o. after read (of_both (λ y ys. y ∷ ys) o (all_of f (items_of (map view next))))) one
    ∙ none_then read (all_of f (items_of (map view next)))
