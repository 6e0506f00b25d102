-- Entries that are recorded one after the other: what was recorded of the first of them, and what is left to record.
use Rattle.std.proofs.Common.{◌≡◌, ℕ, ◌+◌, List, [], ◌∷◌, ◌++◌, map, Option, Some, None, Result, Ok, Err, refl, sym, ap, ◌∙◌, append_assoc, append-nil}
use Rattle.serde_json.specs.Data.{Data}
use Rattle.serde_json.specs.View.{items_of}
use Rattle.har_recording.specs.declared.entries.Fault.{Fault}
use Rattle.har_recording.specs.declared.entries.Fault.TheVariants.{NotWhole, NoMemory}
use Rattle.har_recording.specs.Seen.{entry_in, Reads}
use Rattle.har_recording.specs.Log.{Text, Entry, entry_of}
use Rattle.har_recording.specs.Recorded.{recorded, followed, recording_from}

-- what all of them stand for, where this was recorded before these
pub after : Text → Result Text ℕ → Result Text ℕ
after done (Ok rest) = Ok (done ++ rest)
after done (Err number) = Err number

pub none_before : (left : Result Text ℕ) → left ≡ after [] left
unfolding after
none_before (Ok rest) = refl
none_before (Err number) = refl

pub none_left : (done : Text) → after done (Ok []) ≡ Ok done
unfolding after
none_left done = ap Ok (append-nil done)

one_more : (done : Text) (number : ℕ) (e : Entry) (left : Result Text ℕ)
    → after done (followed number (Some e) left) ≡ after (done ++ recorded e) left
unfolding after
one_more done number e (Ok rest) = ap Ok (sym (append_assoc done (recorded e) rest))
one_more done number e (Err later) = refl

refused : (done : Text) (number : ℕ) (left : Result Text ℕ) → after done (followed number None left) ≡ Err number
unfolding after
refused done number left = refl

-- the entry was recorded
pub entry_recorded : {V : Type 0} (view : V → Data) (vs next : List V) (v : V) (e : Entry) (number : ℕ) (done : Text) (all : Result Text ℕ)
    → all ≡ after done (recording_from number (items_of (map view vs))) → vs ≡ v ∷ next → entry_of (view v) ≡ Some e
    → all ≡ after (done ++ recorded e) (recording_from (number + 1) (items_of (map view next)))
entry_recorded view vs next v e number done all is first one =
    is
    ∙ ap (λ l. after done (recording_from number (items_of (map view l)))) first
    ∙ ap (λ o. after done (followed number o (recording_from (number + 1) (items_of (map view next))))) one
    ∙ one_more done number e (recording_from (number + 1) (items_of (map view next)))

-- the entry isn't whole
pub entry_refused : {V : Type 0} (view : V → Data) (vs next : List V) (v : V) (number : ℕ) (done : Text) (all : Result Text ℕ)
    → all ≡ after done (recording_from number (items_of (map view vs))) → vs ≡ v ∷ next → entry_of (view v) ≡ None
    → all ≡ Err number
entry_refused view vs next v number done all is first one =
    is
    ∙ ap (λ l. after done (recording_from number (items_of (map view l)))) first
    ∙ ap (λ o. after done (followed number o (recording_from (number + 1) (items_of (map view next))))) one
    ∙ refused done number (recording_from (number + 1) (items_of (map view next)))

-- a fault that isn't of memory
pub not_whole : (entry : Option Entry) (fault : Fault) → Reads entry_in entry (Err fault) → fault ≡ NotWhole → entry ≡ None
not_whole entry NotWhole is e = is
not_whole entry NoMemory is e = cc
