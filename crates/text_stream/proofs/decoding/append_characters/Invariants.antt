use Rattle.std.proofs.Common.{◌≡◌, ◌+◌, ◌≤◌, ◌++◌, length, vec_len, vec_capacity}
use Rattle.text_stream.specs.Decoding.{characters_after}
use Rattle.text_stream.proofs.decoding.append_characters.Given as goal

-- the characters so far and those of the rest are what the whole appends, and there is room for them
abbrev pub invariant-reading : goal.invariant-reading
invariant-reading l =
    (l.text.items ++ characters_after 0 l.rest ≡ l.initial.text.items ++ characters_after 0 l.bytes)
    × (vec_len l.text + length l.rest ≤ vec_capacity l.text)

abbrev pub decreases-reading : goal.decreases-reading
decreases-reading l = length l.rest
