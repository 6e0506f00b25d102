-- JSON tests: what is read, what is dead, and what is told at the end.
use Rattle.std.proofs.Common.{◌≡◌, ◌<◌, ℕ, length, get_or, take, arith, Bool, true, false, List, [], ◌∷◌, ◌++◌, Option, None, Some, option_map, refl, sym, ap, ◌∙◌, inl, inr, append_assoc, append-nil, reverse}
use Rattle.std.specs.List.{list_all}
use Rattle.std.proofs.lemmas.Bool.{and_parts, cases_Bool}
use Rattle.text_stream.specs.Decoding.{characters_of}
use Rattle.text_stream.specs.Decoder.{PassesAscii, ahead, HasRead as DecoderHasRead}
use Rattle.text_stream.specs.declared.decoder.Decoder.{Decoder}
use Rattle.std.specs.Char.{is_ascii}
use Rattle.std.proofs.lemmas.Bool.Decides.{nat_tests}
use Rattle.json_recogniser.specs.declared.states.Container.{Container}
use Rattle.json_recogniser.specs.declared.states.State.{State}
use Rattle.json_recogniser.specs.declared.states.State.TheVariants as state
use Rattle.json_recogniser.specs.declared.json_test.JsonTest.{JsonTest}
use Rattle.json_recogniser.specs.declared.machine.Machine.{Machine}
use Rattle.json_recogniser.proofs.RunLemmas.{text_run}
use Rattle.json_recogniser.specs.Grammar.{IsJson, is_unescaped}
use Rattle.json_recogniser.specs.Reading.{after_spaces, after_whole_value}
use Rattle.json_recogniser.specs.Residuals.{residual, is_json, is_nothing, is_dead_state, is_text_state, through, after_residual}
use Rattle.json_recogniser.specs.Machines.{comes}
use Rattle.json_recogniser.specs.JsonTest.{IsNever, is_dead, Reads, HasRead}
use Rattle.json_recogniser.proofs.Soundness.{recognised}
use Rattle.json_recogniser.proofs.Completeness.{complete}

-- ---- the test of a whole text

nothing_left : (text : List ℕ) → is_nothing text ≡ true → text ≡ []
nothing_left [] is = refl
nothing_left (c ∷ text) is = absurd (cc)

pub json_to : (text : List ℕ) → is_json text ≡ true → IsJson text
json_to text is = recognised text (read (after_whole_value 1024 (after_spaces text)) is) where
  read : (o : Option (List ℕ)) → through (after_residual []) o ≡ true → option_map after_spaces o ≡ Some []
  read None so = absurd (cc)
  read (Some rest) so = ap Some (nothing_left (after_spaces rest) so)

pub json_from : (text : List ℕ) → IsJson text → is_json text ≡ true
json_from text json = read (after_whole_value 1024 (after_spaces text)) (complete text json) where
  read : (o : Option (List ℕ)) → option_map after_spaces o ≡ Some [] → through (after_residual []) o ≡ true
  read None lie = absurd (cc)
  read (Some rest) so = let none : after_spaces rest ≡ [] = cc in ap is_nothing none

-- ---- dead tests

dead_state : (s : State) (marks : List Container) (text : List ℕ) → is_dead_state s ≡ true → residual s marks text ≡ false
dead_state state.Dead marks text is = refl
dead_state s marks text is = absurd (cc)

pub never_more : (bytes more : List ℕ) → IsNever bytes → IsNever (bytes ++ more)
never_more bytes more never rest = ap (λ t. is_json (characters_of t)) (append_assoc bytes more rest) ∙ never (more ++ rest)

-- what is read by the parts is read
pub has_read : (test : JsonTest) (bytes : List ℕ) → Reads test bytes → HasRead test bytes
has_read test bytes reads = record {
  dead = λ is more.
      ap is_json (reads.decoder.gives more)
      ∙ sym (reads.machine (ahead test.decoder more))
      ∙ dead_state test.machine.state _ (ahead test.decoder more) is;
  alive = λ _. reads;
}

pub dead_reads : (test : JsonTest) (bytes more : List ℕ) → is_dead test ≡ true → HasRead test bytes → HasRead test (bytes ++ more)
dead_reads test bytes more is h = record {
  dead = λ _. never_more bytes more (h.dead is);
  alive = λ lives. absurd (cc);
}

pub dead_never : (test : JsonTest) (bytes more : List ℕ) → is_dead test ≡ true → HasRead test bytes → ¬ IsJson (characters_of (bytes ++ more))
dead_never test bytes more is h json = let lie = h.dead is more in let so = json_from (characters_of (bytes ++ more)) json in absurd (cc)

-- ---- the end

pub told : (test : JsonTest) (bytes ending : List ℕ) (result : Bool) → result ≡ comes test.machine ending
    → ((given : List ℕ) → DecoderHasRead test.decoder bytes given → given ++ ending ≡ characters_of bytes)
    → HasRead test bytes → (result ≡ true → IsJson (characters_of bytes)) × (IsJson (characters_of bytes) → result ≡ true)
told test bytes ending result is ends h =
    elim (cases_Bool (is_dead test)) [
      | inl dead ↦
          let no_json : is_json (characters_of bytes) ≡ false = ap (λ t. is_json (characters_of t)) (sym (append-nil bytes)) ∙ h.dead dead [] in
          let untrue : result ≡ false = is ∙ dead_state test.machine.state _ ending dead in
          (λ so. absurd (cc), λ json. let so = json_from (characters_of bytes) json in absurd (cc))
      | inr alive ↦
          let reads = h.alive alive in
          let same : result ≡ is_json (characters_of bytes) = is ∙ reads.machine ending ∙ ap is_json (ends reads.given reads.decoder) in
          (λ so. json_to (characters_of bytes) (sym same ∙ so), λ json. same ∙ json_from (characters_of bytes) json)
    ]

-- ---- bytes

pub read_on : (old new : JsonTest) (bytes given : List ℕ) (b : ℕ)
    → ((b' g : List ℕ) → DecoderHasRead old.decoder b' g → DecoderHasRead new.decoder (b' ++ b ∷ []) (g ++ given))
    → ((text : List ℕ) → comes new.machine text ≡ comes old.machine (given ++ text))
    → Reads old bytes → Reads new (bytes ++ b ∷ [])
read_on old new bytes given b decodes goes reads = record {
  given = reads.given ++ given;
  decoder = decodes bytes reads.given reads.decoder;
  machine = λ text. goes text ∙ reads.machine (given ++ text) ∙ ap is_json (sym (append_assoc reads.given given text));
}

-- some bytes read at once
pub text_read : (old new : JsonTest) (bytes run given : List ℕ) → new.decoder ≡ old.decoder
    → ((before g : List ℕ) → DecoderHasRead old.decoder before g → DecoderHasRead old.decoder (before ++ run) (g ++ given))
    → ((text : List ℕ) → comes new.machine text ≡ comes old.machine (given ++ text))
    → Reads old bytes → Reads new (bytes ++ run)
text_read old new bytes run given same decodes goes reads = record {
  given = reads.given ++ given;
  decoder = rw same (decodes bytes reads.given reads.decoder);
  machine = λ text. goes text ∙ reads.machine (given ++ text) ∙ ap is_json (sym (append_assoc reads.given given text));
}

-- ASCII characters, given one by one
pub ascii_read : (decoder : Decoder) (bytes given run : List ℕ) → PassesAscii decoder → list_all is_ascii run ≡ true
    → DecoderHasRead decoder bytes given → DecoderHasRead decoder (bytes ++ run) (given ++ run)
ascii_read decoder bytes given [] passes all read = rw (append-nil bytes, append-nil given) read
ascii_read decoder bytes given (b ∷ run) passes all read =
    let parts = and_parts (is_ascii b) (list_all is_ascii run) all in
    let small : b < 128 = grind (arith, nat_tests) in
    let more = ascii_read decoder (bytes ++ b ∷ []) (given ++ b ∷ []) run passes parts.1 (passes bytes given b small read) in
    rw (append_assoc bytes (b ∷ []) run, append_assoc given (b ∷ []) run) at more

-- characters that stand for themselves in a string
pub text_comes : (machine : Machine) (run text : List ℕ) → is_text_state machine.state ≡ true → list_all is_unescaped run ≡ true
    → comes machine (run ++ text) ≡ comes machine text
text_comes machine run text at all = by_state machine.state at
  where
    by_state : (s : State) → is_text_state s ≡ true → residual s (reverse machine.marks.items) (run ++ text) ≡ residual s (reverse machine.marks.items) text
    by_state (state.Text r) at = text_run r (reverse machine.marks.items) run text all
    by_state s at = absurd (cc)

-- the first byte alone
pub first_alone : (piece : List ℕ) → 0 < length piece → get_or piece 0 0 ∷ [] ≡ take 1 piece
first_alone [] some = absurd (omega arith)
first_alone (b ∷ piece) some = refl
