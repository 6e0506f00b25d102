-- What a test that is hopeless says of the bytes that it has read.
use Rattle.std.proofs.Common.{◌≡◌, ℕ, ◌<◌, false, true, List, [], ◌∷◌, ◌++◌, ap, subst, refl, sym, ◌∙◌, append_assoc, append-nil, arith, length, take, drop, take-append-drop}
use Rattle.std.proofs.lemmas.Bool.Decides.{nat_tests}
use Rattle.std.specs.List.{list_all}
use Rattle.std.specs.Char.{is_ascii}
use Rattle.es5_lexer.proofs.Choices.{and_left, and_right}
use Rattle.text_stream.specs.Decoding.{characters_of}
use Rattle.text_stream.specs.Decoder.{HasRead as DecoderHasRead, PassesAscii, ahead}
use Rattle.es5_machine.specs.Scripts.{IsScript, IsScriptText}
use Rattle.text_stream.specs.declared.decoder.Decoder.{Decoder}
use Rattle.es5_machine.specs.ScriptTests.{HasRead, Reads, is_dead}
use Rattle.es5_machine.specs.declared.script_tests.ScriptTest.{ScriptTest}

-- no script begins with them: their characters go on those of the first of them
pub lost : (test : ScriptTest) (bytes more : List ℕ) → HasRead test bytes → is_dead test ≡ true → IsScript (bytes ++ more) → ⊥
lost test bytes more h dead script =
    let after = h.others ++ more in
    let is : characters_of (bytes ++ more) ≡ h.reads.text ++ ahead test.decoder after =
    ap (λ t. characters_of (t ++ more)) h.is ∙ ap characters_of (append_assoc h.first h.others more) ∙ h.reads.decoder.gives after in
    h.reads.reader.hopeless dead (ahead test.decoder after) (subst (λ (t : List ℕ). IsScriptText t) is script)

below : (b : ℕ) → is_ascii b ≡ true → b < 128
below b is = grind (arith, nat_tests)

-- ASCII characters, given one by one
pub passes : (decoder : Decoder) (bytes given run : List ℕ) → PassesAscii decoder → list_all is_ascii run ≡ true → DecoderHasRead decoder bytes given
    → DecoderHasRead decoder (bytes ++ run) (given ++ run)
passes decoder bytes given [] ascii are read =
    subst (λ (t : List ℕ). DecoderHasRead decoder (bytes ++ []) t) (sym (append-nil given))
    (subst (λ (t : List ℕ). DecoderHasRead decoder t given) (sym (append-nil bytes)) read)
passes decoder bytes given (b ∷ run) ascii are read =
    let small = below b (and_left (is_ascii b) (list_all is_ascii run) are) in
    let others = and_right (is_ascii b) (list_all is_ascii run) are in
    subst (λ (t : List ℕ). DecoderHasRead decoder (bytes ++ (b ∷ run)) t) (append_assoc given (b ∷ []) run)
    (subst (λ (t : List ℕ). DecoderHasRead decoder t ((given ++ (b ∷ [])) ++ run)) (append_assoc bytes (b ∷ []) run)
    (passes decoder (bytes ++ (b ∷ [])) (given ++ (b ∷ [])) run ascii others (ascii bytes given b small read)))

-- what is read whole
pub has_read : (test : ScriptTest) (bytes : List ℕ) → Reads test bytes → HasRead test bytes
has_read test bytes reads = record { first = bytes; others = []; is = sym (append-nil bytes); reads = reads; all = λ e. refl }

pub alive_reads : (test : ScriptTest) (bytes : List ℕ) → test.reader.dead ≡ false → HasRead test bytes → Reads test bytes
alive_reads test bytes alive h =
    subst (λ (t : List ℕ). Reads test t) (sym (h.is ∙ ap (λ t. h.first ++ t) (h.all alive) ∙ append-nil h.first)) h.reads

-- once hopeless, a test reads no further
pub dead_reads : (test : ScriptTest) (bytes more : List ℕ) → is_dead test ≡ true → HasRead test bytes → HasRead test (bytes ++ more)
dead_reads test bytes more dead h = record {
  first = h.first;
  others = h.others ++ more;
  is = ap (λ t. t ++ more) h.is ∙ append_assoc h.first h.others more;
  reads = h.reads;
  all = λ alive. absurd (cc (dead, alive));
}

-- where nothing is left after the first of them
pub first_alone : (n : ℕ) (text : List ℕ) → length (drop n text) < 1 → text ≡ take n text
first_alone n text few = sym (take-append-drop n text) ∙ ap (λ t. take n text ++ t) (none (drop n text) few) ∙ append-nil (take n text)
  where
    none : (rest : List ℕ) → length rest < 1 → rest ≡ []
    none [] few = refl
    none (b ∷ rest) few = absurd (omega (arith, few))
