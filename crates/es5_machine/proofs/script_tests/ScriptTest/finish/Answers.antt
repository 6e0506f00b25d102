use Rattle.std.proofs.Common.{◌≡◌, ◌++◌, [], ℕ, Bool, true, false, List, IsTrue, ◌↔◌, ap, subst, sym, ◌∙◌, refl}
use Rattle.std.proofs.lemmas.List.{append-nil}
use Rattle.text_stream.specs.Decoding.{characters_of}
use Rattle.es5_machine.specs.Scripts.{IsScript, IsScriptText}
use Rattle.es5_machine.specs.ScriptReading.{ReaderHasRead}
use Rattle.es5_machine.proofs.ScriptTestLemmas.{lost}
use Rattle.es5_machine.proofs.script_tests.ScriptTest.finish.Goals as goal

pub returns : goal.returns
returns c m reads = by c.args.self.now.reader.dead refl
  where
    whole : reads.reads.text ++ c.as_slice.result.now ≡ characters_of reads.first
    whole = ap (λ t. reads.reads.text ++ t) c.as_slice.ensures.value ∙ c.ending-last.ensures reads.first reads.reads.text reads.reads.decoder

    text : ReaderHasRead c.feed_all.new.self (characters_of reads.first)
    text = subst (λ (t : List ℕ). ReaderHasRead c.feed_all.new.self t) whole (c.feed_all.ensures.reads reads.reads.text reads.reads.reader)

    by : (dead : Bool) → c.args.self.now.reader.dead ≡ dead → IsTrue c.finish.result ↔ IsScript m
    by true dead = (
      λ e. absurd (reads.reads.reader.hopeless dead c.as_slice.result.now
          (subst (λ (t : List ℕ). IsScriptText t) (sym whole) ((c.finish.ensures (characters_of reads.first) text).0 e))),
      λ script. absurd (lost c.args.self.now m [] reads dead (subst (λ (t : List ℕ). IsScript t) (sym (append-nil m)) script)),
    )
    by false alive =
        let is : reads.first ≡ m = sym (reads.is ∙ ap (λ t. reads.first ++ t) (reads.all alive) ∙ append-nil reads.first) in
        c.finish.ensures (characters_of m) (subst (λ (t : List ℕ). ReaderHasRead c.feed_all.new.self (characters_of t)) is text)
