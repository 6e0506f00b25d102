use Rattle.std.proofs.Common.{◌≡◌, map, drop}
use Rattle.es5_lexer.specs.Names.{word_in}
use Rattle.es5_lexer.proofs.names.word_in.Given as goal

abbrev pub invariant-loop-spelling : goal.invariant-loop-spelling
invariant-loop-spelling l =
    word_in (map (λ w. (w.0.now, w.1)) l.words) l.letters ≡ word_in (map (λ w. (w.0.now, w.1)) (drop l.spelling-index l.words)) l.letters
