use Rattle.std.proofs.Common.{◌≡◌, true, false, is_some}
use Rattle.es5_lexer.specs.Residuals.{is_in_name}
use Rattle.es5_lexer.proofs.LetterLemmas.{heard_outside, follow_in, follow_anew, anew_some, anew_outside}
use Rattle.es5_lexer.proofs.letters.Letters.follow.Goals as goal
use Rattle.es5_lexer.proofs.letters.Letters.follow.Goals.{in_default-via-in-Token+else-is_none, in_default-via-in_default}

pub returns-then-not-is_in_name : goal.returns-then-not-is_in_name
returns-then-not-is_in_name c g read leads heard =
    let e : is_in_name c.args.after ≡ false = cc in heard_outside c.args.self.now c.args.after _ e

pub returns-in-Token : goal.returns-in-Token
returns-in-Token c g read leads heard =
    let e = c.read.ensures in let n : is_some c.args.given ≡ false = cc in
    follow_in c.args.self.now c.read.new.self c.args.before c.in-Token.place g c.args.c c.args.given c.args.after read c.in-Token.is n (record { letters = e.letters; escapes = e.escapes }) leads heard

pub returns-in_default : goal.returns-in_default
returns-in_default c g read leads heard =
    let e = c.begin.ensures in
    follow_anew c.begin.new.self c.args.before g c.args.c c.args.given c.args.after read
    (elim c.in_default.branch [
      | in_default-via-in-Token+else-is_none w ↦ let some : is_some c.args.given ≡ true = (cc (w.is_none.ensures, w.if-is_none.false)) in anew_some c.args.before c.args.given some
      | in_default-via-in_default w ↦ anew_outside c.args.before c.args.given w.in_default.not-Token
    ])
    (record { letters = e.letters; escapes = e.escapes }) leads
