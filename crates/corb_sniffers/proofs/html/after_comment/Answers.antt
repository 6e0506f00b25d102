use Rattle.std.proofs.Common.{◌≡◌, ◌++◌, take, drop, length, codes, sym, ap, ◌∙◌, ℕ, ◌+◌, ◌-◌, List, length-drop, arith}
use Rattle.std.specs.Cmp.Lexicographic.{same_text}
use Rattle.std.proofs.lemmas.List.{take-append-drop, take_all}
use Rattle.corb_sniffers.specs.HtmlReading.{IsNoComment}
use Rattle.corb_sniffers.proofs.CommentLemmas.{end, none_ends, found_ends}
use Rattle.corb_sniffers.proofs.html.after_comment.Goals as goal

-- the text is `<!--` and what is after it
begun : (text inside : List ℕ) → take 4 text ≡ codes "<!--" → inside ≡ drop 4 text → text ≡ codes "<!--" ++ inside
begun text inside run rest =
    sym (take-append-drop 4 text) ∙ ap (λ t. t ++ drop 4 text) run ∙ ap (λ t. codes "<!--" ++ t) (sym rest)

after_begun : (one other : List ℕ) → codes "<!--" ++ one ≡ codes "<!--" ++ other → one ≡ other
after_begun one other same = cc

pub returns-in_err-end : goal.returns-in_err-end
returns-in_err-end c =
    let text = c.args.text.now in
    let inside = c.in_ok-inside.inside.now in
    let cases = c.in_ok-inside.ensures.cases in
    let cut = begun text inside (same_text (take 4 text) (codes "<!--") (sym cases.0)) cases.1 in
    let none : IsNoComment text = λ within rest first same.
    none_ends inside c.in_err-end.ensures within rest (after_begun inside (within ++ (end ++ rest)) (sym cut ∙ same)) in
    rw c.from_residual-in_err-end.ensures none

pub returns : goal.returns
returns c =
    let text = c.args.text.now in
    let inside = c.in_ok-inside.inside.now in
    let cases = c.in_ok-inside.ensures.cases in
    let k = c.in_ok-end.end in
    let found = found_ends inside k c.in_ok-end.ensures in
    let rest : take (length inside - (k + 3)) (drop (k + 3) inside) ≡ drop (k + 3) inside =
    take_all (length inside - (k + 3)) (drop (k + 3) inside) (omega (arith, length-drop (k + 3) inside)) in
    record {
      inside = take k inside;
      first = found.0;
      cut = begun text inside (same_text (take 4 text) (codes "<!--") (sym cases.0)) cases.1
          ∙ ap (λ t. codes "<!--" ++ t) (found.1 ∙ ap (λ t. take k inside ++ (end ++ t)) (sym rest));
    }
