use Rattle.std.proofs.Common.{◌≡◌, ℕ, List, ◌++◌, Result, Ok, Err, inl, inr, refl, codes}
use Rattle.std.specs.Prelude.{OnOk}
use Rattle.mime_types.specs.Mime.{HasNoMime}
use Rattle.mime_types.specs.Text.{text_of}
use Rattle.orb_cli.specs.MimeLine.{IsMimeText}
use Rattle.orb_cli.proofs.mime_word.append_mime.Goals as goal

-- what an `Ok` says, in other words
ok_says : {T E : Type 0} (r : Result T E) (P Q : Type 0) → (P → Q) → OnOk r P → OnOk r Q
ok_says (Ok value) P Q says said = says said
ok_says (Err error) P Q says said = said

pub returns-in-Ok : goal.returns-in-Ok
returns-in-Ok c =
    let old = c.args.line.now.items in
    let new = c.serialise_into.new.out.items in
    let text = text_of c.in-Ok.mime in
    ok_says c.serialise_into.result (new ≡ old ++ text)
    ((out : List ℕ) × IsMimeText c.args.text.now out × (new ≡ old ++ out))
    (λ same. (text, inl (c.in-Ok.mime, c.in-Ok.ensures.found, refl), same))
    c.serialise_into.ensures.ok

pub returns-in-Err-NotMime : goal.returns-in-Err-NotMime
returns-in-Err-NotMime c =
    let old = c.args.line.now.items in
    let new = c.append.new.line.items in
    let not_mime = rw c.in-Err-NotMime.field-0-is at c.in-Err-NotMime.ensures.not_mime in
    let none : HasNoMime c.args.text.now = not_mime.0 refl in
    ok_says c.append.result (new ≡ old ++ codes "failure")
    ((out : List ℕ) × IsMimeText c.args.text.now out × (new ≡ old ++ out))
    (λ same. (codes "failure", inr (none, refl), same))
    c.append.ensures
