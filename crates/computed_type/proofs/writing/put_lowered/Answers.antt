use Rattle.std.proofs.Common.{◌≡◌, ℕ, List, length, drop, Ok, Err, refl, ap, subst, ◌∙◌, arith}
use Rattle.std.proofs.lemmas.List.{length-take}
use Rattle.std.proofs.lemmas.Result.{err_from_is_err_and}
use Rattle.std.specs.Str.{str_to_ascii_lowercase}
use Rattle.orb_io.specs.Calls.{Puts}
use Rattle.orb_io.specs.declared.outside.Failed.{Failed}
use Rattle.computed_type.proofs.InputLemmas.{taken_cut}
use Rattle.computed_type.proofs.WritingLemmas.{lowered-more, lowered-fault}
use Rattle.computed_type.proofs.writing.put_lowered.Goals as goal

pub returns-in_err-push : goal.returns-in_err-push
returns-in_err-push g c =
    let err = err_from_is_err_and c.from_residual.result c.from_residual.ensures.1 in
    let piece = c.first_bytes-piece.result.now in
    let is : c.as_slice.result.now ≡ str_to_ascii_lowercase piece = c.as_slice.ensures.value ∙ c.lowered.ensures in
    rw err.1 (record {
      puts = lowered-fault g.O.Sink c.args.sink.now c.pieces.sink c.push.new.self c.in_err-push.field-0.0 err.0 c.args.text.now c.pieces.rest.now piece
          (drop (length piece) c.pieces.rest.now) (g.met.O.Sink.kept_transitive _ _ _) c.pieces.invariant
          (taken_cut 64 c.pieces.rest.now piece _ c.first_bytes-piece.ensures.bytes refl)
          (subst (λ (t : List ℕ). Puts {T = Unit {0}} g.O.Sink (Err c.in_err-push.field-0.0) c.pieces.sink c.push.new.self t) is (record {
            bytes = c.in_err-push.ensures.bytes;
            cause = c.in_err-push.ensures.cause;
            keeps = c.push.ensures.keeps;
          }));
    })

pub split_at-requires : goal.split_at-requires
split_at-requires g c = omega (arith, ap length c.first_bytes-piece.ensures.bytes, length-take 64 c.pieces.rest.now)

pub pieces-preserved : goal.pieces-preserved
pieces-preserved g c =
    let piece = c.first_bytes-piece.result.now in
    let is : c.as_slice.result.now ≡ str_to_ascii_lowercase piece = c.as_slice.ensures.value ∙ c.lowered.ensures in
    lowered-more g.O.Sink c.args.sink.now c.pieces.sink c.push.new.self c.args.text.now c.pieces.rest.now piece c.split_at.result.1.now
    (g.met.O.Sink.kept_transitive _ _ _) c.pieces.invariant
    (taken_cut 64 c.pieces.rest.now piece c.split_at.result.1.now c.first_bytes-piece.ensures.bytes c.split_at.ensures.back)
    (subst (λ (t : List ℕ). Puts {T = Unit {0}} {E = Failed} g.O.Sink (Ok tt) c.pieces.sink c.push.new.self t) is (record {
      bytes = c.in_ok-push.ensures.bytes;
      cause = c.in_ok-push.ensures.cause;
      keeps = c.push.ensures.keeps;
    }))
