use Rattle.std.proofs.Common.{◌≡◌, ◌+◌, ◌-◌, ◌++◌, length, None, Some, refl, ap, ◌∙◌, arith}
use Rattle.http_exchange.specs.Head.{head_length}
use Rattle.http_exchange.specs.HeadTexts.{head_limit}
use Rattle.http_exchange.specs.Gathering.{EndsAfter}
use Rattle.http_exchange.proofs.GatherLemmas.{takes_whole, takes_long, takes_open}
use Rattle.http_exchange.proofs.gathering.HeadReader.take.Goals as goal
use Rattle.http_exchange.proofs.gathering.HeadReader.take.Goals.{then-len-eq-HEAD, else-len-eq-HEAD}

pub returns-in-Some : goal.returns-in-Some
unfolding head_limit
returns-in-Some c =
    let view : c.self.inside.bytes.items ≡ c.args.self.now = c.self.view_is in
    let room : length c.args.self.now + (65536 - c.len.result) ≡ 65536 = omega (arith, ap length view) in
    let ends : EndsAfter c.args.self.now c.first_bytes-first.result.now (Some c.in-Some.used) =
    rw (← view, ← c.as_slice.ensures.value) c.in-Some.ensures in
    takes_whole c.args.self.now c.args.piece.now c.first_bytes-first.result.now _ _ c.in-Some.used c.requires
    c.first_bytes-first.ensures.bytes room ends
    (c.append.ensures.items ∙ rw (view, c.split_at.ensures.front) refl)

pub returns-after-len-eq-HEAD : goal.returns-after-len-eq-HEAD
unfolding head_limit
returns-after-len-eq-HEAD c =
    let view : c.self.inside.bytes.items ≡ c.args.self.now = c.self.view_is in
    let room : length c.args.self.now + (65536 - c.len.result) ≡ 65536 = omega (arith, ap length view) in
    let none : head_length (c.args.self.now ++ c.first_bytes-first.result.now) ≡ None =
    rw (← view, ← c.as_slice.ensures.value) c.in-None.ensures in
    let new_is = c.append-in-None.ensures.items ∙ ap (λ t. t ++ c.first_bytes-first.result.now) view in
    elim c.if-len-eq-HEAD.branch [
      | then-len-eq-HEAD w ↦ rw w.result-is (takes_long c.args.self.now c.args.piece.now c.first_bytes-first.result.now _ _
          c.first_bytes-first.ensures.bytes none new_is (omega arith))
      | else-len-eq-HEAD w ↦ rw w.result-is (takes_open c.args.self.now c.args.piece.now c.first_bytes-first.result.now _ _
          c.first_bytes-first.ensures.bytes room none new_is (λ full. w.if-len-eq-HEAD.false (omega (arith, full))))
    ]
