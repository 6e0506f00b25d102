use Rattle.std.proofs.Common.{[], ◌∷◌}
use Rattle.orb_bytes.specs.Ascii.{line_feed}
use Rattle.orb_io.specs.declared.outside.Failed.{Failed}
use Rattle.orb_io.proofs.CallLemmas.{Puts-then}
use Rattle.computed_type.specs.Computed.{essence_text}
use Rattle.computed_type.proofs.writing.put_line.Goals as goal

pub returns : goal.returns
returns g c = record {
  puts = Puts-then {T = Unit {0}} {E = Failed} g.O.Sink c.in_ok-put_essence.field-0 c.push.result c.args.sink.now c.put_essence.new.sink c.push.new.self
      (essence_text c.args.computed.now) (line_feed ∷ []) (g.met.O.Sink.kept_transitive _ _ _) c.in_ok-put_essence.ensures.puts (record {
        bytes = c.push.ensures.bytes;
        cause = c.push.ensures.cause;
        keeps = c.push.ensures.keeps;
      });
}
