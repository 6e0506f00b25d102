use Rattle.std.proofs.Common.{[], refl, arith, sym, ap, subst, lit<}
use Rattle.http_exchange.specs.Head.{head_length}
use Rattle.orb_engine.specs.declared.worker.Worker.{Worker}
use Rattle.http_exchange.specs.HeadTexts.{IsOpenHead, head_limit}
use Rattle.orb_engine.specs.Recording as cut
use Rattle.orb_engine.specs.Outputs.{output_of}
use Rattle.orb_io.specs.Outboxes.{OutboxState}
use Rattle.orb_engine.specs.Workers.{IsWorkerFor}
use Rattle.orb_engine.proofs.engine.Engine.start.Goals as goal

-- nothing may go on to be a head
open-none : IsOpenHead []
unfolding head_length head_limit
open-none = record { open_ = refl; fits = lit< tt }

pub returns-clause-reads : goal.returns-clause-reads
unfolding output_of
returns-clause-reads c =
    let s = c.args.self.now.writer.settings in
    let empty = c.clear-3.ensures.empty in
    record {
      reads = record {
        exchanges = [];
        tail = cut.InRequestHead [];
        cut = record { spells = refl; exchanges = tt; tail = open-none; last = λ _. refl };
        open_ = refl;
        gave = ap (λ (b : OutboxState). b.bytes) empty;
        taken = refl;
        common = record {
          settings = c.clear-3.ensures.same.settings;
          offset = refl;
          counts = refl;
          told = record { prefix = []; others = []; are = refl; numbers = refl; whole = ([], refl) };
        };
        stands = record {
          head = [];
          is = refl;
          text = c.clear-2.ensures;
          media = c.clear.ensures;
          writer = record {
            worker = subst (λ (w : Worker). IsWorkerFor w s) (sym c.clear-3.ensures.same.worker) c.args.self.now.writer.worker_for;
            no_faults = ap (λ (b : OutboxState). b.faults) empty;
          };
        };
      };
      flushed = empty;
      few = omega arith;
    }
