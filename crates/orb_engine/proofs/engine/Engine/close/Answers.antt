use Rattle.std.proofs.Common.{ℕ, ◌++◌, refl, sym, ap, subst, ◌∙◌}
use Rattle.std.specs.FinMap as map
use Rattle.orb_io.specs.Told.{IsPrefix}
use Rattle.orb_io.proofs.GivesLemmas.{Gives-weaker}
use Rattle.response_rules.specs.declared.rules.Rule.{Rule}
use Rattle.response_rules.specs.Rules.{is_allowing}
use Rattle.exchanges.specs.Heads.{id_of}
use Rattle.orb_engine.specs.Outputs.{written_exchanges, written_whole}
use Rattle.orb_engine.specs.Counts.{rules_of_exchanges}
use Rattle.orb_engine.specs.Reads.{table_of, counts_of, coming_response}
use Rattle.orb_engine.specs.declared.progress.Progress.{Progress}
use Rattle.orb_engine.specs.Progress.{count_with}
use Rattle.orb_engine.specs.Closing.{coming_rule}
use Rattle.orb_engine.proofs.CutLemmas.{counts-snoc}
use Rattle.orb_engine.proofs.ClosingLemmas.{stored-keeps, number-is, told-more}
use Rattle.exchanges.proofs.TableLemmas.{kept-admitted}
use Rattle.orb_engine.proofs.engine.Engine.close.Goals as goal

pub leave-requires : goal.leave-requires
leave-requires g c =
    let (s, x, given, k) = c.requires.can in
    rw (k.media, k.id_is) (kept-admitted (table_of x.exchanges) (id_of x.heads.request.asks))

pub returns-in-Ok-clause-goes : goal.returns-in-Ok-clause-goes
returns-in-Ok-clause-goes g c = record {
  tells = λ s x given k.
      let all = written_exchanges s map.empty 0 x.exchanges in
      let number = c.number-number.ensures ∙ number-is c.args.self.now.progress.counts x.exchanges k.common.counts in
      Gives-weaker _ _ given _ _ (λ more passed.
      let verdict = passed.1.0 in
      record {
        gave = passed.0 ∙ ap (λ n. all ++ written_whole s.job n (coming_response s x) x.body) number;
        settings = c.in-Ok.ensures.settings ∙ k.common.settings;
        counts = ap (λ (p : Progress). p.counts) c.close.ensures ∙ ap (λ d. count_with d c.in-Ok.verdict.allow) k.common.counts
            ∙ ap (count_with (counts_of (rules_of_exchanges x.exchanges))) (verdict.allow ∙ ap (λ (r : Rule). is_allowing r) verdict.rule)
            ∙ sym (counts-snoc (rules_of_exchanges x.exchanges) (coming_rule s x));
        told = rw (ap (λ (p : Progress). p.told) c.close.ensures) (told-more c.args.self.now.progress.told s x.exchanges given more k.common.told);
        asking = refl;
        head = c.clear.ensures;
        media = c.leave.ensures
            ∙ rw (k.media, k.id_is, verdict.state, verdict.rule) (stored-keeps (table_of x.exchanges) (id_of x.heads.request.asks) _);
        writer = passed.1.1;
        offset = ap (λ (p : Progress). p.offset) c.close.ensures ∙ sym (ap (λ (p : Progress). p.taken) c.close.ensures);
      }) (c.in-Ok.ensures.calls.tells s _ x.body given all k.writer k.gave);
  cause = c.in-Ok.ensures.calls.cause;
  keeps = c.in-Ok.ensures.calls.keeps;
}

pub returns-in-Err-clause-goes : goal.returns-in-Err-clause-goes
returns-in-Err-clause-goes g c = record {
  tells = λ s x given k.
      let all = written_exchanges s map.empty 0 x.exchanges in
      let number = c.number-number.ensures ∙ number-is c.args.self.now.progress.counts x.exchanges k.common.counts in
      Gives-weaker _ _ given _ _ (λ more within. record {
        within = subst (λ (n : ℕ). IsPrefix (given ++ more) (all ++ written_whole s.job n (coming_response s x) x.body)) number within;
        told = told-more c.args.self.now.progress.told s x.exchanges given more k.common.told;
      }) (c.in-Err.ensures.calls.tells s _ x.body given all k.writer k.gave);
  cause = c.in-Err.ensures.calls.cause;
  keeps = c.in-Err.ensures.calls.keeps;
}
