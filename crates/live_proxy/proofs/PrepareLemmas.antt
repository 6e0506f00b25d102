-- What is made ready of a request head.
use Rattle.std.proofs.Common.{◌≡◌, ℕ, List, [], ◌++◌, sym, ap, ◌∙◌, subst}
use Rattle.std.specs.Prelude.{Ok, Err}
use Rattle.httparse.specs.Grammar.{RequestHead}
use Rattle.header_values.specs.Fields.{pairs_in}
use Rattle.http_exchange.specs.Heads.{IsRequest}
use Rattle.http_exchange.specs.Parts.{ArePartsOf}
use Rattle.http_exchange.specs.declared.request.RequestParts.{RequestParts}
use Rattle.live_proxy.specs.Targets.{Target, IsTarget}
use Rattle.live_proxy.specs.TargetReads.{IsRead, ReadsTarget}
use Rattle.live_proxy.specs.Requests.{forwarded_for}
use Rattle.live_proxy.specs.Forwarding.{IsPrepared, Prepares}
use Rattle.live_proxy.specs.declared.targets.ProxyTarget.{ProxyTarget}
use Rattle.live_proxy.specs.declared.targets.TargetRefusal.{TargetRefusal}
use Rattle.live_proxy.specs.declared.targets.TargetRefusal.TheVariants as refusal

-- its target is refused
pub refused : (head : List ℕ) (parts : RequestParts) (why : TargetRefusal) (text : List ℕ)
    → ((h : RequestHead) × IsRequest head h × ArePartsOf head h parts)
    → ReadsTarget parts.target.now (Err why) → Prepares head (Err why) text
refused head parts refusal.BadTarget text has none = record {
  tree = has.0;
  reads = has.1;
  none = λ t is. none t (subst (λ w. IsTarget w t) (sym has.2.target) is);
}
refused head parts refusal.NoMemory text has none = tt

-- its target was read, and the head that is sent on was written
pub prepared : (head : List ℕ) (parts : RequestParts) (read : ProxyTarget) (cleared text : List ℕ)
    → ((h : RequestHead) × IsRequest head h × ArePartsOf head h parts)
    → ReadsTarget parts.target.now (Ok read) → cleared ≡ []
    → ((t : Target) → IsRead read t → text ≡ cleared ++ forwarded_for parts.method.now t (pairs_in parts.fields))
    → IsPrepared head read text
prepared head parts read cleared text has reads none writes = record {
  method = parts.method.now;
  target = reads.0;
  fields = pairs_in parts.fields;
  parts = record {
    tree = has.0;
    reads = has.1;
    method_is = has.2.method;
    target_is = subst (λ w. IsTarget w reads.0) has.2.target reads.1;
    fields_are = has.2.fields_are;
  };
  is_read = reads.2;
  text_is = writes reads.0 reads.2 ∙ ap (λ w. w ++ forwarded_for parts.method.now reads.0 (pairs_in parts.fields)) none;
}
