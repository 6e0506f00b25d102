-- What is made ready of a request head.
use Rattle.std.specs.Prelude.{◌≡◌, ℕ, List, Result, Ok, Err, ⊤}
use Rattle.live_proxy.specs.Targets.{Target}
use Rattle.live_proxy.specs.TargetReads.{IsRead}
use Rattle.live_proxy.specs.Requests.{IsRequestFor, HasBadTarget, forwarded_for}
use Rattle.live_proxy.specs.declared.targets.ProxyTarget.{ProxyTarget}
use Rattle.live_proxy.specs.declared.targets.TargetRefusal.{TargetRefusal}
use Rattle.live_proxy.specs.declared.targets.TargetRefusal.TheVariants as refusal

-- this was read of its target, and the text is the head that is sent on
pub record IsPrepared (head : List ℕ) (read : ProxyTarget) (text : List ℕ) : Type 0 where
  pub method : List ℕ
  pub target : Target
  pub fields : List (List ℕ × List ℕ)
  pub parts : IsRequestFor head method target fields
  pub is_read : IsRead read target
  pub text_is : text ≡ forwarded_for method target fields

-- the same, or the target is refused; nothing is said where memory ran out
abbrev pub Prepares : List ℕ → Result ProxyTarget TargetRefusal → (text : List ℕ) → Type 0
Prepares head (Ok read) text = IsPrepared head read text
Prepares head (Err refusal.BadTarget) text = HasBadTarget head
Prepares head (Err refusal.NoMemory) text = ⊤
