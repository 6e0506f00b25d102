-- The request line and the host that are sent on.
use Rattle.std.proofs.Common.{◌≡◌, ℕ, List, [], ◌∷◌, ◌++◌, refl, append_assoc}
use Rattle.std.specs.Prelude.{codes, Some, Result, Ok, Err, OnOk}
use Rattle.live_proxy.specs.Targets.{Target, absolute_path}
use Rattle.live_proxy.specs.Requests.{start_of}

pub same_text : (a b : List ℕ) → Some a ≡ Some b → a ≡ b
same_text a b same = cc

-- what follows of what an `Ok` says
pub OnOk-weaker : {T E : Type 0} (r : Result T E) (A B : Type 0) → (A → B) → OnOk r A → OnOk r B
OnOk-weaker (Ok value) A B follows holds = follows holds
OnOk-weaker (Err error) A B follows holds = tt

-- the request line and the host, piece by piece
pub start_is : (o a b c d e f method path : List ℕ) (t : Target) → a ≡ o ++ method → b ≡ a ++ (32 ∷ [])
    → c ≡ b ++ absolute_path path → absolute_path path ≡ t.path → d ≡ c ++ codes " HTTP/1.1\r\nHost: " → e ≡ d ++ t.authority
    → f ≡ e ++ (13 ∷ 10 ∷ []) → f ≡ o ++ start_of method t
start_is o a b c d e f method path t first second third is fourth fifth last =
    rw (last, fifth, fourth, third, second, first, is) (simp append_assoc refl)
