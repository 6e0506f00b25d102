-- Where base64 decoding fails.
use Rattle.std.proofs.Common.{◌≡◌, List, ℕ, None, ap}
use Rattle.std.specs.Result.{result_ok}
use Rattle.base64.specs.GeneralPurpose.{decoded_of, IsDecodeFailure}
use Rattle.base64.specs.Engines.{standard}
use Rattle.base64.specs.declared.decode.DecodeError.{DecodeError}
use Rattle.base64.specs.declared.decode.DecodeAllocError.{DecodeAllocError}
use Rattle.base64.specs.declared.decode.DecodeAllocError.TheVariants.{DecodeError as Failed, OutOfMemory}

pub none_decoded : (text : List ℕ) (error : DecodeAllocError) (why : DecodeError) → error ≡ Failed why
    → IsDecodeFailure standard text error → decoded_of standard text ≡ None
unfolding decoded_of
none_decoded text (Failed d) why is fails = ap result_ok fails
none_decoded text OutOfMemory why is fails = cc
