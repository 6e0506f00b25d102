use Rattle.std.proofs.Common.{ap}
use Rattle.std.specs.Result.{result_ok}
use Rattle.base64.specs.GeneralPurpose.{decoded_of}
use Rattle.har_recording.proofs.Base64Lemmas.{none_decoded}
use Rattle.har_recording.proofs.entries.decode_base64.Goals as goal

pub returns-in-Ok : goal.returns-in-Ok
unfolding decoded_of
returns-in-Ok c = ap result_ok c.in-Ok.ensures.ok

pub returns-in-Err-DecodeError : goal.returns-in-Err-DecodeError
returns-in-Err-DecodeError c =
    none_decoded c.args.text.now c.in-Err-DecodeError.field-0 c.in-Err-DecodeError.field-0-0
    c.in-Err-DecodeError.field-0-is c.in-Err-DecodeError.ensures.err
