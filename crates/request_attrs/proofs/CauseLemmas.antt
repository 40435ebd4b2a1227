use Rattle.std.proofs.Common.{ℕ, List}
use Rattle.request_attrs.specs.declared.fault.UriFault.{UriFault}
use Rattle.request_attrs.specs.declared.fault.UriFault.TheVariants.{NoSlash, BadEscape, NotText, OutOfMemory}
use Rattle.request_attrs.specs.Paths.{raw_path}
use Rattle.request_attrs.specs.Refusals.{BeginsWithSlash, EscapesAreWhole, IsCause, IsDecodingCause}

pub decoding_is_last : (uri : List ℕ) (fault : UriFault) → BeginsWithSlash uri → EscapesAreWhole (raw_path uri) → IsDecodingCause (raw_path uri) fault → IsCause uri fault
decoding_is_last uri NoSlash slash whole cause = absurd cause
decoding_is_last uri BadEscape slash whole cause = absurd cause
decoding_is_last uri NotText slash whole cause = (slash, whole, cause)
decoding_is_last uri OutOfMemory slash whole cause = tt
