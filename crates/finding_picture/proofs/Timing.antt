-- The windows of a context are those of its history.
use Rattle.std.proofs.Common.{◌≡◌, ap, map, sym}
use Rattle.time_windows.specs.History as timed
use Rattle.log_context.specs.Histories.{history_of}
use Rattle.log_context.specs.Known.{Known}
use Rattle.write_groups.specs.Modelled.{HasTimes, span_of}

pub has_times : (known : Known) (windows : timed.History) → windows.start ≡ known.setup.start → windows.spans ≡ known.spans → HasTimes windows (history_of known)
has_times known windows s t = record { start = sym s; spans = ap (map span_of) (sym t) }
