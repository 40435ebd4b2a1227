use Rattle.std.proofs.Common.{string_bytes}
use Rattle.markup.specs.Moments.{moment_text}
use Rattle.finding_picture.proofs.Joining.{joined}
use Rattle.finding_picture.specs.Requests.{time_entry}
use Rattle.finding_picture.proofs.request.push_time.Goals as goal

pub returns : goal.returns
unfolding time_entry
returns c = joined (string_bytes c.args.text.now) (string_bytes c.write.new.self) (string_bytes c.push_moment.new.text) (string_bytes c.push_str.new.self) _ (moment_text c.args.at) _
    c.in_ok-write.ensures.bytes c.in_ok-push_moment.ensures c.in_ok-push_str.ensures.bytes
