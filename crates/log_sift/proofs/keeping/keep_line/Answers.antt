use Rattle.log_sift.specs.Recalling.{Moves}
use Rattle.log_sift.specs.Sift.{KeepsDecoded, KeepsLine}
use Rattle.log_sift.proofs.KeepingFacts.{if_ok, line_decoded}
use Rattle.log_sift.proofs.keeping.keep_line.Goals as goal

pub returns : goal.returns
returns c =
    let before = c.args.kept.now.entries in
    let after = c.keep_decoded.new.kept.entries in
    let line = c.args.line.now in
    let decoded = c.in_ok-decoded.decoded in
    if_ok c.keep_decoded.result (Moves before after (λ kept. KeepsDecoded kept decoded)) (Moves before after (λ kept. KeepsLine kept line))
    (λ cause moves. line_decoded before after line decoded cause c.if-line-gt-LONGEST_LINE.false c.in_ok-decoded.ensures moves) c.keep_decoded.ensures
