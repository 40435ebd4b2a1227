use Rattle.write_groups.proofs.Timing.{above_all, spans_found}
use Rattle.write_groups.proofs.spans.spans_of.Goals as goal

pub returns : goal.returns
returns c =
    let hidden = c.in_ok-hidden.hidden in
    let spans = c.in_ok-spans_with.field-0.items in
    let are = c.in_ok-spans_with.ensures in
    record {
      rising = are.rising;
      above = above_all c.args.events.now hidden c.args.groups.now spans c.args.start c.requires.above are;
      spans = λ h has ordered belong is. spans_found c.args.events.now hidden c.args.groups.now spans c.in_ok-hidden.ensures are h has belong is;
    }
