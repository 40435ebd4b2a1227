use Rattle.finding_picture.specs.Showing.{listing_text}
use Rattle.finding_picture.proofs.showing.push_listing.Goals as goal

pub returns : goal.returns
unfolding listing_text
returns c = rw (c.in_ok-writeln.ensures.bytes, c.get-revision.ensures.value, c.len-count.ensures, c.whole_words-whole.ensures)
