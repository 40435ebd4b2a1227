use Rattle.log_picture.proofs.Unique.{one_page}
use Rattle.log_picture.proofs.page.one_page_law.Goals as goal

pub returns : goal.returns
returns c = one_page
