use Rattle.std.proofs.Common.{append_assoc}
use Rattle.std.proofs.lemmas.List.{length-map, take-map}
use Rattle.finding_picture.proofs.Joining.{then_ok}
use Rattle.finding_picture.specs.Caches.{caches_rows}
use Rattle.finding_picture.proofs.caches.push_caches_rows.Goals as goal

pub returns : goal.returns
unfolding caches_rows
returns c = then_ok c.push_rest-2.result c.push_rest-2.ensures (λ e. rw (e, c.in_ok-push_rest.ensures, c.in_ok-push_str.ensures.bytes, c.in_ok-push_all_gone.ensures, c.in_ok-push_all_come.ensures, c.first_of.ensures, c.first_of-2.ensures, take-map (λ v. v.now) 200 c.args.come.now, take-map (λ r. r.now) 200 c.args.gone.now, length-map c.args.come.now (λ v. v.now), length-map c.args.gone.now (λ r. r.now)) (simp append_assoc))
