use Rattle.std.proofs.Common.{append_assoc}
use Rattle.std.proofs.lemmas.List.{length-map, take-map}
use Rattle.finding_picture.proofs.Joining.{then_ok}
use Rattle.finding_picture.specs.Objects.{object_rows}
use Rattle.finding_picture.proofs.objects.push_object_rows.Goals as goal

pub returns : goal.returns
unfolding object_rows
returns c = then_ok c.push_rest-3.result c.push_rest-3.ensures (λ e. rw (e, c.in_ok-push_rest-2.ensures, c.in_ok-push_rest.ensures, c.in_ok-push_str.ensures.bytes, c.in_ok-push_removals.ensures, c.in_ok-push_versions.ensures, c.first_of.ensures, c.first_of-2.ensures, ← c.since-listed.ensures, take-map (λ v. v.now) 1800 c.since-listed.result.now, take-map (λ r. r.now) 200 c.args.removals.now, length-map c.since-listed.result.now (λ v. v.now), length-map c.args.versions.now (λ v. v.now), length-map c.args.removals.now (λ r. r.now)) (simp append_assoc))
