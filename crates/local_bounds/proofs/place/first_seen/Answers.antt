use Rattle.local_bounds.proofs.place.first_seen.Goals as goal

pub returns-in-Shown : goal.returns-in-Shown
returns-in-Shown c = λ h p chosen. rw c.in-Shown.is (c.shown_place.ensures h p chosen)
