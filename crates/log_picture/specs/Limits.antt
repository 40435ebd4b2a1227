-- How much is drawn and listed, and which of many.
use Rattle.std.specs.Prelude.{ℕ, ◌+◌, ◌-◌, ◌/◌, ◌%◌, ◌==◌, ◌≡◌, ◌<◌, ◌≤◌, max, List, [], ◌∷◌, length, if◌then◌else◌}
use Rattle.markup.specs.Limits.{rest_text}

-- so many events are drawn at most; each has one mark by its answer, and one by its decision
abbrev pub event_limit : ℕ
event_limit = 500

-- of the history by revision 1000 marks in all, so that a page has 2000
abbrev pub version_limit : ℕ
version_limit = 600

abbrev pub removal_limit : ℕ
removal_limit = 200

abbrev pub unrecorded_limit : ℕ
unrecorded_limit = 200

-- so many objects that changed are listed at most
abbrev pub change_limit : ℕ
change_limit = 20

-- the items whose positions are multiples of the step, where the first one has this position
abbrev pub each_from : {A : Type 0} → ℕ → ℕ → List A → List A
each_from position step [] = []
each_from position step (x ∷ xs) = if position % step == 0 then x ∷ each_from (position + 1) step xs else each_from (position + 1) step xs

-- the least step with which at most so many of so many items are taken; a limit of 0 counts as one of 1
abbrev pub step_for : ℕ → ℕ → ℕ
step_for limit count = (count - 1) / max 1 limit + 1

-- the items at positions 0, k, 2k and so on, with the least k such that these are at most so many: all of a list within the limit
unfoldable pub spread : {A : Type 0} → ℕ → List A → List A
spread limit list = each_from 0 (step_for limit (length list)) list

-- What is taken keeps to the limit, a list within the limit is taken whole, and with a lesser step more would be taken.
pub record IsSpread {A : Type 0} (limit : ℕ) (list : List A) : Type 0 where
  pub most : length (spread limit list) ≤ limit
  pub whole : length list ≤ limit → spread limit list ≡ list
  pub least : (step : ℕ) → 0 < step → step < step_for limit (length list) → limit < length (each_from 0 step list)

-- how many others the list has, where it has some
unfoldable pub rest_of : {A : Type 0} → ℕ → List A → List ℕ → List ℕ
rest_of limit list words = rest_text (length (spread limit list)) (length list) words
