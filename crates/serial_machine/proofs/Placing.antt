-- The steps of a placement are the writes above the start, the removals and the answers where its lines say.
use Rattle.std.proofs.Common.{◌≡◌, ◌≢◌, ℕ, zero, suc, ◌+◌, ◌<◌, ◌⊎◌, Bool, true, false, cond, nat_lt, List, [], ◌∷◌, ◌++◌, map, length, Option, Some, None, AllPairs, Contains, slice_get, inl, inr, refl, sym, ap, ◌∙◌, subst, arith, true≢false}
use Rattle.std.specs.Prelude.{option_and_then}
use Rattle.std.proofs.lemmas.List.Elements.{Contains-append_left, Contains-append_right, Contains-append_cases}
use Rattle.std.proofs.lemmas.Option.{same_Some}
use Rattle.base_types.specs.Placements.{RisesByLine}
use Rattle.base_types.specs.declared.verdict.placed.PlacedAnswer.{PlacedAnswer}
use Rattle.base_types.specs.declared.verdict.placed.PlacedAnswer.TheVariants as placed
use Rattle.base_types.specs.declared.verdict.placed.PlacedLine.{PlacedLine}
use Rattle.history_model.proofs.CheckLaw.{judged_all}
use Rattle.history_model.proofs.Members.{not_in_none, here, there, in_cons, all_at, all_from, pairs_head, pairs_tail, pairs_cons}
use Rattle.history_model.proofs.Spelling.{spelled_is}
use Rattle.history_model.specs.Checking.{HasAnswerWord, HasWords, IsFitting}
use Rattle.history_model.specs.Events.{Event}
use Rattle.history_model.specs.Histories.{History, Version, Removal, IsEvent}
use Rattle.history_model.specs.Machine.{Step, Put, Remove, Reply}
use Rattle.history_model.specs.Placed.{placement_of, line_place, answer_place}
use Rattle.history_model.specs.Readable.{IsReadable}
use Rattle.history_model.specs.Runs.{IsStep}
use Rattle.history_model.specs.States.{Cut, cuts}
use Rattle.history_model.specs.Words.{Word, Makes, Removes, At, Strays, Nothing, word}
use Rattle.serial_machine.proofs.Unmade.{lt_true, true_lt}
use Rattle.serial_machine.specs.Ordered.{puts_above, versions_above, placed_puts, placed_removal, placed_removals, placed_at, reply_before, replies_from, placed_replies}

pub pairs_append : {X : Type 0} (R : X → X → Type 0) (xs ys : List X) → AllPairs R xs → AllPairs R ys → ((x y : X) → Contains xs x → Contains ys y → R x y) → AllPairs R (xs ++ ys)
pairs_append R [] ys p q across = q
pairs_append {X} R (x ∷ xs) ys p q across = pairs_cons R x (xs ++ ys)
    (all_from (R x) (xs ++ ys) (λ y c. go y (Contains-append_cases xs ys y c)))
    (pairs_append R xs ys (pairs_tail R x xs p) q (λ a b c d. across a b (there x a xs c) d))
  where
    go : (y : X) → Contains xs y ⊎ Contains ys y → R x y
    go y (inl c) = all_at (R x) xs y (pairs_head R x xs p) c
    go y (inr c) = across x y (here x xs) c

none_pairs : {X : Type 0} (R : X → X → Type 0) → AllPairs R []
none_pairs R = λ i j d l m. absurd (omega arith)

-- the writes
put_from : (start : ℕ) (versions : List Version) (step : Step) → Contains (puts_above start versions) step
    → (v : Version) × (step ≡ Put v) × Contains versions v × (start < v.revision)
put_from start [] step c = absurd (not_in_none c)
put_from start (x ∷ xs) step c = go (nat_lt start x.revision) refl c (λ d. put_from start xs step d)
  where
    more : (v : Version) × (step ≡ Put v) × Contains xs v × (start < v.revision) → (v : Version) × (step ≡ Put v) × Contains (x ∷ xs) v × (start < v.revision)
    more (v, e, d, l) = (v, e, there x v xs d, l)

    go : (t : Bool) → nat_lt start x.revision ≡ t → Contains (map Put (cond t (x ∷ versions_above start xs) (versions_above start xs))) step
        → (Contains (puts_above start xs) step → (v : Version) × (step ≡ Put v) × Contains xs v × (start < v.revision))
        → (v : Version) × (step ≡ Put v) × Contains (x ∷ xs) v × (start < v.revision)
    go true t d rest = by (in_cons (Put x) (puts_above start xs) step d)
      where
        by : (Put x ≡ step) ⊎ Contains (puts_above start xs) step → (v : Version) × (step ≡ Put v) × Contains (x ∷ xs) v × (start < v.revision)
        by (inl e) = (x, sym e, here x xs, lt_true start x.revision t)
        by (inr m) = more (rest m)
    go false t d rest = more (rest d)

put_in : (start : ℕ) (versions : List Version) (v : Version) → Contains versions v → start < v.revision → Contains (puts_above start versions) (Put v)
put_in start [] v c l = absurd (not_in_none c)
put_in start (x ∷ xs) v c l = go (nat_lt start x.revision) refl (in_cons x xs v c) (λ d. put_in start xs v d l)
  where
    go : (t : Bool) → nat_lt start x.revision ≡ t → (x ≡ v) ⊎ Contains xs v → (Contains xs v → Contains (puts_above start xs) (Put v))
        → Contains (map Put (cond t (x ∷ versions_above start xs) (versions_above start xs))) (Put v)
    go true t (inl e) rest = subst (λ z. Contains (Put x ∷ puts_above start xs) (Put z)) e (here (Put x) (puts_above start xs))
    go true t (inr d) rest = there (Put x) (Put v) (puts_above start xs) (rest d)
    go false t (inl e) rest = absurd (true≢false (sym (true_lt start v.revision l) ∙ ap (λ (z : Version). nat_lt start z.revision) (sym e) ∙ t))
    go false t (inr d) rest = rest d

version_in : Step → Version → Version
version_in (Put v) other = v
version_in (Remove cut) other = other
version_in (Reply number event place) other = other

puts_apart : (start : ℕ) (versions : List Version) → AllPairs (λ v w. v.revision < w.revision) versions → AllPairs (λ (a b : Step). a ≢ b) (puts_above start versions)
puts_apart start [] rising = none_pairs (λ (a b : Step). a ≢ b)
puts_apart start (x ∷ xs) rising = go (nat_lt start x.revision) (puts_apart start xs (pairs_tail (λ v w. v.revision < w.revision) x xs rising))
  where
    other : (step : Step) → Contains (puts_above start xs) step → Put x ≢ step
    other step c e = by (put_from start xs step c)
      where
        by : (v : Version) × (step ≡ Put v) × Contains xs v × (start < v.revision) → ⊥
        by (v, p, d, l) = let same : x ≡ v = cc (e, p) in omega (arith, all_at (λ (z : Version). x.revision < z.revision) xs v (pairs_head (λ a b. a.revision < b.revision) x xs rising) d, ap (λ (z : Version). z.revision) same)

    go : (t : Bool) → AllPairs (λ (a b : Step). a ≢ b) (puts_above start xs) → AllPairs (λ (a b : Step). a ≢ b) (map Put (cond t (x ∷ versions_above start xs) (versions_above start xs)))
    go true rest = pairs_cons (λ (a b : Step). a ≢ b) (Put x) (puts_above start xs) (all_from (λ b. Put x ≢ b) (puts_above start xs) other) rest
    go false rest = rest

-- the removals
removal_from : (lines : List PlacedLine) (removals : List Removal) (step : Step) → Contains (map (placed_removal lines) removals) step
    → (removal : Removal) × Contains removals removal × (placed_removal lines removal ≡ step)
removal_from lines [] step c = absurd (not_in_none c)
removal_from lines (x ∷ xs) step c = go (in_cons (placed_removal lines x) (map (placed_removal lines) xs) step c) (λ d. removal_from lines xs step d)
  where
    go : (placed_removal lines x ≡ step) ⊎ Contains (map (placed_removal lines) xs) step
        → (Contains (map (placed_removal lines) xs) step → (removal : Removal) × Contains xs removal × (placed_removal lines removal ≡ step))
        → (removal : Removal) × Contains (x ∷ xs) removal × (placed_removal lines removal ≡ step)
    go (inl e) rest = (x, here x xs, e)
    go (inr d) rest = ((rest d).0, there x (rest d).0 xs (rest d).1, (rest d).2)

abbrev placed_cut : List PlacedLine → Removal → Cut
placed_cut lines removal = record { removal = removal; place = line_place (slice_get lines removal.range.event) }

cut_in : (lines : List PlacedLine) (removals : List Removal) (removal : Removal) → Contains removals removal
    → Contains (cuts removals (map (λ (r : Removal). line_place (slice_get lines r.range.event)) removals)) (placed_cut lines removal)
cut_in lines [] removal c = absurd (not_in_none c)
cut_in lines (x ∷ xs) removal c = go (in_cons x xs removal c) (λ d. cut_in lines xs removal d)
  where
    rest : List Cut
    rest = cuts xs (map (λ (r : Removal). line_place (slice_get lines r.range.event)) xs)

    go : (x ≡ removal) ⊎ Contains xs removal → (Contains xs removal → Contains (cuts xs (map (λ (r : Removal). line_place (slice_get lines r.range.event)) xs)) (placed_cut lines removal))
        → Contains (placed_cut lines x ∷ cuts xs (map (λ (r : Removal). line_place (slice_get lines r.range.event)) xs)) (placed_cut lines removal)
    go (inl e) more = subst (λ z. Contains (placed_cut lines x ∷ cuts xs (map (λ (r : Removal). line_place (slice_get lines r.range.event)) xs)) (placed_cut lines z)) e
        (here (placed_cut lines x) (cuts xs (map (λ (r : Removal). line_place (slice_get lines r.range.event)) xs)))
    go (inr d) more = there (placed_cut lines x) (placed_cut lines removal) (cuts xs (map (λ (r : Removal). line_place (slice_get lines r.range.event)) xs)) (more d)

removal_in : (lines : List PlacedLine) (removals : List Removal) (cut : Cut) → Contains (cuts removals (map (λ (r : Removal). line_place (slice_get lines r.range.event)) removals)) cut
    → Contains (map (placed_removal lines) removals) (Remove cut)
removal_in lines [] cut c = absurd (not_in_none c)
removal_in lines (x ∷ xs) cut c =
    go (in_cons (placed_cut lines x) (cuts xs (map (λ (r : Removal). line_place (slice_get lines r.range.event)) xs)) cut c) (λ d. removal_in lines xs cut d)
  where
    go : (placed_cut lines x ≡ cut) ⊎ Contains (cuts xs (map (λ (r : Removal). line_place (slice_get lines r.range.event)) xs)) cut
        → (Contains (cuts xs (map (λ (r : Removal). line_place (slice_get lines r.range.event)) xs)) cut → Contains (map (placed_removal lines) xs) (Remove cut))
        → Contains (placed_removal lines x ∷ map (placed_removal lines) xs) (Remove cut)
    go (inl e) more = subst (λ z. Contains (placed_removal lines x ∷ map (placed_removal lines) xs) (Remove z)) e (here (placed_removal lines x) (map (placed_removal lines) xs))
    go (inr d) more = there (placed_removal lines x) (Remove cut) (map (placed_removal lines) xs) (more d)

removals_apart : (lines : List PlacedLine) (removals : List Removal) → AllPairs (λ r s. r.range.event < s.range.event) removals
    → AllPairs (λ (a b : Step). a ≢ b) (map (placed_removal lines) removals)
removals_apart lines [] rising = none_pairs (λ (a b : Step). a ≢ b)
removals_apart lines (x ∷ xs) rising = pairs_cons (λ (a b : Step). a ≢ b) (placed_removal lines x) (map (placed_removal lines) xs)
    (all_from (λ b. placed_removal lines x ≢ b) (map (placed_removal lines) xs) other) (removals_apart lines xs (pairs_tail (λ r s. r.range.event < s.range.event) x xs rising))
  where
    removed_by : Step → ℕ
    removed_by (Put v) = 0
    removed_by (Remove cut) = cut.removal.range.event
    removed_by (Reply number event place) = 0

    other : (step : Step) → Contains (map (placed_removal lines) xs) step → placed_removal lines x ≢ step
    other step c e = by (removal_from lines xs step c)
      where
        by : (removal : Removal) × Contains xs removal × (placed_removal lines removal ≡ step) → ⊥
        by (removal, d, p) = let same : x.range.event ≡ removal.range.event = ap removed_by (e ∙ sym p) in
            omega (arith, all_at (λ (z : Removal). x.range.event < z.range.event) xs removal (pairs_head (λ a b. a.range.event < b.range.event) x xs rising) d, same)

-- the answers
placed_is : (answer : PlacedAnswer) (place : ℕ) → placed_at answer ≡ Some place → answer ≡ placed.At place
placed_is (placed.Made revision) place e = cc e
placed_is (placed.Removed at) place e = cc e
placed_is (placed.At at) place e = ap placed.At (same_Some at place e)
placed_is placed.Nowhere place e = cc e

at_word : (w : Word) (place : ℕ) → HasAnswerWord w (placed.At place) → w ≡ At
at_word (Makes m) place h = absurd (cc (h.1))
at_word (Removes removal) place h = absurd (cc (h.1))
at_word At place h = refl
at_word Strays place h = absurd (cc h)
at_word Nothing place h = absurd (cc h)

-- one of the answers from a number on
record IsReply (lines : List PlacedLine) (events : List Event) (number i : ℕ) (step : Step) : Type 0 where
  event : Event
  line : PlacedLine
  place : ℕ
  of_event : slice_get events i ≡ Some event
  of_line : slice_get lines number ≡ Some line
  answer : placed_at line.answer ≡ Some place
  is : step ≡ Reply number event place

abbrev answer_at : List PlacedLine → ℕ → Option ℕ
answer_at lines number = option_and_then (λ (line : PlacedLine). placed_at line.answer) (slice_get lines number)

answered : (lines : List PlacedLine) (number place : ℕ) → answer_at lines number ≡ Some place → (line : PlacedLine) × (slice_get lines number ≡ Some line) × (placed_at line.answer ≡ Some place)
answered lines number place e = go (slice_get lines number) refl e
  where
    go : (o : Option PlacedLine) → slice_get lines number ≡ o → option_and_then (λ (line : PlacedLine). placed_at line.answer) o ≡ Some place
        → (line : PlacedLine) × (slice_get lines number ≡ Some line) × (placed_at line.answer ≡ Some place)
    go None q f = cc f
    go (Some line) q f = (line, q, f)

reply_from : (lines : List PlacedLine) (start : ℕ) (events : List Event) (step : Step) → Contains (replies_from lines start events) step → (i : ℕ) × IsReply lines events (start + i) i step
reply_from lines start [] step c = absurd (not_in_none c)
reply_from lines start (x ∷ xs) step c = go (answer_at lines start) refl c (λ d. reply_from lines (start + 1) xs step d)
  where
    later : (i : ℕ) × IsReply lines xs (start + 1 + i) i step → (i : ℕ) × IsReply lines (x ∷ xs) (start + i) i step
    later (i, r) = (
      suc i,
      record {
        event = r.event;
        line = r.line;
        place = r.place;
        of_event = r.of_event;
        of_line = ap (slice_get lines) (sym same) ∙ r.of_line;
        answer = r.answer;
        is = r.is ∙ ap (λ n. Reply n r.event r.place) same;
      },
    )
      where
        same : start + 1 + i ≡ start + suc i
        same = omega arith

    go : (o : Option ℕ) → answer_at lines start ≡ o → Contains (reply_before start x o (replies_from lines (start + 1) xs)) step
        → (Contains (replies_from lines (start + 1) xs) step → (i : ℕ) × IsReply lines xs (start + 1 + i) i step) → (i : ℕ) × IsReply lines (x ∷ xs) (start + i) i step
    go None q d rest = later (rest d)
    go (Some place) q d rest = by (in_cons (Reply start x place) (replies_from lines (start + 1) xs) step d)
      where
        zero_more : start ≡ start + 0
        zero_more = omega arith

        first : (line : PlacedLine) × (slice_get lines start ≡ Some line) × (placed_at line.answer ≡ Some place) → Reply start x place ≡ step → (i : ℕ) × IsReply lines (x ∷ xs) (start + i) i step
        first (line, l, a) e = (
          0,
          record {
            event = x;
            line = line;
            place = place;
            of_event = refl;
            of_line = ap (slice_get lines) (sym zero_more) ∙ l;
            answer = a;
            is = sym e ∙ ap (λ n. Reply n x place) zero_more;
          },
        )

        by : (Reply start x place ≡ step) ⊎ Contains (replies_from lines (start + 1) xs) step → (i : ℕ) × IsReply lines (x ∷ xs) (start + i) i step
        by (inl e) = first (answered lines start place q) e
        by (inr m) = later (rest m)

reply_in : (lines : List PlacedLine) (start : ℕ) (events : List Event) (number i : ℕ) (event : Event) (line : PlacedLine) (place : ℕ) → number ≡ start + i
    → slice_get events i ≡ Some event → slice_get lines number ≡ Some line → placed_at line.answer ≡ Some place → Contains (replies_from lines start events) (Reply number event place)
reply_in lines start [] number i event line place n e l a = absurd (cc e)
reply_in lines start (x ∷ xs) number zero event line place n e l a = subst (λ o. Contains (reply_before start x o (replies_from lines (start + 1) xs)) (Reply number event place)) (sym found)
    (subst (λ z. Contains (Reply start x place ∷ replies_from lines (start + 1) xs) z) same (here (Reply start x place) (replies_from lines (start + 1) xs)))
  where
    here_is : start ≡ number
    here_is = omega (arith, n)

    found : answer_at lines start ≡ Some place
    found = ap (answer_at lines) here_is ∙ ap (option_and_then (λ (z : PlacedLine). placed_at z.answer)) l ∙ a

    same : Reply start x place ≡ Reply number event place
    same = ap (λ z. Reply z x place) here_is ∙ ap (λ z. Reply number z place) (same_Some x event e)
reply_in lines start (x ∷ xs) number (suc i) event line place n e l a = go (answer_at lines start) (reply_in lines (start + 1) xs number i event line place (omega (arith, n)) e l a)
  where
    go : (o : Option ℕ) → Contains (replies_from lines (start + 1) xs) (Reply number event place) → Contains (reply_before start x o (replies_from lines (start + 1) xs)) (Reply number event place)
    go None rest = rest
    go (Some at) rest = there (Reply start x at) (Reply number event place) (replies_from lines (start + 1) xs) rest

abbrev replier : Step → ℕ
replier (Put v) = 0
replier (Remove cut) = 0
replier (Reply number event place) = number

replies_apart : (lines : List PlacedLine) (start : ℕ) (events : List Event) → AllPairs (λ (a b : Step). a ≢ b) (replies_from lines start events)
replies_apart lines start [] = none_pairs (λ (a b : Step). a ≢ b)
replies_apart lines start (x ∷ xs) = go (answer_at lines start) (replies_apart lines (start + 1) xs)
  where
    other : (place : ℕ) (step : Step) → Contains (replies_from lines (start + 1) xs) step → Reply start x place ≢ step
    other place step c e = by (reply_from lines (start + 1) xs step c)
      where
        by : (i : ℕ) × IsReply lines xs (start + 1 + i) i step → ⊥
        by (i, r) = let same : start ≡ start + 1 + i = ap replier (e ∙ r.is) in omega (arith, same)

    go : (o : Option ℕ) → AllPairs (λ (a b : Step). a ≢ b) (replies_from lines (start + 1) xs) → AllPairs (λ (a b : Step). a ≢ b) (reply_before start x o (replies_from lines (start + 1) xs))
    go None rest = rest
    go (Some place) rest = pairs_cons (λ (a b : Step). a ≢ b) (Reply start x place) (replies_from lines (start + 1) xs)
        (all_from (λ b. Reply start x place ≢ b) (replies_from lines (start + 1) xs) (other place)) rest

-- all of them
abbrev pub placed_steps : History → List PlacedLine → List Step
placed_steps h lines = placed_puts h ++ placed_removals h lines ++ placed_replies h lines

module _ (h : History) (r : IsReadable h) (lines : List PlacedLine) where
  pub steps_apart : AllPairs (λ (a b : Step). a ≢ b) (placed_steps h lines)
  steps_apart = pairs_append (λ (a b : Step). a ≢ b) (placed_puts h ++ placed_removals h lines) (placed_replies h lines)
      (pairs_append (λ (a b : Step). a ≢ b) (placed_puts h) (placed_removals h lines) (puts_apart h.start h.versions r.versions.rising) (removals_apart lines h.removals r.removals.rising)
      (λ a b c d e. cross a b e (put_from h.start h.versions a c) (removal_from lines h.removals b d)))
      (replies_apart lines 0 h.events)
      (λ a b c d e. behind a b e (Contains-append_cases (placed_puts h) (placed_removals h lines) a c) (reply_from lines 0 h.events b d))
    where
      cross : (a b : Step) → a ≡ b → (v : Version) × (a ≡ Put v) × Contains h.versions v × (h.start < v.revision)
          → (removal : Removal) × Contains h.removals removal × (placed_removal lines removal ≡ b) → ⊥
      cross a b e (v, p, c, l) (removal, d, q) = let same : Put v ≡ placed_removal lines removal = sym p ∙ e ∙ sym q in cc same

      behind : (a b : Step) → a ≡ b → Contains (placed_puts h) a ⊎ Contains (placed_removals h lines) a → (i : ℕ) × IsReply lines h.events (0 + i) i b → ⊥
      behind a b e (inl c) (i, x) = by (put_from h.start h.versions a c)
        where
          by : (v : Version) × (a ≡ Put v) × Contains h.versions v × (h.start < v.revision) → ⊥
          by (v, p, d, l) = let same : Put v ≡ Reply (0 + i) x.event x.place = sym p ∙ e ∙ x.is in cc same
      behind a b e (inr c) (i, x) = by (removal_from lines h.removals a c)
        where
          by : (removal : Removal) × Contains h.removals removal × (placed_removal lines removal ≡ a) → ⊥
          by (removal, d, q) = let same : placed_removal lines removal ≡ Reply (0 + i) x.event x.place = q ∙ e ∙ x.is in cc same

  module _ (rising : RisesByLine lines) (fit : IsFitting h lines) where
    at_line : (number : ℕ) (event : Event) (line : PlacedLine) → IsEvent h number event → slice_get lines number ≡ Some line → HasWords h number event line
    at_line number event line known l = go (spelled_is h r lines rising fit.alike number event known)
      where
        go : (other : PlacedLine) × (slice_get lines number ≡ Some other) × (other.line ≡ event.line) × HasWords h number event other → HasWords h number event line
        go (other, k, e, w) = subst (λ z. HasWords h number event z) (same_Some other line (sym k ∙ l)) w

    pub steps_sound : (step : Step) → Contains (placed_steps h lines) step → IsStep h (length h.order) (placement_of h lines) step
    steps_sound step c = go (Contains-append_cases (placed_puts h ++ placed_removals h lines) (placed_replies h lines) step c)
      where
        of_put : (v : Version) × (step ≡ Put v) × Contains h.versions v × (h.start < v.revision) → IsStep h (length h.order) (placement_of h lines) step
        of_put (v, e, d, l) = subst (λ z. IsStep h (length h.order) (placement_of h lines) z) (sym e) (d, l)

        of_removal : (removal : Removal) × Contains h.removals removal × (placed_removal lines removal ≡ step) → IsStep h (length h.order) (placement_of h lines) step
        of_removal (removal, d, e) = subst (λ z. IsStep h (length h.order) (placement_of h lines) z) e (cut_in lines h.removals removal d)

        of_reply : (i : ℕ) × IsReply lines h.events (0 + i) i step → IsStep h (length h.order) (placement_of h lines) step
        of_reply (i, x) = subst (λ z. IsStep h (length h.order) (placement_of h lines) z) (sym (x.is ∙ ap (λ n. Reply n x.event x.place) same)) (
          judged_all h r i x.event x.of_event,
          x.of_event,
          at_word (word h i x.event) x.place (subst (λ z. HasAnswerWord (word h i x.event) z) (placed_is x.line.answer x.place x.answer)
              (at_line i x.event x.line x.of_event of_line).answer),
          sym (ap line_place of_line ∙ ap answer_place (placed_is x.line.answer x.place x.answer)),
        )
          where
            same : 0 + i ≡ i
            same = omega arith

            of_line : slice_get lines i ≡ Some x.line
            of_line = ap (slice_get lines) (sym same) ∙ x.of_line

        write : Contains (placed_puts h) step ⊎ Contains (placed_removals h lines) step → IsStep h (length h.order) (placement_of h lines) step
        write (inl d) = of_put (put_from h.start h.versions step d)
        write (inr d) = of_removal (removal_from lines h.removals step d)

        go : Contains (placed_puts h ++ placed_removals h lines) step ⊎ Contains (placed_replies h lines) step → IsStep h (length h.order) (placement_of h lines) step
        go (inl d) = write (Contains-append_cases (placed_puts h) (placed_removals h lines) step d)
        go (inr d) = of_reply (reply_from lines 0 h.events step d)

    pub steps_full : (step : Step) → IsStep h (length h.order) (placement_of h lines) step → Contains (placed_steps h lines) step
    steps_full (Put v) is = Contains-append_left (placed_puts h ++ placed_removals h lines) (placed_replies h lines) (Put v)
        (Contains-append_left (placed_puts h) (placed_removals h lines) (Put v) (put_in h.start h.versions v is.0 is.1))
    steps_full (Remove cut) is = Contains-append_left (placed_puts h ++ placed_removals h lines) (placed_replies h lines) (Remove cut)
        (Contains-append_right (placed_puts h) (placed_removals h lines) (Remove cut) (removal_in lines h.removals cut is))
    steps_full (Reply number event place) is = Contains-append_right (placed_puts h ++ placed_removals h lines) (placed_replies h lines) (Reply number event place)
        (go (spelled_is h r lines rising fit.alike number event is.1))
      where
        go : (line : PlacedLine) × (slice_get lines number ≡ Some line) × (line.line ≡ event.line) × HasWords h number event line → Contains (placed_replies h lines) (Reply number event place)
        go (line, l, e, w) = reply_in lines 0 h.events number number event line place (omega arith) is.1 l (ap placed_at at.1 ∙ ap Some (sym (is.3 ∙ ap line_place l ∙ ap answer_place at.1)))
          where
            at : (q : ℕ) × (line.answer ≡ placed.At q)
            at = subst (λ z. HasAnswerWord z line.answer) is.2 w.answer
